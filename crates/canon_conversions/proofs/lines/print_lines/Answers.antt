use Rattle.std.proofs.Common.{◌+◌, ◌∷◌, ap, drop, string_bytes, sym, ◌∙◌}
use Rattle.canon_conversions.proofs.Listed.{conversion_drop_next, lines_end, lines_more}
use Rattle.canon_conversions.proofs.lines.print_lines.Goals as goal

pub loop-conversion-preserved : goal.loop-conversion-preserved
loop-conversion-preserved c =
    let all = c.args.conversions.now in
    let l = c.loop-conversion in
    let one = c.in_ok-print_line.ensures in
    let item = c.conversion-item in
    lines_more all l.conversion-index item.result (string_bytes l.text) _ one.0
    (conversion_drop_next all l.conversion-index item.result c.loop-conversion-test.true ∙ ap (λ x. x ∷ drop (l.conversion-index + 1) all) (sym item.is)) l.invariant one.1 one.2

pub returns-clause-lines : goal.returns-clause-lines
returns-clause-lines c = lines_end c.args.conversions.now c.loop-conversion.conversion-index (string_bytes c.loop-conversion.text) c.loop-conversion-test.false c.loop-conversion.invariant
