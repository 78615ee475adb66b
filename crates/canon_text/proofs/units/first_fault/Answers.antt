use Rattle.std.proofs.Common.{ap, length, sym, ◌+◌, ◌∙◌}
use Rattle.canon_model.specs.Text.{in_utf16}
use Rattle.canon_text.proofs.Pairs.{units-one}
use Rattle.canon_text.proofs.Plain.{read-plain}
use Rattle.canon_text.proofs.Reading.{front-ill, read-all, read-more}
use Rattle.canon_text.proofs.units.first_fault.Goals as goal

pub returns-in_default : goal.returns-in_default
returns-in_default c =
    let mid = read-plain c.args.src.now c.loop-at.at c.plain_run-at.result c.loop-at.invariant c.plain_run-at.ensures.inside c.plain_run-at.ensures.plain c.plain_run-at.ensures.small in
    front-ill in_utf16 c.args.src.now (c.loop-at.at + c.plain_run-at.result) mid.scalars mid.front c.in_default.ensures

pub loop-at-preserved-then-at-src : goal.loop-at-preserved-then-at-src
loop-at-preserved-then-at-src c =
    let mid = read-plain c.args.src.now c.loop-at.at c.plain_run-at.result c.loop-at.invariant c.plain_run-at.ensures.inside c.plain_run-at.ensures.plain c.plain_run-at.ensures.small in
    read-more in_utf16 c.args.src.now (c.loop-at.at + c.plain_run-at.result) _ c.in-Some.c mid c.in-Some.ensures (ap (λ n. c.loop-at.at + c.plain_run-at.result + n) (c.utf16_len-at.ensures ∙ ap length (sym (units-one c.in-Some.c))))

pub loop-at-preserved : goal.loop-at-preserved
loop-at-preserved c = read-plain c.args.src.now c.loop-at.at c.plain_run-at.result c.loop-at.invariant c.plain_run-at.ensures.inside c.plain_run-at.ensures.plain c.plain_run-at.ensures.small

pub returns : goal.returns
returns c = read-all in_utf16 c.args.src.now c.loop-at.at c.loop-at.invariant c.loop-at-test.false
