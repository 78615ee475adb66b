use Rattle.std.proofs.Common.{arith, set, [], ◌+◌, ◌∙◌, ◌∷◌}
use Rattle.canon_text.proofs.Bytes.{placed-more}
use Rattle.canon_text.proofs.Copied.{set-placed}
use Rattle.std.proofs.lemmas.List.{length-set}
use Rattle.canon_text.proofs.writing.write_two.Goals as goal

pub returns : goal.returns
returns c =
    let first = set-placed c.args.dst.now c.args.at c.args.a (omega (arith, c.requires)) in
    set-placed (set c.args.dst.now c.args.at c.args.a) (c.args.at + 1) c.args.b (omega (arith, c.requires, length-set c.args.dst.now c.args.at c.args.a))
    ∙ placed-more c.args.dst.now (set c.args.dst.now c.args.at c.args.a) (c.args.a ∷ []) (c.args.b ∷ []) c.args.at (c.args.at + 1) (omega (arith, c.requires)) first (omega arith)
