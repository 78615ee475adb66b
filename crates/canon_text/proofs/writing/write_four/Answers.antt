use Rattle.std.proofs.Common.{arith, set, [], ◌+◌, ◌∙◌, ◌∷◌}
use Rattle.canon_text.proofs.Bytes.{placed-more}
use Rattle.canon_text.proofs.Copied.{set-placed}
use Rattle.canon_text.proofs.writing.write_four.Goals as goal

pub returns : goal.returns
returns c = c.write_three.ensures ∙ placed-more c.args.dst.now (set c.args.dst.now c.args.at c.args.a) (c.args.a ∷ []) (c.args.b ∷ c.args.c ∷ c.args.d ∷ []) c.args.at (c.args.at + 1)
    (omega (arith, c.requires)) (set-placed c.args.dst.now c.args.at c.args.a (omega (arith, c.requires))) (omega arith)
