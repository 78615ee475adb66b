use Rattle.std.proofs.Common.{arith, refl, sym, ◌∙◌}
use Rattle.canon_text.proofs.Bytes.{latin1_from}
use Rattle.canon_text.proofs.Written.{over_all}
use Rattle.canon_text.proofs.latin1.latin1_to_latin1.Goals as goal

pub returns : goal.returns
returns c = record {
  scalars = c.args.src.now;
  can = latin1_from c.args.src.now (λ k. omega (arith, c.type_inv.src k));
  reads = refl;
  count = refl;
  writes = c.copy_from_slice.ensures.after ∙ sym (over_all c.args.dst.now c.args.src.now (omega (arith, c.requires)));
}
