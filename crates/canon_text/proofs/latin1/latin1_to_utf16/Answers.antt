use Rattle.std.proofs.Common.{ap, arith, length, refl, sym, ◌∙◌}
use Rattle.std.proofs.lemmas.List.{take_all}
use Rattle.canon_text.specs.Writing.{over}
use Rattle.canon_text.proofs.Bytes.{latin1_from, latin1_units}
use Rattle.canon_text.proofs.latin1.latin1_to_utf16.Goals as goal

pub returns : goal.returns
returns c =
    let small = latin1_from c.args.src.now (λ k. omega (arith, c.type_inv.src k)) in
    let same = latin1_units c.args.src.now small in
    record {
      scalars = c.args.src.now;
      can = small;
      reads = refl;
      count = ap length (sym same);
      writes = c.loop-i.invariant ∙ ap (λ l. over c.args.dst.now l) (take_all c.loop-i.i c.args.src.now c.loop-i-test.false ∙ sym same);
    }
