use Rattle.std.proofs.Common.{arith, sym, ◌%◌, ◌+◌, ◌/◌, ◌∙◌, ◌≡◌}
use Rattle.std.proofs.lemmas.Nat.Bits.{shr_and_one}
use Rattle.std.specs.Int.{bit_at}
use Rattle.std.specs.Prelude.{slice_index}
use Rattle.canon_image_parts.proofs.Spares.{spare_none, spare_set}
use Rattle.canon_image_parts.proofs.read.has_spare.Goals as goal

pub returns-then-bytes-at-eq1-clause-some : goal.returns-then-bytes-at-eq1-clause-some
returns-then-bytes-at-eq1-clause-some c =
    let byte = slice_index c.args.bytes.now (c.args.at + c.loop-k.k / 8) in
    let set : bit_at byte (c.loop-k.k % 8) ≡ 1 = sym (shr_and_one byte (c.loop-k.k % 8)) ∙ c.if-bytes-at-eq1.true in
    λ h. spare_set c.args.bytes.now c.args.at c.args.size c.requires.inside (λ i. omega (arith, c.type_inv.bytes i)) c.args.first c.loop-k.k (omega arith) (omega (arith, c.loop-k-test.true, c.loop-k.auto.k-end)) set

pub returns-clause-none : goal.returns-clause-none
returns-clause-none c = λ h. spare_none c.args.bytes.now c.args.at c.args.size c.requires.inside (λ i. omega (arith, c.type_inv.bytes i)) c.args.first
    (λ j l u. c.loop-k.invariant.none j l (omega (arith, u, c.loop-k-test.false, c.loop-k.auto.k-end)))
