use Rattle.std.proofs.Common.{arith, subst, ℕ}
use Rattle.canon_model.specs.Flat.{AreZero}
use Rattle.canon_passing.proofs.Words.{clears_none, clears_one}
use Rattle.canon_lower_parts.proofs.words.clear_from.Goals as goal

pub loop-k-init : goal.loop-k-init
loop-k-init c = clears_none c.args.from c.args.dst.now

pub loop-k-preserved : goal.loop-k-preserved
loop-k-preserved c = clears_one c.args.from c.loop-k.k c.u32.result c.args.dst.now c.loop-k.dst c.loop-k.auto.k
    (omega (arith, c.loop-k.auto.dst, c.loop-k-test.true, c.loop-k.auto.k-end, c.loop-k.invariant.written.stays.same_length)) c.u32.ensures c.loop-k.invariant

pub returns-clause-stays : goal.returns-clause-stays
returns-clause-stays c = c.loop-k.invariant.written.stays

pub returns-clause-zeros : goal.returns-clause-zeros
returns-clause-zeros c = subst (λ (n : ℕ). AreZero c.loop-k.dst c.args.from n) (omega (arith, c.loop-k-test.false, c.loop-k.auto.k-end, c.loop-k.invariant.written.stays.same_length)) c.loop-k.invariant.zeros
