use Rattle.std.proofs.Common.{arith, subst, ℕ}
use Rattle.canon_passing.specs.Words.{Clears}
use Rattle.canon_passing.proofs.Words.{clears_none, clears_one}
use Rattle.canon_walks.proofs.lower.clear_to.Goals as goal

pub loop-k-init : goal.loop-k-init
loop-k-init c = clears_none c.args.from.word c.args.dst.now

pub bounds-dst-k : goal.bounds-dst-k
bounds-dst-k c = omega (arith, c.loop-k.invariant.written.stays.same_length, c.requires.room, c.loop-k-test.true)

pub loop-k-preserved : goal.loop-k-preserved
loop-k-preserved c = clears_one c.args.from.word c.loop-k.k c.u32.result c.args.dst.now c.loop-k.dst c.loop-k.auto.k (omega (arith, c.loop-k.auto.dst, c.requires.room, c.loop-k-test.true)) c.u32.ensures c.loop-k.invariant

pub returns-clause-clears : goal.returns-clause-clears
returns-clause-clears c = subst (λ (n : ℕ). Clears c.args.from.word n c.args.dst.now c.loop-k.dst) (omega (arith, c.loop-k-test.false, c.loop-k.auto.k-end)) c.loop-k.invariant
