use Rattle.std.proofs.Common.{arith, inl}
use Rattle.canon_text.proofs.Copied.{run-below}
use Rattle.canon_text.proofs.Plain.{plain-more}
use Rattle.canon_text.proofs.blocks.plain_blocks.Goals as goal

pub loop-count-init : goal.loop-count-init
loop-count-init g c = (omega arith, λ k. inl (omega arith))

pub loop-count-preserved : goal.loop-count-preserved
loop-count-preserved g c = (omega arith, plain-more c.args.src.now c.args.from c.loop-count.count g.row.N c.loop-count.invariant.1 (c.has_no_surrogate.ensures c.if-not-has_no_surrogate.false))

pub returns-after-loop-count-clause-small : goal.returns-after-loop-count-clause-small
returns-after-loop-count-clause-small g c = run-below 65536 c.args.src.now c.args.from c.loop-count.count (omega arith) (λ k. omega (arith, c.type_inv.src k))

pub returns-then-not-has_no_surrogate-clause-small : goal.returns-then-not-has_no_surrogate-clause-small
returns-then-not-has_no_surrogate-clause-small g c = run-below 65536 c.args.src.now c.args.from c.loop-count.count (omega arith) (λ k. omega (arith, c.type_inv.src k))
