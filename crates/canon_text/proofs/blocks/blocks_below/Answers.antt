use Rattle.std.proofs.Common.{arith}
use Rattle.canon_text.proofs.Copied.{run-more}
use Rattle.canon_text.proofs.blocks.blocks_below.Goals as goal

pub loop-count-init : goal.loop-count-init
loop-count-init g c = (omega arith, λ k. c.requires.limit)

pub loop-count-preserved : goal.loop-count-preserved
loop-count-preserved g c = (omega arith, run-more c.args.limit c.args.src.now c.args.from c.loop-count.count g.row.N c.loop-count.invariant.1 (c.is_below.ensures c.if-not-is_below.false))
