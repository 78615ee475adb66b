use Rattle.canon_text.proofs.Copied.{copies-more}
use Rattle.canon_text.proofs.widen.widen_blocks.Goals as goal

pub loop-count-preserved : goal.loop-count-preserved
loop-count-preserved g c = copies-more 128 c.args.src.now c.args.dst.now c.loop-count.dst _ c.args.from c.args.at c.loop-count.count c.widen_block-block.result c.loop-count.invariant c.widen_block-block.ensures
