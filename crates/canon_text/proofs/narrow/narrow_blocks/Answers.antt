use Rattle.canon_text.proofs.Copied.{copies-more}
use Rattle.canon_text.proofs.narrow.narrow_blocks.Goals as goal

pub loop-count-preserved : goal.loop-count-preserved
loop-count-preserved g c = copies-more c.args.limit c.args.src.now c.args.dst.now c.loop-count.dst _ c.args.from c.args.at c.loop-count.count c.narrow_block-block.result c.loop-count.invariant c.narrow_block-block.ensures
