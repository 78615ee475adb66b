use Rattle.canon_text.proofs.Copied.{run-more}
use Rattle.canon_text.proofs.blocks.run_below.Goals as goal

pub returns-clause-below : goal.returns-clause-below
returns-clause-below c = run-more c.args.limit c.args.src.now c.args.from c.blocks_below-long.result c.blocks_below.result c.blocks_below-long.ensures.below c.blocks_below.ensures.below
