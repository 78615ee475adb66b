use Rattle.canon_text.proofs.Spreading.{spreads-more}
use Rattle.canon_text.proofs.spread.spread_ascii.Goals as goal

pub returns : goal.returns
returns c = spreads-more c.args.src.now c.args.dst.now c.spread_blocks-blocks.new.dst _ c.args.from c.args.at c.spread_blocks-blocks.result c.spread_each.result c.spread_blocks-blocks.ensures c.spread_each.ensures
