use Rattle.canon_text.proofs.Copied.{copies-four}
use Rattle.canon_text.proofs.narrow.narrow_below.Goals as goal

pub returns : goal.returns
returns c = copies-four c.args.limit c.args.src.now c.args.dst.now c.narrow_block-first.new.dst c.narrow_blocks.new.dst c.narrow_blocks-2.new.dst _
    c.args.from c.args.at c.narrow_block-first.result c.narrow_blocks.result c.narrow_blocks-2.result c.narrow_each-2.result
    c.narrow_block-first.ensures c.narrow_blocks.ensures c.narrow_blocks-2.ensures c.narrow_each-2.ensures
