use Rattle.canon_text.proofs.Copied.{copies-four}
use Rattle.canon_text.proofs.widen.widen_ascii.Goals as goal

pub returns : goal.returns
returns c = copies-four 128 c.args.src.now c.args.dst.now c.widen_block-first.new.dst c.widen_blocks.new.dst c.widen_blocks-2.new.dst _ c.args.from
    c.args.at c.widen_block-first.result c.widen_blocks.result c.widen_blocks-2.result c.widen_each-2.result c.widen_block-first.ensures
    c.widen_blocks.ensures c.widen_blocks-2.ensures c.widen_each-2.ensures
