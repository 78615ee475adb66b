use Rattle.canon_text.proofs.Copied.{copies-four}
use Rattle.canon_text.proofs.copy.copy_ascii.Goals as goal

pub returns : goal.returns
returns c = copies-four 128 c.args.src.now c.args.dst.now c.copy_block-first.new.dst c.copy_blocks.new.dst c.copy_blocks-2.new.dst _ c.args.from
    c.args.at c.copy_block-first.result c.copy_blocks.result c.copy_blocks-2.result c.copy_each-2.result c.copy_block-first.ensures
    c.copy_blocks.ensures c.copy_blocks-2.ensures c.copy_each-2.ensures
