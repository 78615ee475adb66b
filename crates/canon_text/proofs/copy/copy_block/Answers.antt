use Rattle.std.proofs.Common.{arith, refl}
use Rattle.canon_text.proofs.Copied.{copies-block}
use Rattle.canon_text.proofs.copy.copy_block.Goals as goal

pub returns : goal.returns
returns g c = copies-block 128 c.args.src.now c.args.dst.now _ _ c.args.from c.args.at g.row.N (omega arith) (omega arith) (c.is_ascii.ensures c.if-not-is_ascii.false) refl refl
