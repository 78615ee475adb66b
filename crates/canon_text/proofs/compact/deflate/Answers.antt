use Rattle.std.proofs.Common.{arith, get_or, ◌%◌, ◌≡◌}
use Rattle.canon_text.proofs.Bytes.{latin1_each, over-more_set}
use Rattle.canon_text.proofs.compact.deflate.Goals as goal

pub loop-i-preserved : goal.loop-i-preserved
loop-i-preserved c =
    let same : get_or c.args.src.now c.loop-i.i 0 % 256 ≡ get_or c.args.src.now c.loop-i.i 0 = omega (arith, latin1_each c.args.src.now c.loop-i.i c.requires.latin1) in
    over-more_set c.args.dst.now c.loop-i.dst c.args.src.now c.loop-i.i _ c.loop-i.invariant c.loop-i-test.true (omega (arith, c.requires.room)) same
