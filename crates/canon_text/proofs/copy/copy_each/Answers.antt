use Rattle.std.proofs.Common.{arith, refl, ◌+◌}
use Rattle.canon_text.proofs.Copied.{copies-more, copies-one}
use Rattle.canon_text.proofs.copy.copy_each.Goals as goal

pub loop-count-preserved : goal.loop-count-preserved
loop-count-preserved c = copies-more 128 c.args.src.now c.args.dst.now c.loop-count.dst _ c.args.from c.args.at c.loop-count.count 1 c.loop-count.invariant
    (copies-one 128 c.args.src.now c.loop-count.dst _ (c.args.from + c.loop-count.count) (c.args.at + c.loop-count.count) (omega arith) (omega arith) (omega arith) refl)
