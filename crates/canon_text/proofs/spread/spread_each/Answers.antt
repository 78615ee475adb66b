use Rattle.std.proofs.Common.{arith, ◌*◌, ◌+◌}
use Rattle.canon_text.proofs.Spreading.{length-spread, spreads-more, spreads-one}
use Rattle.canon_text.proofs.spread.spread_each.Goals as goal

pub loop-count-preserved : goal.loop-count-preserved
loop-count-preserved c =
    let long = length-spread c.args.src.now c.args.dst.now c.loop-count.dst c.args.from c.args.at c.loop-count.count c.loop-count.invariant in
    spreads-more c.args.src.now c.args.dst.now c.loop-count.dst _ c.args.from c.args.at c.loop-count.count 1 c.loop-count.invariant
    (spreads-one c.args.src.now c.loop-count.dst _ (c.args.from + c.loop-count.count) (c.args.at + 2 * c.loop-count.count) c.from.result c.loop-count-test.true (omega (
      arith,
      c.requires.dst,
    )) (omega arith) c.from.ensures c.write_unit.ensures)
