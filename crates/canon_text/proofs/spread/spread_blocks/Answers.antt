use Rattle.std.proofs.Common.{arith, ◌*◌, ◌+◌}
use Rattle.canon_text.proofs.Spreading.{length-spread, spreads-block, spreads-more}
use Rattle.canon_text.proofs.spread.spread_blocks.Goals as goal

pub loop-count-preserved : goal.loop-count-preserved
loop-count-preserved c =
    let long = length-spread c.args.src.now c.args.dst.now c.loop-count.dst c.args.from c.args.at c.loop-count.count c.loop-count.invariant in
    spreads-more c.args.src.now c.args.dst.now c.loop-count.dst _ c.args.from c.args.at c.loop-count.count 8 c.loop-count.invariant
    (spreads-block c.args.src.now c.loop-count.dst _ (c.args.from + c.loop-count.count) (c.args.at + 2 * c.loop-count.count) 8 (omega arith) (omega (arith, c.requires.dst)) (c.is_ascii.ensures c.if-not-is_ascii.false) c.store_bytes.ensures)
