use Rattle.std.proofs.Common.{arith, sym}
use Rattle.canon_text.proofs.Bytes.{placed-nil}
use Rattle.canon_text.proofs.UnitBlocks.{placed-block}
use Rattle.canon_text.proofs.unit_blocks.write_unit_blocks.Goals as goal

pub loop-count-init : goal.loop-count-init
loop-count-init c = (omega arith, sym (placed-nil c.args.dst.now c.args.at))

pub loop-count-preserved : goal.loop-count-preserved
loop-count-preserved c = (omega arith, placed-block c.args.dst.now c.loop-count.dst _ c.args.units.now c.args.at c.loop-count.count 8 (omega (arith, c.requires)) c.loop-count.invariant.1 (omega arith) c.store_units.ensures)
