use Rattle.std.proofs.Common.{arith, flat_map}
use Rattle.canon_model.specs.Text.{unit_bytes}
use Rattle.canon_text.proofs.UnitBlocks.{le_bytes, stored}
use Rattle.canon_text.proofs.Widths.{length-unit_bytes}
use Rattle.canon_text.proofs.unit_blocks.store_units.Goals as goal

pub returns : goal.returns
returns c = stored c.args.dst.now _ (flat_map unit_bytes c.args.block) c.args.at (le_bytes 16 c.args.block (omega (arith, c.fits-block.0)) c.fits-block.1) (omega (arith, c.requires, length-unit_bytes c.args.block, c.fits-block.0))
