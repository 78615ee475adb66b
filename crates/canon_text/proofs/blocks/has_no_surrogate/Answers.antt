use Rattle.canon_text.proofs.Plain.{plain_by_mask}
use Rattle.canon_text.proofs.blocks.has_no_surrogate.Goals as goal

pub returns : goal.returns
returns g c = plain_by_mask g.row.N c.args.block c.requires c.fits-block.0 c.fits-block.1
