use Rattle.canon_lower_parts.proofs.FixedSteps.{fixed_found}
use Rattle.canon_lower_parts.proofs.fixed_list.fixed_element.Goals as goal

pub returns : goal.returns
returns g c = fixed_found g.row.N g.T.ComponentType.fits c.args.types.now c.types.result.now c.args.ty.now c.in-FixedLengthList.i c.fixed_length_list.result.now.element c.fixed_length_list.result.now.size c.types.ensures c.in-FixedLengthList.is c.requires.fits
    c.fixed_length_list.ensures.entry
