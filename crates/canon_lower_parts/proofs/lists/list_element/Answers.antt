use Rattle.canon_lower_parts.proofs.ListSteps.{list_found}
use Rattle.canon_lower_parts.proofs.lists.list_element.Goals as goal

pub returns : goal.returns
returns g c = list_found g.T.ComponentType.fits c.args.types.now c.types.result.now c.args.ty.now c.in-List.i c.list.result.now.element c.types.ensures c.in-List.is c.requires.fits c.list.ensures.entry
