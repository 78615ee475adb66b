use Rattle.canon_lower_parts.proofs.MapSteps.{pair_found}
use Rattle.canon_lower_parts.proofs.maps.pair_type.Goals as goal

pub returns-clause-pair : goal.returns-clause-pair
returns-clause-pair g c = pair_found g.K.ComponentType.fits g.V.ComponentType.fits c.args.types.now c.types.result.now c.args.ty.now c.in-Map.i c.map-map.result.now c.types.ensures c.in-Map.is c.requires.fits c.map-map.ensures.entry c.map-map.ensures.pair
