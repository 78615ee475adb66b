use Rattle.canon_model.specs.Shape.{of_pairs}
use Rattle.canon_types.proofs.Plain.{list_layout}
use Rattle.canon_types.proofs.table.ComponentTypes.map_abi.Goals as goal

pub returns : goal.returns
returns c = list_layout c.self.inside.plain.pointer_pair c.self.invariant.plain.text _ of_pairs _ c.map-map.ensures.entry.shape
