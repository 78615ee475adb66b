use Rattle.canon_model.specs.Shape.{of_items}
use Rattle.canon_types.proofs.Plain.{list_layout}
use Rattle.canon_types.proofs.table.ComponentTypes.list_abi.Goals as goal

pub returns : goal.returns
returns c = list_layout c.self.inside.plain.pointer_pair c.self.invariant.plain.text _ of_items _ c.list-list.ensures.entry.shape
