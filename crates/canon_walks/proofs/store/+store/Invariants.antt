-- A type is deeper than its members; between them stand its members, or its block and its items.
use Rattle.std.proofs.Common.{◌+◌, ◌*◌, ◌-◌}
use Rattle.canon_types.specs.Depth.{deepest, depth}
use Rattle.canon_types.specs.Table.{shape_of}
use Rattle.canon_context.specs.Core.{component_types}
use Rattle.canon_value_parts.specs.Elements.{element_in}
use Rattle.canon_plan.specs.Element.{list_shape}
use Rattle.canon_value_parts.specs.View.{viewed_names, viewed_shapes, viewed_values}
use Rattle.canon_value_parts.proofs.WalkLoops.{PartsAreStored}
use Rattle.canon_walks.proofs.store.+store.Given as goal

abbrev pub decreases-store_value : goal.decreases-store_value
decreases-store_value g l = 4 * depth (shape_of (component_types l.core.now) l.ty)

abbrev pub decreases-store_parts : goal.decreases-store_parts
decreases-store_parts g l = 4 * deepest (viewed_shapes (component_types l.core.now) l.members.now) + 1

abbrev pub decreases-store_list : goal.decreases-store_list
decreases-store_list g l = 4 * depth (list_shape (component_types l.core.now) (element_in l.list.now)) - 1

abbrev pub decreases-place_list : goal.decreases-place_list
decreases-place_list g l = 4 * depth (list_shape (component_types l.core.now) (element_in l.list.now)) - 2

abbrev pub invariant-store_parts-loop-k : goal.invariant-store_parts-loop-k
invariant-store_parts-loop-k g l = PartsAreStored g.G.Guest.seen g.G.Guest.moves l.options l.place (viewed_shapes (component_types l.fn.core) l.members) (viewed_names l.members) (viewed_values l.members)
    l.fn.core l.at l.first l.core l.next l.end l.k
