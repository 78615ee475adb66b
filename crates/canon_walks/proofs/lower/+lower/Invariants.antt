-- A type is deeper than its members; between them stand its members, or its case.
use Rattle.std.proofs.Common.{◌+◌, ◌*◌}
use Rattle.canon_types.specs.Depth.{deepest, depth}
use Rattle.canon_types.specs.Table.{shape_of}
use Rattle.canon_context.specs.Core.{component_types}
use Rattle.canon_value_parts.specs.View.{viewed_names, viewed_shapes, viewed_values}
use Rattle.canon_value_parts.proofs.WordLoops.{PartsAreLowered}
use Rattle.canon_walks.proofs.lower.+lower.Given as goal

abbrev pub decreases-lower_value : goal.decreases-lower_value
decreases-lower_value g l = 4 * depth (shape_of (component_types l.core.now) l.ty)

abbrev pub decreases-lower_parts : goal.decreases-lower_parts
decreases-lower_parts g l = 4 * deepest (viewed_shapes (component_types l.core.now) l.members.now) + 1

abbrev pub decreases-lower_case : goal.decreases-lower_case
decreases-lower_case g l = 4 * deepest (viewed_shapes (component_types l.core.now) l.case.now.payload) + 2

abbrev pub invariant-lower_parts-loop-k : goal.invariant-lower_parts-loop-k
invariant-lower_parts-loop-k g l = PartsAreLowered g.G.Guest.seen g.G.Guest.moves l.options l.place (viewed_shapes (component_types l.fn.core) l.members) (viewed_names l.members) (viewed_values l.members)
    l.fn.core l.fn.dst l.fn.first l.core l.dst l.next l.k
