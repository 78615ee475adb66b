-- A type is deeper than its members and than a payload; between them stand its members, or its items. Of those that are left, the rest completes what is done.
use Rattle.std.proofs.Common.{◌+◌, ◌*◌, ◌-◌}
use Rattle.canon_lowering.specs.Storing.{narrow}
use Rattle.canon_model.specs.Leaves.{members_reach_leaves}
use Rattle.canon_types.specs.Depth.{deepest, depth}
use Rattle.canon_types.specs.Table.{shape_of}
use Rattle.canon_abi.specs.Options.{encoding_of}
use Rattle.canon_plan.specs.Element.{list_shape}
use Rattle.canon_plan.specs.Plan.{shapes_of, members_from}
use Rattle.canon_value_parts.proofs.Lifted.{IsTaking}
use Rattle.canon_value_parts.proofs.Loading.{IsLoading}
use Rattle.canon_value_parts.specs.Resources.{all_resources}
use Rattle.canon_walks.proofs.load.+load.Given as goal

abbrev pub decreases-load_value : goal.decreases-load_value
decreases-load_value l = 4 * depth (shape_of l.source.now.types.now l.ty.now)

abbrev pub decreases-load_parts : goal.decreases-load_parts
decreases-load_parts l = 4 * deepest (shapes_of l.source.now.types.now l.members.now) + 1

abbrev pub decreases-load_case : goal.decreases-load_case
decreases-load_case l = 4 * depth (shape_of l.source.now.types.now l.ty.now) - 1

abbrev pub decreases-load_list : goal.decreases-load_list
decreases-load_list l = 4 * depth (list_shape l.source.now.types.now l.element.now) - 1

abbrev pub decreases-load_items : goal.decreases-load_items
decreases-load_items l = 4 * depth (list_shape l.source.now.types.now l.element.now) - 2

abbrev pub invariant-load_parts-loop-k : goal.invariant-load_parts-loop-k
invariant-load_parts-loop-k l =
    let ms = shapes_of l.source.types.now l.members in
    IsLoading (encoding_of l.source.encoding) l.source.memory.now ms (members_from l.k ms) l.at l.end l.fn.fuel l.fuel l.values.items
    × IsTaking l.source.instance.now l.fn.ledger l.ledger (members_reach_leaves (narrow l.source.memory.now) ms 0 l.at) (members_reach_leaves (narrow l.source.memory.now) (members_from l.k ms) l.end l.at) (all_resources l.values.items)
