-- A type is deeper than its members and than a payload. Of those that are left, the rest completes what is done.
use Rattle.std.proofs.Common.{◌≤◌, ◌+◌, ◌-◌, ◌*◌}
use Rattle.canon_model.specs.Leaves.{members_flat_leaves}
use Rattle.canon_lowering.specs.Storing.{narrow}
use Rattle.canon_types.specs.Depth.{deepest, depth}
use Rattle.canon_types.specs.Table.{shape_of}
use Rattle.canon_abi.specs.Options.{encoding_of}
use Rattle.canon_plan.specs.Plan.{shapes_of, members_from}
use Rattle.canon_value_parts.proofs.LiftLoops.{LiftsParts}
use Rattle.canon_value_parts.proofs.Lifted.{IsTaking}
use Rattle.canon_value_parts.specs.Resources.{all_resources}
use Rattle.canon_walks.proofs.lift.+lift.Given as goal

abbrev pub decreases-lift_value : goal.decreases-lift_value
decreases-lift_value l = 4 * depth (shape_of l.source.now.types.now l.ty.now)

abbrev pub decreases-lift_parts : goal.decreases-lift_parts
decreases-lift_parts l = 4 * deepest (shapes_of l.source.now.types.now l.members.now) + 1

abbrev pub decreases-lift_case : goal.decreases-lift_case
decreases-lift_case l = 4 * depth (shape_of l.source.now.types.now l.ty.now) - 1

abbrev pub invariant-lift_parts-loop-k : goal.invariant-lift_parts-loop-k
invariant-lift_parts-loop-k l =
    let enc = encoding_of l.source.encoding in
    let m = narrow l.source.memory.now in
    let ms = shapes_of l.source.types.now l.members in
    LiftsParts enc m l.src ms (members_from l.k ms) l.fn.at l.fn.fuel l.at l.fuel l.values.items × (l.fuel ≤ l.fn.fuel)
    × IsTaking l.source.instance.now l.fn.ledger l.ledger (members_flat_leaves m l.src ms l.fn.at) (members_flat_leaves m l.src (members_from l.k ms) l.at) (all_resources l.values.items)
