-- A type is deeper than its members; between them stand its members, or its list and its items.
use Rattle.std.proofs.Common.{◌*◌, ◌+◌, ◌-◌}
use Rattle.canon_types.specs.Depth.{deepest, depth, element_shape}
use Rattle.canon_types.specs.Table.{shape_of}
use Rattle.canon_types.specs.declared.types.InterfaceType.TheVariants as ty
use Rattle.canon_plan.specs.Element.{list_shape}
use Rattle.canon_plan.specs.Plan.{shapes_of}
use Rattle.canon_image_parts.proofs.PairsReading.{PairsAreRead}
use Rattle.canon_image_parts.proofs.Reading.{AreRead}
use Rattle.canon_image_parts.proofs.read.+read.Given as goal

abbrev pub decreases-read_value : goal.decreases-read_value
decreases-read_value l = 4 * depth (shape_of l.types.now l.ty.now)

abbrev pub decreases-read_parts : goal.decreases-read_parts
decreases-read_parts l = 4 * deepest (shapes_of l.types.now l.members.now) + 1

abbrev pub decreases-read_list : goal.decreases-read_list
decreases-read_list l = 4 * depth (list_shape l.types.now l.element.now) - 1

abbrev pub decreases-read_items : goal.decreases-read_items
decreases-read_items l = 4 * depth (shape_of l.types.now l.ty.now) + 2

abbrev pub decreases-read_map : goal.decreases-read_map
decreases-read_map l = 4 * depth (shape_of l.types.now (ty.Map l.i)) - 2

abbrev pub decreases-read_pairs : goal.decreases-read_pairs
decreases-read_pairs l = 4 * depth (shape_of l.types.now (ty.Map l.i)) - 3

abbrev pub decreases-read_case : goal.decreases-read_case
decreases-read_case l = 4 * depth (shape_of l.types.now l.ty.now) - 1

abbrev pub invariant-read_parts-loop-k : goal.invariant-read_parts-loop-k
invariant-read_parts-loop-k l = record {
  read : AreRead l.bytes l.fn.at (shapes_of l.types l.members) l.at l.values.items l.k;
}

abbrev pub invariant-read_pairs-loop : goal.invariant-read_pairs-loop
invariant-read_pairs-loop l = record {
  read : PairsAreRead l.bytes l.fn.at (element_shape (shape_of l.types (ty.Map l.fn.i))) l.count l.at l.pairs.items l.counter;
}
