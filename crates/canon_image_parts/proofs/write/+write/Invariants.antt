-- A type is deeper than its members; between them stand its members, or its list and its items.
use Rattle.std.proofs.Common.{◌*◌, ◌+◌, ◌-◌}
use Rattle.canon_types.specs.Depth.{deepest, depth, element_shape}
use Rattle.canon_types.specs.Table.{shape_of}
use Rattle.canon_types.specs.declared.types.InterfaceType.TheVariants as ty
use Rattle.canon_plan.specs.Element.{list_shape}
use Rattle.canon_value_parts.specs.Elements.{element_in}
use Rattle.canon_value_parts.specs.View.{viewed_names, viewed_shapes, viewed_values}
use Rattle.canon_image_parts.proofs.PairsWriting.{PairsAreWritten}
use Rattle.canon_image_parts.proofs.Writing.{AreWritten}
use Rattle.canon_image_parts.specs.Written.{sink}
use Rattle.canon_image_parts.proofs.write.+write.Given as goal

abbrev pub decreases-write_value : goal.decreases-write_value
decreases-write_value l = 4 * depth (shape_of l.types.now l.ty.now)

abbrev pub decreases-write_parts : goal.decreases-write_parts
decreases-write_parts l = 4 * deepest (viewed_shapes l.types.now l.members.now) + 1

abbrev pub decreases-write_list : goal.decreases-write_list
decreases-write_list l = 4 * depth (list_shape l.types.now (element_in l.elements.now)) - 1

abbrev pub decreases-write_items : goal.decreases-write_items
decreases-write_items l = 4 * depth (shape_of l.types.now l.ty.now) + 2

abbrev pub decreases-write_map : goal.decreases-write_map
decreases-write_map l = 4 * depth (shape_of l.types.now (ty.Map l.i)) - 2

abbrev pub decreases-write_pairs : goal.decreases-write_pairs
decreases-write_pairs l = 4 * depth (shape_of l.types.now (ty.Map l.i)) - 3

abbrev pub decreases-write_case : goal.decreases-write_case
decreases-write_case l = 4 * depth (shape_of l.types.now l.ty.now) - 1

abbrev pub invariant-write_parts-loop-k : goal.invariant-write_parts-loop-k
invariant-write_parts-loop-k l = record {
  written : AreWritten (sink l.fn.bytes.items l.fn.resources.items) l.place (viewed_shapes l.types l.members) (viewed_names l.members) (viewed_values l.members) l.first (sink l.bytes.items l.resources.items) l.next l.k;
}

abbrev pub invariant-write_pairs-loop-key : goal.invariant-write_pairs-loop-key
invariant-write_pairs-loop-key l = record {
  written : PairsAreWritten (sink l.fn.bytes.items l.fn.resources.items) (element_shape (shape_of l.types (ty.Map l.fn.i))) l.fn.pairs.items l.first (sink l.bytes.items l.resources.items) l.next l.key-index;
}
