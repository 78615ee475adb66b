-- A type is deeper than its parts; what is left of two rows is the same where the rows are.
use Rattle.std.proofs.Common.{◌≡◌, ◌+◌, ◌*◌, ◌↔◌, drop, length}
use Rattle.canon_model.specs.Same.{SameCases, SameMembers}
use Rattle.canon_types.specs.Depth.{deepest, deepest_case, depth}
use Rattle.canon_types.specs.Keeps.{field_members}
use Rattle.canon_types.specs.Laid.{unnamed_cases}
use Rattle.canon_types.specs.Table.{all_shapes, members_of, shape_of}
use Rattle.canon_types.specs.declared.types.InterfaceType.TheVariants as ty
use Rattle.canon_same.specs.Same.{AreFound, SameResource}
use Rattle.canon_same.proofs.Steps.{depth_of_payload}
use Rattle.canon_same.proofs.same.+same.Given as goal

abbrev pub decreases-same : goal.decreases-same
decreases-same l = 6 * depth (shape_of l.read.now.types l.ty.now) + 5

abbrev pub decreases-compare : goal.decreases-compare
decreases-compare l = 6 * depth (shape_of l.read.now.types l.ty.now) + 4

abbrev pub decreases-same_lists : goal.decreases-same_lists
decreases-same_lists l = 6 * depth (shape_of l.read.now.types (ty.List l.i)) + 3

abbrev pub decreases-same_fixed_length_lists : goal.decreases-same_fixed_length_lists
decreases-same_fixed_length_lists l = 6 * depth (shape_of l.read.now.types (ty.FixedLengthList l.i)) + 3

abbrev pub decreases-same_maps : goal.decreases-same_maps
decreases-same_maps l = 6 * depth (shape_of l.read.now.types (ty.Map l.i)) + 3

abbrev pub decreases-same_records : goal.decreases-same_records
decreases-same_records l = 6 * depth (shape_of l.read.now.types (ty.Record l.i)) + 3

abbrev pub decreases-same_tuples : goal.decreases-same_tuples
decreases-same_tuples l = 6 * depth (shape_of l.read.now.types (ty.Tuple l.i)) + 3

abbrev pub decreases-same_variants : goal.decreases-same_variants
decreases-same_variants l = 6 * depth (shape_of l.read.now.types (ty.Variant l.i)) + 3

abbrev pub decreases-same_options : goal.decreases-same_options
decreases-same_options l = 6 * depth (shape_of l.read.now.types (ty.Option l.i)) + 3

abbrev pub decreases-same_results : goal.decreases-same_results
decreases-same_results l = 6 * depth (shape_of l.read.now.types (ty.Result l.i)) + 3

abbrev pub decreases-same_fields : goal.decreases-same_fields
decreases-same_fields l = 6 * deepest (field_members l.read.now.types l.fields.now) + 7

abbrev pub decreases-same_members : goal.decreases-same_members
decreases-same_members l = 6 * deepest (members_of l.read.now.types l.types.now) + 7

abbrev pub decreases-same_payloads : goal.decreases-same_payloads
decreases-same_payloads l = 6 * deepest_case (unnamed_cases (all_shapes l.read.now.types) l.payloads.now) + 7

abbrev pub decreases-same_payload : goal.decreases-same_payload
decreases-same_payload l = 6 * depth_of_payload (all_shapes l.read.now.types) l.payload + 6

abbrev pub invariant-same_fields-loop-k : goal.invariant-same_fields-loop-k
invariant-same_fields-loop-k l = record {
  long : length l.fields ≡ length l.others;
  found : AreFound l.read l.written l.found;
  left : SameMembers (SameResource l.read l.written) (field_members l.read.types l.fields) (field_members l.written.types l.others)
      ↔ SameMembers (SameResource l.read l.written) (field_members l.read.types (drop l.k l.fields)) (field_members l.written.types (drop l.k l.others));
}

abbrev pub invariant-same_members-loop-k : goal.invariant-same_members-loop-k
invariant-same_members-loop-k l = record {
  long : length l.types ≡ length l.others;
  found : AreFound l.read l.written l.found;
  left : SameMembers (SameResource l.read l.written) (members_of l.read.types l.types) (members_of l.written.types l.others)
      ↔ SameMembers (SameResource l.read l.written) (members_of l.read.types (drop l.k l.types)) (members_of l.written.types (drop l.k l.others));
}

abbrev pub invariant-same_payloads-loop-k : goal.invariant-same_payloads-loop-k
invariant-same_payloads-loop-k l = record {
  long : length l.payloads ≡ length l.others;
  found : AreFound l.read l.written l.found;
  left : SameCases (SameResource l.read l.written) (unnamed_cases (all_shapes l.read.types) l.payloads) (unnamed_cases (all_shapes l.written.types) l.others)
      ↔ SameCases (SameResource l.read l.written) (unnamed_cases (all_shapes l.read.types) (drop l.k l.payloads)) (unnamed_cases (all_shapes l.written.types) (drop l.k l.others));
}
