-- A type is deeper than its parts; its words are those that were counted and those of the parts that are left.
use Rattle.std.proofs.Common.{◌≡◌, ◌+◌, ◌*◌, drop, max}
use Rattle.canon_model.specs.Layout.{cases_flat, members_flat}
use Rattle.canon_types.specs.Depth.{deepest, deepest_case, depth}
use Rattle.canon_types.specs.Keeps.{field_members}
use Rattle.canon_types.specs.Laid.{unnamed_cases}
use Rattle.canon_types.specs.Table.{all_shapes, members_of, shape_of}
use Rattle.canon_plan.proofs.flat.+flat.Given as goal

abbrev pub decreases-flat_words : goal.decreases-flat_words
decreases-flat_words l = 3 * depth (shape_of l.types.now l.ty.now) + 1

abbrev pub decreases-many_words : goal.decreases-many_words
decreases-many_words l = 3 * depth (shape_of l.types.now l.ty.now)

abbrev pub decreases-field_words : goal.decreases-field_words
decreases-field_words l = 3 * deepest (field_members l.types.now l.fields.now) + 2

abbrev pub decreases-member_words : goal.decreases-member_words
decreases-member_words l = 3 * deepest (members_of l.types.now l.members.now) + 2

abbrev pub decreases-payload_words : goal.decreases-payload_words
decreases-payload_words l = 3 * deepest_case (unnamed_cases (all_shapes l.types.now) l.payloads.now) + 2

abbrev pub invariant-field_words-loop-field : goal.invariant-field_words-loop-field
invariant-field_words-loop-field l = l.words + members_flat (field_members l.types (drop l.field-index l.fields)) ≡ members_flat (field_members l.types l.fields)

abbrev pub invariant-member_words-loop-member : goal.invariant-member_words-loop-member
invariant-member_words-loop-member l = l.words + members_flat (members_of l.types (drop l.member-index l.members)) ≡ members_flat (members_of l.types l.members)

abbrev pub invariant-payload_words-loop-payload : goal.invariant-payload_words-loop-payload
invariant-payload_words-loop-payload l =
    max l.words (cases_flat (unnamed_cases (all_shapes l.types) (drop l.payload-index l.payloads))) ≡ cases_flat (unnamed_cases (all_shapes l.types) l.payloads)
