-- A type is deeper than its parts.
use Rattle.std.proofs.Common.{◌≡◌, ◌+◌, ◌*◌, drop, filter_map}
use Rattle.canon_types.specs.Depth.{deepest, depth}
use Rattle.canon_types.specs.Keeps.{field_members}
use Rattle.canon_types.specs.Table.{members_of, shape_of}
use Rattle.canon_plan.specs.NoHandle.{have_no_handle}
use Rattle.canon_plan.proofs.no_handle.+no_handle.Given as goal

abbrev pub decreases-has_no_handle : goal.decreases-has_no_handle
decreases-has_no_handle l = 2 * depth (shape_of l.types.now l.ty.now)

abbrev pub decreases-fields_have_no_handle : goal.decreases-fields_have_no_handle
decreases-fields_have_no_handle l = 2 * deepest (field_members l.types.now l.fields.now) + 1

abbrev pub decreases-members_have_no_handle : goal.decreases-members_have_no_handle
decreases-members_have_no_handle l = 2 * deepest (members_of l.types.now l.members.now) + 1

abbrev pub decreases-payloads_have_no_handle : goal.decreases-payloads_have_no_handle
decreases-payloads_have_no_handle l = 2 * deepest (members_of l.types.now (filter_map (λ p. p) l.payloads.now)) + 1

-- the fields so far reach no handle
abbrev pub invariant-fields_have_no_handle-loop-field : goal.invariant-fields_have_no_handle-loop-field
invariant-fields_have_no_handle-loop-field l = have_no_handle (field_members l.types (drop l.field-index l.fields)) ≡ have_no_handle (field_members l.types l.fields)

abbrev pub invariant-members_have_no_handle-loop-member : goal.invariant-members_have_no_handle-loop-member
invariant-members_have_no_handle-loop-member l = have_no_handle (members_of l.types (drop l.member-index l.members)) ≡ have_no_handle (members_of l.types l.members)

abbrev pub invariant-payloads_have_no_handle-loop-payload : goal.invariant-payloads_have_no_handle-loop-payload
invariant-payloads_have_no_handle-loop-payload l = have_no_handle (members_of l.types (filter_map (λ p. p) (drop l.payload-index l.payloads))) ≡ have_no_handle (members_of l.types (filter_map (λ p. p) l.payloads))
