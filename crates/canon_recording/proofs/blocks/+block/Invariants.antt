-- A type is deeper than its parts.
use Rattle.std.proofs.Common.{◌≡◌, ◌+◌, ◌*◌, drop, filter_map}
use Rattle.canon_types.specs.Depth.{deepest, depth}
use Rattle.canon_types.specs.Keeps.{field_members}
use Rattle.canon_types.specs.Table.{members_of, shape_of}
use Rattle.canon_context.specs.Quiet.{have_block}
use Rattle.canon_recording.proofs.blocks.+block.Given as goal

abbrev pub decreases-has_block : goal.decreases-has_block
decreases-has_block l = 2 * depth (shape_of l.types.now l.ty.now)

abbrev pub decreases-fields_have_block : goal.decreases-fields_have_block
decreases-fields_have_block l = 2 * deepest (field_members l.types.now l.fields.now) + 1

abbrev pub decreases-members_have_block : goal.decreases-members_have_block
decreases-members_have_block l = 2 * deepest (members_of l.types.now l.members.now) + 1

abbrev pub decreases-payloads_have_block : goal.decreases-payloads_have_block
decreases-payloads_have_block l = 2 * deepest (members_of l.types.now (filter_map (λ p. p) l.payloads.now)) + 1

-- the fields so far reach no handle
abbrev pub invariant-fields_have_block-loop-field : goal.invariant-fields_have_block-loop-field
invariant-fields_have_block-loop-field l = have_block (field_members l.types (drop l.field-index l.fields)) ≡ have_block (field_members l.types l.fields)

abbrev pub invariant-members_have_block-loop-member : goal.invariant-members_have_block-loop-member
invariant-members_have_block-loop-member l = have_block (members_of l.types (drop l.member-index l.members)) ≡ have_block (members_of l.types l.members)

abbrev pub invariant-payloads_have_block-loop-payload : goal.invariant-payloads_have_block-loop-payload
invariant-payloads_have_block-loop-payload l = have_block (members_of l.types (filter_map (λ p. p) (drop l.payload-index l.payloads))) ≡ have_block (members_of l.types (filter_map (λ p. p) l.payloads))
