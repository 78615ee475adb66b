use Rattle.std.proofs.Common.{◌∙◌, arith, sym}
use Rattle.std.proofs.lemmas.Grind.{common_steps}
use Rattle.canon_plan.proofs.Lookups.{field_depth, field_known, member_depth}
use Rattle.canon_recording.proofs.BlockKinds.{recorded_case_payloads, enum_block, recorded_result_payloads}
use Rattle.canon_recording.proofs.blocks.+block.Goals as goal
use Rattle.canon_plan.proofs.NoHandleKinds.{option_payload, payload_here}

pub fields_have_block-has_block-requires : goal.fields_have_block-has_block-requires
fields_have_block-has_block-requires t c = grind (arith, common_steps, field_depth, field_known)

pub members_have_block-has_block-requires : goal.members_have_block-has_block-requires
members_have_block-has_block-requires t c = grind (arith, common_steps, member_depth)

pub payloads_have_block-has_block-requires : goal.payloads_have_block-has_block-requires
payloads_have_block-has_block-requires t c =
    let here = payload_here c.args.types.now c.args.payloads.now c.loop-payload.payload-index _ c.in-Some.ty (sym c.in-Some.is ∙ c.payload-item.is) c.loop-payload-test.true c.requires in
    (omega (arith, here.0), here.1)

pub has_block-payloads_have_block-requires : goal.has_block-payloads_have_block-requires
has_block-payloads_have_block-requires t c =
    let p = recorded_case_payloads c.args.types.now c.args.ty.now _ c.as_slice.result.now (c.as_slice.ensures ∙ c.values.ensures.rest) (rw c.in-Variant.is c.variant.ensures.entry) in
    (omega (arith, p.falls), p.known)

pub has_block-has_block-requires-in-Option : goal.has_block-has_block-requires-in-Option
has_block-has_block-requires-in-Option t c =
    let p = option_payload c.args.types.now c.args.ty.now c.option.result.now.ty (rw c.in-Option.is c.option.ensures.entry) in
    (omega (arith, p.0), p.1)

pub has_block-payloads_have_block-requires-in-Result : goal.has_block-payloads_have_block-requires-in-Result
has_block-payloads_have_block-requires-in-Result t c =
    let p = recorded_result_payloads c.args.types.now c.args.ty.now c.result-result.result.now.ok c.result-result.result.now.err (rw c.in-Result.is c.result-result.ensures.entry) in
    (omega (arith, p.falls), p.known)

pub has_block-returns-in-Variant : goal.has_block-returns-in-Variant
has_block-returns-in-Variant t c =
    let p = recorded_case_payloads c.args.types.now c.args.ty.now _ c.as_slice.result.now (c.as_slice.ensures ∙ c.values.ensures.rest) (rw c.in-Variant.is c.variant.ensures.entry) in
    c.payloads_have_block.ensures ∙ p.block

pub has_block-returns-in-Enum : goal.has_block-returns-in-Enum
has_block-returns-in-Enum t c = enum_block c.args.types.now c.args.ty.now c.enum_-names.result.now (rw c.in-Enum.is c.enum_-names.ensures.entry)
