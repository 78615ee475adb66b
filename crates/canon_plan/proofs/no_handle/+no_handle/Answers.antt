use Rattle.std.proofs.Common.{◌∙◌, arith, sym}
use Rattle.std.proofs.lemmas.Grind.{common_steps}
use Rattle.canon_plan.proofs.Lookups.{field_depth, field_known, member_depth}
use Rattle.canon_plan.proofs.NoHandleKinds.{case_payloads, enum_no_handle, option_payload, payload_here, result_payloads}
use Rattle.canon_plan.proofs.no_handle.+no_handle.Goals as goal

pub fields_have_no_handle-has_no_handle-requires : goal.fields_have_no_handle-has_no_handle-requires
fields_have_no_handle-has_no_handle-requires t c = grind (arith, common_steps, field_depth, field_known)

pub members_have_no_handle-has_no_handle-requires : goal.members_have_no_handle-has_no_handle-requires
members_have_no_handle-has_no_handle-requires t c = grind (arith, common_steps, member_depth)

pub payloads_have_no_handle-has_no_handle-requires : goal.payloads_have_no_handle-has_no_handle-requires
payloads_have_no_handle-has_no_handle-requires t c =
    let here = payload_here c.args.types.now c.args.payloads.now c.loop-payload.payload-index _ c.in-Some.ty (sym c.in-Some.is ∙ c.payload-item.is) c.loop-payload-test.true c.requires in
    (omega (arith, here.0), here.1)

pub has_no_handle-payloads_have_no_handle-requires : goal.has_no_handle-payloads_have_no_handle-requires
has_no_handle-payloads_have_no_handle-requires t c =
    let p = case_payloads c.args.types.now c.args.ty.now _ c.as_slice.result.now (c.as_slice.ensures ∙ c.values.ensures.rest) (rw c.in-Variant.is c.variant.ensures.entry) in
    (omega (arith, p.falls), p.known)

pub has_no_handle-has_no_handle-requires-in-Option : goal.has_no_handle-has_no_handle-requires-in-Option
has_no_handle-has_no_handle-requires-in-Option t c =
    let p = option_payload c.args.types.now c.args.ty.now c.option.result.now.ty (rw c.in-Option.is c.option.ensures.entry) in
    (omega (arith, p.0), p.1)

pub has_no_handle-payloads_have_no_handle-requires-in-Result : goal.has_no_handle-payloads_have_no_handle-requires-in-Result
has_no_handle-payloads_have_no_handle-requires-in-Result t c =
    let p = result_payloads c.args.types.now c.args.ty.now c.result-result.result.now.ok c.result-result.result.now.err (rw c.in-Result.is c.result-result.ensures.entry) in
    (omega (arith, p.falls), p.known)

pub has_no_handle-returns-in-Variant : goal.has_no_handle-returns-in-Variant
has_no_handle-returns-in-Variant t c =
    let p = case_payloads c.args.types.now c.args.ty.now _ c.as_slice.result.now (c.as_slice.ensures ∙ c.values.ensures.rest) (rw c.in-Variant.is c.variant.ensures.entry) in
    c.payloads_have_no_handle.ensures ∙ p.no_handle

pub has_no_handle-returns-in-Enum : goal.has_no_handle-returns-in-Enum
has_no_handle-returns-in-Enum t c = enum_no_handle c.args.types.now c.args.ty.now c.enum_-names.result.now (rw c.in-Enum.is c.enum_-names.ensures.entry)
