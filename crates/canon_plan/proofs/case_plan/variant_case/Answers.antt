use Rattle.std.proofs.Common.{arith, sym}
use Rattle.canon_plan.proofs.CasePlans.{variant_past, plan_variant_told}
use Rattle.canon_plan.proofs.case_plan.variant_case.Goals as goal

pub returns-in_err-name : goal.returns-in_err-name
returns-in_err-name c = variant_past c.args.types.now c.args.i c.variant.result.now.cases.entries c.variant.ensures.entry c.args.tag c.from_residual.result c.from_residual.ensures (sym c.in_err-name.ensures.entry)

pub returns : goal.returns
returns c =
    plan_variant_told c.args.types.now c.args.i c.variant.result.now.cases.entries c.variant.ensures.entry c.args.tag c.in_ok-name.name.now c.in_ok-name.payload.now (record { payload = c.payload_slots.result; name_length = c.len.result })
    (sym c.in_ok-name.ensures.entry) c.payload_slots.ensures (omega (arith, c.len.ensures))
