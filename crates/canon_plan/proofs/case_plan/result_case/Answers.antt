use Rattle.std.proofs.Common.{subst, sym}
use Rattle.canon_plan.specs.CasePlan.{IsPayload}
use Rattle.canon_plan.specs.declared.plan.Slots.{Slots}
use Rattle.canon_plan.proofs.CasePlans.{err_told, ok_told}
use Rattle.canon_plan.proofs.case_plan.result_case.Goals as goal

pub returns-in-0 : goal.returns-in-0
returns-in-0 c =
    let types = c.result-result.result.now in
    let payload = subst (λ (p : Slots). IsPayload types.ok p) (sym c.unnamed.ensures.payload) c.payload_slots.ensures in
    ok_told c.args.types.now c.args.i types.ok types.err c.args.tag c.unnamed.result c.result-result.ensures.entry c.unnamed.ensures.free c.in-0.is payload

pub returns-in-1 : goal.returns-in-1
returns-in-1 c =
    let types = c.result-result.result.now in
    let payload = subst (λ (p : Slots). IsPayload types.err p) (sym c.unnamed-in-1.ensures.payload) c.payload_slots-in-1.ensures in
    err_told c.args.types.now c.args.i types.ok types.err c.args.tag c.unnamed-in-1.result c.result-result.ensures.entry c.unnamed-in-1.ensures.free c.in-1.is payload
