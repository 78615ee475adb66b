use Rattle.std.proofs.Common.{arith, refl, sym}
use Rattle.canon_plan.proofs.CasePlans.{enum_past, enum_told}
use Rattle.canon_plan.proofs.case_plan.enum_case.Goals as goal
use Rattle.canon_plan.specs.declared.plan.Slots.TheVariants as slots

pub returns-in_err-name : goal.returns-in_err-name
returns-in_err-name c = enum_past c.args.types.now c.args.i c.enum_.result.now.names.keys c.enum_.ensures.entry c.args.tag c.from_residual.result c.from_residual.ensures (sym c.in_err-name.ensures.key)

pub returns : goal.returns
returns c =
    enum_told c.args.types.now c.args.i c.enum_.result.now.names.keys c.enum_.ensures.entry c.args.tag c.in_ok-name.name.now (record { payload = slots.Empty; name_length = c.len.result })
    (sym c.in_ok-name.ensures.key) refl (omega (arith, c.len.ensures))
