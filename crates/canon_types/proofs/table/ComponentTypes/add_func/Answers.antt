use Rattle.std.proofs.Common.{List, ap, sym, ◌∙◌}
use Rattle.canon_types.specs.declared.types.InterfaceType.{InterfaceType}
use Rattle.canon_types.specs.Refusal.{func_refusal}
use Rattle.canon_types.proofs.Made.{caused}
use Rattle.canon_types.proofs.table.ComponentTypes.add_func.Goals as goal

pub returns-in_err-params_abi-clause-cause : goal.returns-in_err-params_abi-clause-cause
returns-in_err-params_abi-clause-cause c =
    let old = c.args.self.now in
    caused c.from_residual.result c.in_err-params_abi.field-0.0 (func_refusal old c.args.params.items c.args.results.items) c.from_residual.ensures
    (λ n. ap (λ (xs : List InterfaceType). func_refusal old xs c.args.results.items) (sym c.deref.ensures.value) ∙ ap (func_refusal old c.deref.result.now) (sym c.deref-2.ensures.value) ∙ c.in_err-params_abi.ensures.cause n)
