use Rattle.std.proofs.Common.{Some, ap, false, length, refl, subst, sym, ℕ, ◌<◌, ◌≤◌, ◌^◌, ◌∙◌, ◌≡◌}
use Rattle.canon_abi.specs.Abi.{HasInfo}
use Rattle.canon_types.specs.declared.types.InterfaceType.TheVariants as ty
use Rattle.canon_types.specs.Refusal.{refusal}
use Rattle.canon_types.specs.Table.{ResultType, all_shapes, is_result, parts}
use Rattle.canon_types.proofs.Adding.{adds, has_new, large_refused}
use Rattle.canon_types.proofs.Laid.{result_bytes, result_cases, result_laid}
use Rattle.canon_types.proofs.Made.{caused, result_parts}
use Rattle.canon_types.proofs.Measured.{before_measured, measure_refused, measured}
use Rattle.canon_types.proofs.table.ComponentTypes.add_result.Goals as goal

pub returns-in_err-depth-clause-cause : goal.returns-in_err-depth-clause-cause
returns-in_err-depth-clause-cause c =
    let d = ResultType c.args.ok c.args.err in
    let same : c.as_slice-parts.result.now ≡ parts d = c.as_slice-parts.ensures.value ∙ c.in_ok-types.ensures.ok ∙ result_parts c.args.ok c.args.err in
    caused c.from_residual-in_err-depth.result c.in_err-depth.field-0.0 (refusal c.args.self.now d) c.from_residual-in_err-depth.ensures
    (λ _. measure_refused c.args.self.now d c.as_slice-parts.result.now false same refl refl c.in_err-depth.field-0.0 c.in_err-depth.ensures.refusal)

pub returns-in_err-abi-clause-cause : goal.returns-in_err-abi-clause-cause
returns-in_err-abi-clause-cause c =
    let d = ResultType c.args.ok c.args.err in
    let same : c.as_slice-parts.result.now ≡ parts d = c.as_slice-parts.ensures.value ∙ c.in_ok-types.ensures.ok ∙ result_parts c.args.ok c.args.err in
    let b = before_measured c.args.self.now d c.as_slice-parts.result.now false same refl refl c.in_ok-depth.depth c.in_ok-depth.ensures.refusal c.in_ok-depth.ensures.depth in
    caused c.from_residual-in_err-abi.result c.in_err-abi.field-0.0 (refusal c.args.self.now d) c.from_residual-in_err-abi.ensures
    (λ n. let h = c.in_err-abi.ensures.cause n in large_refused c.args.self.now d b (subst (λ (n : ℕ). 2 ^ 32 ≤ n) (result_bytes (all_shapes c.args.self.now) c.args.ok c.args.err) h.1) ∙ ap Some (sym h.0))

pub enter-requires-clause-measured : goal.enter-requires-clause-measured
enter-requires-clause-measured c =
    let d = ResultType c.args.ok c.args.err in
    let same : c.as_slice-parts.result.now ≡ parts d = c.as_slice-parts.ensures.value ∙ c.in_ok-types.ensures.ok ∙ result_parts c.args.ok c.args.err in
    let fit = subst (λ (n : ℕ). n < 2 ^ 32) (result_bytes (all_shapes c.args.self.now) c.args.ok c.args.err) c.in_ok-abi.ensures.fits in
    measured c.args.self.now d c.as_slice-parts.result.now false c.in_ok-depth.depth c.in_ok-depth.has_borrow same refl refl c.in_ok-depth.ensures.refusal c.in_ok-depth.ensures.depth c.in_ok-depth.ensures.borrows fit

pub enter-requires-clause-layout : goal.enter-requires-clause-layout
enter-requires-clause-layout c = (
  result_laid (all_shapes c.args.self.now) c.in_ok-abi.abi c.args.ok c.args.err c.in_ok-abi.ensures.abi,
  subst (HasInfo c.in_ok-abi.info) (result_cases (all_shapes c.args.self.now) c.args.ok c.args.err) c.in_ok-abi.ensures.info,
)

pub returns-in_err-place-clause-cause : goal.returns-in_err-place-clause-cause
returns-in_err-place-clause-cause c =
    caused c.from_residual-in_err-place.result c.in_err-place.field-0.0 (refusal c.args.self.now (ResultType c.args.ok c.args.err)) c.from_residual-in_err-place.ensures c.in_err-place.ensures.cause

pub returns-clause-ok : goal.returns-clause-ok
returns-clause-ok c =
    let d = ResultType c.args.ok c.args.err in
    let at : c.from_u32.result ≡ length c.args.self.now.definitions = c.from_u32.ensures ∙ c.in_ok-place.ensures.ok.0 in
    adds c.args.self.now d (ty.Result c.from_u32.result) c.enter.new.self c.in_ok-place.ensures.fits c.in_ok-place.ensures.ok.1 (ap Some at) (has_new is_result c.args.self.now d c.from_u32.result at refl)
