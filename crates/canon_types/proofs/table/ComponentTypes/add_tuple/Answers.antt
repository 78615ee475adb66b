use Rattle.std.proofs.Common.{List, Some, ap, arith, length, refl, subst, sym, ◌<◌, ◌≤◌, ◌^◌, ◌∙◌, ◌≡◌}
use Rattle.std.proofs.lemmas.Bool.Decides.{nat_tests}
use Rattle.std.proofs.lemmas.Grind.{common_steps}
use Rattle.canon_abi.specs.Abi.{wider_size}
use Rattle.canon_model.specs.Shape.{of_places, product}
use Rattle.canon_types.specs.declared.types.InterfaceType.{InterfaceType}
use Rattle.canon_types.specs.declared.types.InterfaceType.TheVariants as ty
use Rattle.canon_types.specs.Refusal.{is_empty, refusal}
use Rattle.canon_types.specs.Table.{TupleType, is_tuple, members_of}
use Rattle.canon_types.proofs.Adding.{adds, has_new, large_refused}
use Rattle.canon_types.proofs.Made.{caused}
use Rattle.canon_types.proofs.Measured.{before_measured, measure_refused, measured}
use Rattle.canon_types.proofs.table.ComponentTypes.add_tuple.Goals as goal

pub returns-in_err-depth-clause-cause : goal.returns-in_err-depth-clause-cause
returns-in_err-depth-clause-cause c =
    let d = TupleType c.args.types.items in
    let empty : c.is_empty.result ≡ is_empty d = grind (arith, common_steps, nat_tests) in
    caused c.from_residual.result c.in_err-depth.field-0.0 (refusal c.args.self.now d) c.from_residual.ensures
    (λ _. measure_refused c.args.self.now d c.as_slice-parts.result.now c.is_empty.result c.as_slice-parts.ensures.value empty refl c.in_err-depth.field-0.0 c.in_err-depth.ensures.refusal)

pub returns-in_err-abi-clause-cause : goal.returns-in_err-abi-clause-cause
returns-in_err-abi-clause-cause c =
    let d = TupleType c.args.types.items in
    let same : c.as_slice-parts.result.now ≡ c.args.types.items = c.as_slice-parts.ensures.value in
    let empty : c.is_empty.result ≡ is_empty d = grind (arith, common_steps, nat_tests) in
    let b = before_measured c.args.self.now d c.as_slice-parts.result.now c.is_empty.result same empty refl c.in_ok-depth.depth c.in_ok-depth.ensures.refusal c.in_ok-depth.ensures.depth in
    caused c.from_residual-in_err-abi.result c.in_err-abi.field-0.0 (refusal c.args.self.now d) c.from_residual-in_err-abi.ensures
    (λ n. let h = c.in_err-abi.ensures.cause n in large_refused c.args.self.now d b (subst (λ (ts : List InterfaceType). 2 ^ 32 ≤ wider_size (product of_places (members_of c.args.self.now ts))) same h.1) ∙ ap Some (sym h.0))

pub enter-requires-clause-measured : goal.enter-requires-clause-measured
enter-requires-clause-measured c =
    let d = TupleType c.args.types.items in
    let same : c.as_slice-parts.result.now ≡ c.args.types.items = c.as_slice-parts.ensures.value in
    let empty : c.is_empty.result ≡ is_empty d = grind (arith, common_steps, nat_tests) in
    let fit = subst (λ (ts : List InterfaceType). wider_size (product of_places (members_of c.args.self.now ts)) < 2 ^ 32) same c.in_ok-abi.ensures.fits in
    measured c.args.self.now d c.as_slice-parts.result.now c.is_empty.result c.in_ok-depth.depth c.in_ok-depth.has_borrow same empty refl c.in_ok-depth.ensures.refusal c.in_ok-depth.ensures.depth c.in_ok-depth.ensures.borrows fit

pub returns-in_err-place-clause-cause : goal.returns-in_err-place-clause-cause
returns-in_err-place-clause-cause c =
    caused c.from_residual-in_err-place.result c.in_err-place.field-0.0 (refusal c.args.self.now (TupleType c.args.types.items)) c.from_residual-in_err-place.ensures c.in_err-place.ensures.cause

pub returns-clause-ok : goal.returns-clause-ok
returns-clause-ok c =
    let d = TupleType c.args.types.items in
    let at : c.from_u32.result ≡ length c.args.self.now.definitions = c.from_u32.ensures ∙ c.in_ok-place.ensures.ok.0 in
    adds c.args.self.now d (ty.Tuple c.from_u32.result) c.enter.new.self c.in_ok-place.ensures.fits c.in_ok-place.ensures.ok.1 (ap Some at) (has_new is_tuple c.args.self.now d c.from_u32.result at refl)
