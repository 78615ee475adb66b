use Rattle.std.proofs.Common.{Some, [], ap, false, length, refl, sym, ◌∙◌, ◌∷◌, ◌≡◌}
use Rattle.canon_types.specs.declared.types.InterfaceType.TheVariants as ty
use Rattle.canon_types.specs.Refusal.{refusal}
use Rattle.canon_types.specs.Table.{MapType, is_map}
use Rattle.canon_types.proofs.Adding.{adds, has_new, large_refused}
use Rattle.canon_types.proofs.Made.{caused}
use Rattle.canon_types.proofs.Measured.{before_measured, measure_refused, measured}
use Rattle.canon_types.proofs.table.ComponentTypes.add_map.Goals as goal

pub returns-in_err-depth-clause-cause : goal.returns-in_err-depth-clause-cause
returns-in_err-depth-clause-cause c =
    let d = MapType c.args.key c.args.value in
    caused c.from_residual.result c.in_err-depth.field-0.0 (refusal c.args.self.now d) c.from_residual.ensures
    (λ _. measure_refused c.args.self.now d (c.args.key ∷ c.args.value ∷ []) false refl refl refl c.in_err-depth.field-0.0 c.in_err-depth.ensures.refusal)

pub returns-in_err-entry_abi-clause-cause : goal.returns-in_err-entry_abi-clause-cause
returns-in_err-entry_abi-clause-cause c =
    let d = MapType c.args.key c.args.value in
    let b = before_measured c.args.self.now d (c.args.key ∷ c.args.value ∷ []) false refl refl refl c.in_ok-depth.depth c.in_ok-depth.ensures.refusal c.in_ok-depth.ensures.depth in
    caused c.from_residual-in_err-entry_abi.result c.in_err-entry_abi.field-0.0 (refusal c.args.self.now d) c.from_residual-in_err-entry_abi.ensures
    (λ n. let h = c.in_err-entry_abi.ensures.cause n in large_refused c.args.self.now d b h.1 ∙ ap Some (sym h.0))

pub enter-requires-clause-measured : goal.enter-requires-clause-measured
enter-requires-clause-measured c =
    measured c.args.self.now (MapType c.args.key c.args.value)
    (c.args.key ∷ c.args.value ∷ []) false c.in_ok-depth.depth c.in_ok-depth.has_borrow refl refl refl c.in_ok-depth.ensures.refusal c.in_ok-depth.ensures.depth c.in_ok-depth.ensures.borrows c.in_ok-entry_abi.ensures.fits

pub returns-in_err-place-clause-cause : goal.returns-in_err-place-clause-cause
returns-in_err-place-clause-cause c =
    caused c.from_residual-in_err-place.result c.in_err-place.field-0.0 (refusal c.args.self.now (MapType c.args.key c.args.value)) c.from_residual-in_err-place.ensures c.in_err-place.ensures.cause

pub returns-clause-ok : goal.returns-clause-ok
returns-clause-ok c =
    let d = MapType c.args.key c.args.value in
    let at : c.from_u32.result ≡ length c.args.self.now.definitions = c.from_u32.ensures ∙ c.in_ok-place.ensures.ok.0 in
    adds c.args.self.now d (ty.Map c.from_u32.result) c.enter.new.self c.in_ok-place.ensures.fits c.in_ok-place.ensures.ok.1 (ap Some at) (has_new is_map c.args.self.now d c.from_u32.result at refl)
