use Rattle.std.proofs.Common.{Some, [], ap, length, refl, ◌==◌, ◌∙◌, ◌∷◌, ◌≡◌}
use Rattle.canon_types.specs.declared.types.InterfaceType.TheVariants as ty
use Rattle.canon_types.specs.Refusal.{refusal}
use Rattle.canon_types.specs.Table.{FixedListType, is_fixed_list}
use Rattle.canon_types.proofs.Adding.{adds, has_new}
use Rattle.canon_types.proofs.Laid.{told_below}
use Rattle.canon_types.proofs.Made.{caused}
use Rattle.canon_types.proofs.Measured.{measure_refused, measured}
use Rattle.canon_types.proofs.table.ComponentTypes.add_fixed_length_list.Goals as goal

pub returns-in_err-depth-clause-cause : goal.returns-in_err-depth-clause-cause
returns-in_err-depth-clause-cause c =
    let d = FixedListType c.args.element c.args.size in
    caused c.from_residual.result c.in_err-depth.field-0.0 (refusal c.args.self.now d) c.from_residual.ensures
    (λ _. measure_refused c.args.self.now d (c.args.element ∷ []) (c.args.size == 0) refl refl refl c.in_err-depth.field-0.0 c.in_err-depth.ensures.refusal)

pub enter-requires-clause-measured : goal.enter-requires-clause-measured
enter-requires-clause-measured c =
    measured c.args.self.now (FixedListType c.args.element c.args.size) (c.args.element ∷ [])
    (c.args.size == 0) c.in_ok-depth.depth c.in_ok-depth.has_borrow refl refl refl c.in_ok-depth.ensures.refusal c.in_ok-depth.ensures.depth c.in_ok-depth.ensures.borrows
    (told_below c.in-Some.abi _ c.in-Some.ensures)

pub returns-in_err-place-clause-cause : goal.returns-in_err-place-clause-cause
returns-in_err-place-clause-cause c =
    caused c.from_residual-in_err-place.result c.in_err-place.field-0.0 (refusal c.args.self.now (FixedListType c.args.element c.args.size)) c.from_residual-in_err-place.ensures c.in_err-place.ensures.cause

pub returns-clause-ok : goal.returns-clause-ok
returns-clause-ok c =
    let d = FixedListType c.args.element c.args.size in
    let at : c.from_u32.result ≡ length c.args.self.now.definitions = c.from_u32.ensures ∙ c.in_ok-place.ensures.ok.0 in
    adds c.args.self.now d (ty.FixedLengthList c.from_u32.result) c.enter.new.self c.in_ok-place.ensures.fits c.in_ok-place.ensures.ok.1 (ap Some at) (has_new is_fixed_list c.args.self.now d c.from_u32.result at refl)
