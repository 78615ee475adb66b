use Rattle.std.proofs.Common.{List, ℕ, false, Some, ap, length, refl, string_bytes, subst, sym, ◌==◌, ◌∙◌, ◌≡◌}
use Rattle.std.proofs.lemmas.List.{length-map}
use Rattle.canon_abi.specs.Abi.{HasInfo, HasLayout}
use Rattle.canon_model.specs.Shape.{Name, enum_of, of_names}
use Rattle.canon_types.specs.Depth.{variant_cases}
use Rattle.canon_types.specs.Keeps.{names_of}
use Rattle.canon_types.specs.declared.types.InterfaceType.TheVariants as ty
use Rattle.canon_types.specs.Measured.{IsMeasured}
use Rattle.canon_types.specs.Refusal.{refusal, with_definition}
use Rattle.canon_types.specs.Table.{Definition, EnumType, is_enum}
use Rattle.canon_types.proofs.Adding.{adds, has_new}
use Rattle.canon_types.proofs.Laid.{told_below}
use Rattle.canon_types.proofs.Made.{caused}
use Rattle.canon_types.proofs.Measured.{count_refused, measured_names, repeat_refused}
use Rattle.canon_types.proofs.table.ComponentTypes.add_enum.Goals as goal

pub returns-in_err-check_name_count-clause-cause : goal.returns-in_err-check_name_count-clause-cause
returns-in_err-check_name_count-clause-cause c =
    let d = EnumType (names_of c.args.names.items) in
    let count : length (names_of c.args.names.items) ≡ length c.as_slice-count.result.now = length-map c.args.names.items (λ n. string_bytes n) ∙ sym (ap length c.as_slice-count.ensures.value) in
    caused c.from_residual.result c.in_err-check_name_count.field-0.0 (refusal c.args.self.now d) c.from_residual.ensures
    (λ _. count_refused c.args.self.now d (length c.as_slice-count.result.now) refl (sym count) (ap (λ (k : ℕ). k == 0) (sym count)) c.in_err-check_name_count.field-0.0 c.in_err-check_name_count.ensures)

pub returns-in_err-names-clause-cause : goal.returns-in_err-names-clause-cause
returns-in_err-names-clause-cause c =
    let d = EnumType (names_of c.args.names.items) in
    let count : length (names_of c.args.names.items) ≡ length c.as_slice-count.result.now = length-map c.args.names.items (λ n. string_bytes n) ∙ sym (ap length c.as_slice-count.ensures.value) in
    caused c.from_residual-in_err-names.result c.in_err-names.field-0.0 (refusal c.args.self.now d) c.from_residual-in_err-names.ensures
    (λ n. let h = c.in_err-names.ensures.cause n in repeat_refused c.args.self.now d (length c.as_slice-count.result.now) refl (sym count) (ap (λ (k : ℕ). k == 0) (sym count)) c.in_ok-check_name_count.ensures h.1 ∙ ap Some (sym h.0))

pub enter-requires-clause-measured : goal.enter-requires-clause-measured
enter-requires-clause-measured c =
    let d = EnumType (names_of c.args.names.items) in
    let count : length (names_of c.args.names.items) ≡ length c.as_slice-count.result.now = length-map c.args.names.items (λ n. string_bytes n) ∙ sym (ap length c.as_slice-count.ensures.value) in
    let m : IsMeasured c.args.self.now d 1 false =
    measured_names c.args.self.now d (length c.as_slice-count.result.now) refl (sym count) (ap (λ (k : ℕ). k == 0) (sym count)) c.in_ok-check_name_count.ensures c.in_ok-names.ensures.fits
    (told_below c.enum_.result.0 _ (c.enum_.ensures.layout of_names (names_of c.args.names.items) count)) in
    subst (λ (x : Definition). IsMeasured c.args.self.now x 1 false) (ap (λ ks. EnumType (names_of ks)) (sym c.in_ok-names.ensures.ok)) m

pub enter-requires-clause-layout : goal.enter-requires-clause-layout
enter-requires-clause-layout c =
    let count : length (names_of c.args.names.items) ≡ length c.as_slice-count.result.now = length-map c.args.names.items (λ n. string_bytes n) ∙ sym (ap length c.as_slice-count.ensures.value) in
    subst (λ (ns : List Name). HasLayout c.enum_.result.0 (enum_of ns) × HasInfo c.enum_.result.1 (variant_cases (enum_of ns))) (ap (λ ks. names_of ks) (sym c.in_ok-names.ensures.ok))
    (c.enum_.ensures.layout of_names (names_of c.args.names.items) count, c.enum_.ensures.info (names_of c.args.names.items) count)

pub returns-in_err-place-clause-cause : goal.returns-in_err-place-clause-cause
returns-in_err-place-clause-cause c =
    caused c.from_residual-in_err-place.result c.in_err-place.field-0.0 (refusal c.args.self.now (EnumType (names_of c.args.names.items))) c.from_residual-in_err-place.ensures
    (λ n. ap (λ ks. refusal c.args.self.now (EnumType (names_of ks))) (sym c.in_ok-names.ensures.ok) ∙ c.in_err-place.ensures.cause n)

pub returns-clause-ok : goal.returns-clause-ok
returns-clause-ok c =
    let d = EnumType (names_of c.args.names.items) in
    let at : c.from_u32.result ≡ length c.args.self.now.definitions = c.from_u32.ensures ∙ c.in_ok-place.ensures.ok.0 in
    adds c.args.self.now d (ty.Enum c.from_u32.result) c.enter.new.self (ap (λ ks. refusal c.args.self.now (EnumType (names_of ks))) (sym c.in_ok-names.ensures.ok) ∙ c.in_ok-place.ensures.fits)
    (c.in_ok-place.ensures.ok.1 ∙ ap (λ ks. with_definition c.args.self.now (EnumType (names_of ks))) c.in_ok-names.ensures.ok) (ap Some at) (has_new is_enum c.args.self.now d c.from_u32.result at refl)
