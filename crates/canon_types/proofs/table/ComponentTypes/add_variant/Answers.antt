use Rattle.std.proofs.Common.{All, List, String, Option, Some, None, ap, arith, filter_map, length, map, refl, string_bytes, subst, sym, ℕ, ◌<◌, ◌==◌, ◌^◌, ◌∙◌, ◌≡◌, ◌≤◌}
use Rattle.std.proofs.lemmas.Bool.Decides.{nat_tests}
use Rattle.std.proofs.lemmas.Grind.{common_steps}
use Rattle.canon_abi.specs.Abi.{HasInfo, HasLayout}
use Rattle.canon_abi.specs.Abi.{wider_size}
use Rattle.canon_model.specs.Shape.{Name, of_cases, of_option, variant}
use Rattle.canon_types.specs.Depth.{variant_cases}
use Rattle.canon_types.specs.Keeps.{cases_type}
use Rattle.canon_types.specs.Laid.{unnamed_cases}
use Rattle.canon_types.specs.declared.types.InterfaceType.{InterfaceType}
use Rattle.canon_types.specs.declared.types.InterfaceType.TheVariants as ty
use Rattle.canon_types.specs.Measured.{IsMeasured}
use Rattle.canon_types.specs.Refusal.{is_empty, names, names_refusal, refusal, with_definition}
use Rattle.canon_types.specs.Table.{cases_in, Definition, Knows, TypeTable, all_shapes, defined_shape, is_variant, parts}
use Rattle.canon_types.proofs.Adding.{Before, adds, before, deep_refused, has_new, large_refused, passed_parts, refused_by_parts}
use Rattle.canon_types.proofs.Laid.{variant_bytes, variant_laid, variant_told}
use Rattle.canon_types.proofs.Made.{caused, case_names, case_parts, case_payload_list, cases_empty, names_apart, names_refused, payloads_known}
use Rattle.canon_types.proofs.Measured.{measured_by}
use Rattle.canon_types.proofs.table.ComponentTypes.add_variant.Goals as goal

bytes_same : {Z : Type 0} (t : TypeTable) (cases : List (String Z × Option InterfaceType)) (ps : List (Option InterfaceType)) → ps ≡ map (λ (x : Name × Option InterfaceType). x.1) (map (λ x. (string_bytes x.0, x.1)) cases)
    → wider_size (variant of_option (unnamed_cases (all_shapes t) ps)) ≡ wider_size (variant of_cases (cases_in (all_shapes t) (map (λ x. (string_bytes x.0, x.1)) cases)))
bytes_same {Z} t cases ps whole =
    ap (λ (xs : List (Option InterfaceType)). wider_size (variant of_option (unnamed_cases (all_shapes t) xs))) whole
    ∙ sym (variant_bytes (all_shapes t) of_cases of_option (map (λ x. (string_bytes x.0, x.1)) cases))

pub returns-in_err-check_parts-clause-cause : goal.returns-in_err-check_parts-clause-cause
returns-in_err-check_parts-clause-cause c =
    let d = cases_type c.args.cases.items in
    let listed : c.as_slice-payloads.result.now ≡ map (λ x. x.1) c.args.cases.items = c.as_slice-payloads.ensures.value ∙ c.in_ok-listed.ensures.ok ∙ ap (map (λ x. x.1)) c.deref.ensures.value in
    let same : c.as_slice-parts.result.now ≡ parts d = c.as_slice-parts.ensures.value ∙ c.in_ok-types.ensures.ok ∙ ap (filter_map (λ p. p)) listed ∙ case_parts c.args.cases.items in
    let empty : c.is_empty.result ≡ is_empty d = (let e : c.is_empty.result ≡ (length c.as_slice-payloads.result.now == 0) = grind (arith, common_steps, nat_tests) in e)
    ∙ cases_empty c.args.cases.items c.as_slice-payloads.result.now listed in
    caused c.from_residual-in_err-check_parts.result c.in_err-check_parts.field-0.0 (refusal c.args.self.now d) c.from_residual-in_err-check_parts.ensures
    (λ _. refused_by_parts c.args.self.now d c.as_slice-parts.result.now c.is_empty.result c.in_err-check_parts.field-0.0 same empty c.in_err-check_parts.ensures)

pub returns-in_err-cases-clause-cause : goal.returns-in_err-cases-clause-cause
returns-in_err-cases-clause-cause c =
    let d = cases_type c.args.cases.items in
    let listed : c.as_slice-payloads.result.now ≡ map (λ x. x.1) c.args.cases.items = c.as_slice-payloads.ensures.value ∙ c.in_ok-listed.ensures.ok ∙ ap (map (λ x. x.1)) c.deref.ensures.value in
    let same : c.as_slice-parts.result.now ≡ parts d = c.as_slice-parts.ensures.value ∙ c.in_ok-types.ensures.ok ∙ ap (filter_map (λ p. p)) listed ∙ case_parts c.args.cases.items in
    let empty : c.is_empty.result ≡ is_empty d = (let e : c.is_empty.result ≡ (length c.as_slice-payloads.result.now == 0) = grind (arith, common_steps, nat_tests) in e)
    ∙ cases_empty c.args.cases.items c.as_slice-payloads.result.now listed in
    caused c.from_residual-in_err-cases.result c.in_err-cases.field-0.0 (refusal c.args.self.now d) c.from_residual-in_err-cases.ensures
    (λ n. names_refused c.args.self.now d c.as_slice-parts.result.now c.is_empty.result c.in_err-cases.field-0.0 same empty c.in_ok-check_parts.ensures
    (ap (λ (ns : List Name). names_refusal ns 1048576) (sym (case_names c.args.cases.items)) ∙ c.in_err-cases.ensures.cause n))

pub measure-requires : goal.measure-requires
measure-requires c =
    passed_parts c.args.self.now c.as_slice-parts.result.now c.is_empty.result (sym c.in_ok-check_parts.ensures)

pub returns-in_err-depth-clause-cause : goal.returns-in_err-depth-clause-cause
returns-in_err-depth-clause-cause c =
    let d = cases_type c.args.cases.items in
    let listed : c.as_slice-payloads.result.now ≡ map (λ x. x.1) c.args.cases.items = c.as_slice-payloads.ensures.value ∙ c.in_ok-listed.ensures.ok ∙ ap (map (λ x. x.1)) c.deref.ensures.value in
    let same : c.as_slice-parts.result.now ≡ parts d = c.as_slice-parts.ensures.value ∙ c.in_ok-types.ensures.ok ∙ ap (filter_map (λ p. p)) listed ∙ case_parts c.args.cases.items in
    let empty : c.is_empty.result ≡ is_empty d = (let e : c.is_empty.result ≡ (length c.as_slice-payloads.result.now == 0) = grind (arith, common_steps, nat_tests) in e)
    ∙ cases_empty c.args.cases.items c.as_slice-payloads.result.now listed in
    let apart : names_refusal (names d) 1048576 ≡ None = ap (λ (ns : List Name). names_refusal ns 1048576) (sym (case_names c.args.cases.items)) ∙ c.in_ok-cases.ensures.fits in
    caused c.from_residual-in_err-depth.result c.in_err-depth.field-0.0 (refusal c.args.self.now d) c.from_residual-in_err-depth.ensures
    (λ _. deep_refused c.args.self.now d c.as_slice-parts.result.now c.as_slice-parts.result.now c.is_empty.result same same empty c.in_ok-check_parts.ensures apart c.in_err-depth.ensures.cause.1
    ∙ ap Some (sym c.in_err-depth.ensures.cause.0))

pub variant_abi-requires-clause-known : goal.variant_abi-requires-clause-known
variant_abi-requires-clause-known c =
    payloads_known c.args.self.now c.as_slice-payloads.result.now
    (subst (λ (ts : List InterfaceType). All (Knows c.args.self.now) ts) (c.as_slice-parts.ensures.value ∙ c.in_ok-types.ensures.ok)
    (passed_parts c.args.self.now c.as_slice-parts.result.now c.is_empty.result (sym c.in_ok-check_parts.ensures)))

pub returns-in_err-abi-clause-cause : goal.returns-in_err-abi-clause-cause
returns-in_err-abi-clause-cause c =
    let d = cases_type c.args.cases.items in
    let listed : c.as_slice-payloads.result.now ≡ map (λ x. x.1) c.args.cases.items = c.as_slice-payloads.ensures.value ∙ c.in_ok-listed.ensures.ok ∙ ap (map (λ x. x.1)) c.deref.ensures.value in
    let same : c.as_slice-parts.result.now ≡ parts d = c.as_slice-parts.ensures.value ∙ c.in_ok-types.ensures.ok ∙ ap (filter_map (λ p. p)) listed ∙ case_parts c.args.cases.items in
    let empty : c.is_empty.result ≡ is_empty d = (let e : c.is_empty.result ≡ (length c.as_slice-payloads.result.now == 0) = grind (arith, common_steps, nat_tests) in e)
    ∙ cases_empty c.args.cases.items c.as_slice-payloads.result.now listed in
    let apart : names_refusal (names d) 1048576 ≡ None = ap (λ (ns : List Name). names_refusal ns 1048576) (sym (case_names c.args.cases.items)) ∙ c.in_ok-cases.ensures.fits in
    let b : Before c.args.self.now d = before c.args.self.now d c.as_slice-parts.result.now c.as_slice-parts.result.now c.is_empty.result c.in_ok-depth.depth same same empty c.in_ok-check_parts.ensures apart c.in_ok-depth.ensures.depth c.in_ok-depth.ensures.fits in
    let whole : c.as_slice-payloads.result.now ≡ map (λ x. x.1) (map (λ x. (string_bytes x.0, x.1)) c.args.cases.items) = listed ∙ case_payload_list c.args.cases.items in
    caused c.from_residual-in_err-abi.result c.in_err-abi.field-0.0 (refusal c.args.self.now d) c.from_residual-in_err-abi.ensures
    (λ n. let h = c.in_err-abi.ensures.cause n in large_refused c.args.self.now d b (subst (λ (k : ℕ). 2 ^ 32 ≤ k) (bytes_same c.args.self.now c.args.cases.items c.as_slice-payloads.result.now whole) h.1) ∙ ap Some (sym h.0))

pub enter-requires-clause-measured : goal.enter-requires-clause-measured
enter-requires-clause-measured c =
    let d = cases_type c.args.cases.items in
    let listed : c.as_slice-payloads.result.now ≡ map (λ x. x.1) c.args.cases.items = c.as_slice-payloads.ensures.value ∙ c.in_ok-listed.ensures.ok ∙ ap (map (λ x. x.1)) c.deref.ensures.value in
    let same : c.as_slice-parts.result.now ≡ parts d = c.as_slice-parts.ensures.value ∙ c.in_ok-types.ensures.ok ∙ ap (filter_map (λ p. p)) listed ∙ case_parts c.args.cases.items in
    let empty : c.is_empty.result ≡ is_empty d = (let e : c.is_empty.result ≡ (length c.as_slice-payloads.result.now == 0) = grind (arith, common_steps, nat_tests) in e)
    ∙ cases_empty c.args.cases.items c.as_slice-payloads.result.now listed in
    let apart : names_refusal (names d) 1048576 ≡ None = ap (λ (ns : List Name). names_refusal ns 1048576) (sym (case_names c.args.cases.items)) ∙ c.in_ok-cases.ensures.fits in
    let b : Before c.args.self.now d = before c.args.self.now d c.as_slice-parts.result.now c.as_slice-parts.result.now c.is_empty.result c.in_ok-depth.depth same same empty c.in_ok-check_parts.ensures apart c.in_ok-depth.ensures.depth c.in_ok-depth.ensures.fits in
    let whole : c.as_slice-payloads.result.now ≡ map (λ x. x.1) (map (λ x. (string_bytes x.0, x.1)) c.args.cases.items) = listed ∙ case_payload_list c.args.cases.items in
    let known = passed_parts c.args.self.now c.as_slice-parts.result.now c.is_empty.result (sym c.in_ok-check_parts.ensures) in
    let m : IsMeasured c.args.self.now d c.in_ok-depth.depth c.in_ok-depth.has_borrow =
    measured_by c.args.self.now d c.as_slice-parts.result.now c.in_ok-depth.depth c.in_ok-depth.has_borrow b same known c.in_ok-depth.ensures.depth c.in_ok-depth.ensures.borrows
    (names_apart (names d) 1048576 apart)
    (subst (λ (n : ℕ). n < 2 ^ 32) (bytes_same c.args.self.now c.args.cases.items c.as_slice-payloads.result.now whole) c.in_ok-abi.ensures.fits) in
    subst (λ (x : Definition). IsMeasured c.args.self.now x c.in_ok-depth.depth c.in_ok-depth.has_borrow) (ap cases_type (sym c.in_ok-cases.ensures.ok)) m

pub enter-requires-clause-layout : goal.enter-requires-clause-layout
enter-requires-clause-layout c =
    let listed : c.as_slice-payloads.result.now ≡ map (λ x. x.1) c.args.cases.items = c.as_slice-payloads.ensures.value ∙ c.in_ok-listed.ensures.ok ∙ ap (map (λ x. x.1)) c.deref.ensures.value in
    let whole : c.as_slice-payloads.result.now ≡ map (λ x. x.1) (map (λ x. (string_bytes x.0, x.1)) c.args.cases.items) = listed ∙ case_payload_list c.args.cases.items in
    subst (λ (x : Definition). HasLayout c.in_ok-abi.abi (defined_shape (all_shapes c.args.self.now) x) × HasInfo c.in_ok-abi.info (variant_cases (defined_shape (all_shapes c.args.self.now) x)))
    (ap cases_type (sym c.in_ok-cases.ensures.ok)) (
      variant_laid (all_shapes c.args.self.now) c.in_ok-abi.abi of_cases of_option (map (λ x. (string_bytes x.0, x.1)) c.args.cases.items)
          (subst (λ (ps : List (Option InterfaceType)). HasLayout c.in_ok-abi.abi (variant of_option (unnamed_cases (all_shapes c.args.self.now) ps)))
          whole c.in_ok-abi.ensures.abi),
      variant_told (all_shapes c.args.self.now) c.in_ok-abi.info (map (λ x. (string_bytes x.0, x.1))
          c.args.cases.items) (subst (λ (ps : List (Option InterfaceType)). HasInfo c.in_ok-abi.info (unnamed_cases (all_shapes c.args.self.now) ps))
          whole c.in_ok-abi.ensures.info),
    )

pub returns-in_err-place-clause-cause : goal.returns-in_err-place-clause-cause
returns-in_err-place-clause-cause c =
    let d = cases_type c.args.cases.items in
    caused c.from_residual-in_err-place.result c.in_err-place.field-0.0 (refusal c.args.self.now d) c.from_residual-in_err-place.ensures
    (λ n. ap (refusal c.args.self.now) (ap cases_type (sym c.in_ok-cases.ensures.ok)) ∙ c.in_err-place.ensures.cause n)

pub returns-clause-ok : goal.returns-clause-ok
returns-clause-ok c =
    let d = cases_type c.args.cases.items in
    let at : c.from_u32.result ≡ length c.args.self.now.definitions = c.from_u32.ensures ∙ c.in_ok-place.ensures.ok.0 in
    adds c.args.self.now d (ty.Variant c.from_u32.result) c.enter.new.self (ap (refusal c.args.self.now) (ap cases_type (sym c.in_ok-cases.ensures.ok)) ∙ c.in_ok-place.ensures.fits)
    (c.in_ok-place.ensures.ok.1 ∙ ap (λ (x : Definition). with_definition c.args.self.now x) (ap cases_type c.in_ok-cases.ensures.ok))
    (ap Some at) (has_new is_variant c.args.self.now d c.from_u32.result at refl)
