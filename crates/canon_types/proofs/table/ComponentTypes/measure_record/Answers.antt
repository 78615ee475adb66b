use Rattle.std.proofs.Common.{List, Some, None, ap, arith, length, map, string_bytes, subst, sym, ℕ, ◌<◌, ◌==◌, ◌^◌, ◌∙◌, ◌≡◌, ◌≤◌}
use Rattle.std.proofs.lemmas.Bool.Decides.{nat_tests}
use Rattle.std.proofs.lemmas.Grind.{common_steps}
use Rattle.canon_abi.specs.Abi.{HasLayout}
use Rattle.canon_abi.specs.Abi.{wider_size}
use Rattle.canon_model.specs.Shape.{Name, of_fields, of_places, product}
use Rattle.canon_types.specs.Keeps.{fields_type}
use Rattle.canon_types.specs.declared.types.InterfaceType.{InterfaceType}
use Rattle.canon_types.specs.declared.types.RecordField.{RecordField}
use Rattle.canon_types.specs.Refusal.{is_empty, names, names_refusal, refusal}
use Rattle.canon_types.specs.Table.{TypeTable, all_shapes, fields_in, members_of, parts}
use Rattle.canon_types.proofs.Adding.{Before, before, deep_refused, large_refused, passed_parts, refused_by_parts}
use Rattle.canon_types.proofs.Laid.{fields_laid, fields_bytes}
use Rattle.canon_types.proofs.Made.{caused, field_names, field_parts, fields_empty, names_apart, names_refused}
use Rattle.canon_types.proofs.Measured.{measured_by}
use Rattle.canon_types.proofs.table.ComponentTypes.measure_record.Goals as goal

bytes_same : (t : TypeTable) (fields : List RecordField) (types : List InterfaceType) → types ≡ parts (fields_type fields)
    → wider_size (product of_places (members_of t types)) ≡ wider_size (product of_fields (fields_in (all_shapes t) (map (λ f. (string_bytes f.name, f.ty)) fields)))
bytes_same t fields types same =
    ap (λ (ts : List InterfaceType). wider_size (product of_places (members_of t ts))) same
    ∙ sym (fields_bytes (all_shapes t) of_fields of_places (map (λ f. (string_bytes f.name, f.ty)) fields))

pub returns-in_err-check_parts-clause-cause : goal.returns-in_err-check_parts-clause-cause
returns-in_err-check_parts-clause-cause c =
    let d = fields_type c.args.fields.now in
    let same : c.args.parts.now ≡ parts d = c.requires ∙ field_parts c.args.fields.now in
    let empty : c.is_empty.result ≡ is_empty d = (let e : c.is_empty.result ≡ (length c.args.parts.now == 0) = grind (arith, common_steps, nat_tests) in e) ∙ fields_empty c.args.fields.now c.args.parts.now same in
    caused c.from_residual.result c.in_err-check_parts.field-0.0 (refusal c.args.self.now d) c.from_residual.ensures
    (λ _. refused_by_parts c.args.self.now d c.args.parts.now c.is_empty.result c.in_err-check_parts.field-0.0 same empty c.in_err-check_parts.ensures)

pub returns-in_err-check_fields-clause-cause : goal.returns-in_err-check_fields-clause-cause
returns-in_err-check_fields-clause-cause c =
    let d = fields_type c.args.fields.now in
    let same : c.args.parts.now ≡ parts d = c.requires ∙ field_parts c.args.fields.now in
    let empty : c.is_empty.result ≡ is_empty d = (let e : c.is_empty.result ≡ (length c.args.parts.now == 0) = grind (arith, common_steps, nat_tests) in e) ∙ fields_empty c.args.fields.now c.args.parts.now same in
    caused c.from_residual-in_err-check_fields.result c.in_err-check_fields.field-0.0 (refusal c.args.self.now d) c.from_residual-in_err-check_fields.ensures
    (λ n. names_refused c.args.self.now d c.args.parts.now c.is_empty.result c.in_err-check_fields.field-0.0 same empty c.in_ok-check_parts.ensures
    (ap (λ (ns : List Name). names_refusal ns 1048576) (sym (field_names c.args.fields.now)) ∙ c.in_err-check_fields.ensures.cause n))

pub returns-in_err-depth-clause-cause : goal.returns-in_err-depth-clause-cause
returns-in_err-depth-clause-cause c =
    let d = fields_type c.args.fields.now in
    let same : c.args.parts.now ≡ parts d = c.requires ∙ field_parts c.args.fields.now in
    let empty : c.is_empty.result ≡ is_empty d = (let e : c.is_empty.result ≡ (length c.args.parts.now == 0) = grind (arith, common_steps, nat_tests) in e) ∙ fields_empty c.args.fields.now c.args.parts.now same in
    let apart : names_refusal (names d) 1048576 ≡ None = ap (λ (ns : List Name). names_refusal ns 1048576) (sym (field_names c.args.fields.now)) ∙ c.in_ok-check_fields.ensures.fits in
    caused c.from_residual-in_err-depth.result c.in_err-depth.field-0.0 (refusal c.args.self.now d) c.from_residual-in_err-depth.ensures
    (λ _. deep_refused c.args.self.now d c.args.parts.now c.args.parts.now c.is_empty.result same same empty c.in_ok-check_parts.ensures apart c.in_err-depth.ensures.cause.1 ∙ ap Some (sym c.in_err-depth.ensures.cause.0))

pub returns-in_err-abi-clause-cause : goal.returns-in_err-abi-clause-cause
returns-in_err-abi-clause-cause c =
    let d = fields_type c.args.fields.now in
    let same : c.args.parts.now ≡ parts d = c.requires ∙ field_parts c.args.fields.now in
    let empty : c.is_empty.result ≡ is_empty d = (let e : c.is_empty.result ≡ (length c.args.parts.now == 0) = grind (arith, common_steps, nat_tests) in e) ∙ fields_empty c.args.fields.now c.args.parts.now same in
    let apart : names_refusal (names d) 1048576 ≡ None = ap (λ (ns : List Name). names_refusal ns 1048576) (sym (field_names c.args.fields.now)) ∙ c.in_ok-check_fields.ensures.fits in
    let b : Before c.args.self.now d = before c.args.self.now d c.args.parts.now c.args.parts.now c.is_empty.result c.in_ok-depth.depth same same empty c.in_ok-check_parts.ensures apart c.in_ok-depth.ensures.depth c.in_ok-depth.ensures.fits in
    caused c.from_residual-in_err-abi.result c.in_err-abi.field-0.0 (refusal c.args.self.now d) c.from_residual-in_err-abi.ensures
    (λ n. let h = c.in_err-abi.ensures.cause n in large_refused c.args.self.now d b (subst (λ (k : ℕ). 2 ^ 32 ≤ k) (bytes_same c.args.self.now c.args.fields.now c.args.parts.now same) h.1) ∙ ap Some (sym h.0))

pub returns-clause-measured : goal.returns-clause-measured
returns-clause-measured c =
    let d = fields_type c.args.fields.now in
    let same : c.args.parts.now ≡ parts d = c.requires ∙ field_parts c.args.fields.now in
    let empty : c.is_empty.result ≡ is_empty d = (let e : c.is_empty.result ≡ (length c.args.parts.now == 0) = grind (arith, common_steps, nat_tests) in e) ∙ fields_empty c.args.fields.now c.args.parts.now same in
    let apart : names_refusal (names d) 1048576 ≡ None = ap (λ (ns : List Name). names_refusal ns 1048576) (sym (field_names c.args.fields.now)) ∙ c.in_ok-check_fields.ensures.fits in
    let b : Before c.args.self.now d = before c.args.self.now d c.args.parts.now c.args.parts.now c.is_empty.result c.in_ok-depth.depth same same empty c.in_ok-check_parts.ensures apart c.in_ok-depth.ensures.depth c.in_ok-depth.ensures.fits in
    let known = passed_parts c.args.self.now c.args.parts.now c.is_empty.result (sym c.in_ok-check_parts.ensures) in
    measured_by c.args.self.now d c.args.parts.now c.in_ok-depth.depth c.in_ok-depth.has_borrow b same known c.in_ok-depth.ensures.depth c.in_ok-depth.ensures.borrows (names_apart (names d) 1048576 apart)
    (subst (λ (n : ℕ). n < 2 ^ 32) (bytes_same c.args.self.now c.args.fields.now c.args.parts.now same) c.in_ok-abi.ensures.fits)

pub returns-clause-abi : goal.returns-clause-abi
returns-clause-abi c =
    let same = c.requires ∙ field_parts c.args.fields.now in
    fields_laid (all_shapes c.args.self.now) c.in_ok-abi.abi of_fields of_places (map (λ f. (string_bytes f.name, f.ty)) c.args.fields.now)
    (subst (λ (ts : List InterfaceType). HasLayout c.in_ok-abi.abi (product of_places (members_of c.args.self.now ts))) same c.in_ok-abi.ensures.ok)
