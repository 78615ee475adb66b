use Rattle.std.proofs.Common.{All, ap, map, string_bytes, subst, sym, ◌∙◌}
use Rattle.std.specs.List.{AllZip}
use Rattle.std.proofs.lemmas.Bool.{false≢true}
use Rattle.canon_types.specs.Table.{Knows}
use Rattle.canon_named.specs.Named.{AnswersTest, AnyZip, test_failed, test_passed}
use Rattle.canon_named.proofs.Definitions.{all_fields_known, fields_found, fields_told}
use Rattle.canon_named.proofs.Zips.{on_err_then, on_ok_then}
use Rattle.canon_named.proofs.named.typecheck_record.Goals as goal

pub returns-then-not-are_field_names-clause-err : goal.returns-then-not-are_field_names-clause-err
returns-then-not-are_field_names-clause-err g c types h =
    let fields = c.as_slice-fields.ensures.value in
    let told = fields_told _ _ _ _ c.types.ensures _ c.in-Record.is c.record.ensures.entry _ types h in
    absurd (false≢true (sym c.if-not-are_field_names.true ∙ c.are_field_names.ensures.1 (ap (map (λ f. string_bytes f.name)) fields ∙ told.0)))

pub pass_fields-requires-clause-known : goal.pass_fields-requires-clause-known
pass_fields-requires-clause-known g c =
    subst (All (λ f. Knows c.args.types.now.types f.ty)) (sym c.as_slice-fields.ensures.value) (all_fields_known _ _ _ _ c.types.ensures _ c.in-Record.is c.record.ensures.entry)

pub returns-clause-ok : goal.returns-clause-ok
returns-clause-ok g c =
    let fields = c.as_slice-fields.ensures.value in
    let found = fields_found _ _ _ _ c.types.ensures _ c.in-Record.is c.record.ensures.entry _ (sym (ap (map (λ f. string_bytes f.name)) fields) ∙ c.are_field_names.ensures.0 c.if-not-are_field_names.false) in
    on_ok_then c.pass_fields.result (λ all. (_, found, subst (AllZip (AnswersTest _ c.args.types.now test_passed) c.args.parts.now) (ap (map (λ f. f.ty)) fields) all)) c.pass_fields.ensures.ok

pub returns-clause-err : goal.returns-clause-err
returns-clause-err g c =
    on_err_then c.pass_fields.result
    (λ any types h. subst (AnyZip (AnswersTest _ c.args.types.now test_failed) c.args.parts.now)
    (ap (map (λ f. f.ty)) c.as_slice-fields.ensures.value ∙ (fields_told _ _ _ _ c.types.ensures _ c.in-Record.is c.record.ensures.entry _ types h).1) any)
    c.pass_fields.ensures.err
