use Rattle.std.proofs.Common.{All, ap, subst, sym, ◌∙◌}
use Rattle.std.specs.List.{AllZip}
use Rattle.std.specs.Map.{keys_of, values_of}
use Rattle.std.proofs.lemmas.Bool.{false≢true}
use Rattle.canon_types.specs.Keeps.{names_of}
use Rattle.canon_types.specs.Table.{KnowsPayload}
use Rattle.canon_named.specs.Named.{AnyZip, FailsPayload, PassesPayload}
use Rattle.canon_named.proofs.Definitions.{all_payloads_known, cases_found, cases_told}
use Rattle.canon_named.proofs.Zips.{on_err_then, on_ok_then}
use Rattle.canon_named.proofs.named.typecheck_variant.Goals as goal

pub returns-then-not-are_same_names-clause-err : goal.returns-then-not-are_same_names-clause-err
returns-then-not-are_same_names-clause-err g c payloads h =
    let keys = c.as_slice.ensures ∙ c.keys.ensures.rest ∙ ap keys_of c.as_slice-cases.ensures.entries in
    let told = cases_told _ _ _ _ c.types.ensures _ c.in-Variant.is c.variant.ensures.entry _ payloads h in
    absurd (false≢true (sym c.if-not-are_same_names.true ∙ c.are_same_names.ensures.1 (ap names_of keys ∙ told.0)))

pub pass_payloads-requires-clause-known : goal.pass_payloads-requires-clause-known
pass_payloads-requires-clause-known g c =
    let values = c.as_slice-2.ensures ∙ c.values.ensures.rest ∙ ap values_of c.as_slice-cases.ensures.entries in
    subst (All (KnowsPayload c.args.types.now.types)) (sym values) (all_payloads_known _ _ _ _ c.types.ensures _ c.in-Variant.is c.variant.ensures.entry)

pub returns-clause-ok : goal.returns-clause-ok
returns-clause-ok g c =
    let keys = c.as_slice.ensures ∙ c.keys.ensures.rest ∙ ap keys_of c.as_slice-cases.ensures.entries in
    let values = c.as_slice-2.ensures ∙ c.values.ensures.rest ∙ ap values_of c.as_slice-cases.ensures.entries in
    let found = cases_found _ _ _ _ c.types.ensures _ c.in-Variant.is c.variant.ensures.entry _ (sym (ap names_of keys) ∙ c.are_same_names.ensures.0 c.if-not-are_same_names.false) in
    on_ok_then c.pass_payloads.result (λ all. (_, found, subst (AllZip (PassesPayload _ c.args.types.now) c.args.parts.now) values all)) c.pass_payloads.ensures.ok

pub returns-clause-err : goal.returns-clause-err
returns-clause-err g c =
    let values = c.as_slice-2.ensures ∙ c.values.ensures.rest ∙ ap values_of c.as_slice-cases.ensures.entries in
    on_err_then c.pass_payloads.result
    (λ any payloads h. subst (AnyZip (FailsPayload _ c.args.types.now) c.args.parts.now)
    (values ∙ (cases_told _ _ _ _ c.types.ensures _ c.in-Variant.is c.variant.ensures.entry _ payloads h).1) any)
    c.pass_payloads.ensures.err
