use Rattle.std.proofs.Common.{Some, ap, codes, length, map, option_and_then, sym, ℕ, ◌≡◌, ◌∙◌}
use Rattle.std.proofs.lemmas.List.{map-id}
use Rattle.serde_json.specs.Find.{get}
use Rattle.serde_json.specs.View.{view}
use Rattle.canon_json.specs.Json.{each_of}
use Rattle.canon_layout.specs.Entries.{reference_of}
use Rattle.canon_script.specs.Imports.{answer_view, host_answer_of}
use Rattle.canon_script.proofs.Imported.{host_given}
use Rattle.canon_script.proofs.imports.host_of.Goals as goal

pub returns : goal.returns
returns c =
    let d = view c.args.v.now in
    let types = c.args.types.now in
    let many : c.len.result ≡ length c.in_ok-results.results.items = c.len.ensures ∙ c.in_ok-results.results.ok.0 in
    let references = option_and_then (each_of (reference_of types)) in
    host_given types d c.in_ok-params.params.items c.in_ok-results.results.items (map answer_view c.in_ok-answers.answers.items)
    (ap references (sym c.get.ensures) ∙ (c.in_ok-params.ensures ∙ ap (λ ts. Some ts) (map-id _)))
    (ap references (sym c.get-2.ensures) ∙ (c.in_ok-results.ensures ∙ ap (λ ts. Some ts) (map-id _)))
    (ap (λ (n : ℕ). option_and_then (each_of (host_answer_of n)) (get (codes "answers") d)) (sym many) ∙ (ap (option_and_then (each_of (host_answer_of c.len.result))) (sym c.get-3.ensures) ∙ c.in_ok-answers.ensures))
