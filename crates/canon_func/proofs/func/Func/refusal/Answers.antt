use Rattle.std.proofs.Common.{ap, subst, sym, ◌≡◌, ◌∙◌}
use Rattle.canon_func.specs.Call.{call_refusal, entry_refusal}
use Rattle.canon_func.specs.Stores.{callee_in, export_callee}
use Rattle.canon_func.proofs.Counts.{Counts, by_count, by_entry, counts_of}
use Rattle.canon_func.proofs.func.Func.refusal.Goals as goal

pub returns-then-not-has_counts : goal.returns-then-not-has_counts
returns-then-not-has_counts g c =
    let store = c.args.store.now in
    let callee = export_callee store.core.component c.export_in-export.result in
    let same : c.component-component.result.now ≡ store.core.component = c.component-component.ensures.component ∙ ap (λ k. k.component) c.core.ensures in
    let counted : c.has_counts.result ≡ Counts callee c.args.params c.args.results store.trapped =
    counts_of store.core.component c.export_in-export.result c.types.result.now c.args.params c.args.results store.trapped c.has_counts.result (c.types.ensures ∙ ap (λ k. k.types.types) same) c.has_counts.ensures in
    rw c.export_in-export.ensures.found (by_count callee c.args.params c.args.results store.trapped c.has_counts.result counted c.if-not-has_counts.true)

pub returns : goal.returns
returns g c =
    let store = c.args.store.now in
    let callee = export_callee store.core.component c.export_in-export.result in
    let same : c.component-component.result.now ≡ store.core.component = c.component-component.ensures.component ∙ ap (λ k. k.component) c.core.ensures in
    let counted : c.has_counts.result ≡ Counts callee c.args.params c.args.results store.trapped =
    counts_of store.core.component c.export_in-export.result c.types.result.now c.args.params c.args.results store.trapped c.has_counts.result (c.types.ensures ∙ ap (λ k. k.types.types) same) c.has_counts.ensures in
    c.entry_refusal.ensures ∙ subst (λ o. entry_refusal (callee_in store.core.component o) store.trapped ≡ call_refusal (callee_in store.core.component o) c.args.params c.args.results store.trapped) (sym c.export_in-export.ensures.found)
    (by_entry callee c.args.params c.args.results store.trapped c.has_counts.result counted c.if-not-has_counts.false)
