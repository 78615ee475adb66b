use Rattle.std.proofs.Common.{ap, sym, ◌≡◌, ◌∙◌}
use Rattle.canon_func.specs.Stores.{export_callee}
use Rattle.canon_func.proofs.Counts.{by_async, by_none, by_trap}
use Rattle.canon_func.proofs.func.Func.entry_refusal.Goals as goal

pub returns-then-options_of : goal.returns-then-options_of
returns-then-options_of g c =
    let store = c.args.store.now in
    let export = c.export_in-export.result in
    let callee = export_callee store.core.component export in
    let told : c.options_of.result.async_ ≡ callee.async_ = c.options_of.ensures.is_async ∙ ap (λ k. (export_callee k export).async_) (c.component.ensures.component ∙ ap (λ k. k.component) c.core.ensures) in
    rw c.export_in-export.ensures.found (by_async callee store.trapped (sym told ∙ c.if-options_of.true))

pub returns-then-is_trapped : goal.returns-then-is_trapped
returns-then-is_trapped g c =
    let store = c.args.store.now in
    let export = c.export_in-export.result in
    let callee = export_callee store.core.component export in
    let told : c.options_of.result.async_ ≡ callee.async_ = c.options_of.ensures.is_async ∙ ap (λ k. (export_callee k export).async_) (c.component.ensures.component ∙ ap (λ k. k.component) c.core.ensures) in
    rw c.export_in-export.ensures.found (by_trap callee store.trapped (sym told ∙ c.if-options_of.false) (sym c.is_trapped.ensures ∙ c.if-is_trapped.true))

pub returns : goal.returns
returns g c =
    let store = c.args.store.now in
    let export = c.export_in-export.result in
    let callee = export_callee store.core.component export in
    let told : c.options_of.result.async_ ≡ callee.async_ = c.options_of.ensures.is_async ∙ ap (λ k. (export_callee k export).async_) (c.component.ensures.component ∙ ap (λ k. k.component) c.core.ensures) in
    rw c.export_in-export.ensures.found (by_none callee store.trapped (sym told ∙ c.if-options_of.false) (sym c.is_trapped.ensures ∙ c.if-is_trapped.false))
