use Rattle.std.proofs.Common.{◌≡◌, ◌∙◌, None, Ok, ap, false, subst, sym, ℕ}
use Rattle.canon_context.specs.Core.{Parts}
use Rattle.canon_resources.specs.Parts.{LeafMoves, is_of_type, lower_parts, passed}
use Rattle.canon_ledger.specs.Ledger.{Did, given, host_resource_lower_own}
use Rattle.canon_resources.specs.Held.{Any, any}
use Rattle.canon_resources.specs.declared.any.ResourceAnyHandle.TheVariants as handle
use Rattle.canon_types.specs.Instance.{Instance}
use Rattle.canon_types.specs.Resource.{resource_type_at}
use Rattle.canon_types.specs.declared.resource.ResourceType.{ResourceType}
use Rattle.canon_lower_parts.proofs.HeldSteps.{lent_new, other_type, taken_refused}
use Rattle.canon_lower_parts.proofs.host_resources.lend.Goals as goal

pub returns-then-not-is_of_type-clause-moves : goal.returns-then-not-is_of_type-clause-moves
returns-then-not-is_of_type-clause-moves g c =
    let a = c.args in
    let l = a.core.now.ledger in
    let i = a.core.now.component.types in
    let kind = g.R.HeldResource.kind a.resource.now in
    let st = g.R.HeldResource.state a.resource.now in
    let rep = g.R.HeldResource.rep a.resource.now in
    let same : is_of_type (resource_type_at i a.t) kind ≡ c.is_of_type.result = ap (λ (k : ResourceType). is_of_type (resource_type_at i a.t) k) (sym c.kind-kind.ensures) ∙ sym c.is_of_type.ensures in
    other_type i a.t kind rep l l false st (same ∙ c.if-not-is_of_type.true)

pub returns-in-Taken-clause-moves : goal.returns-in-Taken-clause-moves
returns-in-Taken-clause-moves g c =
    let a = c.args in
    let l = a.core.now.ledger in
    let i = a.core.now.component.types in
    let kind = g.R.HeldResource.kind a.resource.now in
    let st = g.R.HeldResource.state a.resource.now in
    let rep = g.R.HeldResource.rep a.resource.now in
    let same : is_of_type (resource_type_at i a.t) kind ≡ c.is_of_type.result = ap (λ (k : ResourceType). is_of_type (resource_type_at i a.t) k) (sym c.kind-kind.ensures) ∙ sym c.is_of_type.ensures in
    taken_refused i a.t kind rep l l false st (sym c.state.ensures ∙ c.in-Taken.is) (same ∙ c.if-not-is_of_type.false)

pub returns-in-Ok-clause-moves : goal.returns-in-Ok-clause-moves
returns-in-Ok-clause-moves g c =
    let a = c.args in
    let l = a.core.now.ledger in
    let i = a.core.now.component.types in
    let kind = g.R.HeldResource.kind a.resource.now in
    let st = g.R.HeldResource.state a.resource.now in
    let rep = g.R.HeldResource.rep a.resource.now in
    let same : is_of_type (resource_type_at i a.t) kind ≡ c.is_of_type.result = ap (λ (k : ResourceType). is_of_type (resource_type_at i a.t) k) (sym c.kind-kind.ensures) ∙ sym c.is_of_type.ensures in
    let m = c.host_resource_lower_own.new.self.ledger in
    let n = c.lower_borrow-in-Ok.new.self.ledger in
    let q = c.lower_borrow-in-Ok.result in
    lent_new i a.t kind rep l n st (sym c.state.ensures ∙ c.in-NotInTable.is) (same ∙ c.if-not-is_of_type.false) m c.in-Ok.idx q
    (subst (λ (k : ℕ). Did (given l (host_resource_lower_own l k None None)) (Ok c.in-Ok.idx) l m) c.rep-rep.ensures c.in-Ok.ensures.step)
    (subst (λ (x : Any). LeafMoves m n (lower_parts i (passed false a.t x)) q) (c.new.ensures ∙ ap (λ (k : ResourceType). any (handle.Own c.in-Ok.idx) k) c.kind-kind.ensures)
    (subst (λ (j : Instance). LeafMoves m n (lower_parts j (passed false a.t c.new.result)) q) (ap (λ (x : Parts g.row.D.Denot g.row.G.Denot). x.component.types) c.in-Ok.ensures.same) c.lower_borrow-in-Ok.ensures.moves))
