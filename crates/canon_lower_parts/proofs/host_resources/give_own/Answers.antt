use Rattle.std.proofs.Common.{◌≡◌, ◌∙◌, ap, subst, sym, true, ℕ}
use Rattle.canon_resources.specs.Parts.{LeafMoves, is_of_type, lower_parts, passed, table_for}
use Rattle.canon_ledger.specs.Ledger.{Did, resource_new}
use Rattle.canon_resources.specs.Held.{Any, any}
use Rattle.canon_resources.specs.declared.any.ResourceAnyHandle.TheVariants as handle
use Rattle.canon_types.specs.Resource.{resource_type_at}
use Rattle.canon_types.specs.declared.resource.ResourceType.{ResourceType}
use Rattle.canon_handles.specs.declared.handle.TypedResource.TheVariants.{Component}
use Rattle.canon_lower_parts.proofs.HeldSteps.{borrow_refused, other_type, own_given, own_moved, taken_refused}
use Rattle.canon_lower_parts.proofs.host_resources.give_own.Goals as goal

pub returns-then-not-is_of_type-clause-moves : goal.returns-then-not-is_of_type-clause-moves
returns-then-not-is_of_type-clause-moves g c =
    let a = c.args in
    let l = a.core.now.ledger in
    let i = a.core.now.component.types in
    let kind = g.R.HeldResource.kind a.resource.now in
    let st = g.R.HeldResource.state a.resource.now in
    let rep = g.R.HeldResource.rep a.resource.now in
    let same : is_of_type (resource_type_at i a.t) kind ≡ c.is_of_type.result = ap (λ (k : ResourceType). is_of_type (resource_type_at i a.t) k) (sym c.kind-kind.ensures) ∙ sym c.is_of_type.ensures in
    other_type i a.t kind rep l l true st (same ∙ c.if-not-is_of_type.true)

pub returns-in-Borrow-clause-moves : goal.returns-in-Borrow-clause-moves
returns-in-Borrow-clause-moves g c =
    let a = c.args in
    let l = a.core.now.ledger in
    let i = a.core.now.component.types in
    let kind = g.R.HeldResource.kind a.resource.now in
    let st = g.R.HeldResource.state a.resource.now in
    let rep = g.R.HeldResource.rep a.resource.now in
    let same : is_of_type (resource_type_at i a.t) kind ≡ c.is_of_type.result = ap (λ (k : ResourceType). is_of_type (resource_type_at i a.t) k) (sym c.kind-kind.ensures) ∙ sym c.is_of_type.ensures in
    borrow_refused i a.t kind rep l l st (sym c.state.ensures ∙ c.in-Borrow.is) (same ∙ c.if-not-is_of_type.false)

pub returns-in-Taken-clause-moves : goal.returns-in-Taken-clause-moves
returns-in-Taken-clause-moves g c =
    let a = c.args in
    let l = a.core.now.ledger in
    let i = a.core.now.component.types in
    let kind = g.R.HeldResource.kind a.resource.now in
    let st = g.R.HeldResource.state a.resource.now in
    let rep = g.R.HeldResource.rep a.resource.now in
    let same : is_of_type (resource_type_at i a.t) kind ≡ c.is_of_type.result = ap (λ (k : ResourceType). is_of_type (resource_type_at i a.t) k) (sym c.kind-kind.ensures) ∙ sym c.is_of_type.ensures in
    taken_refused i a.t kind rep l l true st (sym c.state.ensures ∙ c.in-Taken.is) (same ∙ c.if-not-is_of_type.false)

pub returns-in-NotInTable-clause-moves : goal.returns-in-NotInTable-clause-moves
returns-in-NotInTable-clause-moves g c =
    let a = c.args in
    let l = a.core.now.ledger in
    let i = a.core.now.component.types in
    let kind = g.R.HeldResource.kind a.resource.now in
    let st = g.R.HeldResource.state a.resource.now in
    let rep = g.R.HeldResource.rep a.resource.now in
    let same : is_of_type (resource_type_at i a.t) kind ≡ c.is_of_type.result = ap (λ (k : ResourceType). is_of_type (resource_type_at i a.t) k) (sym c.kind-kind.ensures) ∙ sym c.is_of_type.ensures in
    own_given i a.t kind rep l c.resource_new.new.self.ledger st c.resource_new.result (sym c.state.ensures ∙ c.in-NotInTable.is) (same ∙ c.if-not-is_of_type.false)
    (subst (λ (n : ℕ). Did (resource_new l (table_for i a.t) (Component a.t n)) c.resource_new.result l c.resource_new.new.self.ledger) c.rep-rep.ensures c.resource_new.ensures.step)

pub returns-in-Index-clause-moves : goal.returns-in-Index-clause-moves
returns-in-Index-clause-moves g c =
    let a = c.args in
    let l = a.core.now.ledger in
    let i = a.core.now.component.types in
    let kind = g.R.HeldResource.kind a.resource.now in
    let st = g.R.HeldResource.state a.resource.now in
    let rep = g.R.HeldResource.rep a.resource.now in
    let same : is_of_type (resource_type_at i a.t) kind ≡ c.is_of_type.result = ap (λ (k : ResourceType). is_of_type (resource_type_at i a.t) k) (sym c.kind-kind.ensures) ∙ sym c.is_of_type.ensures in
    own_moved i a.t kind rep l c.lower_own.new.self.ledger st c.in-Index.idx c.lower_own.result (sym c.state.ensures ∙ c.in-Index.is)
    (subst (λ (x : Any). LeafMoves l c.lower_own.new.self.ledger (lower_parts i (passed true a.t x)) c.lower_own.result) (c.new.ensures
    ∙ ap (λ (k : ResourceType). any (handle.Own c.in-Index.idx) k) c.kind-kind.ensures) c.lower_own.ensures.moves)
