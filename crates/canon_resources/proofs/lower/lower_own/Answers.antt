use Rattle.std.proofs.Common.{Err, List, None, Ok, Some, [], inl, refl, subst, sym, true, ℕ, ◌∙◌, ◌≡◌, ◌∷◌}
use Rattle.canon_handles.specs.declared.handle.TypedResource.TheVariants.{Component}
use Rattle.canon_ledger.specs.Ledger.{Did, resource_new}
use Rattle.canon_ledger.specs.declared.fault.ResourceFault.TheVariants as fault
use Rattle.canon_resources.specs.Held.{host_index}
use Rattle.canon_types.specs.Resource.{resource_type_at}
use Rattle.canon_resources.specs.Parts.{LeafMoves, Part, is_of_type, own_in, refuse, table_for, take_host}
use Rattle.canon_resources.proofs.Moves.{Does, is_given, lowered_by, lowered_not, moves_both, moves_not, moves_one, own_parts_at, own_parts_none}
use Rattle.canon_resources.proofs.lower.lower_own.Goals as goal

pub returns-then-not-is_of_type-clause-moves : goal.returns-then-not-is_of_type-clause-moves
returns-then-not-is_of_type-clause-moves c =
    let a = c.args in
    let i = a.types.now in
    let before = a.ledger.now in
    lowered_not i true a.ty a.resource before before (Err fault.ResourceTypeMismatch)
    (is_given (resource_type_at i a.ty) c.is_of_type.result c.ty-given.result a.resource.ty c.ty-given.ensures c.is_of_type.ensures ∙ c.if-not-is_of_type.true) refl refl

pub returns-in-None-clause-moves : goal.returns-in-None-clause-moves
returns-in-None-clause-moves c =
    let a = c.args in
    let i = a.types.now in
    let before = a.ledger.now in
    let e : is_of_type (resource_type_at i a.ty) a.resource.ty ≡ true = is_given (resource_type_at i a.ty) c.is_of_type.result c.ty-given.result a.resource.ty c.ty-given.ensures c.is_of_type.ensures ∙ c.if-not-is_of_type.false in
    let none : host_index a.resource.handle ≡ None = sym c.host_index.ensures ∙ c.in-None.is in
    lowered_by i true a.ty a.resource before before (Err fault.BorrowAsOwn) e
    (subst (λ (ps : List Part). LeafMoves before before ps (Err fault.BorrowAsOwn)) (sym (own_parts_none (table_for i a.ty) a.ty a.resource.handle none))
    (moves_one before before (refuse fault.BorrowAsOwn) (Err fault.BorrowAsOwn) (λ last. inl (refl, refl))))

pub returns-in-Err-clause-moves : goal.returns-in-Err-clause-moves
returns-in-Err-clause-moves c =
    let a = c.args in
    let i = a.types.now in
    let before = a.ledger.now in
    let p = table_for i a.ty in
    let after = c.take_host.new.ledger in
    let e : is_of_type (resource_type_at i a.ty) a.resource.ty ≡ true = is_given (resource_type_at i a.ty) c.is_of_type.result c.ty-given.result a.resource.ty c.ty-given.ensures c.is_of_type.ensures ∙ c.if-not-is_of_type.false in
    let some : host_index a.resource.handle ≡ Some c.in-Some.index = sym c.host_index.ensures ∙ c.in-Some.is in
    lowered_by i true a.ty a.resource before after (Err c.in-Err.fault) e
    (subst (λ (ps : List Part). LeafMoves before after ps (Err c.in-Err.fault)) (sym (own_parts_at p a.ty a.resource.handle c.in-Some.index some))
    (moves_not before after (take_host c.in-Some.index) (own_in p a.ty ∷ []) c.in-Err.fault (λ last. inl (sym c.in-Err.ensures.step.0, c.in-Err.ensures.step.1))))

pub returns-clause-moves : goal.returns-clause-moves
returns-clause-moves c =
    let a = c.args in
    let i = a.types.now in
    let before = a.ledger.now in
    let p = table_for i a.ty in
    let mid = c.take_host.new.ledger in
    let after = c.insert_own.new.ledger in
    let rep = c.in-Ok.rep in
    let r = c.insert_own.result in
    let e : is_of_type (resource_type_at i a.ty) a.resource.ty ≡ true = is_given (resource_type_at i a.ty) c.is_of_type.result c.ty-given.result a.resource.ty c.ty-given.ensures c.is_of_type.ensures ∙ c.if-not-is_of_type.false in
    let some : host_index a.resource.handle ≡ Some c.in-Some.index = sym c.host_index.ensures ∙ c.in-Some.is in
    let first : Does (take_host c.in-Some.index) before mid (Ok rep) = λ last. (sym c.in-Ok.ensures.step.0, c.in-Ok.ensures.step.1) in
    lowered_by i true a.ty a.resource before after r e
    (subst (λ (ps : List Part). LeafMoves before after ps r) (sym (own_parts_at p a.ty a.resource.handle c.in-Some.index some))
    (moves_both before mid after (take_host c.in-Some.index) (own_in p a.ty) rep first r
    (subst (λ (q : ℕ). Did (resource_new mid q (Component a.ty rep)) r mid after) c.table_for-table.ensures.number c.insert_own.ensures.step)))
