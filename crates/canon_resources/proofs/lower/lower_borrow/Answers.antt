use Rattle.std.proofs.Common.{Bool, Err, Ok, false, refl, subst, sym, true, ℕ, ◌∙◌, ◌≡◌}
use Rattle.canon_handles.specs.declared.handle.TypedResource.TheVariants.{Component}
use Rattle.canon_ledger.specs.Handles.{top_scope}
use Rattle.canon_ledger.specs.Ledger.{Did, resource_lower_borrow}
use Rattle.canon_ledger.specs.declared.fault.ResourceFault.TheVariants as fault
use Rattle.canon_types.specs.Resource.{resource_type_at}
use Rattle.canon_resources.specs.Parts.{LeafMoves, borrow_in, borrow_parts, is_defined_here, is_of_type, lent_part, table_for}
use Rattle.canon_resources.proofs.Moves.{borrow_not, is_given, lowered_by, lowered_not, moves_both, moves_one}
use Rattle.canon_resources.proofs.lower.lower_borrow.Goals as goal

pub returns-then-not-is_of_type-clause-moves : goal.returns-then-not-is_of_type-clause-moves
returns-then-not-is_of_type-clause-moves c =
    let a = c.args in
    let i = a.types.now in
    let before = a.ledger.now in
    lowered_not i false a.ty a.resource before before (Err fault.ResourceTypeMismatch) (is_given (resource_type_at i a.ty) c.is_of_type.result c.ty.result a.resource.ty c.ty.ensures c.is_of_type.ensures ∙ c.if-not-is_of_type.true) refl refl

pub returns-in-Err-clause-moves : goal.returns-in-Err-clause-moves
returns-in-Err-clause-moves c =
    let a = c.args in
    let i = a.types.now in
    let before = a.ledger.now in
    let h = a.resource.handle in
    let after = c.lend_passed.new.ledger in
    let e : is_of_type (resource_type_at i a.ty) a.resource.ty ≡ true = is_given (resource_type_at i a.ty) c.is_of_type.result c.ty.result a.resource.ty c.ty.ensures c.is_of_type.ensures ∙ c.if-not-is_of_type.false in
    lowered_by i false a.ty a.resource before after (Err c.in-Err.fault) e
    (borrow_not (is_defined_here i a.ty) (table_for i a.ty) a.ty h before after c.in-Err.fault c.in-Err.ensures.step)

pub returns-then-is_defined_here-clause-moves : goal.returns-then-is_defined_here-clause-moves
returns-then-is_defined_here-clause-moves c =
    let a = c.args in
    let i = a.types.now in
    let before = a.ledger.now in
    let h = a.resource.handle in
    let after = c.lend_passed.new.ledger in
    let e : is_of_type (resource_type_at i a.ty) a.resource.ty ≡ true = is_given (resource_type_at i a.ty) c.is_of_type.result c.ty.result a.resource.ty c.ty.ensures c.is_of_type.ensures ∙ c.if-not-is_of_type.false in
    let here : is_defined_here i a.ty ≡ true = sym c.is_defined_here.ensures ∙ c.if-is_defined_here.true in
    lowered_by i false a.ty a.resource before after (Ok c.in-Ok.rep) e
    (subst (λ (b : Bool). LeafMoves before after (borrow_parts b (table_for i a.ty) a.ty h) (Ok c.in-Ok.rep)) (sym here)
    (moves_one before after (lent_part h) (Ok c.in-Ok.rep) c.in-Ok.ensures.step))

pub returns-clause-moves : goal.returns-clause-moves
returns-clause-moves c =
    let a = c.args in
    let i = a.types.now in
    let before = a.ledger.now in
    let h = a.resource.handle in
    let p = table_for i a.ty in
    let mid = c.lend_passed.new.ledger in
    let after = c.insert_borrow.new.ledger in
    let rep = c.in-Ok.rep in
    let r = c.insert_borrow.result in
    let e : is_of_type (resource_type_at i a.ty) a.resource.ty ≡ true = is_given (resource_type_at i a.ty) c.is_of_type.result c.ty.result a.resource.ty c.ty.ensures c.is_of_type.ensures ∙ c.if-not-is_of_type.false in
    let away : is_defined_here i a.ty ≡ false = sym c.is_defined_here.ensures ∙ c.if-is_defined_here.false in
    lowered_by i false a.ty a.resource before after r e
    (subst (λ (b : Bool). LeafMoves before after (borrow_parts b p a.ty h) r) (sym away)
    (moves_both before mid after (lent_part h) (borrow_in p a.ty) rep c.in-Ok.ensures.step r
    (subst (λ (q : ℕ). Did (resource_lower_borrow (top_scope mid.handles) mid q (Component a.ty rep)) r mid after) c.table_for-table.ensures.number c.insert_borrow.ensures.step)))
