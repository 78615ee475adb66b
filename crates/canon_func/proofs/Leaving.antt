-- A scope that ended is empty, and stays so while own handles are lifted.
use Rattle.std.proofs.Common.{Bool, Err, List, None, Ok, Option, Some, [], ap, refl, subst, sym, true, ℕ, ◌==◌, ◌∙◌, ◌∷◌, ◌≡◌}
use Rattle.std.specs.Prelude.{false, not}
use Rattle.canon_handles.specs.Step.{refuse_if}
use Rattle.canon_ledger.specs.Handles.{Handles, OpenScope, StepAnswer, can_leave, exit_scope, opened, scope_at, top_scope}
use Rattle.canon_ledger.specs.Ledger.{LedgerState, plainly}
use Rattle.canon_ledger.specs.declared.fault.ResourceFault.{ResourceFault}
use Rattle.canon_ledger.specs.declared.fault.ResourceFault.TheVariants as fault
use Rattle.canon_resources.specs.Parts.{LeafTakes, LeavesLift, lift_parts, lifted_parts, refusal_of}
use Rattle.canon_model.specs.Leaves.{Leaf}
use Rattle.canon_resources.specs.Held.{Any}
use Rattle.canon_types.specs.Instance.{Instance}
use Rattle.canon_reading.specs.OwnScopes.{own_lifted}
use Rattle.canon_func.specs.Call.{scope_exit}
use Rattle.canon_func.proofs.Owned.{AreOwned}
use Rattle.canon_ledger.proofs.LeavingLemmas.{empty_leaves, ended_empty, err_is}

-- ---- own handles that are lifted

leaf_lifted : (i : Instance) (l n : LedgerState) (leaf : Leaf) (h : ℕ) → leaf.owned ≡ true → LeafTakes l (lift_parts i leaf) h n → n.handles.scopes ≡ l.handles.scopes
leaf_lifted i l n leaf h owned takes = own_lifted i l n leaf.resource leaf.index h (subst (λ (b : Bool). LeafTakes l (lifted_parts b i leaf.resource leaf.index) h n) owned takes)

pub lifts_scopes : (i : Instance) (l n : LedgerState) (leaves : List Leaf) (xs : List Any) → AreOwned leaves → LeavesLift i l leaves xs n → n.handles.scopes ≡ l.handles.scopes
lifts_scopes i l n [] xs owned lifts = ap (λ (m : LedgerState). m.handles.scopes) lifts.1
lifts_scopes i l n (leaf ∷ leaves) xs owned (h, rest, mid, is, takes, more) = lifts_scopes i mid n leaves rest owned.1 more ∙ leaf_lifted i l mid leaf h owned.0 takes

-- ---- the end of a scope

-- by its scopes alone
abbrev leaves_by : List OpenScope → Bool
leaves_by scopes = can_leave (record { tables = []; counter = record { live = 0; limit = 0 }; scopes = scopes })

-- so the scope may be left
pub call_ended_leaves : (l m : LedgerState) → scope_exit l ≡ record { answer = Ok tt; after = m } → can_leave m.handles ≡ true
call_ended_leaves l m e = empty_leaves m.handles (ended_empty l m e)

-- also once handles were lifted that keep the scopes
pub lifted_leaves : (l ended m : LedgerState) → scope_exit l ≡ record { answer = Ok tt; after = ended } → m.handles.scopes ≡ ended.handles.scopes → can_leave m.handles ≡ true
lifted_leaves l ended m ends same = ap leaves_by same ∙ call_ended_leaves l ended ends

-- ---- refusals of the end

refusal_not : (b : Bool) (answer : StepAnswer (Unit {0})) (l : LedgerState) (u : Handles) (e : ResourceFault) → answer ≡ Ok (tt, u) → (plainly (refuse_if b fault.BorrowsRemain answer) l).answer ≡ Err e → refusal_of e ≡ Some e
refusal_not true answer l u e is h = rw (sym (err_is _ _ h)) refl
refusal_not false answer l u e is h = absurd (let w = ap (λ r. (plainly r l).answer) is in cc)

exit_refusal : (l : LedgerState) (o : Option ℕ) (e : ResourceFault) → (plainly (exit_scope o l.handles) l).answer ≡ Err e → refusal_of e ≡ Some e
exit_refusal l None e h = rw (sym (err_is _ _ h)) refl
exit_refusal l (Some k) e h = refusal_not (not ((scope_at l.handles k).borrow_count == 0)) _ l _ e refl h

-- it is never out of memory
pub exit_refuses : (l : LedgerState) (e : ResourceFault) → (scope_exit l).answer ≡ Err e → refusal_of e ≡ Some e
exit_refuses l e h = exit_refusal l (opened l.handles (top_scope l.handles)) e h
