-- What became of the handles of a call.
use Rattle.std.proofs.Common.{Err, List, None, Ok, Result, Some, [], ap, inl, inr, refl, subst, sym, ℕ, ◌∙◌, ◌≡◌}
use Rattle.std.proofs.lemmas.List.{append-nil}
use Rattle.canon_ledger.specs.Ledger.{Done, LedgerState}
use Rattle.canon_ledger.specs.declared.fault.ResourceFault.{ResourceFault}
use Rattle.canon_resources.proofs.Leaves.{leaves_excluded, leaves_stop_then}
use Rattle.canon_resources.specs.Parts.{LeavesStop}
use Rattle.canon_func.specs.Call.{LiftsReturned, StopsReturned, scope_exit}
use Rattle.canon_func.specs.Passing.{ReturnedValues}
use Rattle.canon_func.specs.Stores.{Callee}
use Rattle.canon_func.specs.Passed.{ReadsRightly}

pub same_end : (l a b : LedgerState) → scope_exit l ≡ record { answer = Ok tt; after = a } → scope_exit l ≡ record { answer = Ok tt; after = b } → a ≡ b
same_end l a b h g = ap (λ (d : Done (Unit {0})). d.after) (sym h ∙ g)

pub not_both : (l a b : LedgerState) (e : ResourceFault) → scope_exit l ≡ record { answer = Err e; after = a } → scope_exit l ≡ record { answer = Ok tt; after = b } → ⊥
not_both l a b e h g = let w : ◌≡◌ {A = Result (Unit {0}) ResourceFault} (Err e) (Ok tt) = ap (λ (d : Done (Unit {0})). d.answer) (sym h ∙ g) in cc

module _ {R : Type 0} (its : ReturnedValues R) (callee : Callee) (law : ReadsRightly callee its) (words memory : List ℕ) where
  pub returned_excluded : (e : ResourceFault) (l n m : LedgerState) → StopsReturned its callee words memory (Some e) l n → LiftsReturned (its.accepts words memory) l m → ⊥
  returned_excluded e l n m (inl (d, why, refused)) lifts = not_both l n lifts.ended d refused lifts.ends
  returned_excluded e l n m (inr (ended, ends, stops)) lifts =
      let taken = law.taken words memory lifts.ended m lifts.lifts in
      leaves_excluded e lifts.ended n m (its.parts words memory) taken.0 (subst (λ q. LeavesStop (Some e) q (its.parts words memory) n) (same_end l ended lifts.ended ends lifts.ends) stops) taken.1

  -- all of them went through before it stopped for another reason
  pub lifted_stops : (l m : LedgerState) (results : R) → its.lifts words memory l results m → LeavesStop None l (its.parts words memory) m
  lifted_stops l m results lifts =
      let taken = law.taken words memory l m (law.accepted words memory l m results lifts) in
      let parts = its.parts words memory in
      subst (λ ps. LeavesStop None l ps m) (append-nil parts) (leaves_stop_then None l m m parts [] taken.0 taken.1 refl)
