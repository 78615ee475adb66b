-- Why a value was not lifted, from why a part of it was not.
use Rattle.std.proofs.Common.{◌≡◌, ◌≤◌, ◌<◌, ◌++◌, List, None, Option, Some, [], append-nil, arith, refl, subst, sym, true, ℕ}
use Rattle.canon_context.proofs.Told.{blamed_by, is_its_place}
use Rattle.canon_context.specs.Told.{LiftBlames, place_of}
use Rattle.canon_context.specs.declared.fault.At.{At as Place}
use Rattle.canon_context.specs.declared.fault.Fault.{Fault}
use Rattle.canon_context.specs.declared.fault.Fault.TheVariants as fault
use Rattle.canon_resources.proofs.Leaves.{leaves_stop_first, leaves_stop_then, stops_at_once}
use Rattle.canon_resources.specs.Parts.{LeavesStop, LeavesTake, Part}
use Rattle.canon_ledger.specs.Ledger.{LedgerState}
use Rattle.canon_ledger.specs.declared.fault.ResourceFault.{ResourceFault}
use Rattle.canon_model.specs.Reach as reach
use Rattle.canon_model.specs.Reach.{Kind}
use Rattle.canon_model.specs.Shape.{Shape}
use Rattle.canon_reading.specs.Reading.{NamedBy, Reading, Refused, Setting}
use Rattle.canon_context.specs.Faults.{stop_of}
use Rattle.canon_reading.specs.Spots.{Spot, flat_in, stored}

-- ---- places

pub lift_named_by : (at : Spot) (F G : Kind → reach.At → Type 0) → ((k : Kind) (x : reach.At) → F k x → G k x) → (k : Kind) (x : Place) → NamedBy at F k x → NamedBy at G k x
lift_named_by (stored a) F G f k x h = f k (place_of x) h
lift_named_by (flat_in ws i) F G f k x (y, is, h) = (y, is, f k y h)

-- a fault in memory, of what a pointer at a spot points to
pub named_in : (at : Spot) (p : ℕ) (F G : Kind → reach.At → Type 0) → ((k : Kind) (x : reach.At) → F k x → G k x) → (k : Kind) (x : Place) → NamedBy (stored p) F k x → NamedBy at G k x
named_in (stored a) p F G f k x h = f k (place_of x) h
named_in (flat_in ws i) p F G f k x h = (place_of x, is_its_place x, f k (place_of x) h)

-- ---- the ledger

-- it stopped without a refusal, before anything
pub lift_stops_before : (l n : LedgerState) (ps : List (List Part)) (why : Option ResourceFault) → why ≡ None → n ≡ l → LeavesStop why l ps n
lift_stops_before l n ps why none same = subst (λ (z : Option ResourceFault). LeavesStop z l ps n) (sym none) (stops_at_once l n ps same)

-- and after all
pub lift_stops_after : (l n : LedgerState) (ps : List (List Part)) (why : Option ResourceFault) → why ≡ None → ((hs : List ℕ) × LeavesTake l ps hs n) → LeavesStop why l ps n
lift_stops_after l n ps why none (hs, took) = subst (λ (z : Option ResourceFault). LeavesStop z l ps n) (sym none)
    (subst (λ (qs : List (List Part)). LeavesStop None l qs n) (append-nil ps) (leaves_stop_then None l n n ps [] hs took refl))

-- where there were none
pub stops_nowhere : (l n : LedgerState) (ps : List (List Part)) (why : Option ResourceFault) → LeavesStop why l [] n → LeavesStop why l ps n
stops_nowhere l n ps None h = stops_at_once l n ps h
stops_nowhere l n ps (Some e) h = absurd h

-- in the first part, or in the second
pub stops_first : (why : Option ResourceFault) (l n : LedgerState) (ps qs : List (List Part)) → LeavesStop why l ps n → LeavesStop why l (ps ++ qs) n
stops_first why l n ps qs h = leaves_stop_first why l n ps qs h

pub stops_second : (why : Option ResourceFault) (l m n : LedgerState) (ps qs : List (List Part)) → ((hs : List ℕ) × LeavesTake l ps hs m) → LeavesStop why m qs n → LeavesStop why l (ps ++ qs) n
stops_second why l m n ps qs (hs, took) h = leaves_stop_then why l m n ps qs hs took h

-- ---- a part was not lifted

module _ {A B : Type 0} (R : Reading A) (S : Reading B) (w : Setting) (at at2 : Spot) (s s2 : Shape) (before before2 after : LedgerState) (fuel fuel2 left : ℕ) (e : Fault) where
  pub refused_by : ((k : Kind) (x : Place) → NamedBy at (R.faults w at s) k x → NamedBy at2 (S.faults w at2 s2) k x) → (fuel < R.reach w at s → fuel2 < S.reach w at2 s2) → (R.allocates ≡ true → S.allocates ≡ true)
      → (LeavesStop (stop_of e) before (R.steps w at s) after → LeavesStop (stop_of e) before2 (S.steps w at2 s2) after) → fuel ≤ fuel2 → Refused R w at s before fuel e after left → Refused S w at2 s2 before2 fuel2 e after left
  refused_by named low allocates stops less r = record {
    cause = blamed_by (NamedBy at (R.faults w at s)) (NamedBy at2 (S.faults w at2 s2)) (fuel < R.reach w at s) (fuel2 < S.reach w at2 s2) named low e r.cause;
    memory = λ is. allocates (r.memory is);
    stops = stops r.stops;
    falls = omega (arith, r.falls, less);
  }

-- nothing but the fault
module _ {A : Type 0} (R : Reading A) (w : Setting) (at : Spot) (s : Shape) (before after : LedgerState) (fuel left : ℕ) (e : Fault) where
  pub lift_refused_before : LiftBlames (NamedBy at (R.faults w at s)) (fuel < R.reach w at s) e → (e ≡ fault.OutOfMemory → R.allocates ≡ true) → stop_of e ≡ None → after ≡ before → left ≤ fuel → Refused R w at s before fuel e after left
  lift_refused_before cause allocates none same less = record { cause = cause; memory = allocates; stops = lift_stops_before before after (R.steps w at s) (stop_of e) none same; falls = less }

-- out of memory, after all handles were taken
module _ {A : Type 0} (R : Reading A) (w : Setting) (at : Spot) (s : Shape) (before after : LedgerState) (fuel left : ℕ) where
  pub out_of_memory_after : R.allocates ≡ true → ((hs : List ℕ) × LeavesTake before (R.steps w at s) hs after) → left ≤ fuel → Refused R w at s before fuel fault.OutOfMemory after left
  out_of_memory_after allocates took less = record { cause = tt; memory = λ is. allocates; stops = lift_stops_after before after (R.steps w at s) None refl took; falls = less }
