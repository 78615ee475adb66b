-- The state of an end changes nothing of what its table holds.
use Rattle.std.proofs.Common.{rules, ◌≡◌, ℕ, Option, Some, None, Result, Ok, Err, is_some, refl, ap, arith, sum_by}
use Rattle.std.specs.Result.{IsOk}
use Rattle.canon_handles.specs.declared.handle.Entry.{Entry}
use Rattle.canon_handles.specs.declared.handle.Entry.TheVariants as entry
use Rattle.canon_handles.specs.declared.handle.TransmitLocalState.{TransmitLocalState}
use Rattle.canon_handles.specs.Step.{one_if}
use Rattle.canon_handles.specs.Table.{Table, TableState, entry_at, with_entry}
use Rattle.canon_handles.specs.Calls.{held_count, lends_of, entry_in_state, in_state, with_state}
use Rattle.canon_handles.specs.Laws.{StatesAreNotHeld}
use Rattle.canon_handles.proofs.StepLemmas.{sum_by-put}
use Rattle.canon_handles.specs.LendingTable.{stored_with}
use Rattle.canon_handles.proofs.HeldLemmas.{held-with_entry}

pub is_ok_of : {A E : Type 0} (r : Result A E) (a : A) → r ≡ Ok a → IsOk r
is_ok_of (Ok x) a e = search rules
is_ok_of (Err x) a e = absurd (cc)

lends-in_state : (e : Entry) (w : TransmitLocalState) → lends_of (Some (entry_in_state e w)) ≡ lends_of (Some e)
lends-in_state (entry.ResourceOwn r n) w = refl
lends-in_state (entry.ResourceBorrow r scope) w = refl
lends-in_state (entry.Stream ty rep old) w = refl
lends-in_state (entry.Future ty rep old) w = refl
lends-in_state (entry.ErrorContext rep) w = refl
lends-in_state (entry.Subtask rep host) w = refl
lends-in_state (entry.WaitableSet rep) w = refl

pub held_alike : (s n : TableState Entry) (i : ℕ) (e e' : Entry) → n ≡ stored_with s i e' → entry_at s.table i ≡ Some e → lends_of (Some e') ≡ lends_of (Some e) → held_count s.table ≡ held_count n.table
held_alike s n i e e' is at same =
    let a = held-with_entry s.table i e' (ap is_some at) in
    let b : lends_of (entry_at s.table i) ≡ lends_of (Some e) = ap lends_of at in
    let c : held_count n.table ≡ held_count (with_entry s.table i e') = ap (λ (s : TableState Entry). held_count s.table) is in
    omega arith

pub held_in_state : (s n : TableState Entry) (i : ℕ) (e : Entry) (w : TransmitLocalState) → n ≡ stored_with s i (entry_in_state e w) → entry_at s.table i ≡ Some e → held_count s.table ≡ held_count n.table
held_in_state s n i e w is at = held_alike s n i e (entry_in_state e w) is at (lends-in_state e w)

-- what counts the same in any state is summed the same
sum-in_state : (f : Option Entry → ℕ) (t : Table Entry) (i : ℕ) (w : TransmitLocalState) → f None ≡ 0 → ((o : Option Entry) → f (in_state o w) ≡ f o) → sum_by f (with_state t i w).array ≡ sum_by f t.array
sum-in_state f t i w z same =
    let a = sum_by-put f t.array i (in_state (entry_at t i) w) None z in
    let b = same (entry_at t i) in
    omega arith

counts_in_state : (w : TransmitLocalState) (o : Option Entry) → one_if (is_some (in_state o w)) ≡ one_if (is_some o)
counts_in_state w None = refl
counts_in_state w (Some e) = refl

lends_in_state : (w : TransmitLocalState) (o : Option Entry) → lends_of (in_state o w) ≡ lends_of o
lends_in_state w None = refl
lends_in_state w (Some e) = lends-in_state e w

pub states_are_not_held : StatesAreNotHeld
states_are_not_held t i w =
    let a = sum-in_state (λ o. one_if (is_some o)) t i w refl (counts_in_state w) in
    let b = sum-in_state lends_of t i w refl (lends_in_state w) in
    omega arith
