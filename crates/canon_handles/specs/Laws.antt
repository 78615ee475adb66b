-- Laws: what holds of a table in hand, which index a table gives, told by what happened to its indexes, and what a state counts for.
use Rattle.std.specs.Prelude.{◌≡◌, ℕ, ◌+◌, ◌<◌, ◌≤◌, max, ◌==◌, Bool, true, false, ◌||◌, if◌then◌else◌, List, [], ◌∷◌, length, is_some}
use Rattle.canon_handles.specs.declared.handle.Entry.{Entry}
use Rattle.canon_handles.specs.declared.handle.TransmitLocalState.{TransmitLocalState}
use Rattle.canon_handles.specs.Calls.{held_count, with_state}
use Rattle.canon_handles.specs.Table.{Table, IsTable, IsFresh, max_handle, entry_at, entry_count, greatest, fresh_index, is_full, with_new, without, empty_table, first_or}

-- What holds of each table that calls have made.
pub record TableLaws {E : Type 0} (t : Table E) : Type 0 where
  -- index 0 names nothing; a given index that names nothing is free, once, and no other index is free
  pub indexes : IsTable t
  -- what names an entry was given
  pub entries_were_given : (i : ℕ) → is_some (entry_at t i) ≡ true → (0 < i) × (i ≤ greatest t)
  -- each index given has an entry or is free
  pub entries_and_free : entry_count t + length t.free ≡ greatest t
  -- no index was given that may not be
  pub greatest_allowed : greatest t ≤ t.max
  pub max_allowed : t.max ≤ max_handle
  -- the next index names nothing, and is at most one above the greatest given
  pub next_is_fresh : IsFresh t (fresh_index t)
  -- no index is left exactly where as many have an entry as may be given
  pub full : is_full t ≡ (entry_count t == t.max)

-- A call on a table of entries that gives or frees an index.
pub data TableCall (E : Type 0) : Type 0 where
  Insert : E → TableCall E
  Remove : ℕ → TableCall E

-- What happened to an index.
pub data Event : Type 0 where
  Inserted : ℕ → Event
  Removed : ℕ → Event

-- a table with its history, the last event first
abbrev pub TableWithHistory : Type 0 → Type 0
TableWithHistory E = Table E × List Event

-- a call that is refused changes nothing
abbrev pub record_call : {E : Type 0} → TableCall E → TableWithHistory E → TableWithHistory E
record_call (Insert e) (t, events) = if is_full t then (t, events) else (with_new t e, Inserted (fresh_index t) ∷ events)
record_call (Remove i) (t, events) = if is_some (entry_at t i) then (without t i, Removed i ∷ events) else (t, events)

abbrev pub record_calls : {E : Type 0} → List (TableCall E) → TableWithHistory E → TableWithHistory E
record_calls [] w = w
record_calls (call ∷ calls) w = record_calls calls (record_call call w)

-- the indexes whose last event is a removal, the last removed first; touched tells those with a later event
abbrev pub freed : (ℕ → Bool) → List Event → List ℕ
freed touched [] = []
freed touched (Inserted i ∷ events) = freed (λ k. (k == i) || touched k) events
freed touched (Removed i ∷ events) = if touched i then freed touched events else i ∷ freed (λ k. (k == i) || touched k) events

abbrev pub greatest_given : List Event → ℕ
greatest_given [] = 0
greatest_given (Inserted i ∷ events) = max i (greatest_given events)
greatest_given (Removed i ∷ events) = greatest_given events

-- over every list of calls, a fresh index is the most recently freed one of those not in use, or where there is none, one
-- more than the greatest given
abbrev pub IndexReuse : Type 0 → Type 0
IndexReuse E = (greatest : ℕ) (calls : List (TableCall E)) →
    let w : TableWithHistory E = record_calls calls (empty_table greatest, []) in
    fresh_index w.0 ≡ first_or (greatest_given w.1 + 1) (freed (λ _. false) w.1)

-- a state that is written changes nothing of what a table holds
abbrev pub StatesAreNotHeld : Type 0
StatesAreNotHeld = (t : Table Entry) (i : ℕ) (s : TransmitLocalState) → held_count (with_state t i s) ≡ held_count t
