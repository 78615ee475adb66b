-- A handle table over entries of any type, as `Table` of CanonicalABI.md: an array of entries, in which index 0 is
-- reserved, and a list of free indexes.
use Rattle.std.specs.Prelude.{◌≡◌, ◌⊎◌, ℕ, ◌+◌, ◌-◌, ◌<◌, ◌≤◌, nat_le, nat_lt, Bool, not, ◌&&◌, ◌==◌, List, [], ◌∷◌, length, Option, Some, None, is_none, is_some, is_ok, true, Result, Ok, Err, slice_index_or, sum_by}
use Rattle.canon_handles.specs.declared.error.HandleError.{HandleError}
use Rattle.canon_handles.specs.declared.error.HandleError.TheVariants.{UnknownHandle, HandleLimit, IndexOverflow, OutOfMemory}
use Rattle.canon_handles.specs.Step.{refuse_if, and_then, put, one_if, occurrences}

-- The live handles of a store, and how many there may be.
pub record Counter : Type 0 where
  pub live : ℕ
  pub limit : ℕ

-- array has what each index from 0 to the greatest one given names, free the indexes that were given and name nothing,
-- the last freed first, and max the greatest index that may be given
pub record Table (E : Type 0) : Type 0 where
  pub array : List (Option E)
  pub free : List ℕ
  pub max : ℕ

-- A table, with a number of insertions that need no memory.
pub record TableState (E : Type 0) : Type 0 where
  pub table : Table E
  pub spare : ℕ

-- the greatest index that the Canonical ABI allows, 2^28 - 1
abbrev pub max_handle : ℕ
max_handle = 268435455

-- a table in which no index was given
abbrev pub empty_table : {E : Type 0} → ℕ → Table E
empty_table max = record { array = None ∷ []; free = []; max = max }

-- what an index names
abbrev pub entry_at : {E : Type 0} → Table E → ℕ → Option E
entry_at t i = slice_index_or t.array i None

-- the greatest index that was given
abbrev pub greatest : {E : Type 0} → Table E → ℕ
greatest t = length t.array - 1

abbrev pub first_or : ℕ → List ℕ → ℕ
first_or n [] = n
first_or n (i ∷ is) = i

abbrev pub other_entries : List ℕ → List ℕ
other_entries [] = []
other_entries (i ∷ is) = is

-- the index that the next insertion gives: the last freed one, and else the one above the greatest
abbrev pub fresh_index : {E : Type 0} → Table E → ℕ
fresh_index t = first_or (length t.array) t.free

-- no index can be given
abbrev pub is_full : {E : Type 0} → Table E → Bool
is_full t = nat_lt t.max (fresh_index t)

-- the table with an entry at a fresh index
abbrev pub with_new : {E : Type 0} → Table E → E → Table E
with_new t e = record { array = put t.array (fresh_index t) (Some e); free = other_entries t.free; max = t.max }

-- the table in which an index names another entry
abbrev pub with_entry : {E : Type 0} → Table E → ℕ → E → Table E
with_entry t i e = record { array = put t.array i (Some e); free = t.free; max = t.max }

-- the table without an entry
abbrev pub without : {E : Type 0} → Table E → ℕ → Table E
without t i = record { array = put t.array i None; free = i ∷ t.free; max = t.max }

-- how many entries there are
abbrev pub entry_count : {E : Type 0} → Table E → ℕ
entry_count t = sum_by (λ o. one_if (is_some o)) t.array

-- Counters

abbrev pub is_at_limit : Counter → Bool
is_at_limit c = nat_le c.limit c.live

abbrev pub one_more : Counter → Counter
one_more c = record { live = c.live + 1; limit = c.limit }

abbrev pub one_less : Counter → Counter
one_less c = record { live = c.live - 1; limit = c.limit }

abbrev pub with_limit : Counter → ℕ → Counter
with_limit c n = record { live = c.live; limit = n }

-- Steps

-- what a call answers, with the table and the counter after it
abbrev pub Outcome : Type 0 → Type 0 → Type 0
Outcome E A = Result (A × Table E × Counter) HandleError

-- a new handle
abbrev pub insert : {E : Type 0} → Table E → Counter → E → Outcome E ℕ
insert t c e =
    refuse_if (is_full t) IndexOverflow
    (refuse_if (is_at_limit c) HandleLimit
    (Ok (fresh_index t, with_new t e, one_more c)))

-- what read makes of the entry at an index
abbrev pub lookup_entry : {E A : Type 0} → (E → Result A HandleError) → Option E → Result A HandleError
lookup_entry read None = Err UnknownHandle
lookup_entry read (Some e) = read e

abbrev pub look_up : {E A : Type 0} → (E → Result A HandleError) → Table E → ℕ → Result A HandleError
look_up read t i = lookup_entry read (entry_at t i)

-- what read makes of the entry at an index, which is removed
abbrev pub remove_with : {E A : Type 0} → (E → Result A HandleError) → Table E → Counter → ℕ → Outcome E A
remove_with read t c i = and_then (look_up read t i) (λ a. Ok (a, without t i, one_less c))

-- A table as the insertions and removals from an empty one leave it

-- 1 where the index was given and names nothing
abbrev pub vacancy : {E : Type 0} → Table E → ℕ → ℕ
vacancy t i = one_if (not (i == 0) && nat_lt i (length t.array) && is_none (entry_at t i))

-- the free indexes are the vacant ones, each once, and index 0 names nothing
pub record IsTable {E : Type 0} (t : Table E) : Type 0 where
  pub rooted : nat_lt 0 (length t.array) ≡ true
  pub reserved : entry_at t 0 ≡ None
  pub free_are_vacant : (i : ℕ) → occurrences i t.free ≡ vacancy t i

-- Contracts

-- a call answers what the step does, and a refused one leaves table and counter
abbrev pub Does : {E A : Type 0} → Outcome E A → Result A HandleError → TableState E → TableState E → Counter → Counter → Type 0
Does step (Ok a) s s' c c' = step ≡ Ok (a, s'.table, c')
Does step (Err e) s s' c c' = (step ≡ Err e) × (s'.table ≡ s.table) × (c' ≡ c)

-- the same of a call that may want memory, where nothing else refuses it and it has no insertion to spare
abbrev pub DoesWithMemory : {E A : Type 0} → Outcome E A → Result A HandleError → TableState E → TableState E → Counter → Counter → Type 0
DoesWithMemory step (Ok a) s s' c c' = step ≡ Ok (a, s'.table, c')
DoesWithMemory step (Err e) s s' c c' =
    ((step ≡ Err e) ⊎ ((e ≡ OutOfMemory) × (s.spare ≡ 0) × (is_ok step ≡ true))) × (s'.table ≡ s.table) × (c' ≡ c)

-- an insertion uses up one of the insertions to spare at most, and a refused one none
abbrev pub SparesOneLess : {A : Type 0} → Result A HandleError → ℕ → ℕ → Type 0
SparesOneLess (Ok a) old new = old ≤ new + 1
SparesOneLess (Err e) old new = old ≤ new

-- What is known of a fresh index.
pub record IsFresh {E : Type 0} (t : Table E) (n : ℕ) : Type 0 where
  pub positive : 0 < n
  pub at_end : n ≤ length t.array
  pub vacant : entry_at t n ≡ None
