-- What a call on one table does to the handles that the fields stand for.
use Rattle.std.proofs.Common.{◌≡◌, ℕ, zero, suc, ◌+◌, ◌<◌, ◌≤◌, List, [], ◌∷◌, length, get_or, map, Result, Ok, Err, refl, sym, ap, subst, ◌∙◌, arith, sum_by, inl, inr}
use Rattle.std.proofs.Math.ListN.{set}
use Rattle.std.proofs.lemmas.List.{map-set, get_or-map}
use Rattle.std.proofs.lemmas.List.Sums.{sum_by-cons}
use Rattle.canon_handles.specs.declared.handle.Entry.{Entry}
use Rattle.canon_handles.specs.declared.error.HandleError.{HandleError}
use Rattle.canon_ledger.specs.declared.fault.ResourceFault.{ResourceFault}
use Rattle.canon_handles.specs.Table.{Table, Counter, TableState, Outcome, empty_table, Does, DoesWithMemory}
use Rattle.canon_handles.specs.Calls.{held_count, lends_of}
use Rattle.canon_ledger.specs.Handles.{Handles, IsConsistent, Takes, TakesSurely, table_at, with_table, on_table, finished, at_index, fault_at, sum_over_tables, stands}
use Rattle.canon_ledger.specs.Books.{Context, handles_of}
use Rattle.canon_ledger.proofs.HandlesLemmas.{same_table}

-- one term is at most the sum
pub term_le : {A : Type 0} (f : A → ℕ) (xs : List A) (n : ℕ) (x d : A) → n < length xs → x ≡ get_or xs n d → f x ≤ sum_by f xs
term_le f [] n x d h e = absurd (omega arith)
term_le f (y ∷ ys) zero x d h e = (let a = sum_by-cons f y ys in let b : f x ≡ f y = ap f e in omega arith)
term_le f (y ∷ ys) (suc n) x d h e = (let a = sum_by-cons f y ys in let b = term_le f ys n x d (omega arith) e in omega arith)

pub sum_by-tables : (f : Table Entry → ℕ) (xs : List (TableState Entry)) → sum_by f (map (λ s. s.table) xs) ≡ sum_by (λ s. f s.table) xs
sum_by-tables f [] = refl
sum_by-tables f (x ∷ xs) =
    let a : sum_by f (map (λ (s : TableState Entry). s.table) (x ∷ xs)) ≡ f x.table + sum_by f (map (λ (s : TableState Entry). s.table) xs) = sum_by-cons f x.table (map (λ (s : TableState Entry). s.table) xs) in
    let b = sum_by-cons (λ (s : TableState Entry). f s.table) x xs in
    let c = sum_by-tables f xs in
    omega arith

-- A call on table n
module _ (tables : List (TableState Entry)) (counter : Counter) (scopes : List Context) (n : ℕ) (s : TableState Entry) (within : n < length tables) (read : s ≡ get_or tables n s) where
  abbrev ledger_before : Handles
  ledger_before = handles_of tables counter scopes

  pub counted : sum_over_tables stands (handles_of tables counter scopes) + sum_over_tables lends_of (handles_of tables counter scopes) ≤ counter.live → held_count s.table ≤ counter.live
  counted c =
      let a = term_le (λ (s : TableState Entry). sum_by stands s.table.array) tables n s s within read in
      let b = sum_by-tables (λ (t : Table Entry). sum_by stands t.array) tables in
      let d = term_le (λ (s : TableState Entry). sum_by lends_of s.table.array) tables n s s within read in
      let e = sum_by-tables (λ (t : Table Entry). sum_by lends_of t.array) tables in
      omega arith

  -- a table holds no more than the counter counts
  pub held_le : IsConsistent (handles_of tables counter scopes) → held_count s.table ≤ counter.live
  held_le w = counted (let c = w.live_handles in omega arith)

  pub table_read : table_at (handles_of tables counter scopes) n ≡ s.table
  table_read = get_or-map (λ (s : TableState Entry). s.table) tables n s (empty_table 0) within ∙ ap (λ (s : TableState Entry). s.table) (sym read)

  pub with_table_is : (s' : TableState Entry) (c' : Counter) → handles_of (set tables n s') c' scopes ≡ with_table (handles_of tables counter scopes) n s'.table c'
  with_table_is s' c' =
      let e = map-set (λ (s : TableState Entry). s.table) tables n s' in
      λ i. record { tables = e i; counter = c'; scopes = map (λ c. c.scope) scopes }

  module _ {A : Type 0} (f : Table Entry → Counter → Outcome Entry A) (i : ℕ) (s' : TableState Entry) (c' : Counter) where
    abbrev afterwards : Handles
    afterwards = handles_of (set tables n s') c' scopes

    step_is : finished ledger_before n i (f s.table counter) ≡ on_table ledger_before n i f
    step_is = ap (λ (t : Table Entry). finished ledger_before n i (f t counter)) (sym table_read)

    unchanged : s'.table ≡ s.table → c' ≡ counter → afterwards ≡ ledger_before
    unchanged t c =
        with_table_is s' c'
        ∙ (λ j. with_table ledger_before n (t j) (c j))
        ∙ ap (λ (t : Table Entry). with_table ledger_before n t counter) (sym table_read)
        ∙ same_table ledger_before n

    taken_at : (r : Result A HandleError) → DoesWithMemory (f s.table counter) r s s' counter c'
        → Takes (on_table (handles_of tables counter scopes) n i f) (at_index i r) (handles_of tables counter scopes) (handles_of (set tables n s') c' scopes)
    taken_at (Ok a) step = sym step_is ∙ ap (finished ledger_before n i) step ∙ ap (λ (h : Handles). Ok (a, h)) (sym (with_table_is s' c'))
    taken_at (Err e) step = (
      elim step.0 [
        | inl refused ↦ inl (sym step_is ∙ ap (finished ledger_before n i) refused)
        | inr memory ↦ inr (ap (fault_at i) memory.0)
      ],
      unchanged step.1 step.2,
    )

    taken_surely_at : (r : Result A HandleError) → Does (f s.table counter) r s s' counter c'
        → TakesSurely (on_table (handles_of tables counter scopes) n i f) (at_index i r) (handles_of tables counter scopes) (handles_of (set tables n s') c' scopes)
    taken_surely_at (Ok a) step = sym step_is ∙ ap (finished ledger_before n i) step ∙ ap (λ (h : Handles). Ok (a, h)) (sym (with_table_is s' c'))
    taken_surely_at (Err e) step = (sym step_is ∙ ap (finished ledger_before n i) step.0, unchanged step.1 step.2)

    pub taken : (r : Result A HandleError) (answer : Result A ResourceFault) → answer ≡ at_index i r → DoesWithMemory (f s.table counter) r s s' counter c'
        → Takes (on_table (handles_of tables counter scopes) n i f) answer (handles_of tables counter scopes) (handles_of (set tables n s') c' scopes)
    taken r answer e step = subst (λ (a : Result A ResourceFault). Takes (on_table (handles_of tables counter scopes) n i f) a (handles_of tables counter scopes) (handles_of (set tables n s') c' scopes)) (sym e) (taken_at r step)

    pub taken_surely : (r : Result A HandleError) (answer : Result A ResourceFault) → answer ≡ at_index i r → Does (f s.table counter) r s s' counter c'
        → TakesSurely (on_table (handles_of tables counter scopes) n i f) answer (handles_of tables counter scopes) (handles_of (set tables n s') c' scopes)
    taken_surely r answer e step = subst (λ (a : Result A ResourceFault). TakesSurely (on_table (handles_of tables counter scopes) n i f) a (handles_of tables counter scopes) (handles_of (set tables n s') c' scopes)) (sym e) (taken_surely_at r step)
