-- Each lend that is owed can be given back.
use Rattle.std.proofs.Common.{◌≡◌, ℕ, zero, suc, ◌+◌, ◌-◌, ◌<◌, ◌≤◌, List, [], ◌∷◌, length, get_or, drop, map, Option, Some, None, Result, Ok, Err, refl, sym, ap, subst, ◌∙◌, arith, slice_get}
use Rattle.std.proofs.Math.ListN.{set}
use Rattle.std.proofs.lemmas.List.{map-set, length-map}
use Rattle.std.proofs.lemmas.List.Sums.{sum_by-cons}
use Rattle.canon_handles.specs.declared.handle.TypedResource.{TypedResource}
use Rattle.canon_handles.specs.declared.handle.TypedResourceIndex.{TypedResourceIndex}
use Rattle.canon_handles.specs.declared.handle.Entry.{Entry}
use Rattle.canon_handles.specs.declared.handle.Entry.TheVariants.{ResourceOwn, ResourceBorrow, Stream, Future, ErrorContext, Subtask, WaitableSet}
use Rattle.canon_handles.specs.declared.error.HandleError.{HandleError}
use Rattle.canon_handles.specs.Step.{one_if}
use Rattle.canon_handles.specs.Table.{Table, Counter, TableState, Does, entry_at, with_entry, one_less}
use Rattle.canon_handles.specs.Calls.{held_count, lends_of, raw_index, undo_lend_entry, resource_undo_lend}
use Rattle.canon_handles.proofs.StepLemmas.{some_within}
use Rattle.canon_ledger.specs.Handles.{Handles, Lender, table_at, with_table, is_lender_of, finished, undone, give_back, on_table, stands}
use Rattle.canon_ledger.specs.Books.{Context, handles_of}
use Rattle.canon_ledger.specs.Owed.{IsOwed}
use Rattle.canon_ledger.proofs.HandlesLemmas.{standing, there_by_entry, total_after, entries_after, lender_here, lender_there, same_table}
use Rattle.canon_ledger.proofs.BooksLemmas.{counted, table_read}

-- the first lender's handle is an own handle that is lent
pub own_by_lends : (o : Option Entry) → 1 ≤ lends_of o → (r : TypedResource) × (n : ℕ) × (o ≡ Some (ResourceOwn r n)) × (1 ≤ n)
own_by_lends None h = absurd (omega arith)
own_by_lends (Some (ResourceOwn r n)) h = (r, n, refl, h)
own_by_lends (Some (ResourceBorrow r scope)) h = absurd (omega arith)
own_by_lends (Some (Stream ty rep state)) h = absurd (omega arith)
own_by_lends (Some (Future ty rep state)) h = absurd (omega arith)
own_by_lends (Some (ErrorContext rep)) h = absurd (omega arith)
own_by_lends (Some (Subtask rep host)) h = absurd (omega arith)
own_by_lends (Some (WaitableSet rep)) h = absurd (omega arith)

module _ (lender : Lender) (lenders : List Lender) (h : Handles) (owed : IsOwed (lender ∷ lenders) h) where
  pub lends_some : 1 ≤ lends_of (entry_at (table_at h lender.table) (raw_index lender.index))
  lends_some =
      let here = owed.lent lender.table (raw_index lender.index) in
      let front = sum_by-cons (λ (l : Lender). one_if (is_lender_of lender.table (raw_index lender.index) l)) lender lenders in
      let one = lender_here lender.table (raw_index lender.index) lender refl refl in
      omega arith

  pub lender_there_in : lender.table < length h.tables
  lender_there_in = let w = own_by_lends _ lends_some in there_by_entry h lender.table (raw_index lender.index) (ResourceOwn w.0 w.1) w.2

  -- what is left is owed after the first is given back
  pub still_owed : IsOwed lenders (undone h (on_table h lender.table (raw_index lender.index) (λ t c. resource_undo_lend t c lender.index)))
  still_owed =
      let w = own_by_lends _ lends_some in
      let p = lender.table in
      let i = raw_index lender.index in
      let r = w.0 in
      let n = w.1 in
      let is = w.2 in
      let e = ResourceOwn r (n - 1) in
      let t = table_at h p in
      let present = there_by_entry h p i (ResourceOwn r n) is in
      let in_array = some_within t.array i (ResourceOwn r n) is in
      let place : i ≤ length t.array = omega arith in
      let t' = with_entry t i e in
      let after = total_after h p i t' (one_less h.counter) (Some e) present place refl in
      let here = owed.lent p i in
      let front = sum_by-cons (λ (l : Lender). one_if (is_lender_of p i l)) lender lenders in
      let one = lender_here p i lender refl refl in
      let was_n = ap lends_of is in
      let some = w.3 in
      subst (λ (o : Option Entry). IsOwed lenders (undone h (finished h p i (undo_lend_entry t h.counter i o)))) (sym is)
      (record {
        counted = (let a = after stands refl in let old = ap stands is in let a' = after lends_of refl in let old' = ap lends_of is in let c = owed.counted in omega arith);
        lent = entries_after h p i t' (one_less h.counter) (Some e) present place refl (λ q j o. standing q j lenders ≤ lends_of o)
            (λ q j else. (let was = owed.lent q j in let b = sum_by-cons (λ (l : Lender). one_if (is_lender_of q j l)) lender lenders in let z = lender_there q j lender else in omega arith))
            (omega arith);
      })

-- a call that undoes a lend, on a table of the handles
pub undone_is : (h : Handles) (p : ℕ) (idx : TypedResourceIndex) (s s' : TableState Entry) (c' : Counter) (r : Result (Unit {0}) HandleError) → s.table ≡ table_at h p → Does (resource_undo_lend s.table h.counter idx) r s s' h.counter c'
    → undone h (on_table h p (raw_index idx) (λ t c. resource_undo_lend t c idx)) ≡ with_table h p s'.table c'
undone_is h p idx s s' c' (Ok u) is does = ap (λ (t : Table Entry). undone h (finished h p (raw_index idx) (resource_undo_lend t h.counter idx))) (sym is) ∙ ap (λ w. undone h (finished h p (raw_index idx) w)) does
undone_is h p idx s s' c' (Err e) is does =
    ap (λ (t : Table Entry). undone h (finished h p (raw_index idx) (resource_undo_lend t h.counter idx))) (sym is)
    ∙ ap (λ w. undone h (finished h p (raw_index idx) w)) does.0 ∙ sym (same_table h p) ∙ (λ i. with_table h p (sym (does.1 ∙ is) i) (sym does.2 i))

pub ledger_nothing_left : (xs : List Lender) (k : ℕ) → length xs ≤ k → drop k xs ≡ []
ledger_nothing_left [] zero h = refl
ledger_nothing_left [] (suc k) h = refl
ledger_nothing_left (x ∷ xs) zero h = absurd (omega arith)
ledger_nothing_left (x ∷ xs) (suc k) h = ledger_nothing_left xs k (omega arith)

-- the first of those that are left
pub first_left : (xs : List Lender) (k : ℕ) (x : Lender) → slice_get xs k ≡ Some x → drop k xs ≡ x ∷ drop (k + 1) xs
first_left [] k x e = absurd (cc)
first_left (y ∷ ys) zero x e = (let d : y ≡ x = cc in ap (λ (z : Lender). z ∷ ys) d)
first_left (y ∷ ys) (suc k) x e = (let d : suc (k + 1) ≡ suc k + 1 = omega arith in first_left ys k x e ∙ ap (λ (n : ℕ). x ∷ drop n (y ∷ ys)) d)

module _ (tables : List (TableState Entry)) (counter : Counter) (lender : Lender) (lenders : List Lender) (owed : IsOwed (lender ∷ lenders) (handles_of tables counter [])) where
  pub table_within : lender.table < length tables
  table_within = let h = lender_there_in lender lenders (handles_of tables counter []) owed in let m = length-map tables (λ (s : TableState Entry). s.table) in omega arith

  module _ (s : TableState Entry) (read : s ≡ get_or tables lender.table s) where
    pub held_counted : held_count s.table ≤ counter.live
    held_counted = counted tables counter [] lender.table s table_within read owed.counted

    pub lent_there : 0 < lends_of (entry_at s.table (raw_index lender.index))
    lent_there =
        let h = lends_some lender lenders (handles_of tables counter []) owed in
        let e = ap (λ (t : Table Entry). lends_of (entry_at t (raw_index lender.index))) (table_read tables counter [] lender.table s table_within read) in
        omega arith

    module _ (s' : TableState Entry) (c' : Counter) (r : Result (Unit {0}) HandleError) (does : Does (resource_undo_lend s.table counter lender.index) r s s' counter c') where
      next : (scopes : List Context) → handles_of (set tables lender.table s') c' scopes ≡ undone (handles_of tables counter scopes)
          (on_table (handles_of tables counter scopes) lender.table (raw_index lender.index) (λ t c. resource_undo_lend t c lender.index))
      next scopes =
          let e = map-set (λ (s : TableState Entry). s.table) tables lender.table s' in
          (λ i. record { tables = e i; counter = c'; scopes = map (λ (c : Context). c.scope) scopes })
          ∙ sym (undone_is (handles_of tables counter scopes) lender.table lender.index s s' c' r (sym (table_read tables counter scopes lender.table s table_within read)) does)

      pub owed_after : IsOwed lenders (handles_of (set tables lender.table s') c' [])
      owed_after = subst (IsOwed lenders) (sym (next [])) (still_owed lender lenders (handles_of tables counter []) owed)

      pub rest_after : (scopes : List Context) → give_back lenders (handles_of (set tables lender.table s') c' scopes) ≡ give_back (lender ∷ lenders) (handles_of tables counter scopes)
      rest_after scopes = ap (give_back lenders) (next scopes)
