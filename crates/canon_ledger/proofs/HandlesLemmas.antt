-- Each call on the handles of a store keeps what holds of them.
use Rattle.std.proofs.Common.{◌≡◌, ◌≢◌, ℕ, zero, suc, ◌+◌, ◌-◌, ◌<◌, ◌≤◌, Bool, true, false, not, ◌&&◌, ◌==◌, List, [], ◌∷◌, ◌++◌, length, get_or, take, Option, Some, None, Ok, Err, refl, sym, ap, subst, ◌∙◌, arith, nat_lt, nat_le, ◌⊎◌, inl, inr, IfOk, sum_by}
use Rattle.std.proofs.Math.ListN.{set}
use Rattle.std.proofs.lemmas.List.{get_or-set_same, get_or-set_other, get_or-take, set-get_or}
use Rattle.std.proofs.lemmas.Option.{cond_some}
use Rattle.std.proofs.lemmas.List.Sums.{sum_by-set, sum_by-cons, sum_by-append}
use Rattle.std.proofs.Math.Bool.{and-false}
use Rattle.std.proofs.lemmas.Bool.{eq-eqb, ne_eqb, ltb-true}
use Rattle.std.proofs.lemmas.Bool.Decides.{nat_tests}
use Rattle.canon_handles.specs.declared.handle.Scope.{Scope}
use Rattle.canon_handles.specs.declared.handle.Scope.TheVariants.{Id}
use Rattle.canon_handles.specs.declared.handle.TypedResource.{TypedResource}
use Rattle.canon_handles.specs.declared.handle.TypedResourceIndex.{TypedResourceIndex}
use Rattle.canon_handles.specs.declared.handle.RemovedResource.{RemovedResource}
use Rattle.canon_handles.specs.declared.handle.RemovedResource.TheVariants.{Own, Borrow}
use Rattle.canon_handles.specs.declared.handle.Entry.{Entry}
use Rattle.canon_handles.specs.declared.handle.Entry.TheVariants.{ResourceOwn, ResourceBorrow, Stream, Future, ErrorContext, Subtask, WaitableSet}
use Rattle.canon_handles.specs.declared.error.HandleError.TheVariants as error
use Rattle.canon_ledger.specs.declared.fault.ResourceFault.TheVariants as fault
use Rattle.canon_handles.specs.Step.{refuse_if, and_then, put, one_if}
use Rattle.canon_handles.specs.Table.{Table, Counter, Outcome, entry_at, fresh_index, with_new, with_entry, without, IsTable, empty_table, is_full, is_at_limit, one_more, one_less, insert, lookup_entry}
use Rattle.canon_handles.specs.Calls as table
use Rattle.canon_handles.specs.Calls.{lends_of, raw_index, rep_as, read_removed, lend_entry, undo_lend_entry, most_lends}
use Rattle.canon_ledger.specs.Handles as handles
use Rattle.canon_ledger.specs.Handles.{Handles, Lender, OpenScope, StepAnswer, table_at, with_table, scope_at, with_scope, no_scope, sum_over_tables, stands, borrows, lenders_of, is_lender_of, IsConsistent, borrow_added, borrow_dropped, lender_added, finished, enter, leave, can_leave, is_empty_scope, set_limit, opened, lift_borrow_in, lower_borrow_in, dropped, lifted_own, lent, give_back, undone, exit_scope}
use Rattle.canon_handles.proofs.StepLemmas.{get_or-put_same, get_or-put_other, some_within, get_or_past_end, sum_by-put, one_if-true, one_if-false}
use Rattle.canon_ledger.proofs.StepLemmas.{if_ok-refuse, if_ok-then, if_ok_always}
use Rattle.canon_handles.proofs.TableLemmas.{fresh, equal_or_not, is_table-with_new, is_table-with_entry, is_table-without}

pub within_or_past : (p n : ℕ) → (p < n) ⊎ (n ≤ p)
within_or_past p n = grind arith

nothing_in_empty : (i : ℕ) → entry_at {E = Entry} (empty_table 0) i ≡ None
nothing_in_empty zero = refl
nothing_in_empty (suc i) = refl

-- a table that gives an index is there
pub there_by_room : (h : Handles) (p : ℕ) → is_full (table_at h p) ≡ false → p < length h.tables
there_by_room h p room = elim (within_or_past p (length h.tables)) [
  | inl l ↦ l
  | inr past ↦
      (let e : table_at h p ≡ empty_table {E = Entry} 0 = get_or_past_end h.tables p (empty_table 0) past in
      let full : is_full (table_at h p) ≡ true = ap is_full e in
      absurd (cc))
]

-- a table that has an entry is there
pub there_by_entry : (h : Handles) (p i : ℕ) (e : Entry) → entry_at (table_at h p) i ≡ Some e → p < length h.tables
there_by_entry h p i x is = elim (within_or_past p (length h.tables)) [
  | inl l ↦ l
  | inr past ↦
      (let e : table_at h p ≡ empty_table {E = Entry} 0 = get_or_past_end h.tables p (empty_table 0) past in
      let none : entry_at (table_at h p) i ≡ None = ap (λ t. entry_at t i) e ∙ nothing_in_empty i in
      absurd (cc))
]

-- Index i of table p is written.
module _ (h : Handles) (p i : ℕ) (t' : Table Entry) (c : Counter) (x : Option Entry) (present : p < length h.tables) (place : i ≤ length (table_at h p).array) (written : t'.array ≡ put (table_at h p).array i x) where
  pub total_after : (f : Option Entry → ℕ) → f None ≡ 0 → sum_over_tables f (with_table h p t' c) + f (entry_at (table_at h p) i) ≡ sum_over_tables f h + f x
  total_after f z =
      let a = sum_by-set (λ (t : Table Entry). sum_by f t.array) h.tables p t' (empty_table 0) present in
      let b = sum_by-put f (table_at h p).array i x None z in
      let e : sum_by f t'.array ≡ sum_by f (put (table_at h p).array i x) = ap (sum_by f) written in
      omega arith

  pub table_same : table_at (with_table h p t' c) p ≡ t'
  table_same = get_or-set_same h.tables p t' (empty_table 0) present

  pub table_other : (q : ℕ) → q ≢ p → table_at (with_table h p t' c) q ≡ table_at h q
  table_other q ne = get_or-set_other h.tables p q t' (empty_table 0) ne

  pub entry_same : entry_at (table_at (with_table h p t' c) p) i ≡ x
  entry_same = ap (λ t. entry_at t i) table_same ∙ ap (λ a. get_or a i None) written ∙ get_or-put_same (table_at h p).array i x None place

  pub entry_other_table : (q j : ℕ) → q ≢ p → entry_at (table_at (with_table h p t' c) q) j ≡ entry_at (table_at h q) j
  entry_other_table q j ne = ap (λ t. entry_at t j) (table_other q ne)

  pub entry_other : (j : ℕ) → j ≢ i → entry_at (table_at (with_table h p t' c) p) j ≡ entry_at (table_at h p) j
  entry_other j ne = ap (λ t. entry_at t j) table_same ∙ ap (λ a. get_or a j None) written ∙ get_or-put_other (table_at h p).array i j x None place ne

  pub tables_after : ((q : ℕ) → IsTable (table_at h q)) → IsTable t' → (q : ℕ) → IsTable (table_at (with_table h p t' c) q)
  tables_after all s q = elim (equal_or_not q p) as (λ _. IsTable (table_at (with_table h p t' c) q)) [
    | inl e ↦ subst IsTable (sym (ap (table_at (with_table h p t' c)) e ∙ table_same)) s
    | inr ne ↦ subst IsTable (sym (table_other q ne)) (all q)
  ]

  -- what a function of an entry is after the writing, which changes it at one place alone
  pub entries_after : (P : ℕ → ℕ → Option Entry → Type 0) → ((q j : ℕ) → (q ≢ p) ⊎ (j ≢ i) → P q j (entry_at (table_at h q) j)) → P p i x → (q j : ℕ) → P q j (entry_at (table_at (with_table h p t' c) q) j)
  entries_after P else here q j = elim (equal_or_not q p) as (λ _. P q j (entry_at (table_at (with_table h p t' c) q) j)) [
    | inl e ↦ elim (equal_or_not j i) as (λ _. P q j (entry_at (table_at (with_table h p t' c) q) j)) [
      | inl d ↦ subst (λ (a : ℕ). P a j (entry_at (table_at (with_table h p t' c) a) j)) (sym e)
          (subst (λ (b : ℕ). P p b (entry_at (table_at (with_table h p t' c) p) b)) (sym d) (subst (P p i) (sym entry_same) here))
      | inr ne ↦ subst (λ (a : ℕ). P a j (entry_at (table_at (with_table h p t' c) a) j)) (sym e)
          (subst (P p j) (sym (entry_other j ne)) (else p j (inr ne)))
    ]
    | inr ne ↦ subst (P q j) (sym (entry_other_table q j ne)) (else q j (inl ne))
  ]

-- Scopes

same_scope : (h : Handles) (k : ℕ) (s : OpenScope) → k < length h.scopes → scope_at (with_scope h k s) k ≡ s
same_scope h k s within = get_or-set_same h.scopes k s no_scope within

other_scope : (h : Handles) (k j : ℕ) (s : OpenScope) → j ≢ k → scope_at (with_scope h k s) j ≡ scope_at h j
other_scope h k j s ne = get_or-set_other h.scopes k j s no_scope ne

-- how often a place stands among lenders
abbrev pub standing : ℕ → ℕ → List Lender → ℕ
standing q j lenders = sum_by (λ lender. one_if (is_lender_of q j lender)) lenders

pub lenders-with_scope : (q j : ℕ) (h : Handles) (k : ℕ) (s : OpenScope) → k < length h.scopes
    → lenders_of q j (set h.scopes k s) + standing q j (scope_at h k).lenders ≡ lenders_of q j h.scopes + standing q j s.lenders
lenders-with_scope q j h k s within = sum_by-set (λ (s : OpenScope). standing q j s.lenders) h.scopes k s no_scope within

pub open_by_count : (h : Handles) (k : ℕ) → 1 ≤ (scope_at h k).borrow_count → k < length h.scopes
open_by_count h k some = elim (within_or_past k (length h.scopes)) [
  | inl l ↦ l
  | inr past ↦
      (let e : scope_at h k ≡ no_scope = get_or_past_end h.scopes k no_scope past in
      let zero : (scope_at h k).borrow_count ≡ 0 = ap (λ (s : OpenScope). s.borrow_count) e in
      absurd (omega arith))
]

-- Insertion

sound-insert : (h : Handles) (p : ℕ) (e : Entry) → IsConsistent h → is_full (table_at h p) ≡ false → lends_of (Some e) ≡ 0 → ((k : ℕ) → borrows k (Some e) ≡ 0)
    → IsConsistent (with_table h p (with_new (table_at h p) e) (one_more h.counter))
sound-insert h p e s room no_lends no_borrow =
    let t = table_at h p in
    let n = fresh_index t in
    let f = fresh t (s.tables_sound p) in
    let present = there_by_room h p room in
    let t' = with_new t e in
    let after = total_after h p n t' (one_more h.counter) (Some e) present f.at_end refl in
    record {
      tables_sound = tables_after h p n t' (one_more h.counter) (Some e) present f.at_end refl s.tables_sound (is_table-with_new t e (s.tables_sound p));
      live_handles = (let a = after stands refl in let old = ap stands f.vacant in let a' = after lends_of refl in let old' = ap lends_of f.vacant in let live = s.live_handles in omega arith);
      lend_counts = entries_after h p n t' (one_more h.counter) (Some e) present f.at_end refl (λ q j o. lenders_of q j h.scopes ≡ lends_of o)
          (λ q j _. s.lend_counts q j) (s.lend_counts p n ∙ ap lends_of f.vacant ∙ sym no_lends);
      borrow_counts = λ k. (let a = after (borrows k) refl in let old = ap (borrows k) f.vacant in let was = s.borrow_counts k in let z = no_borrow k in omega arith);
    }

sound-insert_borrow : (h : Handles) (p k : ℕ) (r : TypedResource) → IsConsistent h → is_full (table_at h p) ≡ false → k < length h.scopes
    → IsConsistent (borrow_added (with_table h p (with_new (table_at h p) (ResourceBorrow r (Id k))) (one_more h.counter)) k)
sound-insert_borrow h p k r s room within =
    let e = ResourceBorrow r (Id k) in
    let t = table_at h p in
    let n = fresh_index t in
    let f = fresh t (s.tables_sound p) in
    let present = there_by_room h p room in
    let t' = with_new t e in
    let h' = with_table h p t' (one_more h.counter) in
    let after = total_after h p n t' (one_more h.counter) (Some e) present f.at_end refl in
    let scope : OpenScope = record { lenders = (scope_at h k).lenders; borrow_count = (scope_at h k).borrow_count + 1 } in
    record {
      tables_sound = tables_after h p n t' (one_more h.counter) (Some e) present f.at_end refl s.tables_sound (is_table-with_new t e (s.tables_sound p));
      live_handles = (let a = after stands refl in let old = ap stands f.vacant in let a' = after lends_of refl in let old' = ap lends_of f.vacant in let live = s.live_handles in omega arith);
      lend_counts = entries_after h p n t' (one_more h.counter) (Some e) present f.at_end refl (λ q j o. lenders_of q j (set h.scopes k scope) ≡ lends_of o)
          (λ q j _. (let l = lenders-with_scope q j h k scope within in let was = s.lend_counts q j in omega arith))
          (let l = lenders-with_scope p n h k scope within in let was = s.lend_counts p n in let old = ap lends_of f.vacant in omega arith);
      borrow_counts = λ j. elim (equal_or_not j k) as (λ _. (scope_at (borrow_added h' k) j).borrow_count ≡ sum_over_tables (borrows j) h') [
        | inl at ↦
            (let a = after (borrows j) refl in let old = ap (borrows j) f.vacant in let was = s.borrow_counts j in
            let one : one_if (k == j) ≡ 1 = one_if-true _ (eq-eqb k j (sym at)) in
            let now : (scope_at (borrow_added h' k) j).borrow_count ≡ (scope_at h k).borrow_count + 1 = ap (λ (i : ℕ). (scope_at (borrow_added h' k) i).borrow_count) at
            ∙ ap (λ (s : OpenScope). s.borrow_count) (same_scope h k scope within) in
            let same : (scope_at h j).borrow_count ≡ (scope_at h k).borrow_count = ap (λ (i : ℕ). (scope_at h i).borrow_count) at in
            omega arith)
        | inr ne ↦
            (let a = after (borrows j) refl in let old = ap (borrows j) f.vacant in let was = s.borrow_counts j in
            let none : one_if (k == j) ≡ 0 = one_if-false _ (ne_eqb k j (λ is. ne (sym is))) in
            let now : (scope_at (borrow_added h' k) j).borrow_count ≡ (scope_at h j).borrow_count = ap (λ (s : OpenScope). s.borrow_count) (other_scope h k j scope ne) in
            omega arith)
      ];
    }

-- Removal

sound-remove : (h : Handles) (p i : ℕ) (e : Entry) → IsConsistent h → entry_at (table_at h p) i ≡ Some e → lends_of (Some e) ≡ 0 → ((k : ℕ) → borrows k (Some e) ≡ 0)
    → IsConsistent (with_table h p (without (table_at h p) i) (one_less h.counter))
sound-remove h p i e s is no_lends no_borrow =
    let t = table_at h p in
    let present = there_by_entry h p i e is in
    let in_array = some_within t.array i e is in
    let place : i ≤ length t.array = omega arith in
    let t' = without t i in
    let after = total_after h p i t' (one_less h.counter) None present place refl in
    record {
      tables_sound = tables_after h p i t' (one_less h.counter) None present place refl s.tables_sound (is_table-without t i e (s.tables_sound p) is);
      live_handles = (let a = after stands refl in let old = ap stands is in let a' = after lends_of refl in let old' = ap lends_of is in let live = s.live_handles in omega arith);
      lend_counts = entries_after h p i t' (one_less h.counter) None present place refl (λ q j o. lenders_of q j h.scopes ≡ lends_of o)
          (λ q j _. s.lend_counts q j) (s.lend_counts p i ∙ ap lends_of is ∙ no_lends);
      borrow_counts = λ k. (let a = after (borrows k) refl in let old = ap (borrows k) is in let was = s.borrow_counts k in let z = no_borrow k in omega arith);
    }

sound-remove_borrow : (h : Handles) (p i k : ℕ) (r : TypedResource) → IsConsistent h → entry_at (table_at h p) i ≡ Some (ResourceBorrow r (Id k))
    → IsConsistent (borrow_dropped (with_table h p (without (table_at h p) i) (one_less h.counter)) k)
sound-remove_borrow h p i k r s is =
    let e = ResourceBorrow r (Id k) in
    let t = table_at h p in
    let present = there_by_entry h p i e is in
    let in_array = some_within t.array i e is in
    let place : i ≤ length t.array = omega arith in
    let t' = without t i in
    let h' = with_table h p t' (one_less h.counter) in
    let after = total_after h p i t' (one_less h.counter) None present place refl in
    let scope : OpenScope = record { lenders = (scope_at h k).lenders; borrow_count = (scope_at h k).borrow_count - 1 } in
    let own : one_if (k == k) ≡ 1 = one_if-true _ (eq-eqb k k refl) in
    let a_k = after (borrows k) refl in
    let old_k = ap (borrows k) is in
    let was_k = s.borrow_counts k in
    let within : k < length h.scopes = open_by_count h k (omega arith) in
    record {
      tables_sound = tables_after h p i t' (one_less h.counter) None present place refl s.tables_sound (is_table-without t i e (s.tables_sound p) is);
      live_handles = (let a = after stands refl in let old = ap stands is in let a' = after lends_of refl in let old' = ap lends_of is in let live = s.live_handles in omega arith);
      lend_counts = entries_after h p i t' (one_less h.counter) None present place refl (λ q j o. lenders_of q j (set h.scopes k scope) ≡ lends_of o)
          (λ q j _. (let l = lenders-with_scope q j h k scope within in let was = s.lend_counts q j in omega arith))
          (let l = lenders-with_scope p i h k scope within in let was = s.lend_counts p i in let old = ap lends_of is in omega arith);
      borrow_counts = λ j. elim (equal_or_not j k) as (λ _. (scope_at (borrow_dropped h' k) j).borrow_count ≡ sum_over_tables (borrows j) h') [
        | inl at ↦
            (let now : (scope_at (borrow_dropped h' k) j).borrow_count ≡ (scope_at h k).borrow_count - 1 = ap (λ (i : ℕ). (scope_at (borrow_dropped h' k) i).borrow_count) at
            ∙ ap (λ (s : OpenScope). s.borrow_count) (same_scope h k scope within) in
            let same : sum_over_tables (borrows j) h' ≡ sum_over_tables (borrows k) h' = ap (λ (i : ℕ). sum_over_tables (borrows i) h') at in
            omega arith)
        | inr ne ↦
            (let a = after (borrows j) refl in let old = ap (borrows j) is in let was = s.borrow_counts j in
            let none : one_if (k == j) ≡ 0 = one_if-false _ (ne_eqb k j (λ is. ne (sym is))) in
            let now : (scope_at (borrow_dropped h' k) j).borrow_count ≡ (scope_at h j).borrow_count = ap (λ (s : OpenScope). s.borrow_count) (other_scope h k j scope ne) in
            omega arith)
      ];
    }

-- Lends

pub lender_here : (p i : ℕ) (lender : Lender) → lender.table ≡ p → raw_index lender.index ≡ i → one_if (is_lender_of p i lender) ≡ 1
lender_here p i lender a b = one_if-true _ (ap (λ (x : Bool). x && (raw_index lender.index == i)) (eq-eqb lender.table p a) ∙ eq-eqb (raw_index lender.index) i b)

pub lender_there : (q j : ℕ) (lender : Lender) → (q ≢ lender.table) ⊎ (j ≢ raw_index lender.index) → one_if (is_lender_of q j lender) ≡ 0
lender_there q j lender (inl ne) = one_if-false _ (ap (λ (x : Bool). x && (raw_index lender.index == j)) (ne_eqb lender.table q (λ e. ne (sym e))))
lender_there q j lender (inr ne) = one_if-false _ (ap (λ (x : Bool). (lender.table == q) && x) (ne_eqb (raw_index lender.index) j (λ e. ne (sym e))) ∙ and-false (lender.table == q))

standing-append : (q j : ℕ) (lenders : List Lender) (lender : Lender) → standing q j (lenders ++ lender ∷ []) ≡ standing q j lenders + one_if (is_lender_of q j lender)
standing-append q j lenders lender =
    let a = sum_by-append (λ (l : Lender). one_if (is_lender_of q j l)) lenders (lender ∷ []) in
    let b = sum_by-cons (λ (l : Lender). one_if (is_lender_of q j l)) lender [] in
    let c : standing q j [] ≡ 0 = refl in
    omega arith

sound-lend : (h : Handles) (p k n : ℕ) (idx : TypedResourceIndex) (r : TypedResource) → IsConsistent h → entry_at (table_at h p) (raw_index idx) ≡ Some (ResourceOwn r n) → k < length h.scopes
    → IsConsistent (lender_added (with_table h p (with_entry (table_at h p) (raw_index idx) (ResourceOwn r (n + 1))) (one_more h.counter)) k (record { table = p; index = idx }))
sound-lend h p k n idx r s is within =
    let i = raw_index idx in
    let e = ResourceOwn r (n + 1) in
    let t = table_at h p in
    let present = there_by_entry h p i (ResourceOwn r n) is in
    let in_array = some_within t.array i (ResourceOwn r n) is in
    let place : i ≤ length t.array = omega arith in
    let t' = with_entry t i e in
    let h' = with_table h p t' (one_more h.counter) in
    let after = total_after h p i t' (one_more h.counter) (Some e) present place refl in
    let lender : Lender = record { table = p; index = idx } in
    let scope : OpenScope = record { lenders = (scope_at h k).lenders ++ lender ∷ []; borrow_count = (scope_at h k).borrow_count } in
    record {
      tables_sound = tables_after h p i t' (one_more h.counter) (Some e) present place refl s.tables_sound (is_table-with_entry t i (ResourceOwn r n) e (s.tables_sound p) is);
      live_handles = (let a = after stands refl in let old = ap stands is in let a' = after lends_of refl in let old' = ap lends_of is in let live = s.live_handles in omega arith);
      lend_counts = entries_after h p i t' (one_more h.counter) (Some e) present place refl (λ q j o. lenders_of q j (set h.scopes k scope) ≡ lends_of o)
          (λ q j else. (let l = lenders-with_scope q j h k scope within in let was = s.lend_counts q j in
          let b = standing-append q j (scope_at h k).lenders lender in let z = lender_there q j lender else in omega arith))
          (let l = lenders-with_scope p i h k scope within in let was = s.lend_counts p i in let old = ap lends_of is in
          let b = standing-append p i (scope_at h k).lenders lender in let z = lender_here p i lender refl refl in omega arith);
      borrow_counts = λ j. (let a = after (borrows j) refl in let old = ap (borrows j) is in let was = s.borrow_counts j in
          elim (equal_or_not j k) as (λ _. (scope_at (lender_added h' k lender) j).borrow_count ≡ sum_over_tables (borrows j) h') [
            | inl at ↦
                (let now : (scope_at (lender_added h' k lender) j).borrow_count ≡ (scope_at h k).borrow_count = ap (λ (i : ℕ). (scope_at (lender_added h' k lender) i).borrow_count) at
                ∙ ap (λ (s : OpenScope). s.borrow_count) (same_scope h k scope within) in
                let same : (scope_at h j).borrow_count ≡ (scope_at h k).borrow_count = ap (λ (i : ℕ). (scope_at h i).borrow_count) at in
                omega arith)
            | inr ne ↦
                (let now : (scope_at (lender_added h' k lender) j).borrow_count ≡ (scope_at h j).borrow_count = ap (λ (s : OpenScope). s.borrow_count) (other_scope h k j scope ne) in
                omega arith)
          ]);
    }

-- What holds while lends are given back: those of the lenders in a list are yet to be.
record IsSoundBut (lenders : List Lender) (h : Handles) : Type 0 where
  tables_sound : (p : ℕ) → IsTable (table_at h p)
  live_handles : h.counter.live ≡ sum_over_tables stands h + sum_over_tables lends_of h
  lend_counts : (p i : ℕ) → lenders_of p i h.scopes + standing p i lenders ≡ lends_of (entry_at (table_at h p) i)
  borrow_counts : (k : ℕ) → (scope_at h k).borrow_count ≡ sum_over_tables (borrows k) h

sound-undo_own : (h : Handles) (lender : Lender) (lenders : List Lender) (r : TypedResource) (n : ℕ) → IsSoundBut (lender ∷ lenders) h → entry_at (table_at h lender.table) (raw_index lender.index) ≡ Some (ResourceOwn r n)
    → IsSoundBut lenders (with_table h lender.table (with_entry (table_at h lender.table) (raw_index lender.index) (ResourceOwn r (n - 1))) (one_less h.counter))
sound-undo_own h lender lenders r n s is =
    let p = lender.table in
    let i = raw_index lender.index in
    let e = ResourceOwn r (n - 1) in
    let t = table_at h p in
    let present = there_by_entry h p i (ResourceOwn r n) is in
    let in_array = some_within t.array i (ResourceOwn r n) is in
    let place : i ≤ length t.array = omega arith in
    let t' = with_entry t i e in
    let after = total_after h p i t' (one_less h.counter) (Some e) present place refl in
    let here = s.lend_counts p i in
    let front = sum_by-cons (λ (l : Lender). one_if (is_lender_of p i l)) lender lenders in
    let one = lender_here p i lender refl refl in
    let was_n = ap lends_of is in
    let lent : 1 ≤ n = omega arith in
    record {
      tables_sound = tables_after h p i t' (one_less h.counter) (Some e) present place refl s.tables_sound (is_table-with_entry t i (ResourceOwn r n) e (s.tables_sound p) is);
      live_handles = (let a = after stands refl in let old = ap stands is in let a' = after lends_of refl in let old' = ap lends_of is in let live = s.live_handles in omega arith);
      lend_counts = entries_after h p i t' (one_less h.counter) (Some e) present place refl (λ q j o. lenders_of q j h.scopes + standing q j lenders ≡ lends_of o)
          (λ q j else. (let was = s.lend_counts q j in let b = sum_by-cons (λ (l : Lender). one_if (is_lender_of q j l)) lender lenders in let z = lender_there q j lender else in omega arith))
          (omega arith);
      borrow_counts = λ k. (let a = after (borrows k) refl in let old = ap (borrows k) is in let was = s.borrow_counts k in omega arith);
    }

-- a lender that is yet to be given back names an own handle
undo_step : (h : Handles) (lender : Lender) (lenders : List Lender) (o : Option Entry) → IsSoundBut (lender ∷ lenders) h → entry_at (table_at h lender.table) (raw_index lender.index) ≡ o
    → 1 ≤ lends_of o
    → IsSoundBut lenders (undone h (finished h lender.table (raw_index lender.index) (undo_lend_entry (table_at h lender.table) h.counter (raw_index lender.index) o)))
undo_step h lender lenders None s is some = absurd (omega arith)
undo_step h lender lenders (Some (ResourceOwn r n)) s is some = sound-undo_own h lender lenders r n s is
undo_step h lender lenders (Some (ResourceBorrow r scope)) s is some = absurd (omega arith)
undo_step h lender lenders (Some (Stream ty rep state)) s is some = absurd (omega arith)
undo_step h lender lenders (Some (Future ty rep state)) s is some = absurd (omega arith)
undo_step h lender lenders (Some (ErrorContext rep)) s is some = absurd (omega arith)
undo_step h lender lenders (Some (Subtask rep host)) s is some = absurd (omega arith)
undo_step h lender lenders (Some (WaitableSet rep)) s is some = absurd (omega arith)

lender_lends : (h : Handles) (lender : Lender) (lenders : List Lender) → IsSoundBut (lender ∷ lenders) h → 1 ≤ lends_of (entry_at (table_at h lender.table) (raw_index lender.index))
lender_lends h lender lenders s =
    let here = s.lend_counts lender.table (raw_index lender.index) in
    let front = sum_by-cons (λ (l : Lender). one_if (is_lender_of lender.table (raw_index lender.index) l)) lender lenders in
    let one = lender_here lender.table (raw_index lender.index) lender refl refl in
    omega arith

sound-give_back : (lenders : List Lender) (h : Handles) → IsSoundBut lenders h → IsConsistent (give_back lenders h)
sound-give_back [] h s =
    record {
      tables_sound = s.tables_sound;
      live_handles = s.live_handles;
      lend_counts = λ p i. (let was = s.lend_counts p i in let z : standing p i [] ≡ 0 = refl in omega arith);
      borrow_counts = s.borrow_counts;
    }
sound-give_back (lender ∷ lenders) h s =
    sound-give_back lenders _ (undo_step h lender lenders (entry_at (table_at h lender.table) (raw_index lender.index)) s refl (lender_lends h lender lenders s))

-- A scope whose lends are to be given back

cleared : (h : Handles) (k : ℕ) → IsConsistent h → k < length h.scopes → (scope_at h k).borrow_count ≡ 0 → IsSoundBut (scope_at h k).lenders (with_scope h k no_scope)
cleared h k s within no_borrows =
    record {
      tables_sound = s.tables_sound;
      live_handles = s.live_handles;
      lend_counts = λ p i. (let was = s.lend_counts p i in let l = lenders-with_scope p i h k no_scope within in let z : standing p i [] ≡ 0 = refl in omega arith);
      borrow_counts = λ j. (let was = s.borrow_counts j in
          elim (equal_or_not j k) as (λ _. (scope_at (with_scope h k no_scope) j).borrow_count ≡ sum_over_tables (borrows j) h) [
            | inl at ↦
                (let now : (scope_at (with_scope h k no_scope) j).borrow_count ≡ 0 = ap (λ (i : ℕ). (scope_at (with_scope h k no_scope) i).borrow_count) at ∙ ap (λ (s : OpenScope). s.borrow_count) (same_scope h k no_scope within) in
                let same : (scope_at h j).borrow_count ≡ (scope_at h k).borrow_count = ap (λ (i : ℕ). (scope_at h i).borrow_count) at in
                omega arith)
            | inr ne ↦ ap (λ (s : OpenScope). s.borrow_count) (other_scope h k j no_scope ne) ∙ was
          ]);
    }

-- Enter and leave

scope_past : (h : Handles) (j : ℕ) → length h.scopes ≤ j → (scope_at h j).borrow_count ≡ 0
scope_past h j past = ap (λ (s : OpenScope). s.borrow_count) (get_or_past_end h.scopes j no_scope past)

get_or-one_more : (xs : List OpenScope) (j : ℕ) → get_or (xs ++ no_scope ∷ []) j no_scope ≡ get_or xs j no_scope
get_or-one_more [] zero = refl
get_or-one_more [] (suc j) = refl
get_or-one_more (x ∷ xs) zero = refl
get_or-one_more (x ∷ xs) (suc j) = get_or-one_more xs j

pub sound-enter : (h : Handles) → IsConsistent h → IsConsistent (enter h)
sound-enter h s =
    record {
      tables_sound = s.tables_sound;
      live_handles = s.live_handles;
      lend_counts = λ p i. (let was = s.lend_counts p i in
          let a = sum_by-append (λ (s : OpenScope). standing p i s.lenders) h.scopes (no_scope ∷ []) in
          let b = sum_by-cons (λ (s : OpenScope). standing p i s.lenders) no_scope [] in
          let c : standing p i no_scope.lenders ≡ 0 = refl in
          let d : lenders_of p i [] ≡ 0 = refl in omega arith);
      borrow_counts = λ k. ap (λ (s : OpenScope). s.borrow_count) (get_or-one_more h.scopes k) ∙ s.borrow_counts k;
    }

last_out : (f : OpenScope → ℕ) (xs : List OpenScope) (n : ℕ) → length xs ≡ suc n → sum_by f xs ≡ sum_by f (take n xs) + f (get_or xs n no_scope)
last_out f [] n e = absurd (omega arith)
last_out f (x ∷ []) zero e = (let a = sum_by-cons f x [] in let b : sum_by f [] ≡ 0 = refl in omega arith)
last_out f (x ∷ y ∷ ys) zero e = absurd (omega arith)
last_out f (x ∷ []) (suc n) e = absurd (omega arith)
last_out f (x ∷ y ∷ ys) (suc n) e =
    let a = sum_by-cons f x (y ∷ ys) in
    let b : sum_by f (take (suc n) (x ∷ y ∷ ys)) ≡ f x + sum_by f (take n (y ∷ ys)) = sum_by-cons f x (take n (y ∷ ys)) in
    let c = last_out f (y ∷ ys) n (omega arith) in
    omega arith

get_or-take_past : {A : Type 0} (xs : List A) (n j : ℕ) (d : A) → n ≤ j → get_or (take n xs) j d ≡ d
get_or-take_past [] zero j d h = refl
get_or-take_past [] (suc n) j d h = refl
get_or-take_past (x ∷ xs) zero j d h = refl
get_or-take_past (x ∷ xs) (suc n) zero d h = absurd (omega arith)
get_or-take_past (x ∷ xs) (suc n) (suc j) d h = get_or-take_past xs n j d (omega arith)

left_facts : (n l c : ℕ) → nat_lt 0 n && ((l == 0) && (c == 0)) ≡ true → (0 < n) × (l ≡ 0) × (c ≡ 0)
left_facts n l c e = grind (arith, nat_tests)

no_lenders : (lenders : List Lender) → length lenders ≡ 0 → (p i : ℕ) → standing p i lenders ≡ 0
no_lenders [] e p i = refl
no_lenders (x ∷ xs) e p i = absurd (omega arith)

pub sound-leave : (h : Handles) → IsConsistent h → can_leave h ≡ true → IsConsistent (leave h)
sound-leave h s can =
    let n = length h.scopes - 1 in
    let w = left_facts (length h.scopes) (length (scope_at h n).lenders) (scope_at h n).borrow_count can in
    record {
      tables_sound = s.tables_sound;
      live_handles = s.live_handles;
      lend_counts = λ p i. (let was = s.lend_counts p i in
          let l = last_out (λ (s : OpenScope). standing p i s.lenders) h.scopes n (omega arith) in
          let z = no_lenders (scope_at h n).lenders w.1 p i in omega arith);
      borrow_counts = λ k. (let was = s.borrow_counts k in
          elim (within_or_past k n) as (λ _. (scope_at (leave h) k).borrow_count ≡ sum_over_tables (borrows k) h) [
            | inl lt ↦ ap (λ (s : OpenScope). s.borrow_count) (get_or-take n h.scopes k no_scope lt) ∙ was
            | inr past ↦
                (let gone : (scope_at (leave h) k).borrow_count ≡ 0 = ap (λ (s : OpenScope). s.borrow_count) (get_or-take_past h.scopes n k no_scope past) in
                elim (equal_or_not k n) as (λ _. (scope_at (leave h) k).borrow_count ≡ sum_over_tables (borrows k) h) [
                  | inl at ↦ (let same : (scope_at h k).borrow_count ≡ (scope_at h n).borrow_count = ap (λ (i : ℕ). (scope_at h i).borrow_count) at in omega arith)
                  | inr ne ↦ (let z = scope_past h k (omega arith) in omega arith)
                ])
          ]);
    }

pub sound-set_limit : (h : Handles) (n : ℕ) → IsConsistent h → IsConsistent (set_limit h n)
sound-set_limit h n s = record { tables_sound = s.tables_sound; live_handles = s.live_handles; lend_counts = s.lend_counts; borrow_counts = s.borrow_counts }

-- The calls

pub if_ok-finished : {A : Type 0} (P : A × Handles → Type 0) (h : Handles) (p i : ℕ) (r : Outcome Entry A) → IfOk r (λ w. P (w.0, with_table h p w.1 w.2)) → IfOk (finished h p i r) P
if_ok-finished P h p i (Ok (a, t, c)) w = w
if_ok-finished P h p i (Err e) w = tt

-- An insertion gives a fresh index where there is room.
pub if_ok-insert : (P : ℕ × Table Entry × Counter → Type 0) (t : Table Entry) (c : Counter) (e : Entry) → (is_full t ≡ false → P (fresh_index t, with_new t e, one_more c)) → IfOk (insert t c e) P
if_ok-insert P t c e h =
    if_ok-refuse P (is_full t) error.IndexOverflow _ (λ room. if_ok-refuse P (is_at_limit c) error.HandleLimit _ (λ _. h room))

zero_lends : (n : ℕ) → not (n == 0) ≡ false → n ≡ 0
zero_lends n e = grind (arith, nat_tests)

-- A removal of a resource takes out an own handle that isn't lent, or a borrow handle.
pub removed_cases : (P : RemovedResource × Table Entry × Counter → Type 0) (t : Table Entry) (c : Counter) (idx : TypedResourceIndex) (o : Option Entry) → entry_at t (raw_index idx) ≡ o
    → ((r : TypedResource) (n rep : ℕ) → o ≡ Some (ResourceOwn r n) → n ≡ 0 → P (Own rep, without t (raw_index idx), one_less c))
    → ((r : TypedResource) (scope : Scope) → o ≡ Some (ResourceBorrow r scope) → P (Borrow scope, without t (raw_index idx), one_less c))
    → IfOk (and_then (lookup_entry (read_removed idx) o) (λ a. Ok (a, without t (raw_index idx), one_less c))) P
removed_cases P t c idx None is own borrow = tt
removed_cases P t c idx (Some (ResourceOwn r n)) is own borrow =
    if_ok-then P (refuse_if (not (n == 0)) error.StillLent (and_then (rep_as idx r) (λ rep. Ok (Own rep)))) _
    (if_ok-refuse _ (not (n == 0)) error.StillLent _ (λ free.
    if_ok-then _ (rep_as idx r) _ (if_ok_always _ (rep_as idx r) (λ rep. own r n rep refl (zero_lends n free)))))
removed_cases P t c idx (Some (ResourceBorrow r scope)) is own borrow =
    if_ok-then P (and_then (rep_as idx r) (λ rep. Ok (Borrow scope))) _
    (if_ok-then _ (rep_as idx r) _ (if_ok_always _ (rep_as idx r) (λ rep. borrow r scope refl)))
removed_cases P t c idx (Some (Stream ty rep state)) is own borrow = tt
removed_cases P t c idx (Some (Future ty rep state)) is own borrow = tt
removed_cases P t c idx (Some (ErrorContext rep)) is own borrow = tt
removed_cases P t c idx (Some (Subtask rep host)) is own borrow = tt
removed_cases P t c idx (Some (WaitableSet rep)) is own borrow = tt

-- A lend adds one to an own handle's count, and does nothing to a borrow handle.
pub lent_cases : (P : (ℕ × Bool) × Table Entry × Counter → Type 0) (t : Table Entry) (c : Counter) (idx : TypedResourceIndex) (o : Option Entry) → entry_at t (raw_index idx) ≡ o
    → ((r : TypedResource) (n rep : ℕ) → o ≡ Some (ResourceOwn r n) → P ((rep, true), with_entry t (raw_index idx) (ResourceOwn r (n + 1)), one_more c))
    → ((rep : ℕ) → P ((rep, false), t, c))
    → IfOk (lend_entry t c idx o) P
lent_cases P t c idx None is own borrow = tt
lent_cases P t c idx (Some (ResourceOwn r n)) is own borrow =
    if_ok-then P (rep_as idx r) _ (if_ok_always _ (rep_as idx r) (λ rep.
    if_ok-refuse P (nat_le most_lends n) error.TooManyLends _ (λ _. if_ok-refuse P (is_at_limit c) error.HandleLimit _ (λ _. own r n rep refl))))
lent_cases P t c idx (Some (ResourceBorrow r scope)) is own borrow =
    if_ok-then P (rep_as idx r) _ (if_ok_always _ (rep_as idx r) (λ rep. borrow rep))
lent_cases P t c idx (Some (Stream ty rep state)) is own borrow = tt
lent_cases P t c idx (Some (Future ty rep state)) is own borrow = tt
lent_cases P t c idx (Some (ErrorContext rep)) is own borrow = tt
lent_cases P t c idx (Some (Subtask rep host)) is own borrow = tt
lent_cases P t c idx (Some (WaitableSet rep)) is own borrow = tt

-- Each call, where it is accepted, leaves sound handles

pub sound-resource_new : (h : Handles) (p : ℕ) (r : TypedResource) → IsConsistent h → IfOk (handles.resource_new h p r) (λ w. IsConsistent w.1)
sound-resource_new h p r s =
    if_ok-finished (λ (w : ℕ × Handles). IsConsistent w.1) h p 0 _ (if_ok-insert _ (table_at h p) h.counter (ResourceOwn r 0) (λ room. sound-insert h p (ResourceOwn r 0) s room refl (λ _. refl)))

sound-dropped_borrow : (h : Handles) (p i : ℕ) (r : TypedResource) (scope : Scope) → IsConsistent h → entry_at (table_at h p) i ≡ Some (ResourceBorrow r scope)
    → IfOk (dropped (Borrow scope, with_table h p (without (table_at h p) i) (one_less h.counter))) (λ w. IsConsistent w.1)
sound-dropped_borrow h p i r (Id k) s is = sound-remove_borrow h p i k r s is

pub sound-resource_drop : (h : Handles) (p : ℕ) (idx : TypedResourceIndex) → IsConsistent h → IfOk (handles.resource_drop h p idx) (λ w. IsConsistent w.1)
sound-resource_drop h p idx s =
    if_ok-then (λ (w : Option ℕ × Handles). IsConsistent w.1) _ dropped
    (if_ok-finished (λ w. IfOk (dropped w) (λ v. IsConsistent v.1)) h p (raw_index idx) _
    (removed_cases _ (table_at h p) h.counter idx (entry_at (table_at h p) (raw_index idx)) refl
    (λ r n rep is none. sound-remove h p (raw_index idx) (ResourceOwn r n) s is none (λ _. refl))
    (λ r scope is. sound-dropped_borrow h p (raw_index idx) r scope s is)))

pub sound-resource_lift_own : (h : Handles) (p : ℕ) (idx : TypedResourceIndex) → IsConsistent h → IfOk (handles.resource_lift_own h p idx) (λ w. IsConsistent w.1)
sound-resource_lift_own h p idx s =
    if_ok-then (λ (w : ℕ × Handles). IsConsistent w.1) _ lifted_own
    (if_ok-finished (λ w. IfOk (lifted_own w) (λ v. IsConsistent v.1)) h p (raw_index idx) _
    (removed_cases _ (table_at h p) h.counter idx (entry_at (table_at h p) (raw_index idx)) refl
    (λ r n rep is none. sound-remove h p (raw_index idx) (ResourceOwn r n) s is none (λ _. refl))
    (λ r scope is. tt)))

opened_within : (h : Handles) (scope : Option ℕ) (k : ℕ) → opened h scope ≡ Some k → k < length h.scopes
opened_within h None k e = absurd (cc)
opened_within h (Some j) k e = let w = cond_some (nat_lt j (length h.scopes)) j k e in subst (λ i. i < length h.scopes) w.1 (ltb-true j (length h.scopes) w.0)

pub same_table : (h : Handles) (p : ℕ) → with_table h p (table_at h p) h.counter ≡ h
same_table h p = let e = set-get_or h.tables p (empty_table 0) in λ i. record { tables = e i; counter = h.counter; scopes = h.scopes }

lift_borrow_sound : (o : Option ℕ) (h : Handles) (p : ℕ) (idx : TypedResourceIndex) → ((k : ℕ) → o ≡ Some k → k < length h.scopes) → IsConsistent h → IfOk (lift_borrow_in o h p idx) (λ w. IsConsistent w.1)
lift_borrow_sound (Some k) h p idx within s =
    if_ok-then (λ (w : ℕ × Handles). IsConsistent w.1) _ (lent k (record { table = p; index = idx }))
    (if_ok-finished (λ w. IfOk (lent k (record { table = p; index = idx }) w) (λ v. IsConsistent v.1)) h p (raw_index idx) _
    (lent_cases _ (table_at h p) h.counter idx (entry_at (table_at h p) (raw_index idx)) refl
    (λ r n rep is. sound-lend h p k n idx r s is (within k refl))
    (λ rep. subst IsConsistent (sym (same_table h p)) s)))
lift_borrow_sound None h p idx within s =
    if_ok-then (λ (w : ℕ × Handles). IsConsistent w.1) (handles.resource_rep h p idx) _
    (if_ok_always _ (handles.resource_rep h p idx) (λ rep. if_ok-refuse (λ (w : ℕ × Handles). IsConsistent w.1) (table.is_own (entry_at (table_at h p) (raw_index idx))) fault.NoScope _ (λ _. s)))

pub sound-resource_lift_borrow : (scope : Option ℕ) (h : Handles) (p : ℕ) (idx : TypedResourceIndex) → IsConsistent h → IfOk (handles.resource_lift_borrow scope h p idx) (λ w. IsConsistent w.1)
sound-resource_lift_borrow scope h p idx s = lift_borrow_sound (opened h scope) h p idx (opened_within h scope) s

lower_borrow_sound : (o : Option ℕ) (h : Handles) (p : ℕ) (r : TypedResource) → ((k : ℕ) → o ≡ Some k → k < length h.scopes) → IsConsistent h → IfOk (lower_borrow_in o h p r) (λ w. IsConsistent w.1)
lower_borrow_sound None h p r within s = tt
lower_borrow_sound (Some k) h p r within s =
    if_ok-then (λ (w : ℕ × Handles). IsConsistent w.1) _ (λ (i, h'). Ok (i, borrow_added h' k))
    (if_ok-finished (λ (w : ℕ × Handles). IsConsistent (borrow_added w.1 k)) h p 0 _
    (if_ok-insert _ (table_at h p) h.counter (ResourceBorrow r (Id k)) (λ room. sound-insert_borrow h p k r s room (within k refl))))

pub sound-resource_lower_borrow : (scope : Option ℕ) (h : Handles) (p : ℕ) (r : TypedResource) → IsConsistent h → IfOk (handles.resource_lower_borrow scope h p r) (λ w. IsConsistent w.1)
sound-resource_lower_borrow scope h p r s = lower_borrow_sound (opened h scope) h p r (opened_within h scope) s

exit_sound : (o : Option ℕ) (h : Handles) → ((k : ℕ) → o ≡ Some k → k < length h.scopes) → IsConsistent h → IfOk (exit_scope o h) (λ w. IsConsistent w.1)
exit_sound None h within s = tt
exit_sound (Some k) h within s =
    if_ok-refuse (λ (w : Unit {0} × Handles). IsConsistent w.1) (not ((scope_at h k).borrow_count == 0)) fault.BorrowsRemain _
    (λ none. sound-give_back (scope_at h k).lenders (with_scope h k no_scope) (cleared h k s (within k refl) (zero_lends (scope_at h k).borrow_count none)))

pub sound-validate_scope_exit : (scope : Option ℕ) (h : Handles) → IsConsistent h → IfOk (handles.validate_scope_exit scope h) (λ w. IsConsistent w.1)
sound-validate_scope_exit scope h s = exit_sound (opened h scope) h (opened_within h scope) s
