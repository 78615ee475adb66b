-- What holds of a ledger in hand.
use Rattle.std.proofs.Common.{◌≡◌, ℕ, suc, ◌<◌, ◌≤◌, true, false, ◌==◌, All, List, [], ◌∷◌, length, get_or, Option, Some, None, option_map, is_some, refl, sym, ap, ◌∙◌, arith, sum_by, inl, inr}
use Rattle.std.proofs.lemmas.List.Sums.{sum_by-cons}
use Rattle.std.proofs.lemmas.Bool.{eq-eqb, eqb-true}
use Rattle.canon_handles.specs.declared.handle.Scope.TheVariants.{Id}
use Rattle.canon_handles.specs.declared.handle.TypedResource.{TypedResource}
use Rattle.canon_handles.specs.declared.handle.Entry.{Entry}
use Rattle.canon_handles.specs.declared.handle.Entry.TheVariants.{ResourceBorrow}
use Rattle.canon_handles.specs.Step.{one_if}
use Rattle.canon_handles.specs.Table.{Table, entry_at, empty_table, without}
use Rattle.canon_handles.specs.Calls.{is_own, lends_of, raw_index}
use Rattle.canon_handles.proofs.StepLemmas.{some_within, get_or_past_end, one_if-true}
use Rattle.canon_ledger.specs.declared.host.TableSlot.{TableSlot}
use Rattle.canon_ledger.specs.Handles.{Handles, Lender, OpenScope, IsConsistent, table_at, scope_at, no_scope, sum_over_tables, stands, borrows, lenders_of, is_lender_of}
use Rattle.canon_ledger.specs.Ledger.{LedgerState, slot_at, slot_is_stale, last_generation}
use Rattle.canon_ledger.specs.Books.{Holds}
use Rattle.canon_ledger.specs.Laws.{IsLent, LedgerLaws}
use Rattle.canon_ledger.proofs.HandlesLemmas.{within_or_past, there_by_entry, total_after, standing, lenders-with_scope, open_by_count, lender_here}
use Rattle.canon_ledger.proofs.BooksLemmas.{term_le}
use Rattle.canon_ledger.proofs.OwedLemmas.{own_by_lends}
use Rattle.canon_ledger.proofs.HostLemmas.{ledger_not_false}

-- a sum of which each term is 0
sum_zero : {A : Type 0} (f : A → ℕ) (d : A) (xs : List A) → ((i : ℕ) → f (get_or xs i d) ≡ 0) → sum_by f xs ≡ 0
sum_zero f d [] z = refl
sum_zero f d (x ∷ xs) z =
    let a = sum_by-cons f x xs in
    let b : f x ≡ 0 = z 0 in
    let c = sum_zero f d xs (λ i. z (suc i)) in
    omega arith

lent_own : (o : Option Entry) → 1 ≤ lends_of o → (is_own o ≡ true) × (0 < lends_of o)
lent_own o some = (let w = own_by_lends o some in ap is_own w.2, omega arith)

module _ (h : Handles) (s : IsConsistent h) where
  -- a scope's lenders are counted by their handle's lend count
  standing_le : (p i k : ℕ) → standing p i (scope_at h k).lenders ≤ lends_of (entry_at (table_at h p) i)
  standing_le p i k = elim (within_or_past k (length h.scopes)) [
    | inl within ↦
        (let a = lenders-with_scope p i h k no_scope within in
        let none : standing p i [] ≡ 0 = refl in
        let c = s.lend_counts p i in
        omega arith)
    | inr past ↦
        (let e : scope_at h k ≡ no_scope = get_or_past_end h.scopes k no_scope past in
        let none : standing p i (scope_at h k).lenders ≡ 0 = ap (λ (s : OpenScope). standing p i s.lenders) e in
        omega arith)
  ]

  lenders_lent : (k : ℕ) → All (IsLent h) (scope_at h k).lenders
  lenders_lent k j d within =
      let lender : Lender = get_or (scope_at h k).lenders j d in
      let a = standing_le lender.table (raw_index lender.index) k in
      let b = term_le (λ (l : Lender). one_if (is_lender_of lender.table (raw_index lender.index) l)) (scope_at h k).lenders j lender d within refl in
      let one = lender_here lender.table (raw_index lender.index) lender refl refl in
      lent_own (entry_at (table_at h lender.table) (raw_index lender.index)) (omega arith)

  borrow_open : (p i k : ℕ) (r : TypedResource) → entry_at (table_at h p) i ≡ Some (ResourceBorrow r (Id k)) → k < length h.scopes
  borrow_open p i k r is =
      let present = there_by_entry h p i (ResourceBorrow r (Id k)) is in
      let in_array = some_within (table_at h p).array i (ResourceBorrow r (Id k)) is in
      let place : i ≤ length (table_at h p).array = omega arith in
      let after = total_after h p i (without (table_at h p) i) h.counter None present place refl (borrows k) refl in
      let own : one_if (k == k) ≡ 1 = one_if-true _ (eq-eqb k k refl) in
      let old = ap (borrows k) is in
      let count = s.borrow_counts k in
      open_by_count h k (omega arith)

  none_lent : h.scopes ≡ [] → sum_over_tables lends_of h ≡ 0
  none_lent rest =
      sum_zero (λ (t : Table Entry). sum_by lends_of t.array) (empty_table 0) h.tables
      (λ p. sum_zero lends_of None (table_at h p).array (λ i. sym (s.lend_counts p i) ∙ ap (lenders_of p i) rest))

  at_rest : h.scopes ≡ [] → h.counter.live ≡ sum_over_tables stands h
  at_rest rest = let a = none_lent rest in let b = s.live_handles in omega arith

generation_by : (o : Option TableSlot) (g : ℕ) → is_some o ≡ true → slot_is_stale o g ≡ false → option_map (λ (s : TableSlot). s.generation) o ≡ Some g
generation_by None g some current = absurd (cc)
generation_by (Some slot) g some current = ap Some (eqb-true slot.generation g (ledger_not_false (slot.generation == g) current))

pub ledger_laws : (l : LedgerState) → Holds l → l.host.generation ≤ last_generation → LedgerLaws l
ledger_laws l h last = record {
  tables = h.tables;
  handles = h.sound;
  lenders_are_lent = lenders_lent l.handles h.sound;
  borrows_are_open = borrow_open l.handles h.sound;
  none_lent_at_rest = at_rest l.handles h.sound;
  host = h.host;
  last_generation_at_most = last;
  accepted_are_current = λ x a. generation_by (slot_at l.host x.index) x.generation (let hs = h.host in hs.entries_have_slots x.index a.stands) a.current;
}
