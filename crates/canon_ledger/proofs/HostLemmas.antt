-- A host index answers only for the insertion that gave it.
use Rattle.std.proofs.Common.{if◌then◌else◌, nat_lt, Result, ◌≡◌, ◌≢◌, ℕ, zero, suc, ◌+◌, ◌-◌, ◌<◌, ◌≤◌, Bool, true, false, not, ◌==◌, nat_le, List, [], ◌∷◌, ◌++◌, length, get_or, Option, Some, None, Ok, Err, refl, sym, ap, subst, ◌∙◌, arith, ◌⊎◌, inl, inr, IfOk, IfSome, is_some, sum_by, replicate}
use Rattle.std.proofs.lemmas.List.Sums.{sum_by-cons}
use Rattle.std.proofs.lemmas.List.{get_or-set_other}
use Rattle.std.proofs.lemmas.Bool.{eq-eqb, ne_eqb, eqb-true}
use Rattle.canon_ledger.specs.declared.host.TableSlot.{TableSlot}
use Rattle.canon_handles.specs.declared.handle.Scope.{Scope}
use Rattle.canon_handles.specs.declared.handle.Scope.TheVariants.{Id}
use Rattle.canon_handles.specs.declared.handle.Entry.{Entry}
use Rattle.canon_handles.specs.declared.handle.Entry.TheVariants.{ResourceOwn, ResourceBorrow, Stream, Future, ErrorContext, Subtask, WaitableSet}
use Rattle.canon_handles.specs.declared.handle.TypedResource.{TypedResource}
use Rattle.canon_handles.specs.declared.handle.TypedResource.TheVariants.{Host}
use Rattle.canon_handles.specs.declared.handle.TypedResourceIndex.{TypedResourceIndex}
use Rattle.canon_handles.specs.declared.handle.TypedResourceIndex.TheVariants.{Host as HostIndex}
use Rattle.canon_handles.specs.declared.handle.RemovedResource.TheVariants.{Borrow}
use Rattle.canon_ledger.specs.declared.fault.ResourceFault.TheVariants as fault
use Rattle.canon_handles.specs.Step.{put}
use Rattle.canon_handles.specs.Table.{Table, Counter, entry_at, fresh_index, with_new, with_entry, without, IsTable, is_full, one_more, one_less, empty_table, max_handle}
use Rattle.canon_handles.specs.Calls.{raw_index, undo_lend_entry, is_own, lends_of}
use Rattle.canon_ledger.specs.Handles as handles
use Rattle.canon_ledger.specs.Handles.{Handles, Lender, StepAnswer, IsConsistent, can_leave, host_table, table_at, with_table, with_scope, no_scope, scope_at, finished, dropped, lifted_own, lent, opened, lift_borrow_in, lower_borrow_in, borrow_added, give_back, undone, exit_scope, borrows, stands}
use Rattle.canon_ledger.specs.Index.{GivenIndex}
use Rattle.canon_ledger.specs.Ledger.{LedgerState, HostIndexes, Done, LedgerStep, Enter, Leave, SetLimit, New, Rep, Drop, LiftOwn, LiftBorrow, LowerBorrow, ExitScope, HostLiftOwn, HostLiftBorrow, HostDrop, HostRemove, HostLowerOwn, HostLowerBorrow, do_step, run_steps, plainly, inserting, host_removing, unless_stale, is_stale, slot_is_stale, leaving, with_slot, slot_at, host_entry, last_generation, IsAccepted, IsHostSound, new_ledger, resource_rep, resource_drop, resource_lift_own, resource_lift_borrow, host_resource_drop, removed_once_told}
use Rattle.canon_ledger.specs.declared.fault.ResourceFault.{ResourceFault}
use Rattle.canon_ledger.specs.Laws.{GivesIndex, Names, IsGivenIn, resource_and_scope, inserted, written_slot, is_host_insertion, StepsKeepHostSound, IndexesAnswerForTheirInsertion, IndexesNameTheirInsertion, AcceptedIndexesWereGiven, IndexesAreGivenOnce, NewLedgersAreSound, with_generation_raised}
use Rattle.canon_handles.proofs.StepLemmas.{length-put, length-put_end, get_or-put_same, get_or-put_other, some_within}
use Rattle.canon_ledger.proofs.StepLemmas.{if_ok-refuse, if_ok-then, if_ok_always}
use Rattle.canon_handles.proofs.TableLemmas.{fresh, equal_or_not, is_table-empty}
use Rattle.canon_ledger.proofs.HandlesLemmas.{there_by_room, there_by_entry, if_ok-finished, if_ok-insert, removed_cases, lent_cases, same_table, table_same, entry_same, entry_other}
use Rattle.canon_ledger.proofs.LedgerLemmas.{sound-step}

-- what stands at an index of the host's table
abbrev at_host : Handles → ℕ → Option Entry
at_host h i = entry_at (table_at h 0) i

-- The host's table names the same at each index, but for lends.
pub record SameIndexes (h h' : Handles) : Type 0 where
  as_long : length (table_at h' 0).array ≡ length (table_at h 0).array
  stands : (i : ℕ) → is_some (at_host h' i) ≡ is_some (at_host h i)
  handle : (i : ℕ) → resource_and_scope (at_host h' i) ≡ resource_and_scope (at_host h i)

-- It names nothing at any more indexes, and at each the same or nothing.
pub record FewerIndexes (h h' : Handles) : Type 0 where
  as_long : length (table_at h' 0).array ≡ length (table_at h 0).array
  stands : (i : ℕ) → is_some (at_host h' i) ≡ true → is_some (at_host h i) ≡ true
  handle : (i : ℕ) → is_some (at_host h' i) ≡ true → resource_and_scope (at_host h' i) ≡ resource_and_scope (at_host h i)

-- It names something at one more index, which it may not have given before.
pub record OneMoreIndex (h h' : Handles) (n : ℕ) (made : Option (TypedResource × Option ℕ)) : Type 0 where
  place : n ≤ length (table_at h 0).array
  was : is_some (at_host h n) ≡ false
  here : is_some (at_host h' n) ≡ true
  handle : resource_and_scope (at_host h' n) ≡ made
  others : (i : ℕ) → i ≢ n → is_some (at_host h' i) ≡ is_some (at_host h i)
  other_handles : (i : ℕ) → i ≢ n → resource_and_scope (at_host h' i) ≡ resource_and_scope (at_host h i)
  grown : (xs : List (Option TableSlot)) → length xs ≡ length (table_at h 0).array → (s : Option TableSlot) → length (put xs n s) ≡ length (table_at h' 0).array

fewer : (h h' : Handles) → SameIndexes h h' → FewerIndexes h h'
fewer h h' s = record { as_long = s.as_long; stands = λ i e. sym (s.stands i) ∙ e; handle = λ i e. s.handle i }

same_self : (h : Handles) → SameIndexes h h
same_self h = record { as_long = refl; stands = λ i. refl; handle = λ i. refl }

same_through : (h k m : Handles) → SameIndexes h k → SameIndexes k m → SameIndexes h m
same_through h k m a b = record { as_long = b.as_long ∙ a.as_long; stands = λ i. b.stands i ∙ a.stands i; handle = λ i. b.handle i ∙ a.handle i }

same_elsewhere : (h : Handles) (q : ℕ) (t : Table Entry) (c : Counter) → SameIndexes h (with_table h (suc q) t c)
same_elsewhere h q t c =
    let ne : 0 ≢ suc q = omega arith in
    let e : table_at (with_table h (suc q) t c) 0 ≡ table_at h 0 = get_or-set_other h.tables (suc q) 0 t (empty_table 0) ne in
    record { as_long = ap (λ (t : Table Entry). length t.array) e; stands = λ i. ap (λ (t : Table Entry). is_some (entry_at t i)) e; handle = λ i. ap (λ (t : Table Entry). resource_and_scope (entry_at t i)) e }

-- what a function of an entry is after one was written in the place of another, of which it is the same
read-with_entry : {A : Type 0} (f : Option Entry → A) (h : Handles) (i : ℕ) (e e' : Entry) (c : Counter) → entry_at (table_at h 0) i ≡ Some e → f (Some e') ≡ f (Some e) → (j : ℕ)
    → f (at_host (with_table h 0 (with_entry (table_at h 0) i e') c) j) ≡ f (at_host h j)
read-with_entry f h i e e' c is alike j =
    let t' = with_entry (table_at h 0) i e' in
    let present = there_by_entry h 0 i e is in
    let within = some_within (table_at h 0).array i e is in
    let place : i ≤ length (table_at h 0).array = omega arith in
    elim (equal_or_not j i) as (λ _. f (at_host (with_table h 0 t' c) j) ≡ f (at_host h j)) [
      | inl at ↦ ap (λ (k : ℕ). f (at_host (with_table h 0 t' c) k)) at ∙ ap f (entry_same h 0 i t' c (Some e') present place refl)
          ∙ alike ∙ sym (ap (λ (k : ℕ). f (at_host h k)) at ∙ ap f is)
      | inr ne ↦ ap f (entry_other h 0 i t' c (Some e') present place refl j ne)
    ]

same-with_entry : (h : Handles) (p i : ℕ) (e e' : Entry) (c : Counter) → entry_at (table_at h p) i ≡ Some e → resource_and_scope (Some e') ≡ resource_and_scope (Some e) → SameIndexes h (with_table h p (with_entry (table_at h p) i e') c)
same-with_entry h zero i e e' c is alike =
    let t' = with_entry (table_at h 0) i e' in
    let present = there_by_entry h 0 i e is in
    let within = some_within (table_at h 0).array i e is in
    let place : i ≤ length (table_at h 0).array = omega arith in
    record {
      as_long = ap (λ (t : Table Entry). length t.array) (table_same h 0 i t' c (Some e') present place refl) ∙ length-put (table_at h 0).array i (Some e') within;
      stands = read-with_entry is_some h i e e' c is refl;
      handle = read-with_entry resource_and_scope h i e e' c is alike;
    }
same-with_entry h (suc q) i e e' c is alike = same_elsewhere h q (with_entry (table_at h (suc q)) i e') c

fewer-without : (h : Handles) (p i : ℕ) (e : Entry) (c : Counter) → entry_at (table_at h p) i ≡ Some e → FewerIndexes h (with_table h p (without (table_at h p) i) c)
fewer-without h zero i e c is =
    let t' = without (table_at h 0) i in
    let present = there_by_entry h 0 i e is in
    let within = some_within (table_at h 0).array i e is in
    let place : i ≤ length (table_at h 0).array = omega arith in
    record {
      as_long = ap (λ (t : Table Entry). length t.array) (table_same h 0 i t' c None present place refl) ∙ length-put (table_at h 0).array i None within;
      stands = λ j. elim (equal_or_not j i) as (λ _. is_some (at_host (with_table h 0 t' c) j) ≡ true → is_some (at_host h j) ≡ true) [
        | inl at ↦ λ _. ap (λ (k : ℕ). is_some (at_host h k)) at ∙ ap is_some is
        | inr ne ↦ λ w. sym (ap is_some (entry_other h 0 i t' c None present place refl j ne)) ∙ w
      ];
      handle = λ j. elim (equal_or_not j i) as (λ _. is_some (at_host (with_table h 0 t' c) j) ≡ true → resource_and_scope (at_host (with_table h 0 t' c) j) ≡ resource_and_scope (at_host h j)) [
        | inl at ↦ λ w. absurd (let gone : is_some (at_host (with_table h 0 t' c) j) ≡ false = ap (λ (k : ℕ). is_some (at_host (with_table h 0 t' c) k)) at ∙ ap is_some (entry_same h 0 i t' c None present place refl) in cc)
        | inr ne ↦ λ w. ap resource_and_scope (entry_other h 0 i t' c None present place refl j ne)
      ];
    }
fewer-without h (suc q) i e c is = fewer h _ (same_elsewhere h q (without (table_at h (suc q)) i) c)

put_alike : {A B : Type 0} (xs : List A) (ys : List B) (n : ℕ) (x : A) (y : B) → length xs ≡ length ys → n ≤ length xs → length (put xs n x) ≡ length (put ys n y)
put_alike xs ys n x y e h = elim (equal_or_not n (length xs)) [
  | inl at ↦ (let a = length-put_end xs n x at in let b = length-put_end ys n y (at ∙ e) in omega arith)
  | inr ne ↦ (let a = length-put xs n x (omega arith) in let b = length-put ys n y (omega arith) in omega arith)
]

one_more-new : (h : Handles) (e : Entry) (c : Counter) → IsTable (table_at h 0) → is_full (table_at h 0) ≡ false → OneMoreIndex h (with_table h 0 (with_new (table_at h 0) e) c) (fresh_index (table_at h 0)) (resource_and_scope (Some e))
one_more-new h e c s room =
    let t = table_at h 0 in
    let n = fresh_index t in
    let f = fresh t s in
    let t' = with_new t e in
    let present = there_by_room h 0 room in
    record {
      place = f.at_end;
      was = ap is_some f.vacant;
      here = ap is_some (entry_same h 0 n t' c (Some e) present f.at_end refl);
      handle = ap resource_and_scope (entry_same h 0 n t' c (Some e) present f.at_end refl);
      others = λ i ne. ap is_some (entry_other h 0 n t' c (Some e) present f.at_end refl i ne);
      other_handles = λ i ne. ap resource_and_scope (entry_other h 0 n t' c (Some e) present f.at_end refl i ne);
      grown = λ xs len x. put_alike xs t.array n x (Some e) len (subst (λ (m : ℕ). n ≤ m) (sym len) f.at_end) ∙ sym (ap (λ (t : Table Entry). length t.array) (table_same h 0 n t' c (Some e) present f.at_end refl));
    }

-- The calls on handles

same-new : (h : Handles) (q : ℕ) (r : TypedResource) → IfOk (handles.resource_new h (suc q) r) (λ w. SameIndexes h w.1)
same-new h q r = if_ok-finished (λ (w : ℕ × Handles). SameIndexes h w.1) h (suc q) 0 _ (if_ok-insert _ (table_at h (suc q)) h.counter (ResourceOwn r 0) (λ room. same_elsewhere h q _ _))

more-new : (h : Handles) (r : TypedResource) → IsConsistent h → IfOk (handles.resource_new h 0 r) (λ w. OneMoreIndex h w.1 w.0 (Some (r, None)))
more-new h r s = if_ok-finished (λ (w : ℕ × Handles). OneMoreIndex h w.1 w.0 (Some (r, None))) h 0 0 _ (if_ok-insert _ (table_at h 0) h.counter (ResourceOwn r 0) (λ room. one_more-new h (ResourceOwn r 0) _ (s.tables_sound 0) room))

same-lower_in : (o : Option ℕ) (h : Handles) (q : ℕ) (r : TypedResource) → IfOk (lower_borrow_in o h (suc q) r) (λ w. SameIndexes h w.1)
same-lower_in None h q r = tt
same-lower_in (Some k) h q r =
    if_ok-then (λ (w : ℕ × Handles). SameIndexes h w.1) _ (λ (i, h'). Ok (i, borrow_added h' k))
    (if_ok-finished (λ (w : ℕ × Handles). SameIndexes h (borrow_added w.1 k)) h (suc q) 0 _
    (if_ok-insert _ (table_at h (suc q)) h.counter (ResourceBorrow r (Id k)) (λ room. (let e = same_elsewhere h q (with_new (table_at h (suc q)) (ResourceBorrow r (Id k))) (one_more h.counter) in record { as_long = e.as_long; stands = e.stands; handle = e.handle }))))

more-lower_in : (o : Option ℕ) (h : Handles) (r : TypedResource) → IsConsistent h → IfOk (lower_borrow_in o h 0 r) (λ w. OneMoreIndex h w.1 w.0 (Some (r, o)))
more-lower_in None h r s = tt
more-lower_in (Some k) h r s =
    if_ok-then (λ (w : ℕ × Handles). OneMoreIndex h w.1 w.0 (Some (r, Some k))) _ (λ (i, h'). Ok (i, borrow_added h' k))
    (if_ok-finished (λ (w : ℕ × Handles). OneMoreIndex h (borrow_added w.1 k) w.0 (Some (r, Some k))) h 0 0 _
    (if_ok-insert _ (table_at h 0) h.counter (ResourceBorrow r (Id k)) (λ room. (let m = one_more-new h (ResourceBorrow r (Id k)) (one_more h.counter) (s.tables_sound 0) room in
    record { place = m.place; was = m.was; here = m.here; handle = m.handle; others = m.others; other_handles = m.other_handles; grown = m.grown }))))

more-lower_if : (b : Bool) (k : ℕ) (h : Handles) (r : TypedResource) → IsConsistent h → IfOk (lower_borrow_in (if b then Some k else None) h 0 r) (λ w. OneMoreIndex h w.1 w.0 (Some (r, Some k)))
more-lower_if true k h r s = more-lower_in (Some k) h r s
more-lower_if false k h r s = tt

more-lower : (scope : Option ℕ) (h : Handles) (r : TypedResource) → IsConsistent h → IfOk (handles.resource_lower_borrow scope h 0 r) (λ w. OneMoreIndex h w.1 w.0 (Some (r, scope)))
more-lower None h r s = tt
more-lower (Some k) h r s = more-lower_if (nat_lt k (length h.scopes)) k h r s

fewer_dropped : (h h' : Handles) (scope : Scope) → FewerIndexes h h' → IfOk (dropped (Borrow scope, h')) (λ w. FewerIndexes h w.1)
fewer_dropped h h' (Id k) f = record { as_long = f.as_long; stands = f.stands; handle = f.handle }

fewer-drop : (h : Handles) (p : ℕ) (idx : TypedResourceIndex) → IfOk (handles.resource_drop h p idx) (λ w. FewerIndexes h w.1)
fewer-drop h p idx =
    if_ok-then (λ (w : Option ℕ × Handles). FewerIndexes h w.1) _ dropped
    (if_ok-finished (λ w. IfOk (dropped w) (λ v. FewerIndexes h v.1)) h p (raw_index idx) _
    (removed_cases _ (table_at h p) h.counter idx (entry_at (table_at h p) (raw_index idx)) refl
    (λ r n rep is none. fewer-without h p (raw_index idx) (ResourceOwn r n) _ is)
    (λ r scope is. fewer_dropped h _ scope (fewer-without h p (raw_index idx) (ResourceBorrow r scope) _ is))))

same_dropped : (h h' : Handles) (scope : Scope) → SameIndexes h h' → IfOk (dropped (Borrow scope, h')) (λ w. SameIndexes h w.1)
same_dropped h h' (Id k) f = record { as_long = f.as_long; stands = f.stands; handle = f.handle }

same-drop : (h : Handles) (q : ℕ) (idx : TypedResourceIndex) → IfOk (handles.resource_drop h (suc q) idx) (λ w. SameIndexes h w.1)
same-drop h q idx =
    if_ok-then (λ (w : Option ℕ × Handles). SameIndexes h w.1) _ dropped
    (if_ok-finished (λ w. IfOk (dropped w) (λ v. SameIndexes h v.1)) h (suc q) (raw_index idx) _
    (removed_cases _ (table_at h (suc q)) h.counter idx (entry_at (table_at h (suc q)) (raw_index idx)) refl
    (λ r n rep is none. same_elsewhere h q _ _)
    (λ r scope is. same_dropped h _ scope (same_elsewhere h q _ _))))

fewer-lift_own : (h : Handles) (p : ℕ) (idx : TypedResourceIndex) → IfOk (handles.resource_lift_own h p idx) (λ w. FewerIndexes h w.1)
fewer-lift_own h p idx =
    if_ok-then (λ (w : ℕ × Handles). FewerIndexes h w.1) _ lifted_own
    (if_ok-finished (λ w. IfOk (lifted_own w) (λ v. FewerIndexes h v.1)) h p (raw_index idx) _
    (removed_cases _ (table_at h p) h.counter idx (entry_at (table_at h p) (raw_index idx)) refl
    (λ r n rep is none. fewer-without h p (raw_index idx) (ResourceOwn r n) _ is)
    (λ r scope is. tt)))

same-lift_own : (h : Handles) (q : ℕ) (idx : TypedResourceIndex) → IfOk (handles.resource_lift_own h (suc q) idx) (λ w. SameIndexes h w.1)
same-lift_own h q idx =
    if_ok-then (λ (w : ℕ × Handles). SameIndexes h w.1) _ lifted_own
    (if_ok-finished (λ w. IfOk (lifted_own w) (λ v. SameIndexes h v.1)) h (suc q) (raw_index idx) _
    (removed_cases _ (table_at h (suc q)) h.counter idx (entry_at (table_at h (suc q)) (raw_index idx)) refl
    (λ r n rep is none. same_elsewhere h q _ _)
    (λ r scope is. tt)))

same-lift_in : (o : Option ℕ) (h : Handles) (p : ℕ) (idx : TypedResourceIndex) → IfOk (lift_borrow_in o h p idx) (λ w. SameIndexes h w.1)
same-lift_in (Some k) h p idx =
    if_ok-then (λ (w : ℕ × Handles). SameIndexes h w.1) _ (lent k (record { table = p; index = idx }))
    (if_ok-finished (λ w. IfOk (lent k (record { table = p; index = idx }) w) (λ v. SameIndexes h v.1)) h p (raw_index idx) _
    (lent_cases _ (table_at h p) h.counter idx (entry_at (table_at h p) (raw_index idx)) refl
    (λ r n rep is. (let e = same-with_entry h p (raw_index idx) (ResourceOwn r n) (ResourceOwn r (n + 1)) (one_more h.counter) is refl in record { as_long = e.as_long; stands = e.stands; handle = e.handle }))
    (λ rep. subst (SameIndexes h) (sym (same_table h p)) (same_self h))))
same-lift_in None h p idx =
    if_ok-then (λ (w : ℕ × Handles). SameIndexes h w.1) (handles.resource_rep h p idx) _
    (if_ok_always _ (handles.resource_rep h p idx) (λ rep. if_ok-refuse (λ (w : ℕ × Handles). SameIndexes h w.1) (is_own (entry_at (table_at h p) (raw_index idx))) fault.NoScope _ (λ _. same_self h)))

same_undone : (h : Handles) (p i : ℕ) (o : Option Entry) → entry_at (table_at h p) i ≡ o → SameIndexes h (undone h (finished h p i (undo_lend_entry (table_at h p) h.counter i o)))
same_undone h p i None is = same_self h
same_undone h p i (Some (ResourceOwn r n)) is = same-with_entry h p i (ResourceOwn r n) (ResourceOwn r (n - 1)) (one_less h.counter) is refl
same_undone h p i (Some (ResourceBorrow r scope)) is = same_self h
same_undone h p i (Some (Stream ty rep state)) is = same_self h
same_undone h p i (Some (Future ty rep state)) is = same_self h
same_undone h p i (Some (ErrorContext rep)) is = same_self h
same_undone h p i (Some (Subtask rep host)) is = same_self h
same_undone h p i (Some (WaitableSet rep)) is = same_self h

same-give_back : (lenders : List Lender) (h : Handles) → SameIndexes h (give_back lenders h)
same-give_back [] h = same_self h
same-give_back (lender ∷ lenders) h =
    same_through h _ _ (same_undone h lender.table (raw_index lender.index) (entry_at (table_at h lender.table) (raw_index lender.index)) refl) (same-give_back lenders _)

same-exit_in : (o : Option ℕ) (h : Handles) → IfOk (exit_scope o h) (λ w. SameIndexes h w.1)
same-exit_in None h = tt
same-exit_in (Some k) h =
    if_ok-refuse (λ (w : Unit {0} × Handles). SameIndexes h w.1) (not ((scope_at h k).borrow_count == 0)) fault.BorrowsRemain _
    (λ none. (let e = same-give_back (scope_at h k).lenders (with_scope h k no_scope) in record { as_long = e.as_long; stands = e.stands; handle = e.handle }))

-- What a step does to the host's indexes

-- No insertion: where an index is taken out, the generation is raised.
record HostKeeps (l l' : LedgerState) : Type 0 where
  slots : l'.host.slots ≡ l.host.slots
  indexes : FewerIndexes l.handles l'.handles
  generation : (SameIndexes l.handles l'.handles × (l'.host.generation ≡ l.host.generation)) ⊎ (l'.host.generation ≡ l.host.generation + 1)

-- An insertion writes the slot of its index.
abbrev slot_written : HostIndexes → ℕ → TableSlot → HostIndexes
slot_written host n slot = record { slots = put host.slots n (Some slot); generation = host.generation }

record Inserts (l l' : LedgerState) (n : ℕ) (made : Option (TypedResource × Option ℕ)) (slot : TableSlot) : Type 0 where
  generation : slot.generation ≡ l.host.generation
  host : l'.host ≡ slot_written l.host n slot
  indexes : OneMoreIndex l.handles l'.handles n made

-- A step that may be an insertion keeps the host's indexes, or is one that answers the new index.
abbrev Effect : Bool → Result ℕ ResourceFault → Option (TypedResource × Option ℕ) → TableSlot → LedgerState → LedgerState → Type 0
Effect insertion answer made slot l l' = HostKeeps l l' ⊎ ((n : ℕ) × (insertion ≡ true) × (answer ≡ Ok n) × Inserts l l' n made slot)

keeps_same : (l l' : LedgerState) → l'.host ≡ l.host → SameIndexes l.handles l'.handles → HostKeeps l l'
keeps_same l l' e s = record { slots = ap (λ (h : HostIndexes). h.slots) e; indexes = fewer l.handles l'.handles s; generation = inl (s, ap (λ (h : HostIndexes). h.generation) e) }

keeps-plainly : {A : Type 0} (r : StepAnswer A) (l : LedgerState) → IfOk r (λ w. SameIndexes l.handles w.1) → HostKeeps l (plainly r l).after
keeps-plainly (Ok w) l s = keeps_same l _ refl s
keeps-plainly (Err e) l s = keeps_same l l refl (same_self l.handles)

effect-inserting : (p : ℕ) (instance : Option ℕ) (dtor : Option ℕ) (made : Option (TypedResource × Option ℕ)) (r : StepAnswer ℕ) (l : LedgerState)
    → (p ≡ 0 → IfOk r (λ w. OneMoreIndex l.handles w.1 w.0 made)) → ((q : ℕ) → p ≡ suc q → IfOk r (λ w. SameIndexes l.handles w.1))
    → Effect (p == 0) (inserting p instance dtor r l).answer made (record { generation = l.host.generation; instance = instance; dtor = dtor }) l (inserting p instance dtor r l).after
effect-inserting zero instance dtor made (Ok w) l more same = inr (w.0, refl, refl, record { generation = refl; host = refl; indexes = more refl })
effect-inserting zero instance dtor made (Err e) l more same = inl (keeps_same l l refl (same_self l.handles))
effect-inserting (suc q) instance dtor made r l more same = inl (keeps-plainly r l (same q refl))

keeps-raised : {A : Type 0} (r : StepAnswer A) (l : LedgerState) → IfOk r (λ w. FewerIndexes l.handles w.1) → HostKeeps l (plainly r (with_generation_raised l)).after
keeps-raised (Ok w) l f = record { slots = refl; indexes = f; generation = inr refl }
keeps-raised (Err e) l f = record { slots = refl; indexes = fewer l.handles l.handles (same_self l.handles); generation = inr refl }

keeps-host_removing : {A : Type 0} (b : Bool) (step : Handles → StepAnswer A) (l : LedgerState) → IfOk (step l.handles) (λ w. FewerIndexes l.handles w.1) → HostKeeps l (host_removing b step l).after
keeps-host_removing true step l f = keeps_same l l refl (same_self l.handles)
keeps-host_removing false step l f = keeps-raised (step l.handles) l f

keeps-unless_stale : {A : Type 0} (b : Bool) (l : LedgerState) (d : Done A) → HostKeeps l d.after → HostKeeps l (unless_stale l b d).after
keeps-unless_stale true l d e = keeps_same l l refl (same_self l.handles)
keeps-unless_stale false l d e = e

keeps-leaving : (b : Bool) (l : LedgerState) → HostKeeps l (leaving b l).after
keeps-leaving true l = keeps_same l _ refl (record { as_long = refl; stands = λ i. refl; handle = λ i. refl })
keeps-leaving false l = keeps_same l l refl (same_self l.handles)

keeps-drop : (p : ℕ) (idx : TypedResourceIndex) (l : LedgerState) → HostKeeps l (resource_drop l p idx).after
keeps-drop zero idx l = keeps-host_removing (nat_le last_generation l.host.generation) (λ h. handles.resource_drop h 0 idx) l (fewer-drop l.handles 0 idx)
keeps-drop (suc q) idx l = keeps-plainly (handles.resource_drop l.handles (suc q) idx) l (same-drop l.handles q idx)

keeps-lift_own : (p : ℕ) (idx : TypedResourceIndex) (l : LedgerState) → HostKeeps l (resource_lift_own l p idx).after
keeps-lift_own zero idx l = keeps-host_removing (nat_le last_generation l.host.generation) (λ h. handles.resource_lift_own h 0 idx) l (fewer-lift_own l.handles 0 idx)
keeps-lift_own (suc q) idx l = keeps-plainly (handles.resource_lift_own l.handles (suc q) idx) l (same-lift_own l.handles q idx)

keeps-lift_borrow : (scope : Option ℕ) (p : ℕ) (idx : TypedResourceIndex) (l : LedgerState) → HostKeeps l (resource_lift_borrow scope l p idx).after
keeps-lift_borrow scope p idx l = keeps-plainly (handles.resource_lift_borrow scope l.handles p idx) l (same-lift_in (opened l.handles scope) l.handles p idx)

keeps-host_drop : (x : GivenIndex) (l : LedgerState) → HostKeeps l (host_resource_drop l x).after
keeps-host_drop x l = keeps-unless_stale (is_stale l.host x) l _ (keeps-drop 0 (HostIndex x.index) l)

keeps-once_told : (r : Result ℕ ResourceFault) (x : GivenIndex) (l : LedgerState) → HostKeeps l (removed_once_told r l x).after
keeps-once_told (Ok rep) x l = keeps-host_drop x l
keeps-once_told (Err e) x l = keeps_same l l refl (same_self l.handles)

at_zero : (p : ℕ) (P : ℕ → Type 0) → P 0 → p ≡ 0 → P p
at_zero p P z e = subst P (sym e) z

effect-new : (p : ℕ) (instance : Option ℕ) (dtor : Option ℕ) (r : TypedResource) (l : LedgerState) → IsConsistent l.handles
    → Effect (p == 0) (inserting p instance dtor (handles.resource_new l.handles p r) l).answer (Some (r, None)) (record { generation = l.host.generation; instance = instance; dtor = dtor }) l
    (inserting p instance dtor (handles.resource_new l.handles p r) l).after
effect-new p instance dtor r l s = effect-inserting p instance dtor (Some (r, None)) (handles.resource_new l.handles p r) l
    (λ e. at_zero p (λ (p : ℕ). IfOk (handles.resource_new l.handles p r) (λ w. OneMoreIndex l.handles w.1 w.0 (Some (r, None)))) (more-new l.handles r s) e)
    (λ q e. subst (λ (p : ℕ). IfOk (handles.resource_new l.handles p r) (λ w. SameIndexes l.handles w.1)) (sym e) (same-new l.handles q r))

effect-lower : (p : ℕ) (scope : Option ℕ) (r : TypedResource) (l : LedgerState) → IsConsistent l.handles
    → Effect (p == 0) (inserting p None None (handles.resource_lower_borrow scope l.handles p r) l).answer (Some (r, scope))
    (record { generation = l.host.generation; instance = None; dtor = None }) l (inserting p None None (handles.resource_lower_borrow scope l.handles p r) l).after
effect-lower p scope r l s = effect-inserting p None None (Some (r, scope)) (handles.resource_lower_borrow scope l.handles p r) l
    (λ e. at_zero p (λ (p : ℕ). IfOk (handles.resource_lower_borrow scope l.handles p r) (λ w. OneMoreIndex l.handles w.1 w.0 (Some (r, scope)))) (more-lower scope l.handles r s) e)
    (λ q e. subst (λ (p : ℕ). IfOk (handles.resource_lower_borrow scope l.handles p r) (λ w. SameIndexes l.handles w.1)) (sym e) (same-lower_in (opened l.handles scope) l.handles q r))

abbrev StepEffect : LedgerStep → LedgerState → Type 0
StepEffect call l = Effect (is_host_insertion call) (do_step call l).answer (inserted call) (written_slot call l.host.generation) l (do_step call l).after

effect : (call : LedgerStep) (l : LedgerState) → IsConsistent l.handles → StepEffect call l
effect Enter l s = inl (keeps_same l _ refl (record { as_long = refl; stands = λ i. refl; handle = λ i. refl }))
effect Leave l s = inl (keeps-leaving (can_leave l.handles) l)
effect (SetLimit n) l s = inl (keeps_same l _ refl (record { as_long = refl; stands = λ i. refl; handle = λ i. refl }))
effect (New p r) l s = effect-new p None None r l s
effect (Rep p idx) l s = inl (keeps_same l l refl (same_self l.handles))
effect (Drop p idx) l s = inl (keeps-drop p idx l)
effect (LiftOwn p idx) l s = inl (keeps-lift_own p idx l)
effect (LiftBorrow scope p idx) l s = inl (keeps-lift_borrow scope p idx l)
effect (LowerBorrow scope p r) l s = effect-lower p scope r l s
effect (ExitScope scope) l s = inl (keeps-plainly (handles.validate_scope_exit scope l.handles) l (same-exit_in (opened l.handles scope) l.handles))
effect (HostLiftOwn x) l s = inl (keeps-unless_stale (is_stale l.host x) l _ (keeps-lift_own 0 (HostIndex x.index) l))
effect (HostLiftBorrow scope x) l s = inl (keeps-unless_stale (is_stale l.host x) l _ (keeps-lift_borrow scope 0 (HostIndex x.index) l))
effect (HostDrop x) l s = inl (keeps-host_drop x l)
effect (HostRemove x) l s = inl (keeps-unless_stale (is_stale l.host x) l _ (keeps-once_told (resource_rep l host_table (HostIndex x.index)) x l))
effect (HostLowerOwn rep dtor instance) l s = effect-new 0 instance dtor (Host rep) l s
effect (HostLowerBorrow scope rep) l s = effect-lower 0 scope (Host rep) l s

-- What holds of the host's generations is kept

some_weaker : {A : Type 0} (o : Option A) (P Q : A → Type 0) → ((x : A) → P x → Q x) → IfSome o P → IfSome o Q
some_weaker None P Q h w = tt
some_weaker (Some x) P Q h w = h x w

false_or_true : (b : Bool) → (b ≡ false) ⊎ (b ≡ true)
false_or_true false = inl refl
false_or_true true = inr refl

host-keeps : (l l' : LedgerState) → HostKeeps l l' → IsHostSound l → IsHostSound l'
host-keeps l l' k s =
    let slot : (i : ℕ) → slot_at l'.host i ≡ slot_at l.host i = λ i. ap (λ (xs : List (Option TableSlot)). get_or xs i None) k.slots in
    record {
      one_slot_each = ap length k.slots ∙ s.one_slot_each ∙ sym k.indexes.as_long;
      no_slot_above = λ i. subst (λ (o : Option TableSlot). IfSome o (λ x. x.generation ≤ l'.host.generation)) (sym (slot i))
          (some_weaker (slot_at l.host i) _ _ (λ x le. elim k.generation [ inl w ↦ (let e = w.1 in omega arith) | inr w ↦ omega arith ]) (s.no_slot_above i));
      entries_have_slots = λ i e. ap is_some (slot i) ∙ s.entries_have_slots i (k.indexes.stands i e);
      spent_slots_below = λ i e. subst (λ (o : Option TableSlot). IfSome o (λ x. x.generation < l'.host.generation)) (sym (slot i))
          (elim k.generation [
            | inl w ↦ some_weaker (slot_at l.host i) _ _ (λ x lt. (let e = w.1 in omega arith)) (s.spent_slots_below i (sym (w.0.stands i) ∙ e))
            | inr w ↦ some_weaker (slot_at l.host i) _ _ (λ x le. omega arith) (s.no_slot_above i)
          ]);
    }

-- the slots after an insertion
module _ (l l' : LedgerState) (n : ℕ) (made : Option (TypedResource × Option ℕ)) (slot : TableSlot) (k : Inserts l l' n made slot) (s : IsHostSound l) where
  slots_place : n ≤ length l.host.slots
  slots_place = subst (λ (m : ℕ). n ≤ m) (sym s.one_slot_each) k.indexes.place

  slot_new : slot_at l'.host n ≡ Some slot
  slot_new = ap (λ (h : HostIndexes). slot_at h n) k.host ∙ get_or-put_same l.host.slots n (Some slot) None slots_place

  slot_old : (i : ℕ) → i ≢ n → slot_at l'.host i ≡ slot_at l.host i
  slot_old i ne = ap (λ (h : HostIndexes). slot_at h i) k.host ∙ get_or-put_other l.host.slots n i (Some slot) None slots_place ne

  generation_same : l'.host.generation ≡ l.host.generation
  generation_same = ap (λ (h : HostIndexes). h.generation) k.host

  host-inserts : IsHostSound l'
  host-inserts =
      record {
        one_slot_each = ap (λ (h : HostIndexes). length h.slots) k.host ∙ k.indexes.grown l.host.slots s.one_slot_each (Some slot);
        no_slot_above = λ i. elim (equal_or_not i n) as (λ _. IfSome (slot_at l'.host i) (λ x. x.generation ≤ l'.host.generation)) [
          | inl at ↦ subst (λ (o : Option TableSlot). IfSome o (λ x. x.generation ≤ l'.host.generation)) (sym (ap (slot_at l'.host) at ∙ slot_new)) (let e = generation_same in let g = k.generation in omega arith)
          | inr ne ↦ subst (λ (o : Option TableSlot). IfSome o (λ x. x.generation ≤ l'.host.generation)) (sym (slot_old i ne))
              (some_weaker (slot_at l.host i) _ _ (λ x le. (let e = generation_same in omega arith)) (s.no_slot_above i))
        ];
        entries_have_slots = λ i e. elim (equal_or_not i n) as (λ _. is_some (slot_at l'.host i) ≡ true) [
          | inl at ↦ ap is_some (ap (slot_at l'.host) at ∙ slot_new)
          | inr ne ↦ ap is_some (slot_old i ne) ∙ s.entries_have_slots i (sym (k.indexes.others i ne) ∙ e)
        ];
        spent_slots_below = λ i e. elim (equal_or_not i n) as (λ _. IfSome (slot_at l'.host i) (λ x. x.generation < l'.host.generation)) [
          | inl at ↦ absurd (let here = k.indexes.here in let e' : is_some (host_entry l' n) ≡ false = ap (λ (j : ℕ). is_some (host_entry l' j)) (sym at) ∙ e in cc)
          | inr ne ↦ subst (λ (o : Option TableSlot). IfSome o (λ x. x.generation < l'.host.generation)) (sym (slot_old i ne))
              (some_weaker (slot_at l.host i) _ _ (λ x le. (let e = generation_same in omega arith)) (s.spent_slots_below i (sym (k.indexes.others i ne) ∙ e)))
        ];
      }

pub host-step : (call : LedgerStep) (l : LedgerState) → IsConsistent l.handles → IsHostSound l → IsHostSound (do_step call l).after
host-step call l s h = elim (effect call l s) as (λ _. IsHostSound (do_step call l).after) [
  | inl k ↦ host-keeps l _ k h
  | inr w ↦ host-inserts l _ w.0 _ _ w.3 h
]

pub host-run : StepsKeepHostSound
host-run [] l s h = h
host-run (call ∷ calls) l s h = host-run calls (do_step call l).after (sound-step call l s) (host-step call l s h)

-- An index that was given

-- It has a slot, which may have been written again since.
record IsKnown (x : GivenIndex) (l : LedgerState) : Type 0 where
  slot : TableSlot
  there : slot_at l.host x.index ≡ Some slot
  older : x.generation ≤ slot.generation

-- It will be accepted no more.
record IsSpent (x : GivenIndex) (l : LedgerState) : Type 0 where
  slot : TableSlot
  there : slot_at l.host x.index ≡ Some slot
  why : (x.generation < slot.generation) ⊎ ((is_some (host_entry l x.index) ≡ false) × (x.generation < l.host.generation))

at_slot : (l : LedgerState) (i : ℕ) (s : TableSlot) (P : TableSlot → Type 0) → slot_at l.host i ≡ Some s → IfSome (slot_at l.host i) P → P s
at_slot l i s P e h = subst (λ (o : Option TableSlot). IfSome o P) e h

stale_by : (l : LedgerState) (x : GivenIndex) (s : TableSlot) → slot_at l.host x.index ≡ Some s → is_stale l.host x ≡ not (s.generation == x.generation)
stale_by l x s e = ap (λ (o : Option TableSlot). slot_is_stale o x.generation) e

not_spent : (x : GivenIndex) (l : LedgerState) → IsSpent x l → IsAccepted x l → ⊥
not_spent x l s a = elim s.why as (λ _. ⊥) [
  | inl newer ↦
      (let ne : s.slot.generation ≢ x.generation = omega arith in
      let e : is_stale l.host x ≡ true = stale_by l x s.slot s.there ∙ ap not (ne_eqb s.slot.generation x.generation ne) in
      let c = a.current in cc)
  | inr w ↦ (let e = w.0 in let c = a.stands in cc)
]

spent_or_accepted : (x : GivenIndex) (l : LedgerState) → IsHostSound l → IsKnown x l → IsAccepted x l ⊎ IsSpent x l
spent_or_accepted x l s k = elim (equal_or_not k.slot.generation x.generation) [
  | inl at ↦ elim (false_or_true (is_some (host_entry l x.index))) [
    | inl none ↦
        (let below : k.slot.generation < l.host.generation = at_slot l x.index k.slot (λ x. x.generation < l.host.generation) k.there (s.spent_slots_below x.index none) in
        inr (record { slot = k.slot; there = k.there; why = inr (none, omega arith) }))
    | inr some ↦ inl (record { current = stale_by l x k.slot k.there ∙ ap not (eq-eqb k.slot.generation x.generation at); stands = some })
  ]
  | inr ne ↦ (let o = k.older in inr (record { slot = k.slot; there = k.there; why = inl (omega arith) }))
]

known-step : (x : GivenIndex) (call : LedgerStep) (l : LedgerState) → IsConsistent l.handles → IsHostSound l → IsKnown x l → IsKnown x (do_step call l).after
known-step x call l s h w = elim (effect call l s) as (λ _. IsKnown x (do_step call l).after) [
  | inl k ↦ record { slot = w.slot; there = ap (λ (xs : List (Option TableSlot)). get_or xs x.index None) k.slots ∙ w.there; older = w.older }
  | inr v ↦ elim (equal_or_not x.index v.0) as (λ _. IsKnown x (do_step call l).after) [
    | inl at ↦
        (let le : w.slot.generation ≤ l.host.generation = at_slot l x.index w.slot (λ x. x.generation ≤ l.host.generation) w.there (h.no_slot_above x.index) in
        let g = v.3.generation in let o = w.older in
        record { slot = written_slot call l.host.generation; there = ap (slot_at (do_step call l).after.host) at ∙ slot_new l _ v.0 _ _ v.3 h; older = omega arith })
    | inr ne ↦ record { slot = w.slot; there = slot_old l _ v.0 _ _ v.3 h x.index ne ∙ w.there; older = w.older }
  ]
]

still_none : (l l' : LedgerState) (i : ℕ) (b : Bool) → is_some (host_entry l' i) ≡ b → (is_some (host_entry l' i) ≡ true → is_some (host_entry l i) ≡ true) → is_some (host_entry l i) ≡ false → is_some (host_entry l' i) ≡ false
still_none l l' i false e h none = e
still_none l l' i true e h none = absurd (let some = h e in cc)

not_less_generation : (l l' : LedgerState) → HostKeeps l l' → l.host.generation ≤ l'.host.generation
not_less_generation l l' k = elim k.generation as (λ _. l.host.generation ≤ l'.host.generation) [ inl w ↦ (let e = w.1 in omega arith) | inr e ↦ omega arith ]

spent-keeps : (x : GivenIndex) (l l' : LedgerState) → HostKeeps l l' → IsSpent x l → IsSpent x l'
spent-keeps x l l' k w =
    record {
      slot = w.slot;
      there = ap (λ (xs : List (Option TableSlot)). get_or xs x.index None) k.slots ∙ w.there;
      why = elim w.why [
        | inl newer ↦ inl newer
        | inr v ↦ inr (still_none l l' x.index (is_some (host_entry l' x.index)) refl (k.indexes.stands x.index) v.0, (let g = not_less_generation l l' k in let lt = v.1 in omega arith))
      ];
    }

spent-inserts : (x : GivenIndex) (l l' : LedgerState) (n : ℕ) (made : Option (TypedResource × Option ℕ)) (slot : TableSlot) → Inserts l l' n made slot → IsHostSound l → IsSpent x l → IsSpent x l'
spent-inserts x l l' n made slot k s w = elim (equal_or_not x.index n) [
  | inl at ↦
      (let le : w.slot.generation ≤ l.host.generation = at_slot l x.index w.slot (λ x. x.generation ≤ l.host.generation) w.there (s.no_slot_above x.index) in
      let g = k.generation in
      let lt : x.generation < l.host.generation = elim w.why as (λ _. x.generation < l.host.generation) [ inl newer ↦ omega arith | inr v ↦ v.1 ] in
      record { slot = slot; there = ap (slot_at l'.host) at ∙ slot_new l l' n made slot k s; why = inl (omega arith) })
  | inr ne ↦
      record {
        slot = w.slot;
        there = slot_old l l' n made slot k s x.index ne ∙ w.there;
        why = elim w.why [
          | inl newer ↦ inl newer
          | inr v ↦ inr (k.indexes.others x.index ne ∙ v.0, (let g = generation_same l l' n made slot k s in let lt = v.1 in omega arith))
        ];
      }
]

spent-step : (x : GivenIndex) (call : LedgerStep) (l : LedgerState) → IsConsistent l.handles → IsHostSound l → IsSpent x l → IsSpent x (do_step call l).after
spent-step x call l s h w = elim (effect call l s) as (λ _. IsSpent x (do_step call l).after) [
  | inl k ↦ spent-keeps x l _ k w
  | inr v ↦ spent-inserts x l _ v.0 _ _ v.3 h w
]

spent-run : (x : GivenIndex) (calls : List LedgerStep) (l : LedgerState) → IsConsistent l.handles → IsHostSound l → IsSpent x l → IsSpent x (run_steps calls l)
spent-run x [] l s h w = w
spent-run x (call ∷ calls) l s h w =
    spent-run x calls (do_step call l).after (sound-step call l s) (host-step call l s h) (spent-step x call l s h w)

known-run : (x : GivenIndex) (calls : List LedgerStep) (l : LedgerState) → IsConsistent l.handles → IsHostSound l → IsKnown x l → IsKnown x (run_steps calls l)
known-run x [] l s h w = w
known-run x (call ∷ calls) l s h w =
    known-run x calls (do_step call l).after (sound-step call l s) (host-step call l s h) (known-step x call l s h w)

-- The insertion that gives an index

inserts-inserting : (instance : Option ℕ) (dtor : Option ℕ) (made : Option (TypedResource × Option ℕ)) (r : StepAnswer ℕ) (l : LedgerState) (i : ℕ) → IfOk r (λ w. OneMoreIndex l.handles w.1 w.0 made)
    → (inserting 0 instance dtor r l).answer ≡ Ok i
    → Inserts l (inserting 0 instance dtor r l).after i made (record { generation = l.host.generation; instance = instance; dtor = dtor })
inserts-inserting instance dtor made (Err e) l i more is = absurd (cc)
inserts-inserting instance dtor made (Ok w) l i more is =
    let e : w.0 ≡ i = cc in
    subst (λ (n : ℕ). Inserts l (record { handles = w.1; host = with_slot l.host w.0 instance dtor }) n made (record { generation = l.host.generation; instance = instance; dtor = dtor })) e
    (record { generation = refl; host = refl; indexes = more })

abbrev InsertsAt : LedgerStep → LedgerState → ℕ → Type 0
InsertsAt call l i = Inserts l (do_step call l).after i (inserted call) (written_slot call l.host.generation)

inserts : (call : LedgerStep) (l : LedgerState) (i : ℕ) → IsConsistent l.handles → is_host_insertion call ≡ true → (do_step call l).answer ≡ Ok i → InsertsAt call l i
inserts Enter l i s h e = absurd (cc)
inserts Leave l i s h e = absurd (cc)
inserts (SetLimit n) l i s h e = absurd (cc)
inserts (New zero r) l i s h e = inserts-inserting None None (Some (r, None)) (handles.resource_new l.handles 0 r) l i (more-new l.handles r s) e
inserts (New (suc q) r) l i s h e = absurd (let is = eqb-true (suc q) 0 h in omega arith)
inserts (Rep p idx) l i s h e = absurd (cc)
inserts (Drop p idx) l i s h e = absurd (cc)
inserts (LiftOwn p idx) l i s h e = absurd (cc)
inserts (LiftBorrow scope p idx) l i s h e = absurd (cc)
inserts (LowerBorrow scope zero r) l i s h e = inserts-inserting None None (Some (r, scope)) (handles.resource_lower_borrow scope l.handles 0 r) l i (more-lower scope l.handles r s) e
inserts (LowerBorrow scope (suc q) r) l i s h e = absurd (let is = eqb-true (suc q) 0 h in omega arith)
inserts (ExitScope scope) l i s h e = absurd (cc)
inserts (HostLiftOwn x) l i s h e = absurd (cc)
inserts (HostLiftBorrow scope x) l i s h e = absurd (cc)
inserts (HostDrop x) l i s h e = absurd (cc)
inserts (HostRemove x) l i s h e = absurd (cc)
inserts (HostLowerOwn rep dtor instance) l i s h e = inserts-inserting instance dtor (Some (Host rep, None)) (handles.resource_new l.handles 0 (Host rep)) l i (more-new l.handles (Host rep) s) e
inserts (HostLowerBorrow scope rep) l i s h e = inserts-inserting None None (Some (Host rep, scope)) (handles.resource_lower_borrow scope l.handles 0 (Host rep)) l i (more-lower scope l.handles (Host rep) s) e

known_when_given : (call : LedgerStep) (l : LedgerState) (x : GivenIndex) → IsConsistent l.handles → IsHostSound l → GivesIndex call l x → IsKnown x (do_step call l).after
known_when_given call l x s h g =
    let k = inserts call l x.index s g.insertion g.index in
    let n = k.generation in let same = g.generation in
    record { slot = written_slot call l.host.generation; there = slot_new l _ x.index _ _ k h; older = omega arith }

pub run-append : (calls more : List LedgerStep) (l : LedgerState) → run_steps (calls ++ more) l ≡ run_steps more (run_steps calls l)
run-append [] more l = refl
run-append (call ∷ calls) more l = run-append calls more (do_step call l).after

sound-run' : (calls : List LedgerStep) (l : LedgerState) → IsConsistent l.handles → IsConsistent (run_steps calls l).handles
sound-run' [] l s = s
sound-run' (call ∷ calls) l s = sound-run' calls (do_step call l).after (sound-step call l s)

pub answers_for_insertion : IndexesAnswerForTheirInsertion
answers_for_insertion l s h call x g calls more a =
    let m = (do_step call l).after in
    let sm = sound-step call l s in
    let hm = host-step call l s h in
    let k = known-run x calls m sm hm (known_when_given call l x s h g) in
    let sr = sound-run' calls m sm in
    let hr = host-run calls m sm hm in
    elim (spent_or_accepted x (run_steps calls m) hr k) as (λ _. IsAccepted x (run_steps calls m)) [
      | inl accepted ↦ accepted
      | inr spent ↦ absurd (not_spent x (run_steps more (run_steps calls m)) (spent-run x more (run_steps calls m) sr hr spent) (subst (IsAccepted x) (run-append calls more m) a))
    ]

pub given_once : IndexesAreGivenOnce
given_once l s h call x g calls again g' =
    let m = (do_step call l).after in
    let sm = sound-step call l s in
    let hm = host-step call l s h in
    let k = known-run x calls m sm hm (known_when_given call l x s h g) in
    let r = run_steps calls m in
    let hr = host-run calls m sm hm in
    let w = inserts again r x.index (sound-run' calls m sm) g'.insertion g'.index in
    let below : k.slot.generation < r.host.generation = at_slot r x.index k.slot (λ x. x.generation < r.host.generation) k.there (hr.spent_slots_below x.index w.indexes.was) in
    let same = g'.generation in
    let o = k.older in
    omega arith

-- What an accepted index names

names_when_given : (call : LedgerStep) (l : LedgerState) (x : GivenIndex) → IsConsistent l.handles → IsHostSound l → GivesIndex call l x → Names call x (do_step call l).after
names_when_given call l x s h g =
    let k = inserts call l x.index s g.insertion g.index in
    record { handle = k.indexes.handle; slot = slot_new l _ x.index _ _ k h ∙ ap (λ (n : ℕ). Some (written_slot call n)) (sym g.generation) }

-- The index will be accepted no more, or is accepted and names what the step inserted.
record IsTold (call : LedgerStep) (x : GivenIndex) (l : LedgerState) : Type 0 where
  known : IsKnown x l
  told : IsSpent x l ⊎ (IsAccepted x l × Names call x l)

told_if : (call : LedgerStep) (x : GivenIndex) (l : LedgerState) → IsHostSound l → IsKnown x l → (IsAccepted x l → Names call x l) → IsTold call x l
told_if call x l h k names = record { known = k; told = elim (spent_or_accepted x l h k) [ inl a ↦ inr (a, names a) | inr spent ↦ inl spent ] }

names-keeps : (given : LedgerStep) (x : GivenIndex) (l l' : LedgerState) → HostKeeps l l' → Names given x l → IsAccepted x l' → Names given x l'
names-keeps given x l l' k n a =
    record { handle = k.indexes.handle x.index a.stands ∙ n.handle; slot = ap (λ (xs : List (Option TableSlot)). get_or xs x.index None) k.slots ∙ n.slot }

names-inserts : (given : LedgerStep) (x : GivenIndex) (l l' : LedgerState) (i : ℕ) (made : Option (TypedResource × Option ℕ)) (slot : TableSlot) → Inserts l l' i made slot → IsHostSound l
    → IsAccepted x l → Names given x l → Names given x l'
names-inserts given x l l' i made slot k s a n = elim (equal_or_not x.index i) as (λ _. Names given x l') [
  | inl at ↦ absurd (let was = k.indexes.was in let stands : is_some (host_entry l i) ≡ true = ap (λ (j : ℕ). is_some (host_entry l j)) (sym at) ∙ a.stands in cc)
  | inr ne ↦ record { handle = k.indexes.other_handles x.index ne ∙ n.handle; slot = slot_old l l' i made slot k s x.index ne ∙ n.slot }
]

told-step : (given : LedgerStep) (x : GivenIndex) (call : LedgerStep) (l : LedgerState) → IsConsistent l.handles → IsHostSound l → IsTold given x l → IsTold given x (do_step call l).after
told-step given x call l s h w = elim w.told as (λ _. IsTold given x (do_step call l).after) [
  | inl spent ↦ record { known = known-step x call l s h w.known; told = inl (spent-step x call l s h spent) }
  | inr v ↦ told_if given x (do_step call l).after (host-step call l s h) (known-step x call l s h w.known)
      (λ a. elim (effect call l s) as (λ _. Names given x (do_step call l).after) [
        | inl k ↦ names-keeps given x l _ k v.1 a
        | inr u ↦ names-inserts given x l _ u.0 _ _ u.3 h v.0 v.1
      ])
]

told-run : (given : LedgerStep) (x : GivenIndex) (calls : List LedgerStep) (l : LedgerState) → IsConsistent l.handles → IsHostSound l → IsTold given x l → IsTold given x (run_steps calls l)
told-run given x [] l s h w = w
told-run given x (call ∷ calls) l s h w =
    told-run given x calls (do_step call l).after (sound-step call l s) (host-step call l s h) (told-step given x call l s h w)

pub names_insertion : IndexesNameTheirInsertion
names_insertion l s h call x g calls a =
    let m = (do_step call l).after in
    let w = told-run call x calls m (sound-step call l s) (host-step call l s h) (told_if call x m (host-step call l s h) (known_when_given call l x s h g) (λ _. names_when_given call l x s h g)) in
    elim w.told as (λ _. Names call x (run_steps calls m)) [
      | inl spent ↦ absurd (not_spent x (run_steps calls m) spent a)
      | inr v ↦ v.1
    ]

-- A new ledger

nothing_at : (max : ℕ) (i : ℕ) → entry_at {E = Entry} (empty_table max) i ≡ None
nothing_at max zero = refl
nothing_at max (suc i) = refl

empty_or_absent : (n p : ℕ) (m : ℕ) → (max : ℕ) × (get_or {A = Table Entry} (replicate n (empty_table m)) p (empty_table 0) ≡ empty_table max)
empty_or_absent zero p m = (0, refl)
empty_or_absent (suc n) zero m = (m, refl)
empty_or_absent (suc n) (suc p) m = empty_or_absent n p m

nothing_total : (f : Option Entry → ℕ) → f None ≡ 0 → (n m : ℕ) → sum_by (λ (t : Table Entry). sum_by f t.array) (replicate n (empty_table m)) ≡ 0
nothing_total f z zero m = refl
nothing_total f z (suc n) m =
    let a = sum_by-cons (λ (t : Table Entry). sum_by f t.array) (empty_table m) (replicate n (empty_table m)) in
    let b = sum_by-cons f None [] in
    let c : sum_by f [] ≡ 0 = refl in
    let d = nothing_total f z n m in
    omega arith

no_slot : (i : ℕ) → get_or {A = Option TableSlot} (None ∷ []) i None ≡ None
no_slot zero = refl
no_slot (suc i) = refl

pub new_sound : NewLedgersAreSound
new_sound instances limit generation =
    let l = new_ledger instances limit generation in
    let at : (p : ℕ) → (max : ℕ) × (table_at l.handles p ≡ empty_table max) = λ p. empty_or_absent (suc instances) p max_handle in (
      record {
        tables_sound = λ p. subst IsTable (sym (at p).1) (is_table-empty (at p).0);
        live_handles = (let a = nothing_total stands refl (suc instances) max_handle in let b = nothing_total lends_of refl (suc instances) max_handle in omega arith);
        lend_counts = λ p i. sym (ap (λ (t : Table Entry). lends_of (entry_at t i)) (at p).1 ∙ ap lends_of (nothing_at (at p).0 i));
        borrow_counts = λ k. sym (nothing_total (borrows k) refl (suc instances) max_handle);
      },
      record {
        one_slot_each = refl;
        no_slot_above = λ i. subst (λ (o : Option TableSlot). IfSome o (λ s. s.generation ≤ generation)) (sym (no_slot i)) tt;
        entries_have_slots = λ i e. absurd (let none : is_some (host_entry l i) ≡ false = ap is_some (nothing_at max_handle i) in cc);
        spent_slots_below = λ i e. subst (λ (o : Option TableSlot). IfSome o (λ s. s.generation < generation)) (sym (no_slot i)) tt;
      },
    )

-- Where an accepted index comes from

pub ledger_not_false : (b : Bool) → not b ≡ false → b ≡ true
ledger_not_false true e = refl
ledger_not_false false e = absurd (cc)

accepted-keeps : (x : GivenIndex) (l l' : LedgerState) → HostKeeps l l' → IsAccepted x l' → IsAccepted x l
accepted-keeps x l l' k a =
    record { current = ap (λ (xs : List (Option TableSlot)). slot_is_stale (get_or xs x.index None) x.generation) (sym k.slots) ∙ a.current; stands = k.indexes.stands x.index a.stands }

-- an index that is accepted after a step was so before it, or the step gave it
accepted_or_given : (call : LedgerStep) (x : GivenIndex) (l : LedgerState) → IsConsistent l.handles → IsHostSound l → IsAccepted x (do_step call l).after → IsAccepted x l ⊎ GivesIndex call l x
accepted_or_given call x l s h a = elim (effect call l s) as (λ _. IsAccepted x l ⊎ GivesIndex call l x) [
  | inl k ↦ inl (accepted-keeps x l _ k a)
  | inr w ↦ elim (equal_or_not x.index w.0) as (λ _. IsAccepted x l ⊎ GivesIndex call l x) [
    | inl at ↦
        (let slot = written_slot call l.host.generation in
        let there : slot_at (do_step call l).after.host x.index ≡ Some slot = ap (slot_at (do_step call l).after.host) at ∙ slot_new l _ w.0 _ _ w.3 h in
        let same : not (slot.generation == x.generation) ≡ false = ap (λ (o : Option TableSlot). slot_is_stale o x.generation) (sym there) ∙ a.current in
        inr (record { insertion = w.1; index = w.2 ∙ ap Ok (sym at); generation = sym (eqb-true slot.generation x.generation (ledger_not_false _ same)) ∙ w.3.generation }))
    | inr ne ↦ inl (record {
      current = ap (λ (o : Option TableSlot). slot_is_stale o x.generation) (sym (slot_old l _ w.0 _ _ w.3 h x.index ne)) ∙ a.current;
      stands = sym (w.3.indexes.others x.index ne) ∙ a.stands;
    })
  ]
]

accepted_or_given_in : (calls : List LedgerStep) (l : LedgerState) (x : GivenIndex) → IsConsistent l.handles → IsHostSound l → IsAccepted x (run_steps calls l) → IsAccepted x l ⊎ IsGivenIn calls l x
accepted_or_given_in [] l x s h a = inl a
accepted_or_given_in (call ∷ calls) l x s h a = elim (accepted_or_given_in calls (do_step call l).after x (sound-step call l s) (host-step call l s h) a) as (λ _. IsAccepted x l ⊎ IsGivenIn (call ∷ calls) l x) [
  | inl b ↦ elim (accepted_or_given call x l s h b) as (λ _. IsAccepted x l ⊎ IsGivenIn (call ∷ calls) l x) [
    | inl before ↦ inl before
    | inr g ↦ inr (record { before = []; call = call; more = calls; split = refl; gives = g })
  ]
  | inr w ↦ inr (record { before = call ∷ w.before; call = w.call; more = w.more; split = ap (λ (cs : List LedgerStep). call ∷ cs) w.split; gives = w.gives })
]

pub accepted_was_given : AcceptedIndexesWereGiven
accepted_was_given instances limit generation calls x a =
    let l = new_ledger instances limit generation in
    let s = new_sound instances limit generation in
    elim (accepted_or_given_in calls l x s.0 s.1 a) as (λ _. IsGivenIn calls l x) [
      | inl b ↦ absurd (let none : is_some (host_entry l x.index) ≡ false = ap is_some (nothing_at max_handle x.index) in let some = b.stands in cc)
      | inr w ↦ w
    ]
