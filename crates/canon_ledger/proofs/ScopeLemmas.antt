-- What a write to a scope does to the handles that the fields stand for.
use Rattle.std.proofs.Common.{◌≡◌, ℕ, ◌+◌, ◌<◌, ◌≤◌, Bool, true, false, not, ◌&&◌, ◌==◌, List, [], ◌∷◌, length, get_or, map, Option, Some, None, Result, Ok, Err, refl, sym, ap, subst, ◌∙◌, arith, sum_by, is_ok, IfOk}
use Rattle.std.proofs.Math.ListN.{set}
use Rattle.std.proofs.lemmas.Bool.{eq-eqb}
use Rattle.std.proofs.lemmas.List.{map-set, get_or-map, length-map, set-get_or}
use Rattle.std.proofs.lemmas.List.Sums.{sum_by-cons}
use Rattle.canon_handles.specs.declared.handle.Scope.{Scope}
use Rattle.canon_handles.specs.declared.handle.Scope.TheVariants.{Id}
use Rattle.canon_handles.specs.declared.handle.Entry.{Entry}
use Rattle.canon_handles.specs.declared.handle.Entry.TheVariants.{ResourceOwn, ResourceBorrow, Stream, Future, ErrorContext, Subtask, WaitableSet}
use Rattle.canon_handles.specs.declared.handle.TypedResource.{TypedResource}
use Rattle.canon_handles.specs.declared.handle.TypedResourceIndex.{TypedResourceIndex}
use Rattle.canon_handles.specs.declared.handle.RemovedResource.{RemovedResource}
use Rattle.canon_handles.specs.declared.handle.RemovedResource.TheVariants.{Own, Borrow}
use Rattle.canon_handles.specs.declared.error.HandleError.{HandleError}
use Rattle.canon_handles.specs.declared.error.HandleError.TheVariants.{StillLent}
use Rattle.canon_handles.specs.Step.{one_if, refuse_if, and_then}
use Rattle.canon_handles.specs.Table.{Table, Counter, TableState, entry_at, without, one_less, lookup_entry}
use Rattle.canon_handles.specs.Calls.{is_own, raw_index, read_rep, read_removed, rep_as}
use Rattle.canon_handles.proofs.StepLemmas.{one_if-true, some_within}
use Rattle.canon_ledger.specs.declared.fault.ResourceFault.TheVariants.{BorrowAsOwn, BorrowsRemain}
use Rattle.canon_ledger.specs.Handles.{Handles, OpenScope, StepAnswer, IsConsistent, table_at, scope_at, with_scope, no_scope, number_of, stands, borrows, finished, at_index, inserting_borrow, removing_resource, names_borrow, resource_lift_own, lifted_own, exit_scope, give_back}
use Rattle.canon_ledger.specs.Books.{Context, handles_of}
use Rattle.canon_ledger.specs.Owed.{IsOwed}
use Rattle.canon_ledger.proofs.HandlesLemmas.{if_ok-finished, if_ok-insert, removed_cases, there_by_entry, total_after, open_by_count, lenders-with_scope, standing}

-- Scope k is written.
module _ (tables : List (TableState Entry)) (counter : Counter) (scopes : List Context) (k : ℕ) (x : Context) (within : k < length scopes) (read : x ≡ get_or scopes k x) where
  pub scope_read : scope_at (handles_of tables counter scopes) k ≡ x.scope
  scope_read = get_or-map (λ (c : Context). c.scope) scopes k x no_scope within ∙ ap (λ (c : Context). c.scope) (sym read)

  pub scope_written : (y : Context) (s : OpenScope) → y.scope ≡ s → handles_of tables counter (set scopes k y) ≡ with_scope (handles_of tables counter scopes) k s
  scope_written y s e =
      let m = map-set (λ (c : Context). c.scope) scopes k y in
      (λ i. record { tables = map (λ (t : TableState Entry). t.table) tables; counter = counter; scopes = m i }) ∙ ap (with_scope (handles_of tables counter scopes) k) e

  pub scope_changed : (g : OpenScope → OpenScope) (y : Context) → y.scope ≡ g x.scope → handles_of tables counter (set scopes k y) ≡ with_scope (handles_of tables counter scopes) k (g (scope_at (handles_of tables counter scopes) k))
  scope_changed g y e = scope_written y (g (scope_at (handles_of tables counter scopes) k)) (e ∙ ap g (sym scope_read))

  pub scope_same : (y : Context) → y.scope ≡ x.scope → handles_of tables counter (set scopes k y) ≡ handles_of tables counter scopes
  scope_same y e =
      scope_written y (scope_at (handles_of tables counter scopes) k) (e ∙ sym scope_read)
      ∙ (let m = set-get_or (map (λ (c : Context). c.scope) scopes) k no_scope in λ i. record { tables = map (λ (t : TableState Entry). t.table) tables; counter = counter; scopes = m i })

  pub within_scopes : k < length (handles_of tables counter scopes).scopes
  within_scopes = let m = length-map scopes (λ (c : Context). c.scope) in omega arith

  pub owed_at_exit : IsConsistent (handles_of tables counter scopes) → IsOwed x.scope.lenders (handles_of tables counter [])
  owed_at_exit s = record {
    counted = (let c = s.live_handles in omega arith);
    lent = λ p i.
        (let a = lenders-with_scope p i (handles_of tables counter scopes) k no_scope within_scopes in
        let b : standing p i (scope_at (handles_of tables counter scopes) k).lenders ≡ standing p i x.scope.lenders = ap (λ (s : OpenScope). standing p i s.lenders) scope_read in
        let c = s.lend_counts p i in
        let z : standing p i no_scope.lenders ≡ 0 = refl in
        omega arith);
  }

  module _ (none : x.scope.borrow_count ≡ 0) (tables' : List (TableState Entry)) (counter' : Counter) (y : Context) (emptied : y.scope ≡ record { lenders = []; borrow_count = x.scope.borrow_count })
      (given : (all : List Context) → handles_of tables' counter' all ≡ give_back x.scope.lenders (handles_of tables counter all)) where
    exit_is : exit_scope (Some k) (handles_of tables counter scopes) ≡ Ok (tt, give_back x.scope.lenders (with_scope (handles_of tables counter scopes) k no_scope))
    exit_is =
        ap (λ (s : OpenScope). refuse_if (not (s.borrow_count == 0)) BorrowsRemain (Ok (tt, give_back s.lenders (with_scope (handles_of tables counter scopes) k no_scope)))) scope_read
        ∙ ap (λ (n : ℕ). refuse_if (not (n == 0)) BorrowsRemain (Ok (tt, give_back x.scope.lenders (with_scope (handles_of tables counter scopes) k no_scope)))) none

    pub exited : exit_scope (Some k) (handles_of tables counter scopes) ≡ Ok (tt, handles_of tables' counter' (set scopes k y))
    exited =
        exit_is ∙ ap (λ (h : Handles). Ok (tt, h))
        (ap (give_back x.scope.lenders) (sym (scope_written y no_scope (emptied ∙ (λ i. record { lenders = []; borrow_count = none i })))) ∙ sym (given (set scopes k y)))

-- Borrow counts

sum_le : {A : Type 0} (f g : A → ℕ) → ((x : A) → f x ≤ g x) → (xs : List A) → sum_by f xs ≤ sum_by g xs
sum_le f g le [] = omega arith
sum_le f g le (x ∷ xs) = (let a = sum_by-cons f x xs in let b = sum_by-cons g x xs in let c = le x in let d = sum_le f g le xs in omega arith)

one_if_le : (b : Bool) → one_if b ≤ 1
one_if_le true = omega arith
one_if_le false = omega arith

borrows_le : (k : ℕ) (o : Option Entry) → borrows k o ≤ stands o
borrows_le k None = omega arith
borrows_le k (Some (ResourceOwn r n)) = omega arith
borrows_le k (Some (ResourceBorrow r (Id j))) = one_if_le (j == k)
borrows_le k (Some (Stream ty rep state)) = omega arith
borrows_le k (Some (Future ty rep state)) = omega arith
borrows_le k (Some (ErrorContext rep)) = omega arith
borrows_le k (Some (Subtask rep host)) = omega arith
borrows_le k (Some (WaitableSet rep)) = omega arith

-- a scope counts no more borrow handles than there are live handles
pub borrow_count_le : (h : Handles) → IsConsistent h → (k : ℕ) → (scope_at h k).borrow_count ≤ h.counter.live
borrow_count_le h s k =
    let a = s.borrow_counts k in
    let b = sum_le (λ (t : Table Entry). sum_by (borrows k) t.array) (λ (t : Table Entry). sum_by stands t.array) (λ t. sum_le (borrows k) stands (borrows_le k) t.array) h.tables in
    let c = s.live_handles in
    omega arith

pub live_inserted : (h : Handles) (p k : ℕ) (r : TypedResource) (i : ℕ) (m : Handles) → inserting_borrow h p r k ≡ Ok (i, m) → m.counter.live ≡ h.counter.live + 1
live_inserted h p k r i m e =
    subst (λ (a : StepAnswer ℕ). IfOk a (λ w. w.1.counter.live ≡ h.counter.live + 1)) e
    (if_ok-finished (λ (w : ℕ × Handles). w.1.counter.live ≡ h.counter.live + 1) h p 0 _ (if_ok-insert _ (table_at h p) h.counter (ResourceBorrow r (Id k)) (λ room. refl)))

counted_borrow : (h : Handles) (p i k : ℕ) (r : TypedResource) → IsConsistent h → entry_at (table_at h p) i ≡ Some (ResourceBorrow r (Id k)) → (k < length h.scopes) × (0 < (scope_at h k).borrow_count)
counted_borrow h p i k r s is =
    let e = ResourceBorrow r (Id k) in
    let t = table_at h p in
    let present = there_by_entry h p i e is in
    let in_array = some_within t.array i e is in
    let place : i ≤ length t.array = omega arith in
    let after = total_after h p i (without t i) (one_less h.counter) None present place refl in
    let own : one_if (k == k) ≡ 1 = one_if-true _ (eq-eqb k k refl) in
    let a = after (borrows k) refl in
    let old = ap (borrows k) is in
    let was = s.borrow_counts k in
    let some : 1 ≤ (scope_at h k).borrow_count = omega arith in
    (open_by_count h k some, omega arith)

-- the scope of a borrow handle that was removed
abbrev CountsScope : RemovedResource → Handles → Type 0
CountsScope (Own rep) h = Unit {0}
CountsScope (Borrow scope) h = (number_of scope < length h.scopes) × (0 < (scope_at h (number_of scope)).borrow_count)

counted_scope : (h : Handles) (p i : ℕ) (scope : Scope) (r : TypedResource) → IsConsistent h → entry_at (table_at h p) i ≡ Some (ResourceBorrow r scope) → (number_of scope < length h.scopes)
    × (0 < (scope_at h (number_of scope)).borrow_count)
counted_scope h p i (Id k) r s is = counted_borrow h p i k r s is

pub removed_counts : (h : Handles) (p : ℕ) (idx : TypedResourceIndex) (scope : Scope) (m : Handles) → IsConsistent h → removing_resource h p idx ≡ Ok (Borrow scope, m)
    → (number_of scope < length m.scopes) × (0 < (scope_at m (number_of scope)).borrow_count)
removed_counts h p idx scope m s e =
    subst (λ (a : StepAnswer RemovedResource). IfOk a (λ w. CountsScope w.0 w.1)) e
    (if_ok-finished (λ (w : RemovedResource × Handles). CountsScope w.0 w.1) h p (raw_index idx) _
    (removed_cases _ (table_at h p) h.counter idx (entry_at (table_at h p) (raw_index idx)) refl
    (λ r n rep is none. tt)
    (λ r scope is. counted_scope h p (raw_index idx) scope r s is)))

-- Borrow handles that are not lifted as own ones

module _ (h : Handles) (p i : ℕ) (t : Table Entry) (c : Counter) (idx : TypedResourceIndex) where
  removing_from : Result RemovedResource HandleError → StepAnswer RemovedResource
  removing_from r = finished h p i (and_then r (λ a. Ok (a, without t i, one_less c)))

  lifted_by_rep : (scope : Scope) (r : Result ℕ HandleError) → is_ok (at_index i r) && true ≡ true
      → and_then (finished h p i (and_then (and_then r (λ rep. Ok (Borrow scope))) (λ a. Ok (a, without t i, one_less c)))) lifted_own ≡ Err BorrowAsOwn
  lifted_by_rep scope (Ok rep) e = refl
  lifted_by_rep scope (Err x) e = absurd (cc)

  not_both : (b : Bool) → b && false ≡ true → ⊥
  not_both true e = absurd (cc)
  not_both false e = absurd (cc)

  pub lifted_borrow : (o : Option Entry) → is_ok (at_index i (lookup_entry (read_rep idx) o)) && not (is_own o) ≡ true
      → and_then (finished h p i (and_then (lookup_entry (read_removed idx) o) (λ a. Ok (a, without t i, one_less c)))) lifted_own ≡ Err BorrowAsOwn
  lifted_borrow None e = absurd (cc)
  lifted_borrow (Some (ResourceOwn r n)) e = absurd (not_both _ e)
  lifted_borrow (Some (ResourceBorrow r scope)) e = lifted_by_rep scope (rep_as idx r) e
  lifted_borrow (Some (Stream ty rep state)) e = absurd (cc)
  lifted_borrow (Some (Future ty rep state)) e = absurd (cc)
  lifted_borrow (Some (ErrorContext rep)) e = absurd (cc)
  lifted_borrow (Some (Subtask rep host)) e = absurd (cc)
  lifted_borrow (Some (WaitableSet rep)) e = absurd (cc)

  -- a borrow handle was removed
  abbrev took_borrow : StepAnswer RemovedResource → Bool
  took_borrow (Ok (Own rep, m)) = false
  took_borrow (Ok (Borrow scope, m)) = true
  took_borrow (Err e) = false

  own_removed : (b : Bool) (r : Result ℕ HandleError) (scope : Scope) (m : Handles)
      → finished h p i (and_then (refuse_if b StillLent (and_then r (λ rep. Ok (Own rep)))) (λ a. Ok (a, without t i, one_less c))) ≡ Ok (Borrow scope, m) → ⊥
  own_removed true r scope m e = absurd (cc)
  own_removed false (Ok rep) scope m e = (let d : false ≡ true = ap took_borrow e in absurd (cc))
  own_removed false (Err x) scope m e = absurd (cc)

  borrow_removed : (old : Scope) (r : Result ℕ HandleError) (scope : Scope) (m : Handles) → is_ok (at_index i r) && true ≡ false
      → finished h p i (and_then (and_then r (λ rep. Ok (Borrow old))) (λ a. Ok (a, without t i, one_less c))) ≡ Ok (Borrow scope, m) → ⊥
  borrow_removed old (Ok rep) scope m none e = absurd (cc)
  borrow_removed old (Err x) scope m none e = absurd (cc)

  pub no_borrow_removed : (o : Option Entry) (scope : Scope) (m : Handles) → is_ok (at_index i (lookup_entry (read_rep idx) o)) && not (is_own o) ≡ false
      → finished h p i (and_then (lookup_entry (read_removed idx) o) (λ a. Ok (a, without t i, one_less c))) ≡ Ok (Borrow scope, m) → ⊥
  no_borrow_removed None scope m none e = absurd (cc)
  no_borrow_removed (Some (ResourceOwn r n)) scope m none e = own_removed (not (n == 0)) (rep_as idx r) scope m e
  no_borrow_removed (Some (ResourceBorrow r old)) scope m none e = borrow_removed old (rep_as idx r) scope m none e
  no_borrow_removed (Some (Stream ty rep state)) scope m none e = absurd (cc)
  no_borrow_removed (Some (Future ty rep state)) scope m none e = absurd (cc)
  no_borrow_removed (Some (ErrorContext rep)) scope m none e = absurd (cc)
  no_borrow_removed (Some (Subtask rep host)) scope m none e = absurd (cc)
  no_borrow_removed (Some (WaitableSet rep)) scope m none e = absurd (cc)

pub borrow_not_lifted : (h : Handles) (p : ℕ) (idx : TypedResourceIndex) → names_borrow h p idx ≡ true → resource_lift_own h p idx ≡ Err BorrowAsOwn
borrow_not_lifted h p idx e = lifted_borrow h p (raw_index idx) (table_at h p) h.counter idx (entry_at (table_at h p) (raw_index idx)) e

pub borrow_not_removed : (h : Handles) (p : ℕ) (idx : TypedResourceIndex) (scope : Scope) (m : Handles) → names_borrow h p idx ≡ false → removing_resource h p idx ≡ Ok (Borrow scope, m) → ⊥
borrow_not_removed h p idx scope m none e = no_borrow_removed h p (raw_index idx) (table_at h p) h.counter idx (entry_at (table_at h p) (raw_index idx)) scope m none e
