-- What the changes of a table do to the number of its entries and lends.
use Rattle.std.proofs.Common.{◌≡◌, ℕ, ◌+◌, Bool, true, false, Option, Some, None, is_some, Result, Ok, Err, refl, ap, ◌∙◌, arith, sum_by}
use Rattle.canon_handles.specs.declared.handle.Entry.{Entry}
use Rattle.canon_handles.specs.declared.handle.Entry.TheVariants.{ResourceOwn}
use Rattle.canon_handles.specs.declared.handle.TypedResource.{TypedResource}
use Rattle.canon_handles.specs.declared.error.HandleError.{HandleError}
use Rattle.canon_handles.specs.declared.error.HandleError.TheVariants.{IndexOverflow, HandleLimit}
use Rattle.canon_handles.specs.Step.{one_if, refuse_if}
use Rattle.canon_handles.specs.Table.{Table, TableState, Counter, entry_at, entry_count, fresh_index, with_new, with_entry, without, IsFresh, insert, is_full, is_at_limit, one_more, DoesWithMemory}
use Rattle.canon_handles.specs.Calls.{lends_of, held_count, IsUnlent}
use Rattle.canon_handles.proofs.StepLemmas.{sum_by-put}

-- the sum over the entries after an insertion
pub sum-with_new : {E : Type 0} (f : Option E → ℕ) (t : Table E) (e : E) → f None ≡ 0 → IsFresh t (fresh_index t) → sum_by f (with_new t e).array ≡ sum_by f t.array + f (Some e)
sum-with_new f t e z k =
    let a = sum_by-put f t.array (fresh_index t) (Some e) None z in
    let b : f (entry_at t (fresh_index t)) ≡ 0 = ap f k.vacant ∙ z in
    omega arith

-- after a removal
pub sum-without : {E : Type 0} (f : Option E → ℕ) (t : Table E) (i : ℕ) → f None ≡ 0 → sum_by f (without t i).array + f (entry_at t i) ≡ sum_by f t.array
sum-without f t i z = let a = sum_by-put f t.array i None None z in omega arith

-- where another entry is written
pub sum-with_entry : {E : Type 0} (f : Option E → ℕ) (t : Table E) (i : ℕ) (e : E) → f None ≡ 0 → sum_by f (with_entry t i e).array + f (entry_at t i) ≡ sum_by f t.array + f (Some e)
sum-with_entry f t i e z = sum_by-put f t.array i (Some e) None z

pub entry_count-with_new : {E : Type 0} (t : Table E) (e : E) → IsFresh t (fresh_index t) → entry_count (with_new t e) ≡ entry_count t + 1
entry_count-with_new t e k = sum-with_new (λ o. one_if (is_some o)) t e refl k

pub entry_count-without : {E : Type 0} (t : Table E) (i : ℕ) → is_some (entry_at t i) ≡ true → entry_count (without t i) + 1 ≡ entry_count t
entry_count-without t i some =
    let a = sum-without (λ o. one_if (is_some o)) t i refl in
    let b : one_if (is_some (entry_at t i)) ≡ 1 = ap one_if some in
    omega arith

pub entry_count-with_entry : {E : Type 0} (t : Table E) (i : ℕ) (e : E) → is_some (entry_at t i) ≡ true → entry_count (with_entry t i e) ≡ entry_count t
entry_count-with_entry t i e some =
    let a = sum-with_entry (λ o. one_if (is_some o)) t i e refl in
    let b : one_if (is_some (entry_at t i)) ≡ 1 = ap one_if some in
    omega arith

pub held-with_new : (t : Table Entry) (e : Entry) → IsFresh t (fresh_index t) → lends_of (Some e) ≡ 0 → held_count (with_new t e) ≡ held_count t + 1
held-with_new t e k unlent =
    let a = entry_count-with_new t e k in
    let b = sum-with_new lends_of t e refl k in
    omega arith

pub held-without : (t : Table Entry) (i : ℕ) → IsUnlent (entry_at t i) → held_count (without t i) + 1 ≡ held_count t
held-without t i k =
    let a = entry_count-without t i k.0 in
    let b = sum-without lends_of t i refl in
    let c = k.1 in
    omega arith

pub held-with_entry : (t : Table Entry) (i : ℕ) (e : Entry) → is_some (entry_at t i) ≡ true → held_count (with_entry t i e) + lends_of (entry_at t i) ≡ held_count t + lends_of (Some e)
held-with_entry t i e some =
    let a = sum-with_entry (λ o. one_if (is_some o)) t i e refl in
    let b = sum-with_entry lends_of t i e refl in
    let c : one_if (is_some (entry_at t i)) ≡ 1 = ap one_if some in
    omega arith

-- what an accepted insertion leaves
given_by : {E : Type 0} (full at_limit : Bool) (a a' : ℕ × Table E × Counter) → refuse_if full IndexOverflow (refuse_if at_limit HandleLimit (Ok a)) ≡ Ok a' → a ≡ a'
given_by true at_limit a a' e = absurd (cc)
given_by false true a a' e = absurd (cc)
given_by false false a a' e = cc

insert_given : {E : Type 0} (t : Table E) (c : Counter) (e : E) (a : ℕ × Table E × Counter) → insert t c e ≡ Ok a → ◌≡◌ {A = ℕ × Table E × Counter} (fresh_index t, with_new t e, one_more c) a
insert_given t c e a is = given_by (is_full t) (is_at_limit c) (fresh_index t, with_new t e, one_more c) a is

pub insert_table : {E : Type 0} (t : Table E) (c : Counter) (e : E) (a : ℕ × Table E × Counter) → insert t c e ≡ Ok a → with_new t e ≡ a.1
insert_table {E = E} t c e a is = ap (λ (a : ℕ × Table E × Counter). a.1) (insert_given t c e a is)

pub insert_counter : {E : Type 0} (t : Table E) (c : Counter) (e : E) (a : ℕ × Table E × Counter) → insert t c e ≡ Ok a → one_more c ≡ a.2
insert_counter {E = E} t c e a is = ap (λ (a : ℕ × Table E × Counter). a.2) (insert_given t c e a is)

pub counts_after_insert : {E : Type 0} (r : Result ℕ HandleError) (s s' : TableState E) (c c' : Counter) (e : E) → DoesWithMemory (insert s.table c e) r s s' c c'
    → IsFresh s.table (fresh_index s.table) → entry_count s'.table + c.live ≡ entry_count s.table + c'.live
counts_after_insert (Ok i) s s' c c' e step k =
    let a : entry_count (with_new s.table e) ≡ entry_count s'.table = ap entry_count (insert_table s.table c e (i, s'.table, c') step) in
    let b : c.live + 1 ≡ c'.live = ap (λ (c : Counter). c.live) (insert_counter s.table c e (i, s'.table, c') step) in
    let d = entry_count-with_new s.table e k in
    omega arith
counts_after_insert (Err x) s s' c c' e step k =
    let a : entry_count s'.table ≡ entry_count s.table = ap entry_count step.1 in
    let b : c'.live ≡ c.live = ap (λ (c : Counter). c.live) step.2 in
    omega arith

pub held_after_insert : (t t' : Table Entry) (c c' : Counter) (e : Entry) (i : ℕ) → insert t c e ≡ Ok (i, t', c') → IsFresh t (fresh_index t) → lends_of (Some e) ≡ 0 → held_count t' ≡ held_count t + 1
held_after_insert t t' c c' e i step k unlent =
    let a : held_count (with_new t e) ≡ held_count t' = ap held_count (insert_table t c e (i, t', c') step) in
    let d = held-with_new t e k unlent in
    omega arith

pub live_after_insert : (t t' : Table Entry) (c c' : Counter) (e : Entry) (i : ℕ) → insert t c e ≡ Ok (i, t', c') → c'.live ≡ c.live + 1
live_after_insert t t' c c' e i step =
    let b : c.live + 1 ≡ c'.live = ap (λ (c : Counter). c.live) (insert_counter t c e (i, t', c') step) in
    omega arith

pub held_after_write : (t t' : Table Entry) (i : ℕ) (r : TypedResource) (n m : ℕ) → t' ≡ with_entry t i (ResourceOwn r m) → entry_at t i ≡ Some (ResourceOwn r n) → held_count t' + n ≡ held_count t + m
held_after_write t t' i r n m is own =
    let a = held-with_entry t i (ResourceOwn r m) (ap is_some own) in
    let b : lends_of (entry_at t i) ≡ n = ap lends_of own in
    let d : held_count t' ≡ held_count (with_entry t i (ResourceOwn r m)) = ap held_count is in
    omega arith

pub held_after_removal : (t t' : Table Entry) (i : ℕ) → t' ≡ without t i → IsUnlent (entry_at t i) → held_count t' + 1 ≡ held_count t
held_after_removal t t' i is unlent =
    let a = held-without t i unlent in
    let d : held_count t' ≡ held_count (without t i) = ap held_count is in
    omega arith
