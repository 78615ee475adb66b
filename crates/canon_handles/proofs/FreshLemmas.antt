-- A fresh index is the most recently freed one, over every list of calls on a table.
use Rattle.std.proofs.Common.{◌≡◌, ◌≢◌, ℕ, ◌+◌, ◌≤◌, max, Bool, true, false, ◌||◌, ◌==◌, cond, List, [], ◌∷◌, length, Option, Some, None, refl, sym, ap, subst, ◌∙◌, arith, is_some, ◌⊎◌, inl, inr}
use Rattle.std.proofs.lemmas.Bool.{eq-eqb, ne_eqb}
use Rattle.canon_handles.specs.Step.{put, one_if, occurrences}
use Rattle.canon_handles.specs.Table.{Table, entry_at, fresh_index, with_new, without, IsTable, empty_table, first_or, other_entries, is_full, vacancy}
use Rattle.canon_handles.specs.Laws.{TableCall, Insert, Remove, Event, Inserted, Removed, TableWithHistory, record_call, record_calls, freed, greatest_given, IndexReuse}
use Rattle.canon_handles.proofs.StepLemmas.{length-put, length-put_end, some_within, one_if-true}
use Rattle.canon_handles.proofs.TableLemmas.{is_table-with_new, is_table-without, is_table-empty, vacancy_some, vacancy_le, vacancy_only, equal_or_not}

-- only which indexes are touched counts
freed_alike : (events : List Event) (f g : ℕ → Bool) → ((k : ℕ) → f k ≡ g k) → freed f events ≡ freed g events
freed_alike [] f g same = refl
freed_alike (Inserted i ∷ events) f g same = freed_alike events (λ k. (k == i) || f k) (λ k. (k == i) || g k) (λ k. ap (λ b. (k == i) || b) (same k))
freed_alike (Removed i ∷ events) f g same =
    ap (λ b. cond b (freed f events) (i ∷ freed (λ k. (k == i) || f k) events)) (same i)
    ∙ ap (λ l. cond (g i) l (i ∷ freed (λ k. (k == i) || f k) events)) (freed_alike events f g same)
    ∙ ap (λ l. cond (g i) (freed g events) (i ∷ l)) (freed_alike events (λ k. (k == i) || f k) (λ k. (k == i) || g k) (λ k. ap (λ b. (k == i) || b) (same k)))

-- the list without an index
skip : ℕ → List ℕ → List ℕ
skip i [] = []
skip i (j ∷ js) = cond (j == i) (skip i js) (j ∷ skip i js)

skip_none : (i : ℕ) (js : List ℕ) → occurrences i js ≡ 0 → skip i js ≡ js
unfolding skip
skip_none i [] e = refl
skip_none i (j ∷ js) e = elim (equal_or_not i j) as (λ _. skip i (j ∷ js) ≡ j ∷ js) [
  | inl is ↦ absurd (let one : one_if (i == j) ≡ 1 = one_if-true _ (eq-eqb i j is) in omega arith)
  | inr ne ↦ ap (λ b. cond b (skip i js) (j ∷ skip i js)) (ne_eqb j i (λ is. ne (sym is))) ∙ ap (λ l. j ∷ l) (skip_none i js (omega arith))
]

skip_here : (i : ℕ) (js : List ℕ) → skip i (i ∷ js) ≡ skip i js
unfolding skip
skip_here i js = ap (λ b. cond b (skip i js) (i ∷ skip i js)) (eq-eqb i i refl)

skip_past : (i j : ℕ) (js : List ℕ) → j ≢ i → skip i (j ∷ js) ≡ j ∷ skip i js
unfolding skip
skip_past i j js ne = ap (λ b. cond b (skip i js) (j ∷ skip i js)) (ne_eqb j i ne)

or_swap : (a b c : Bool) → (a || (b || c)) ≡ (b || (a || c))
or_swap true true c = refl
or_swap true false c = refl
or_swap false true c = refl
or_swap false false c = refl

or_same : (a c : Bool) → (a || (a || c)) ≡ (a || c)
or_same true c = refl
or_same false c = refl

or_true_left : (a b : Bool) → a ≡ true → (a || b) ≡ true
or_true_left true b e = refl
or_true_left false b e = absurd (cc)

or_false_left : (a b : Bool) → a ≡ false → (a || b) ≡ b
or_false_left false b e = refl
or_false_left true b e = absurd (cc)

-- the clause of a removal, given what is known of the events before it
freed_at : (events : List Event) (i j : ℕ) (f : ℕ → Bool) → ((g : ℕ → Bool) → freed (λ k. (k == i) || g k) events ≡ skip i (freed g events)) → (j ≡ i) ⊎ (j ≢ i) → (b : Bool) → f j ≡ b
    → cond ((j == i) || b) (freed (λ k. (k == i) || f k) events) (j ∷ freed (λ k. (k == j) || ((k == i) || f k)) events) ≡ skip i (cond b (freed f events) (j ∷ freed (λ k. (k == j) || f k) events))
freed_at events i j f before (inl at) true e =
    ap (λ b. cond b (freed (λ k. (k == i) || f k) events) (j ∷ freed (λ k. (k == j) || ((k == i) || f k)) events)) (or_true_left (j == i) true (eq-eqb j i at)) ∙ before f
freed_at events i j f before (inr ne) true e =
    ap (λ b. cond b (freed (λ k. (k == i) || f k) events) (j ∷ freed (λ k. (k == j) || ((k == i) || f k)) events)) (or_false_left (j == i) true (ne_eqb j i ne)) ∙ before f
freed_at events i j f before (inl at) false e =
    ap (λ b. cond b (freed (λ k. (k == i) || f k) events) (j ∷ freed (λ k. (k == j) || ((k == i) || f k)) events)) (or_true_left (j == i) false (eq-eqb j i at))
    ∙ freed_alike events (λ k. (k == i) || f k) (λ k. (k == i) || ((k == j) || f k)) (λ k. sym (ap (λ (a : ℕ). (k == i) || ((k == a) || f k)) at ∙ or_same (k == i) (f k)))
    ∙ before (λ k. (k == j) || f k)
    ∙ sym (ap (λ (a : ℕ). skip i (a ∷ freed (λ k. (k == j) || f k) events)) at ∙ skip_here i (freed (λ k. (k == j) || f k) events))
freed_at events i j f before (inr ne) false e =
    ap (λ b. cond b (freed (λ k. (k == i) || f k) events) (j ∷ freed (λ k. (k == j) || ((k == i) || f k)) events)) (or_false_left (j == i) false (ne_eqb j i ne))
    ∙ ap (λ l. j ∷ l) (freed_alike events (λ k. (k == j) || ((k == i) || f k)) (λ k. (k == i) || ((k == j) || f k)) (λ k. or_swap (k == j) (k == i) (f k)) ∙ before (λ k. (k == j) || f k))
    ∙ sym (skip_past i j (freed (λ k. (k == j) || f k) events) ne)

-- to have touched one index more is to skip it
freed_skips : (events : List Event) (i : ℕ) (f : ℕ → Bool) → freed (λ k. (k == i) || f k) events ≡ skip i (freed f events)
unfolding skip
freed_skips [] i f = refl
freed_skips (Inserted j ∷ events) i f =
    freed_alike events (λ k. (k == j) || ((k == i) || f k)) (λ k. (k == i) || ((k == j) || f k)) (λ k. or_swap (k == j) (k == i) (f k)) ∙ freed_skips events i (λ k. (k == j) || f k)
freed_skips (Removed j ∷ events) i f =
    freed_at events i j f (λ g. freed_skips events i g) (equal_or_not j i) (f j) refl

-- What the calls keep of a table and its history.
record IsRecorded {E : Type 0} (t : Table E) (events : List Event) : Type 0 where
  table : IsTable t
  free : t.free ≡ freed (λ _. false) events
  greatest : length t.array ≡ greatest_given events + 1

max_below : (a b : ℕ) → a ≤ b → max a b ≡ b
max_below a b h = omega arith

max_next : (b : ℕ) → max (b + 1) b ≡ b + 1
max_next b = omega arith

-- the length after an insertion, by the free indexes before it
length_after : {E : Type 0} (t : Table E) (free : List ℕ) (g : ℕ) → t.free ≡ free → IsTable t → (x : Option E) → length t.array ≡ g + 1
    → length (put t.array (first_or (length t.array) free) x) ≡ max (first_or (length t.array) free) g + 1
length_after t [] g is s x len = (let a = length-put_end t.array (length t.array) x refl in let b = max_next g in let c : max (length t.array) g ≡ g + 1 = ap (λ (n : ℕ). max n g) len ∙ b in omega arith)
length_after t (i ∷ is) g eq s x len =
    let v : occurrences i (i ∷ is) ≡ vacancy t i = subst (λ l. occurrences i l ≡ vacancy t i) eq (s.free_are_vacant i) in
    let one : one_if (i == i) ≡ 1 = one_if-true _ (eq-eqb i i refl) in
    let within = (vacancy_only t i (omega arith)).1 in
    let a = length-put t.array i x within in
    let b = max_below i g (omega arith) in
    omega arith

-- the free indexes after an insertion
free_after : {E : Type 0} (t : Table E) (free : List ℕ) → t.free ≡ free → IsTable t → other_entries free ≡ skip (first_or (length t.array) free) free
unfolding skip
free_after t [] is s = refl
free_after t (i ∷ is) eq s =
    let v : occurrences i (i ∷ is) ≡ vacancy t i = subst (λ l. occurrences i l ≡ vacancy t i) eq (s.free_are_vacant i) in
    let one : one_if (i == i) ≡ 1 = one_if-true _ (eq-eqb i i refl) in
    let le = vacancy_le t i in
    sym (skip_here i is ∙ skip_none i is (omega arith))

recorded-insert : {E : Type 0} (t : Table E) (events : List Event) (e : E) → IsRecorded t events → IsRecorded (with_new t e) (Inserted (fresh_index t) ∷ events)
recorded-insert t events e r =
    let n = fresh_index t in
    record {
      table = is_table-with_new t e r.table;
      free = free_after t t.free refl r.table ∙ ap (skip n) r.free ∙ sym (freed_skips events n (λ _. false));
      greatest = length_after t t.free (greatest_given events) refl r.table (Some e) r.greatest;
    }

recorded-remove : {E : Type 0} (t : Table E) (events : List Event) (i : ℕ) (e : E) → entry_at t i ≡ Some e → IsRecorded t events → IsRecorded (without t i) (Removed i ∷ events)
recorded-remove t events i e is r =
    let occ = r.table.free_are_vacant i in
    let none = vacancy_some t i e is in
    let within = some_within t.array i e is in
    record {
      table = is_table-without t i e r.table is;
      free = ap (λ l. i ∷ l) (sym (skip_none i t.free (omega arith)) ∙ ap (skip i) r.free ∙ sym (freed_skips events i (λ _. false)));
      greatest = length-put t.array i None within ∙ r.greatest;
    }

recorded_if_insert : {E : Type 0} (b : Bool) (t : Table E) (events : List Event) (e : E) → IsRecorded t events → let w : TableWithHistory E = cond b (t, events) (with_new t e, Inserted (fresh_index t) ∷ events) in IsRecorded w.0 w.1
recorded_if_insert true t events e r = r
recorded_if_insert false t events e r = recorded-insert t events e r

recorded_if_remove : {E : Type 0} (o : Option E) (t : Table E) (events : List Event) (i : ℕ) → entry_at t i ≡ o → IsRecorded t events → let w : TableWithHistory E =
    cond (is_some o) (without t i, Removed i ∷ events) (t, events) in IsRecorded w.0 w.1
recorded_if_remove None t events i is r = r
recorded_if_remove (Some e) t events i is r = recorded-remove t events i e is r

recorded-call : {E : Type 0} (call : TableCall E) (t : Table E) (events : List Event) → IsRecorded t events → let w = record_call call (t, events) in IsRecorded w.0 w.1
recorded-call (Insert e) t events r = recorded_if_insert (is_full t) t events e r
recorded-call (Remove i) t events r = recorded_if_remove (entry_at t i) t events i refl r

recorded-calls : {E : Type 0} (calls : List (TableCall E)) (w : TableWithHistory E) → IsRecorded w.0 w.1 → let v = record_calls calls w in IsRecorded v.0 v.1
recorded-calls [] w r = r
recorded-calls (call ∷ calls) w r = recorded-calls calls (record_call call w) (recorded-call call w.0 w.1 r)

pub fresh_indexes : (E : Type 0) → IndexReuse E
fresh_indexes E greatest calls =
    let w = record_calls calls (empty_table greatest, []) in
    let r = recorded-calls calls (empty_table greatest, []) (record { table = is_table-empty greatest; free = refl; greatest = refl }) in
    ap (first_or (length w.0.array)) r.free ∙ ap (λ (n : ℕ). first_or n (freed (λ _. false) w.1)) r.greatest
