-- Lemmas on one handle table.
use Rattle.std.proofs.Common.{◌≡◌, ◌≢◌, ℕ, zero, suc, ◌+◌, ◌<◌, ◌≤◌, Bool, true, false, not, ◌&&◌, ◌==◌, List, [], ◌∷◌, length, Option, Some, None, refl, sym, ap, subst, ◌∙◌, arith, is_none, nat_lt, ◌⊎◌, inl, inr}
use Rattle.std.proofs.lemmas.Bool.{eq-eqb, ne_eqb, ltb-true, lt-ltb}
use Rattle.std.proofs.lemmas.Bool.Decides.{nat_tests, eqb_tells}
use Rattle.canon_handles.specs.Step.{put, one_if, occurrences}
use Rattle.canon_handles.specs.Table.{Table, entry_at, fresh_index, with_new, with_entry, without, vacancy, IsTable, IsFresh, empty_table, other_entries, first_or}
use Rattle.canon_handles.proofs.StepLemmas.{length-put, length-put_end, get_or-put_same, get_or-put_other, some_within, get_or_past_end, one_if-true, one_if-false, true-one_if}

-- of an index, a length and whether there is nothing at the index
abbrev is_vacant_by : ℕ → ℕ → Bool → Bool
is_vacant_by i n b = not (i == 0) && nat_lt i n && b

is_vacant_yes : (i n : ℕ) (b : Bool) → 0 < i → i < n → b ≡ true → is_vacant_by i n b ≡ true
is_vacant_yes i n b p h e = grind (arith, nat_tests)

is_vacant_some : (i n : ℕ) → is_vacant_by i n false ≡ false
is_vacant_some i n = grind (arith, nat_tests)

is_vacant_only : (i n : ℕ) (b : Bool) → is_vacant_by i n b ≡ true → (0 < i) × (i < n) × (b ≡ true)
is_vacant_only i n b e = grind (arith, nat_tests)

is_vacant_longer : (i n : ℕ) (b : Bool) → i ≢ n → is_vacant_by i (n + 1) b ≡ is_vacant_by i n b
is_vacant_longer i n b ne = grind (arith, nat_tests)

none_from_is_none : {E : Type 0} (o : Option E) → is_none o ≡ true → o ≡ None
none_from_is_none None e = refl
none_from_is_none (Some x) e = absurd (cc)

pub vacancy_none : {E : Type 0} (t : Table E) (i : ℕ) → 0 < i → i < length t.array → entry_at t i ≡ None → vacancy t i ≡ 1
vacancy_none t i p h e = one_if-true _ (is_vacant_yes i (length t.array) _ p h (ap is_none e))

pub vacancy_some : {E : Type 0} (t : Table E) (i : ℕ) (e : E) → entry_at t i ≡ Some e → vacancy t i ≡ 0
vacancy_some t i e is = one_if-false _ (ap (is_vacant_by i (length t.array)) (ap is_none is) ∙ is_vacant_some i (length t.array))

pub vacancy_only : {E : Type 0} (t : Table E) (i : ℕ) → 1 ≤ vacancy t i → (0 < i) × (i < length t.array) × (entry_at t i ≡ None)
vacancy_only t i h =
    let w = is_vacant_only i (length t.array) (is_none (entry_at t i)) (true-one_if _ h) in
    (w.0, w.1, none_from_is_none (entry_at t i) w.2)

one_if_le : (b : Bool) → one_if b ≤ 1
one_if_le true = omega arith
one_if_le false = omega arith

pub vacancy_le : {E : Type 0} (t : Table E) (i : ℕ) → vacancy t i ≤ 1
vacancy_le t i = one_if_le _

fresh_by : {E : Type 0} (t : Table E) (free : List ℕ) → t.free ≡ free → IsTable t → IsFresh t (first_or (length t.array) free)
fresh_by t [] e s =
    record {
      positive = ltb-true 0 (length t.array) s.rooted;
      at_end = omega arith;
      vacant = get_or_past_end t.array (length t.array) None (omega arith);
    }
fresh_by t (i ∷ is) e s =
    let v : occurrences i (i ∷ is) ≡ vacancy t i = subst (λ l. occurrences i l ≡ vacancy t i) e (s.free_are_vacant i) in
    let one : one_if (i == i) ≡ 1 = one_if-true _ (eq-eqb i i refl) in
    let w = vacancy_only t i (omega arith) in
    record { positive = w.0; at_end = omega arith; vacant = w.2 }

pub fresh : {E : Type 0} (t : Table E) → IsTable t → IsFresh t (fresh_index t)
fresh t s = fresh_by t t.free refl s

vacancy_same : {E : Type 0} (t t' : Table E) (k : ℕ) → length t'.array ≡ length t.array → entry_at t' k ≡ entry_at t k → vacancy t' k ≡ vacancy t k
vacancy_same t t' k el ee =
    ap (λ n. one_if (is_vacant_by k n (is_none (entry_at t' k)))) el ∙ ap (λ o. one_if (is_vacant_by k (length t.array) (is_none o))) ee

vacancy_longer : {E : Type 0} (t t' : Table E) (k : ℕ) → length t'.array ≡ length t.array + 1 → k ≢ length t.array → entry_at t' k ≡ entry_at t k → vacancy t' k ≡ vacancy t k
vacancy_longer t t' k el ne ee =
    ap (λ n. one_if (is_vacant_by k n (is_none (entry_at t' k)))) el
    ∙ ap (λ o. one_if (is_vacant_by k (length t.array + 1) (is_none o))) ee
    ∙ ap one_if (is_vacant_longer k (length t.array) (is_none (entry_at t k)) ne)

-- with an entry at the first free index
abbrev with_first : {E : Type 0} → Table E → List ℕ → E → Table E
with_first t free e = record { array = put t.array (first_or (length t.array) free) (Some e); free = other_entries free; max = t.max }

other_k : {E : Type 0} (t : Table E) (free : List ℕ) (s : IsTable t) → t.free ≡ free → (e : E) (k : ℕ) → k ≢ first_or (length t.array) free → entry_at (with_first t free e) k ≡ entry_at t k
other_k t free s is e k ne = get_or-put_other t.array (first_or (length t.array) free) k (Some e) None (fresh_by t free is s).at_end ne

same_k : {E : Type 0} (t : Table E) (free : List ℕ) (s : IsTable t) → t.free ≡ free → (e : E) (k : ℕ) → k ≡ first_or (length t.array) free → entry_at (with_first t free e) k ≡ Some e
same_k t free s is e k eq =
    ap (entry_at (with_first t free e)) eq ∙ get_or-put_same t.array (first_or (length t.array) free) (Some e) None (fresh_by t free is s).at_end

free_after : {E : Type 0} (t : Table E) (free : List ℕ) → t.free ≡ free → IsTable t → (e : E) (k : ℕ)
    → ((k ≡ first_or (length t.array) free) ⊎ (k ≢ first_or (length t.array) free))
    → occurrences k (other_entries free) ≡ vacancy (with_first t free e) k
free_after t [] is s e k (inl eq) = sym (vacancy_some (with_first t [] e) k e (same_k t [] s is e k eq))
free_after t [] is s e k (inr ne) =
    subst (λ l. occurrences k l ≡ vacancy t k) is (s.free_are_vacant k)
    ∙ sym (vacancy_longer t (with_first t [] e) k (length-put_end t.array (length t.array) (Some e) refl) ne (other_k t [] s is e k ne))
free_after t (i ∷ is) eq s e k (inl at) =
    let v : occurrences k (i ∷ is) ≡ vacancy t k = subst (λ l. occurrences k l ≡ vacancy t k) eq (s.free_are_vacant k) in
    let one : one_if (k == i) ≡ 1 = one_if-true _ (eq-eqb k i at) in
    let le = vacancy_le t k in
    let none : vacancy (with_first t (i ∷ is) e) k ≡ 0 = vacancy_some (with_first t (i ∷ is) e) k e (same_k t (i ∷ is) s eq e k at) in
    omega arith
free_after t (i ∷ is) eq s e k (inr ne) =
    let v : occurrences k (i ∷ is) ≡ vacancy t k = subst (λ l. occurrences k l ≡ vacancy t k) eq (s.free_are_vacant k) in
    let none : one_if (k == i) ≡ 0 = one_if-false _ (ne_eqb k i ne) in
    let u : occurrences i (i ∷ is) ≡ vacancy t i = subst (λ l. occurrences i l ≡ vacancy t i) eq (s.free_are_vacant i) in
    let one : one_if (i == i) ≡ 1 = one_if-true _ (eq-eqb i i refl) in
    let within = (vacancy_only t i (omega arith)).1 in
    let same = vacancy_same t (with_first t (i ∷ is) e) k (length-put t.array i (Some e) within) (other_k t (i ∷ is) s eq e k ne) in
    omega arith

pub equal_or_not : (a b : ℕ) → (a ≡ b) ⊎ (a ≢ b)
equal_or_not a b = elim (eqb_tells a b) [ inl w ↦ inl w.1 | inr w ↦ inr w.1 ]

pub length-put_le : {A : Type 0} (xs : List A) (i : ℕ) (x : A) → i ≤ length xs → length xs ≤ length (put xs i x)
length-put_le xs i x h = elim (equal_or_not i (length xs)) [
  | inl e ↦ (let k = length-put_end xs i x e in omega arith)
  | inr ne ↦ (let k = length-put xs i x (omega arith) in omega arith)
]

pub is_table-with_new : {E : Type 0} (t : Table E) (e : E) → IsTable t → IsTable (with_new t e)
is_table-with_new t e s =
    let f = fresh t s in
    record {
      rooted = lt-ltb 0 (length (with_new t e).array) (let h = length-put_le t.array (fresh_index t) (Some e) f.at_end in let r = ltb-true 0 (length t.array) s.rooted in omega arith);
      reserved = get_or-put_other t.array (fresh_index t) 0 (Some e) None f.at_end (let p = f.positive in omega arith) ∙ s.reserved;
      free_are_vacant = λ k. free_after t t.free refl s e k (equal_or_not k (fresh_index t));
    }

pub entry-with_new : {E : Type 0} (t : Table E) (e : E) → IsTable t → entry_at (with_new t e) (fresh_index t) ≡ Some e
entry-with_new t e s = same_k t t.free s refl e (fresh_index t) refl

-- an entry stands at an index above 0 and within the array
pub entry_positive : {E : Type 0} (t : Table E) (i : ℕ) (e : E) → IsTable t → entry_at t i ≡ Some e → 0 < i
entry_positive t zero e s is = absurd (let n = s.reserved in cc)
entry_positive t (suc i) e s is = omega arith

pub is_table-with_entry : {E : Type 0} (t : Table E) (i : ℕ) (e e' : E) → IsTable t → entry_at t i ≡ Some e → IsTable (with_entry t i e')
is_table-with_entry t i e e' s is =
    let h = some_within t.array i e is in
    let p = entry_positive t i e s is in
    let len : length (with_entry t i e').array ≡ length t.array = length-put t.array i (Some e') h in
    record {
      rooted = ap (nat_lt 0) len ∙ s.rooted;
      reserved = get_or-put_other t.array i 0 (Some e') None (omega arith) (omega arith) ∙ s.reserved;
      free_are_vacant = λ k. s.free_are_vacant k ∙ (elim (equal_or_not k i) as (λ _. vacancy t k ≡ vacancy (with_entry t i e') k) [
        | inl at ↦ vacancy_some t k e (ap (entry_at t) at ∙ is) ∙ sym (vacancy_some (with_entry t i e') k e' (ap (entry_at (with_entry t i e')) at ∙ get_or-put_same t.array i (Some e') None (omega arith)))
        | inr ne ↦ sym (vacancy_same t (with_entry t i e') k len (get_or-put_other t.array i k (Some e') None (omega arith) ne))
      ]);
    }

pub is_table-without : {E : Type 0} (t : Table E) (i : ℕ) (e : E) → IsTable t → entry_at t i ≡ Some e → IsTable (without t i)
is_table-without t i e s is =
    let h = some_within t.array i e is in
    let p = entry_positive t i e s is in
    let len : length (without t i).array ≡ length t.array = length-put t.array i None h in
    record {
      rooted = ap (nat_lt 0) len ∙ s.rooted;
      reserved = get_or-put_other t.array i 0 None None (omega arith) (omega arith) ∙ s.reserved;
      free_are_vacant = λ k. elim (equal_or_not k i) as (λ _. occurrences k (i ∷ t.free) ≡ vacancy (without t i) k) [
        | inl at ↦
            (let one : one_if (k == i) ≡ 1 = one_if-true _ (eq-eqb k i at) in
            let was : vacancy t k ≡ 0 = vacancy_some t k e (ap (entry_at t) at ∙ is) in
            let occ = s.free_are_vacant k in
            let now : vacancy (without t i) k ≡ 1 = vacancy_none (without t i) k (omega arith) (omega arith) (ap (entry_at (without t i)) at ∙ get_or-put_same t.array i None None (omega arith)) in
            omega arith)
        | inr ne ↦
            (let none : one_if (k == i) ≡ 0 = one_if-false _ (ne_eqb k i ne) in
            let occ = s.free_are_vacant k in
            let same = vacancy_same t (without t i) k len (get_or-put_other t.array i k None None (omega arith) ne) in
            omega arith)
      ];
    }

empty_free : (E : Type 0) (max k : ℕ) → 0 ≡ vacancy {E = E} (empty_table max) k
empty_free E max k = sym (one_if-false _ (grind (arith, nat_tests)))

pub is_table-empty : {E : Type 0} (max : ℕ) → IsTable {E = E} (empty_table max)
is_table-empty {E} max = record { rooted = refl; reserved = refl; free_are_vacant = empty_free E max }

-- the first free index is within the array
pub first_within : {E : Type 0} (t : Table E) (i : ℕ) (is : List ℕ) → t.free ≡ i ∷ is → IsTable t → i < length t.array
first_within t i is eq s =
    let v : occurrences i (i ∷ is) ≡ vacancy t i = subst (λ l. occurrences i l ≡ vacancy t i) eq (s.free_are_vacant i) in
    let one : one_if (i == i) ≡ 1 = one_if-true _ (eq-eqb i i refl) in
    (vacancy_only t i (omega arith)).1
