-- What a walk over the members of a product keeps.
use Rattle.std.proofs.Common.{Bool, ◌≡◌, Option, ℕ, ◌+◌, ◌<◌, ◌≤◌, ◌-◌, ◌%◌, max, List, [], ◌∷◌, map, drop, get_or, length, IsTrue, ap, sym, ◌∙◌, arith}
use Rattle.std.proofs.Math.Nat.{mod-lt}
use Rattle.std.proofs.lemmas.List.{at_drop_more}
use Rattle.std.proofs.lemmas.Bool.Decides.{nat_tests}
use Rattle.std.specs.Int.{next_multiple_of}
use Rattle.canon_abi.specs.Alignment.{is_alignment}
use Rattle.canon_abi.specs.declared.abi.CanonicalAbiInfo.{CanonicalAbiInfo}
use Rattle.canon_abi.specs.Numbers.{Numbers, case_numbers_in, end_of, end_after, largest_align, numbers_in, of_product}

-- members only go up
pub end_of_above : (at : ℕ) (ms : List Numbers) → at ≤ end_of at ms
end_of_above at [] = omega arith
end_of_above at (m ∷ ms) = omega (arith, end_of_above (end_after at m) ms)

-- a product is no smaller than where its members end
pub product_above : (at : ℕ) (ms rest : List Numbers) → end_of at rest ≡ end_of 0 ms → at ≤ (of_product ms).size
product_above at ms rest e = omega (arith, end_of_above at rest)

pub one_le_largest_align : (ms : List Numbers) → 1 ≤ largest_align ms
one_le_largest_align [] = omega arith
one_le_largest_align (m ∷ ms) = omega (arith, one_le_largest_align ms)

pub max-one-largest_align : (ms : List Numbers) → max 1 (largest_align ms) ≡ largest_align ms
max-one-largest_align ms = omega (arith, one_le_largest_align ms)

is_alignment_positive : (a : ℕ) → IsTrue (is_alignment a) → (0 < a) × (a ≤ 8)
is_alignment_positive a h = grind (arith, nat_tests)

-- the next multiple of an alignment is less than 8 away
pub next_multiple_near : (x y : ℕ) → IsTrue (is_alignment y) → next_multiple_of x y < x + 8
next_multiple_near x y h =
    let y' = is_alignment_positive y h in
    let rest : (y - x % y) % y < y = mod-lt (y - x % y) y'.0 in
    omega arith

pub alignment_of_max : (a b : ℕ) → IsTrue (is_alignment a) → IsTrue (is_alignment b) → IsTrue (is_alignment (max a b))
alignment_of_max a b h k = grind (arith, nat_tests)

-- the fields from place i on, by the one at i
pub fields-drop : (wide : Bool) (fields : List CanonicalAbiInfo) (i : ℕ) (field : CanonicalAbiInfo) → i < length fields → field ≡ get_or fields i field
    → map (numbers_in wide) (drop i fields) ≡ numbers_in wide field ∷ map (numbers_in wide) (drop (i + 1) fields)
fields-drop wide fields i field h is =
    at_drop_more (map (numbers_in wide)) fields i field h ∙ ap (λ (x : CanonicalAbiInfo). numbers_in wide x ∷ map (numbers_in wide) (drop (i + 1) fields)) (sym is)

-- one field more: where the rest ends
pub ends_more : (wide : Bool) (fields : List CanonicalAbiInfo) (i : ℕ) (field : CanonicalAbiInfo) (at all : ℕ) → i < length fields → field ≡ get_or fields i field
    → end_of at (map (numbers_in wide) (drop i fields)) ≡ all → end_of (end_after at (numbers_in wide field)) (map (numbers_in wide) (drop (i + 1) fields)) ≡ all
ends_more wide fields i field at all h is e = ap (end_of at) (sym (fields-drop wide fields i field h is)) ∙ e

-- the cases from place i on, by the one at i
pub cases-drop : (wide : Bool) (cases : List (Option CanonicalAbiInfo)) (i : ℕ) (case : Option CanonicalAbiInfo) → i < length cases → case ≡ get_or cases i case
    → map (case_numbers_in wide) (drop i cases) ≡ case_numbers_in wide case ∷ map (case_numbers_in wide) (drop (i + 1) cases)
cases-drop wide cases i case h is =
    at_drop_more (map (case_numbers_in wide)) cases i case h ∙ ap (λ (x : Option CanonicalAbiInfo). case_numbers_in wide x ∷ map (case_numbers_in wide) (drop (i + 1) cases)) (sym is)
