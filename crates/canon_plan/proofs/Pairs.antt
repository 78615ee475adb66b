-- The keys and values of a map by turns, as members: each by its number.
use Rattle.std.proofs.Common.{◌≡◌, ◌<◌, ◌+◌, ◌*◌, ◌/◌, ◌%◌, ◌∙◌, [], ap, arith, map, refl, subst, suc, sym, zero, ℕ}
use Rattle.canon_lowering.specs.Copies.{pairs_of}
use Rattle.canon_model.specs.Shape.{Members, Shape, map_of, member, member_count}
use Rattle.canon_types.specs.Depth.{element_shape}
use Rattle.canon_types.specs.Keeps.{map_type}
use Rattle.canon_types.specs.Table.{IsDefined, Knows, TypeTable, shape_of}
use Rattle.canon_types.specs.declared.types.InterfaceType.TheVariants as ty
use Rattle.canon_types.specs.declared.types.TypeMap.{TypeMap}
use Rattle.canon_plan.specs.Element.{IsMap, first_of, row_of, second_of}
use Rattle.canon_plan.specs.Plan.{members_from}

unfoldable pub twice : ℕ → ℕ
twice zero = zero
twice (suc n) = suc (suc (twice n))

pub twice-is : (n : ℕ) → twice n ≡ n + n
unfolding twice
twice-is zero = refl
twice-is (suc n) = omega (arith, twice-is n)

pub even-is : (k : ℕ) → k % 2 ≡ 0 → k ≡ twice (k / 2)
even-is k e = omega (arith, e, twice-is (k / 2))

pub odd-is : (k : ℕ) → ¬ (k % 2 ≡ 0) → k ≡ suc (twice (k / 2))
odd-is k e = omega (arith, e, twice-is (k / 2))

pub count_pairs : (n : ℕ) (s u : Shape) → member_count (pairs_of n s u) ≡ n + n
count_pairs zero s u = refl
count_pairs (suc n) s u = omega (arith, count_pairs n s u)

-- of a map's shape
pub pair_slots : (s : Shape) (n : ℕ) → IsMap s → 2 * n ≡ member_count (row_of s n)
pair_slots s n e = omega (arith, ap (λ (x : Shape). member_count (row_of x n)) e, count_pairs n (first_of (element_shape s)) (second_of (element_shape s)))

pub half_below : (k n : ℕ) → k < n + n → k / 2 < n
half_below k n h = omega (arith, h)

first_member : (n j : ℕ) (s u : Shape) → j < n → members_from (twice j) (pairs_of n s u) ≡ member [] s (members_from (suc (twice j)) (pairs_of n s u))
unfolding twice
first_member zero j s u h = absurd (omega (arith, h))
first_member (suc n) zero s u h = refl
first_member (suc n) (suc j) s u h = first_member n j s u (omega (arith, h))

second_member : (n j : ℕ) (s u : Shape) → j < n → members_from (suc (twice j)) (pairs_of n s u) ≡ member [] u (members_from (suc (suc (twice j))) (pairs_of n s u))
unfolding twice
second_member zero j s u h = absurd (omega (arith, h))
second_member (suc n) zero s u h = refl
second_member (suc n) (suc j) s u h = second_member n j s u (omega (arith, h))

key_member : (n k : ℕ) (s u : Shape) → k % 2 ≡ 0 → k < n + n → members_from k (pairs_of n s u) ≡ member [] s (members_from (k + 1) (pairs_of n s u))
key_member n k s u even h =
    let after : suc (twice (k / 2)) ≡ k + 1 = omega (arith, even-is k even) in
    ap (λ i. members_from i (pairs_of n s u)) (even-is k even) ∙ (first_member n (k / 2) s u (half_below k n h) ∙ ap (λ i. member [] s (members_from i (pairs_of n s u))) after)

value_member : (n k : ℕ) (s u : Shape) → ¬ (k % 2 ≡ 0) → k < n + n → members_from k (pairs_of n s u) ≡ member [] u (members_from (k + 1) (pairs_of n s u))
value_member n k s u odd h =
    let after : suc (suc (twice (k / 2))) ≡ k + 1 = omega (arith, odd-is k odd) in
    ap (λ i. members_from i (pairs_of n s u)) (odd-is k odd) ∙ (second_member n (k / 2) s u (half_below k n h) ∙ ap (λ i. member [] u (members_from i (pairs_of n s u))) after)

module _ (t : TypeTable) (i : ℕ) (m : TypeMap) (h : IsDefined t (ty.Map i) (map_type m)) where
  pub map_shape : shape_of t (ty.Map i) ≡ map_of (shape_of t m.key) (shape_of t m.value)
  map_shape = h.shape

  pub key_known : Knows t m.key
  key_known = h.known 0 m.key (omega arith)

  pub value_known : Knows t m.value
  value_known = h.known 1 m.value (omega arith)

  map_row : (n : ℕ) → pairs_of n (shape_of t m.key) (shape_of t m.value) ≡ row_of (shape_of t (ty.Map i)) n
  map_row n = ap (λ (x : Shape). row_of x n) (sym map_shape)

  pub map_count : (n : ℕ) → member_count (row_of (shape_of t (ty.Map i)) n) ≡ n + n
  map_count n = ap member_count (sym (map_row n)) ∙ count_pairs n (shape_of t m.key) (shape_of t m.value)

  module _ (n k : ℕ) (lt : k < n + n) where
    pub key_here : k % 2 ≡ 0 → members_from k (row_of (shape_of t (ty.Map i)) n) ≡ member [] (shape_of t m.key) (members_from (k + 1) (row_of (shape_of t (ty.Map i)) n))
    key_here even = subst (λ (r : Members). members_from k r ≡ member [] (shape_of t m.key) (members_from (k + 1) r)) (map_row n) (key_member n k (shape_of t m.key) (shape_of t m.value) even lt)

    pub value_here : ¬ (k % 2 ≡ 0) → members_from k (row_of (shape_of t (ty.Map i)) n) ≡ member [] (shape_of t m.value) (members_from (k + 1) (row_of (shape_of t (ty.Map i)) n))
    value_here odd = subst (λ (r : Members). members_from k r ≡ member [] (shape_of t m.value) (members_from (k + 1) r)) (map_row n) (value_member n k (shape_of t m.key) (shape_of t m.value) odd lt)
