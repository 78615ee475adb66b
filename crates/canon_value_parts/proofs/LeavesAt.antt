-- The handles at the reached places of a value, as those of its members one after the other.
use Rattle.std.proofs.Common.{List, [], ap, ap₂, append-nil, append_assoc, arith, eq-eqb, false, le-leb, length, nat_le, refl, subst, suc, sym, zero, ℕ, ◌%◌, ◌*◌, ◌++◌, ◌+◌, ◌<◌, ◌∙◌, ◌≡◌, ◌≤◌}
use Rattle.std.proofs.Math.Nat.{zero-mod}
use Rattle.std.proofs.lemmas.Bool.{and_from, cond-false, cond-true, lt-leb}
use Rattle.std.proofs.lemmas.Nat.Gcd.{dvd_of_mod-eq-zero}
use Rattle.std.specs.Int.{◌∣◌}
use Rattle.std.specs.Prelude.{slice_index}
use Rattle.canon_lowering.proofs.Copying.{begins-same, ends-same, next_multiple}
use Rattle.canon_lowering.proofs.Pairing.{IsNext, at_start, first_at, next_pair, pair_shape, pair_size, second_at}
use Rattle.canon_lowering.specs.Copies.{case_members, copies, pairs_of}
use Rattle.canon_lowering.specs.Storing.{narrow}
use Rattle.canon_model.specs.Layout.{align, begins, ends, flat, members_align, members_flat, payload_offset, size}
use Rattle.canon_model.specs.Leaves.{Leaf, case_flat_leaves, case_reach_leaves, flat_leaves, list_at, list_leaves, members_flat_leaves, members_reach_leaves, reach_leaves, values_leaves}
use Rattle.canon_model.specs.Memory.{Inside, Memory, length_at, low, pointer_at, ptr, tag_at}
use Rattle.canon_model.specs.Shape.{Cases, ListKind, Members, Name, Scalar, Shape, bare, flags, list, no_cases, no_members, of_places, payload, product, scalar, string}
use Rattle.canon_plan.specs.Element.{IsKnown, first_of, list_shape, row_of, second_of}
use Rattle.canon_plan.specs.Plan.{IsVariant}
use Rattle.canon_plan.specs.declared.element.Element.{Element}
use Rattle.canon_plan.specs.declared.element.Element.TheVariants as element
use Rattle.canon_types.specs.Depth.{element_shape, variant_cases}
use Rattle.canon_types.specs.Table.{TypeTable, shape_of}
use Rattle.canon_types.specs.declared.types.InterfaceType.TheVariants as ty

at_zero : (s : Shape) → align false s ∣ 0
at_zero s = dvd_of_mod-eq-zero (align false s) (zero-mod _)

-- two lists before a third, and as one
two_first : (xs ys zs : List Leaf) → xs ++ (ys ++ zs) ≡ (xs ++ (ys ++ [])) ++ zs
two_first xs ys zs = ap (λ ws. xs ++ (ws ++ zs)) (sym (append-nil ys)) ∙ sym (append_assoc xs (ys ++ []) zs)

-- ---- in memory

pub no_members_left : (bytes : List ℕ) (o a : ℕ) (ms : Members) → ms ≡ no_members → members_reach_leaves (narrow bytes) ms o a ≡ []
unfolding reach_leaves
no_members_left bytes o a ms none = ap (λ (x : Members). members_reach_leaves (narrow bytes) x o a) none

-- scalars, texts and flags have none
pub scalar_leaves : (bytes : List ℕ) (k : Scalar) (s : Shape) (a : ℕ) → s ≡ scalar k → reach_leaves (narrow bytes) s a ≡ []
unfolding reach_leaves
scalar_leaves bytes k s a is = ap (λ (x : Shape). reach_leaves (narrow bytes) x a) is

pub text_leaves : (bytes : List ℕ) (s : Shape) (a : ℕ) → s ≡ string → reach_leaves (narrow bytes) s a ≡ []
unfolding reach_leaves
text_leaves bytes s a is = ap (λ (x : Shape). reach_leaves (narrow bytes) x a) is

pub flags_leaves : (bytes : List ℕ) (s : Shape) (a : ℕ) (names : List Name) → s ≡ flags names → reach_leaves (narrow bytes) s a ≡ []
unfolding reach_leaves
flags_leaves bytes s a names is = ap (λ (x : Shape). reach_leaves (narrow bytes) x a) is

module _ (bytes : List ℕ) where
  copies_leaves : (n o a b : ℕ) (s : Shape) → align false s ∣ o → a + o ≡ b → members_reach_leaves (narrow bytes) (copies n s) o a ≡ list_at (λ c. reach_leaves (narrow bytes) s c) (size false s) b n
  unfolding reach_leaves
  copies_leaves zero o a b s h is = refl
  copies_leaves (suc n) o a b s h is =
      let here : a + begins false o s ≡ b = ap (λ k. a + k) (begins-same false o s h) ∙ is in
      ap₂ (λ (xs ys : List Leaf). xs ++ ys) (ap (λ k. reach_leaves (narrow bytes) s k) here) (copies_leaves n (ends false o s) a (b + size false s) s (next_multiple false o s h) (omega (arith, ends-same false o s h, is)))

  pairs_leaves : (s u : Shape) (n o base a b : ℕ) → IsNext false s u o base → a + base ≡ b
      → members_reach_leaves (narrow bytes) (pairs_of n s u) o a ≡ list_at (λ c. reach_leaves (narrow bytes) (pair_shape s u) c) (pair_size false s u) b n
  unfolding reach_leaves
  pairs_leaves s u zero o base a b h is = refl
  pairs_leaves s u (suc n) o base a b h is =
      let first = ap (λ c. reach_leaves (narrow bytes) s c) (first_at false s u o base h a b is) in
      let second = ap (λ c. reach_leaves (narrow bytes) u c) (second_at false s u o base h a b is) in
      let rest = pairs_leaves s u n (ends false (ends false o s) u) (base + pair_size false s u) a (b + pair_size false s u) (next_pair false s u o base h) (omega (arith, is)) in
      ap₂ (λ (xs ys : List Leaf). xs ++ ys) first (ap₂ (λ (xs ys : List Leaf). xs ++ ys) second rest)
      ∙ two_first (reach_leaves (narrow bytes) s (b + begins false 0 s)) (reach_leaves (narrow bytes) u (b + begins false (ends false 0 s) u))
      (list_at (λ c. reach_leaves (narrow bytes) (pair_shape s u) c) (pair_size false s u) (b + pair_size false s u) n)

  pub fixed_leaves : (n a : ℕ) (s : Shape) → list_at (λ c. reach_leaves (narrow bytes) s c) (size false s) a n ≡ members_reach_leaves (narrow bytes) (copies n s) 0 a
  fixed_leaves n a s = sym (copies_leaves n 0 a a s (at_zero s) (omega arith))

  -- the elements of a list, as members
  abbrev pub RowLeaves : Shape → ℕ → ℕ → Type 0
  RowLeaves s n p = members_reach_leaves (narrow bytes) (row_of s n) 0 p ≡ list_at (λ c. reach_leaves (narrow bytes) (element_shape s) c) (size false (element_shape s)) p n

  pub row_leaves : (t : TypeTable) (e : Element) → IsKnown t e → (n p : ℕ) → RowLeaves (list_shape t e) n p
  row_leaves t (element.Item type) known n p = copies_leaves n 0 p p (shape_of t type) (at_zero (shape_of t type)) (omega arith)
  row_leaves t (element.Pair i) (known, is) n p =
      let s = element_shape (shape_of t (ty.Map i)) in
      subst (λ (x : Shape). RowLeaves x n p) (sym is) (pairs_leaves (first_of s) (second_of s) n 0 0 p p (at_start false (first_of s) (second_of s)) (omega arith))

  abbrev pub elements_leaves : Shape → ℕ → ℕ → List Leaf
  elements_leaves s p n = list_leaves (narrow bytes) (reach_leaves (narrow bytes) (element_shape s)) (element_shape s) p n

  -- of a list that is aligned and inside memory
  pub items_leaves : (t : TypeTable) (e : Element) → IsKnown t e → (n p : ℕ) → p % align false (element_shape (list_shape t e)) ≡ 0 → p + n * size false (element_shape (list_shape t e)) ≤ length bytes
      → elements_leaves (list_shape t e) p n ≡ members_reach_leaves (narrow bytes) (row_of (list_shape t e) n) 0 p
  items_leaves t e known n p aligned inside = cond-true _ _ _ (and_from _ _ (le-leb _ _ inside) (eq-eqb _ _ aligned)) ∙ sym (row_leaves t e known n p)

  -- the list that has them
  pub stored_leaves : (s part : Shape) (kind : ListKind) → s ≡ list kind part → (p n a : ℕ) → p ≡ pointer_at (narrow bytes) a → n ≡ length_at (narrow bytes) a → elements_leaves s p n ≡ reach_leaves (narrow bytes) s a
  unfolding reach_leaves
  stored_leaves s part kind is p n a pointer long =
      subst (λ (x : Shape). elements_leaves x p n ≡ reach_leaves (narrow bytes) x a) (sym is) (ap₂ (λ (q j : ℕ). elements_leaves (list kind part) q j) pointer long)

  -- ---- a payload, as no member or one

  case_leaves_at : (cs : Cases) (i a : ℕ) → case_reach_leaves (narrow bytes) cs i a ≡ members_reach_leaves (narrow bytes) (case_members cs i) 0 a
  unfolding reach_leaves
  case_leaves_at no_cases i a = refl
  case_leaves_at (bare name cs) zero a = refl
  case_leaves_at (bare name cs) (suc i) a = case_leaves_at cs i a
  case_leaves_at (payload name s cs) zero a =
      let here : a ≡ a + begins false 0 s = omega (arith, begins-same false 0 s (at_zero s)) in
      ap (λ k. reach_leaves (narrow bytes) s k) here ∙ sym (append-nil (reach_leaves (narrow bytes) s (a + begins false 0 s)))
  case_leaves_at (payload name s cs) (suc i) a = case_leaves_at cs i a

  pub payload_leaves : (s : Shape) (a tag : ℕ) → IsVariant s → tag ≡ tag_at (narrow bytes) a (variant_cases s)
      → reach_leaves (narrow bytes) s a ≡ members_reach_leaves (narrow bytes) (case_members (variant_cases s) tag) 0 (a + payload_offset false (variant_cases s))
  unfolding reach_leaves
  payload_leaves s a tag is read =
      let cs = variant_cases s in
      let place = a + payload_offset false cs in
      ap (λ (x : Shape). reach_leaves (narrow bytes) x a) is.1 ∙ (ap (λ (i : ℕ). case_reach_leaves (narrow bytes) cs i place) (sym read) ∙ case_leaves_at cs tag place)

-- ---- in words

module _ (m : Memory) (ws : List ℕ) (i : ℕ) where
  pub no_flat_left : (ms : Members) → ms ≡ no_members → members_flat_leaves m ws ms i ≡ []
  unfolding flat_leaves
  no_flat_left ms none = ap (λ (x : Members). members_flat_leaves m ws x i) none

  pub scalar_flat_leaves : (k : Scalar) (s : Shape) → s ≡ scalar k → flat_leaves m ws s i ≡ []
  unfolding flat_leaves
  scalar_flat_leaves k s is = ap (λ (x : Shape). flat_leaves m ws x i) is

  pub text_flat_leaves : (s : Shape) → s ≡ string → flat_leaves m ws s i ≡ []
  unfolding flat_leaves
  text_flat_leaves s is = ap (λ (x : Shape). flat_leaves m ws x i) is

  pub flags_flat_leaves : (s : Shape) (names : List Name) → s ≡ flags names → flat_leaves m ws s i ≡ []
  unfolding flat_leaves
  flags_flat_leaves s names is = ap (λ (x : Shape). flat_leaves m ws x i) is

module _ (m : Memory) (ws : List ℕ) where
  pub fixed_flat_leaves : (n i : ℕ) (s : Shape) → list_at (λ j. flat_leaves m ws s j) (flat s) i n ≡ members_flat_leaves m ws (copies n s) i
  unfolding flat_leaves
  fixed_flat_leaves zero i s = refl
  fixed_flat_leaves (suc n) i s = ap (λ (xs : List Leaf). flat_leaves m ws s i ++ xs) (fixed_flat_leaves n (i + flat s) s)

  pub list_flat_leaves : (s part : Shape) (kind : ListKind) → s ≡ list kind part → (p n i : ℕ) → p ≡ ptr m (slice_index ws i) → n ≡ ptr m (slice_index ws (i + 1))
      → list_leaves m (reach_leaves m (element_shape s)) (element_shape s) p n ≡ flat_leaves m ws s i
  unfolding flat_leaves
  list_flat_leaves s part kind is p n i pointer long =
      subst (λ (x : Shape). list_leaves m (reach_leaves m (element_shape x)) (element_shape x) p n ≡ flat_leaves m ws x i) (sym is) (ap₂ (λ (q j : ℕ). list_leaves m (reach_leaves m part) part q j) pointer long)

  case_flat_leaves_at : (cs : Cases) (i j : ℕ) → case_flat_leaves m ws cs i j ≡ members_flat_leaves m ws (case_members cs i) j
  unfolding flat_leaves
  case_flat_leaves_at no_cases i j = refl
  case_flat_leaves_at (bare name cs) zero j = refl
  case_flat_leaves_at (bare name cs) (suc i) j = case_flat_leaves_at cs i j
  case_flat_leaves_at (payload name s cs) zero j = sym (append-nil (flat_leaves m ws s j))
  case_flat_leaves_at (payload name s cs) (suc i) j = case_flat_leaves_at cs i j

  pub payload_flat_leaves : (s : Shape) (i tag : ℕ) → IsVariant s → tag ≡ low (slice_index ws i) → flat_leaves m ws s i ≡ members_flat_leaves m ws (case_members (variant_cases s) tag) (i + 1)
  unfolding flat_leaves
  payload_flat_leaves s i tag is read =
      let cs = variant_cases s in
      ap (λ (x : Shape). flat_leaves m ws x i) is.1 ∙ (ap (λ (c : ℕ). case_flat_leaves m ws cs c (i + 1)) (sym read) ∙ case_flat_leaves_at cs tag (i + 1))

  -- of results, in a row or by a pointer that is aligned and inside memory
  pub near_leaves : (most : ℕ) (ms : Members) → members_flat ms ≤ most → values_leaves m ws most ms ≡ members_flat_leaves m ws ms 0
  near_leaves most ms near = cond-true (nat_le (members_flat ms) most) _ _ (le-leb _ _ near)

  pub far_leaves : (most : ℕ) (ms : Members) → most < members_flat ms → Inside m (ptr m (slice_index ws 0)) (size m.wide (product of_places ms)) → ptr m (slice_index ws 0) % members_align m.wide ms ≡ 0
      → values_leaves m ws most ms ≡ members_reach_leaves m ms 0 (ptr m (slice_index ws 0))
  far_leaves most ms far inside aligned = cond-false (nat_le (members_flat ms) most) _ _ (lt-leb (members_flat ms) most far) ∙ cond-true _ _ _ (and_from _ _ (le-leb _ _ inside) (eq-eqb _ _ aligned))

pub far_lifted : (bytes ws : List ℕ) (most : ℕ) (ms : Members) (p : ℕ) → p ≡ low (slice_index ws 0) → most < members_flat ms → p + size false (product of_places ms) ≤ length bytes → p % members_align false ms ≡ 0
    → members_reach_leaves (narrow bytes) ms 0 p ≡ values_leaves (narrow bytes) ws most ms
far_lifted bytes ws most ms p is far inside aligned =
    let room : low (slice_index ws 0) + size false (product of_places ms) ≤ length bytes = subst (λ (q : ℕ). q + size false (product of_places ms) ≤ length bytes) is inside in
    let whole : low (slice_index ws 0) % members_align false ms ≡ 0 = subst (λ (q : ℕ). q % members_align false ms ≡ 0) is aligned in
    ap (λ (q : ℕ). members_reach_leaves (narrow bytes) ms 0 q) is ∙ sym (far_leaves (narrow bytes) ws most ms far room whole)
