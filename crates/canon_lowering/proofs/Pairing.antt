-- A row of n pairs of two shapes is 2n members, a first and a second one by turns: they lie, ask and stand as n products of
-- two, and have their handles.
use Rattle.std.proofs.Common.{Bool, List, [], ap, ap₂, append-nil, arith, min, refl, subst, suc, suc-mul, sym, zero, ℕ, ⊎_elim, ◌++◌, ◌*◌, ◌+◌, ◌/◌, ◌%◌, ◌<◌, ◌∙◌, ◌∷◌, ◌≡◌, ◌≤◌}
use Rattle.std.proofs.Math.Nat.{add-mul, add-mul-div_right, add-mul-mod_self_right, div-mul_cancel, dvd-add, zero-mod}
use Rattle.std.proofs.lemmas.Bool.{cases_lt}
use Rattle.std.proofs.lemmas.List.{append_assoc}
use Rattle.std.proofs.lemmas.Nat.Gcd.{dvd_of_mod-eq-zero, dvd_trans}
use Rattle.std.specs.Int.{◌∣◌}
use Rattle.canon_model.proofs.Layouts.{align-dvd-align, align_pos, align_to-dvd, alignment, align_to-le, multiple}
use Rattle.canon_model.specs.Homes.{EachHome, Homes, MembersHome, Texts}
use Rattle.canon_model.specs.Layout.{align, align_to, begins, ends, members_end, size}
use Rattle.canon_model.specs.Leaves.{leaves, members_leaves}
use Rattle.canon_model.specs.Memory.{Memory}
use Rattle.canon_model.specs.Rep.{MembersStored, Stored}
use Rattle.canon_model.specs.Requests.{members_requests, requests}
use Rattle.canon_model.specs.Shape.{Shape, tuple}
use Rattle.canon_model.specs.Text.{Encoding}
use Rattle.canon_model.specs.Tree.{EachAt, Trees, list_of_each, no_trees, tree, tree_count}
use Rattle.canon_lowering.specs.Copies.{paired, pairs_of}
use Rattle.canon_lowering.proofs.Copying.{align_to-same, begins-same}

-- past a multiple
pub align_to-past : (base n a : ℕ) → 0 < a → a ∣ base → align_to (base + n) a ≡ base + align_to n a
align_to-past base n a pos h =
    let whole : base / a * a ≡ base = div-mul_cancel a h in
    let same : base + n ≡ n + base / a * a = omega (arith, whole) in
    let moved : align_to (n + base / a * a) a ≡ (n / a + base / a + min 1 (n % a)) * a =
    ap₂ (λ x r. (x + min 1 r) * a) (add-mul-div_right n (base / a) pos) (add-mul-mod_self_right n (base / a) a) in
    ap (λ k. align_to k a) same ∙ (moved ∙ omega (arith, whole, add-mul (n / a + base / a) (min 1 (n % a)) a, add-mul (n / a) (base / a) a, add-mul (n / a) (min 1 (n % a)) a))

-- ---- a pair

abbrev pub pair_shape : Shape → Shape → Shape
pair_shape s u = tuple (s ∷ u ∷ [])

module _ (wide : Bool) (s u : Shape) where
  abbrev pub pair_size : ℕ
  pair_size = size wide (pair_shape s u)

  abbrev pub pair_align : ℕ
  pair_align = align wide (pair_shape s u)

  -- where the second one ends
  abbrev pair_end : ℕ
  pair_end = ends wide (ends wide 0 s) u

  first_divides : align wide s ∣ pair_align
  unfolding align
  first_divides = align-dvd-align _ _ (alignment wide s) (alignment wide (pair_shape s u)) (omega arith)

  second_divides : align wide u ∣ pair_align
  unfolding align
  second_divides = align-dvd-align _ _ (alignment wide u) (alignment wide (pair_shape s u)) (omega arith)

  pair_size-is : pair_size ≡ align_to pair_end pair_align
  unfolding size align
  pair_size-is = refl

  first_begins : begins wide 0 s ≡ 0
  first_begins = begins-same wide 0 s (dvd_of_mod-eq-zero (align wide s) (zero-mod _))

  end_divides : align wide u ∣ pair_end
  end_divides = dvd-add (align wide u) (align_to-dvd _ (align wide u)) (multiple wide u)

  -- the pair's size is where the next first one would begin
  next_begins : align_to pair_end (align wide s) ≡ pair_size
  unfolding align
  next_begins = ⊎_elim
      (λ lt. let all : pair_align ≡ align wide u = omega (arith, lt, align_pos wide u) in
      let divides : align wide s ∣ align wide u = align-dvd-align _ _ (alignment wide s) (alignment wide u) (omega arith) in
      align_to-same pair_end (align wide s) (dvd_trans (align wide s) divides end_divides) ∙ sym (pair_size-is ∙ (ap (λ a. align_to pair_end a) all ∙ align_to-same pair_end (align wide u) end_divides)))
      (λ le. sym (pair_size-is ∙ ap (λ a. align_to pair_end a) (omega (arith, le, align_pos wide s))))
      (cases_lt (align wide s) (align wide u))

  -- where one more member ends at o, the next first one begins at this multiple of the pair's alignment
  pub record IsNext (o base : ℕ) : Type 0 where
    pub first : begins wide o s ≡ base
    pub whole : pair_align ∣ base

  pub at_start : IsNext 0 0
  at_start = record { first = first_begins; whole = dvd_of_mod-eq-zero pair_align (zero-mod _) }

  module _ (o base : ℕ) (h : IsNext o base) where
    pub second_begins : begins wide (ends wide o s) u ≡ base + begins wide (ends wide 0 s) u
    second_begins =
        let start : ends wide 0 s ≡ size wide s = omega (arith, first_begins) in
        ap (λ k. align_to (k + size wide s) (align wide u)) h.first
        ∙ (align_to-past base (size wide s) (align wide u) (align_pos wide u) (dvd_trans (align wide u) second_divides h.whole) ∙ ap (λ k. base + align_to k (align wide u)) (sym start))

    pair_ends : ends wide (ends wide o s) u ≡ base + pair_end
    pair_ends = omega (arith, second_begins)

    pub next_pair : IsNext (ends wide (ends wide o s) u) (base + pair_size)
    next_pair = record {
      first = ap (λ k. align_to k (align wide s)) pair_ends ∙ (align_to-past base pair_end (align wide s) (align_pos wide s) (dvd_trans (align wide s) first_divides h.whole) ∙ ap (λ k. base + k) next_begins);
      whole = dvd-add pair_align h.whole (multiple wide (pair_shape s u));
    }

    pub first_at : (at b : ℕ) → at + base ≡ b → at + begins wide o s ≡ b + begins wide 0 s
    first_at at b is = omega (arith, is, h.first, first_begins)

    pub second_at : (at b : ℕ) → at + base ≡ b → at + begins wide (ends wide o s) u ≡ b + begins wide (ends wide 0 s) u
    second_at at b is = omega (arith, is, second_begins)

  pub pairs_end : (n o base : ℕ) → IsNext o base → members_end wide o (pairs_of n s u) ≤ base + n * pair_size
  unfolding size
  pairs_end zero o base h = omega (arith, align_to-le o (align wide s) (align_pos wide s), h.first)
  pairs_end (suc n) o base h = omega (arith, pairs_end n (ends wide (ends wide o s) u) (base + pair_size) (next_pair o base h), suc-mul n pair_size)

-- ---- n pairs

pub paired_count : (n : ℕ) (ts : Trees) → tree_count ts ≡ n + n → tree_count (paired ts) ≡ n
paired_count zero no_trees e = refl
paired_count zero (tree t ts) e = absurd (omega (arith, e))
paired_count (suc n) no_trees e = absurd (omega (arith, e))
paired_count (suc n) (tree t no_trees) e = absurd (omega (arith, e))
paired_count (suc n) (tree t (tree w ts)) e = ap suc (paired_count n ts (omega (arith, e)))

pub pairs_leaves : (s u : Shape) (n : ℕ) (ts : Trees) → tree_count ts ≡ n + n → list_of_each (λ t. leaves (pair_shape s u) t) (paired ts) ≡ members_leaves (pairs_of n s u) ts
unfolding leaves
pairs_leaves s u zero no_trees e = refl
pairs_leaves s u zero (tree t ts) e = absurd (omega (arith, e))
pairs_leaves s u (suc n) no_trees e = absurd (omega (arith, e))
pairs_leaves s u (suc n) (tree t no_trees) e = absurd (omega (arith, e))
pairs_leaves s u (suc n) (tree t (tree w ts)) e =
    let first = leaves s t in
    let second = leaves u w in
    let more = list_of_each (λ v. leaves (pair_shape s u) v) (paired ts) in
    append_assoc first (second ++ []) more ∙ (ap (λ ls. first ++ (ls ++ more)) (append-nil second) ∙ ap (λ ls. first ++ (second ++ ls)) (pairs_leaves s u n ts (omega (arith, e))))

module _ (wide : Bool) (texts : Texts) (s u : Shape) where
  pub pairs_ask : (n : ℕ) (ts : Trees) → tree_count ts ≡ n + n → list_of_each (λ t. requests wide texts.asks (pair_shape s u) t) (paired ts) ≡ members_requests wide texts.asks (pairs_of n s u) ts
  unfolding requests
  pairs_ask zero no_trees e = refl
  pairs_ask zero (tree t ts) e = absurd (omega (arith, e))
  pairs_ask (suc n) no_trees e = absurd (omega (arith, e))
  pairs_ask (suc n) (tree t no_trees) e = absurd (omega (arith, e))
  pairs_ask (suc n) (tree t (tree w ts)) e =
      let first = requests wide texts.asks s t in
      let second = requests wide texts.asks u w in
      let more = list_of_each (λ v. requests wide texts.asks (pair_shape s u) v) (paired ts) in
      append_assoc first (second ++ []) more ∙ (ap (λ rs. first ++ (rs ++ more)) (append-nil second) ∙ ap (λ rs. first ++ (second ++ rs)) (pairs_ask n ts (omega (arith, e))))

  pub pairs_home : (pointer : ℕ → ℕ → Type 0) (n o base at b : ℕ) (ts : Trees) (xs ys : List ℕ) → IsNext wide s u o base → at + base ≡ b → tree_count ts ≡ n + n
      → MembersHome pointer texts wide (pairs_of n s u) o at ts xs ys → EachHome (λ c t zs vs. Homes pointer texts wide (pair_shape s u) c t zs vs) (pair_size wide s u) b (paired ts) xs ys
  pairs_home pointer zero o base at b no_trees xs ys h is e g = g
  pairs_home pointer zero o base at b (tree t ts) xs ys h is e g = absurd (omega (arith, e))
  pairs_home pointer (suc n) o base at b no_trees xs ys h is e g = absurd (omega (arith, e))
  pairs_home pointer (suc n) o base at b (tree t no_trees) xs ys h is e g = absurd (omega (arith, e))
  pairs_home pointer (suc n) o base at b (tree t (tree w ts)) xs ys h is e (zs, g, (vs, k, more)) = (
    vs,
    (zs, subst (λ c. Homes pointer texts wide s c t xs zs) (first_at wide s u o base h at b is) g, (vs, subst (λ c. Homes pointer texts wide u c w zs vs) (second_at wide s u o base h at b is) k, refl)),
    pairs_home pointer n (ends wide (ends wide o s) u) (base + pair_size wide s u) at (b + pair_size wide s u) ts vs ys (next_pair wide s u o base h) (omega (arith, is)) (omega (arith, e)) more,
  )

module _ (readable : ℕ → ℕ → Type 0) (strict : Bool) (enc : Encoding) (m : Memory) (s u : Shape) where
  -- what is readable as a whole is so for each pair
  pub pairs_stored : (n o base at b : ℕ) (ts : Trees) → IsNext m.wide s u o base → at + base ≡ b → ((c : ℕ) → b ≤ c → c + pair_size m.wide s u ≤ b + n * pair_size m.wide s u → readable c (pair_size m.wide s u))
      → MembersStored readable strict enc m (pairs_of n s u) o at ts → EachAt (Stored readable strict enc m (pair_shape s u)) (pair_size m.wide s u) b (paired ts) × (tree_count ts ≡ n + n)
  pairs_stored zero o base at b ts h is r e = subst (λ us. EachAt (Stored readable strict enc m (pair_shape s u)) (pair_size m.wide s u) b (paired us) × (tree_count us ≡ 0)) (sym e) (tt, refl)
  pairs_stored (suc n) o base at b ts h is r (t, rest, e, g, (w, others, f, k, gs)) =
      let z : ℕ = pair_size m.wide s u in
      let more = pairs_stored n (ends m.wide (ends m.wide o s) u) (base + z) at (b + z) others (next_pair m.wide s u o base h) (omega (arith, is)) (λ c l q. r c (omega (arith, l)) (omega (arith, q, suc-mul n z))) gs in
      subst (λ us. EachAt (Stored readable strict enc m (pair_shape s u)) z b (paired us) × (tree_count us ≡ suc n + suc n)) (sym (e ∙ ap (tree t) f)) (
        (
          (
            r b (omega arith) (omega (arith, suc-mul n z)),
            (
              tree t (tree w no_trees),
              refl,
              (
                t,
                tree w no_trees,
                refl,
                subst (λ c. Stored readable strict enc m s c t) (first_at m.wide s u o base h at b is) g,
                (w, no_trees, refl, subst (λ c. Stored readable strict enc m u c w) (second_at m.wide s u o base h at b is) k, refl),
              ),
            ),
          ),
          more.0,
        ),
        omega (arith, more.1),
      )
