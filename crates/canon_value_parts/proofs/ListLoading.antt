-- The elements of a list or a map, loaded as members in a row.
use Rattle.std.proofs.Common.{◌≡◌, ◌≤◌, ◌<◌, ◌+◌, ◌*◌, ◌/◌, ◌%◌, ◌∙◌, List, ap, arith, eq-eqb, false, inl, inr, le-leb, length, refl, subst, suc, suc-mul, sym, true, zero, ℕ}
use Rattle.std.proofs.lemmas.Bool.{cond-true}
use Rattle.std.proofs.Math.Nat.{zero-mod}
use Rattle.std.proofs.lemmas.Nat.Gcd.{dvd_of_mod-eq-zero}
use Rattle.std.specs.Prelude.{slice_index}
use Rattle.canon_lowering.proofs.Copying.{copies_stored}
use Rattle.canon_lowering.proofs.Pairing.{IsNext, at_start, first_at, next_pair, pair_shape, pair_size, paired_count, pairs_stored, second_at}
use Rattle.canon_lowering.specs.Copies.{copies, paired, pairs_of}
use Rattle.canon_lowering.specs.Storing.{narrow}
use Rattle.canon_model.proofs.Layouts.{alignment, members_alignment}
use Rattle.canon_model.specs.Cost.{cost, pair_cost, val_cost}
use Rattle.canon_model.specs.Layout.{align, begins, ends, flat, members_align, size}
use Rattle.canon_model.specs.Memory.{Inside, Memory, length_at, pointer_at, ptr}
use Rattle.canon_model.specs.Reach.{At, FlatFault, Kind, MemberFault, SomeElement, StoredFault, address, flat_reach, members_reach, pair_parts_reach, reach_cost, sum_at, word}
use Rattle.canon_model.specs.Shape.{ListKind, Shape, list, map_of, of_items, of_pairs}
use Rattle.canon_model.specs.Text.{Encoding}
use Rattle.canon_types.specs.Depth.{element_shape}
use Rattle.canon_types.specs.Table.{TypeTable, shape_of}
use Rattle.canon_types.specs.declared.types.InterfaceType.TheVariants as ty
use Rattle.canon_plan.specs.Element.{IsKnown, ItemsFault, element_cost, element_reach, first_of, items_reach, list_shape, row_of, second_of}
use Rattle.canon_value_parts.specs.Lifts.{ArePartsLifted}
use Rattle.canon_context.specs.Told.{Exactly, IsPlace, LiftBlames, ToldAt, place_of}
use Rattle.canon_value_parts.specs.Loads.{AreCharged, charged_reach}
use Rattle.canon_value_parts.specs.Plan.{ArePartsLoaded, IsListLoaded}
use Rattle.canon_val.specs.Value.{AreLiftedFrom}
use Rattle.canon_plan.specs.declared.element.Element.{Element}
use Rattle.canon_plan.specs.declared.element.Element.TheVariants as element
use Rattle.canon_context.specs.declared.fault.At.{At as Place}
use Rattle.canon_context.specs.declared.fault.Fault.{Fault}
use Rattle.canon_val.specs.declared.val.Val.{Val}
use Rattle.canon_context.proofs.Told.{blamed_by, core_list_told}
use Rattle.canon_value_parts.proofs.Loading.{aligned_part}
use Rattle.canon_value_parts.proofs.LoadingParts.{copies_cost, copies_nameless, row_aligned, row_blame, row_low}
use Rattle.canon_plan.proofs.Pairs.{count_pairs}
use Rattle.canon_value_parts.proofs.PairRows.{pairs_cost, pairs_nameless}
use Rattle.canon_value_parts.proofs.Values.{have_count}
use Rattle.canon_value_parts.proofs.Walks.{copies_have}

-- ---- pairs

module _ (enc : Encoding) (bytes : List ℕ) (s u : Shape) where
  abbrev pair : Shape
  pair = pair_shape s u

  abbrev step : ℕ
  step = pair_size false s u

  pairs_reach : (n o base a b : ℕ) → IsNext false s u o base → a + base ≡ b → members_reach enc (narrow bytes) (pairs_of n s u) o a ≡ sum_at (λ c. pair_parts_reach enc (narrow bytes) pair c) step b n
  unfolding reach_cost
  pairs_reach zero o base a b h is = refl
  pairs_reach (suc n) o base a b h is =
      let first = ap (λ c. reach_cost enc (narrow bytes) s c) (first_at false s u o base h a b is) in
      let second = ap (λ c. reach_cost enc (narrow bytes) u c) (second_at false s u o base h a b is) in
      omega (arith, first, second, pairs_reach n (ends false (ends false o s) u) (base + step) a (b + step) (next_pair false s u o base h) (omega (arith, is)))

  pairs_blame : (n o base a b : ℕ) (k : Kind) (x : At) → IsNext false s u o base → a + base ≡ b → MemberFault enc (narrow bytes) (pairs_of n s u) o a k x
      → SomeElement (λ c j y. StoredFault enc (narrow bytes) pair c j y) step b n k x
  pairs_blame zero o base a b k x h is f = absurd f
  pairs_blame (suc n) o base a b k x h is (inl f) =
      let here : a + begins false o s ≡ b + 0 * step + begins false 0 s = omega (arith, first_at false s u o base h a b is) in
      (0, omega arith, inl (subst (λ c. StoredFault enc (narrow bytes) s c k x) here f))
  pairs_blame (suc n) o base a b k x h is (inr (inl f)) =
      let here : a + begins false (ends false o s) u ≡ b + 0 * step + begins false (ends false 0 s) u = omega (arith, second_at false s u o base h a b is) in
      (0, omega arith, inr (inl (subst (λ c. StoredFault enc (narrow bytes) u c k x) here f)))
  pairs_blame (suc n) o base a b k x h is (inr (inr f)) =
      let (i, lt, g) = pairs_blame n (ends false (ends false o s) u) (base + step) a (b + step) k x (next_pair false s u o base h) (omega (arith, is)) f in
      let there : b + step + i * step ≡ b + suc i * step = omega (arith, suc-mul i step) in
      (suc i, omega (arith, lt), subst (λ c. StoredFault enc (narrow bytes) pair c k x) there g)

pairs_align : (n : ℕ) (s u : Shape) → members_align false (pairs_of n s u) ≤ align false (pair_shape s u)
unfolding align
pairs_align zero s u = omega arith
pairs_align (suc n) s u = omega (arith, pairs_align n s u)

-- ---- a row, by the shape of the list

-- Of n elements at p, their members: their faults and their charges are those of the list.
pub record WeighsRow (enc : Encoding) (bytes : List ℕ) (s : Shape) (n p : ℕ) : Type 0 where
  pub kind : ListKind
  pub part : Shape
  pub is : s ≡ list kind part
  pub low : charged_reach enc (narrow bytes) (row_of s n) 0 p ≡ sum_at (λ b. element_reach enc (narrow bytes) s b) (size false (element_shape s)) p n
  pub blames : (k : Kind) (x : At) → MemberFault enc (narrow bytes) (row_of s n) 0 p k x → SomeElement (λ b j y. StoredFault enc (narrow bytes) (element_shape s) b j y) (size false (element_shape s)) p n k x
  pub aligned : p % align false (element_shape s) ≡ 0 → p % members_align false (row_of s n) ≡ 0
  pub loaded : p % align false (element_shape s) ≡ 0 → p + n * size false (element_shape s) ≤ length bytes → (before mid after : ℕ) (vs : List Val) → before ≡ mid + n * element_cost s
      → AreCharged enc (narrow bytes) (row_of s n) 0 p mid after vs → IsListLoaded enc (narrow bytes) s p n before after vs

module _ (enc : Encoding) (bytes : List ℕ) where
  items_weigh : (s : Shape) (n p : ℕ) → WeighsRow enc bytes (list of_items s) n p
  unfolding cost
  items_weigh s n p = record {
    kind = of_items;
    part = s;
    is = refl;
    low = row_low enc bytes n p s;
    blames = row_blame enc bytes n p s;
    aligned = row_aligned enc bytes n p s;
    loaded = λ aligned inside before mid after vs charged (ts, stored, have, spent).
        let (each, count) = copies_stored (Inside (narrow bytes)) false enc (narrow bytes) n 0 s p p ts (dvd_of_mod-eq-zero (align false s) (zero-mod _)) (omega arith) stored in
        let same : length vs ≡ n = (copies_have true n s vs ts have).0 in (
          ts,
          record { trees = ts; is = refl; count = count; aligned = aligned; inside = inside; each = each },
          subst (λ j. AreLiftedFrom (copies j s) vs ts) (sym same) have,
          omega (arith, charged, spent, copies_nameless n s, copies_cost n s ts count, ap (λ j. j * val_cost) count),
        );
  }

  map_weighs : (s u : Shape) (n p : ℕ) → WeighsRow enc bytes (map_of s u) n p
  unfolding cost
  map_weighs s u n p = record {
    kind = of_pairs;
    part = pair_shape s u;
    is = refl;
    low = omega (arith, pairs_nameless n s u, pairs_reach enc bytes s u n 0 0 p p (at_start false s u) (omega arith));
    blames = λ k x f. pairs_blame enc bytes s u n 0 0 p p k x (at_start false s u) (omega arith) f;
    aligned = λ e. aligned_part p (members_align false (pairs_of n s u)) (align false (pair_shape s u)) (members_alignment false (pairs_of n s u)) (alignment false (pair_shape s u)) (pairs_align n s u) e;
    loaded = λ aligned inside before mid after vs charged (ts, stored, have, spent).
        let (each, count) = pairs_stored (Inside (narrow bytes)) false enc (narrow bytes) s u n 0 0 p p ts (at_start false s u) (omega arith) (λ c l q. omega (arith, q, inside)) stored in
        let same : length vs / 2 ≡ n = omega (arith, have_count true (pairs_of n s u) vs ts have, count_pairs n s u) in (
          ts,
          record { trees = paired ts; is = refl; count = paired_count n ts count; aligned = aligned; inside = inside; each = each },
          subst (λ j. AreLiftedFrom (pairs_of j s u) vs ts) (sym same) have,
          omega (arith, charged, spent, pairs_nameless n s u, pairs_cost n s u ts count, ap (λ j. j * pair_cost) (paired_count n ts count)),
        );
  }

  pub row_weighs : (t : TypeTable) (e : Element) → IsKnown t e → (n p : ℕ) → WeighsRow enc bytes (list_shape t e) n p
  row_weighs t (element.Item type) known n p = items_weigh (shape_of t type) n p
  row_weighs t (element.Pair i) (known, is) n p =
      let s = element_shape (shape_of t (ty.Map i)) in
      subst (λ (x : Shape). WeighsRow enc bytes x n p) (sym is) (map_weighs (first_of s) (second_of s) n p)

  -- the members' faults and charges, as the list's
  pub row_refused : (s : Shape) (n p before mid : ℕ) (at : At) (e : Fault) → WeighsRow enc bytes s n p → p % align false (element_shape s) ≡ 0 → p + n * size false (element_shape s) ≤ length bytes → before ≡ mid + n * element_cost s
      → LiftBlames (Exactly (MemberFault enc (narrow bytes) (row_of s n) 0 p)) (mid < charged_reach enc (narrow bytes) (row_of s n) 0 p) e
      → LiftBlames (Exactly (ItemsFault enc (narrow bytes) s at p n)) (before < items_reach enc (narrow bytes) s p n) e
  row_refused s n p before mid at e w aligned inside charged h =
      let all : ℕ = sum_at (λ b. element_reach enc (narrow bytes) s b) (size false (element_shape s)) p n in
      let reached : items_reach enc (narrow bytes) s p n ≡ n * element_cost s + all =
      cond-true _ _ _ (le-leb _ _ inside) ∙ ap (λ k. n * element_cost s + k) (cond-true _ all 0 (eq-eqb (p % align false (element_shape s)) 0 aligned)) in
      blamed_by (Exactly (MemberFault enc (narrow bytes) (row_of s n) 0 p)) (Exactly (ItemsFault enc (narrow bytes) s at p n)) (mid < charged_reach enc (narrow bytes) (row_of s n) 0 p) (before < items_reach enc (narrow bytes) s p n)
      (λ k x f. inr ((aligned, inside), w.blames k (place_of x) f)) (λ (low : mid < charged_reach enc (narrow bytes) (row_of s n) 0 p). omega (arith, low, w.low, charged, reached)) e h

-- ---- the list that has them

-- its pointer and its length are inside
pub list_inside : (bytes : List ℕ) (s : Shape) (k : ListKind) (a : ℕ) → a + 8 ≤ length bytes → Inside (narrow bytes) a (size false (list k s))
unfolding size
list_inside bytes s k a h = h

module _ (enc : Encoding) (m : Memory) where
  stored_reach : (k : ListKind) (s : Shape) (a : ℕ) → reach_cost enc m (list k s) a ≡ items_reach enc m (list k s) (pointer_at m a) (length_at m a)
  unfolding reach_cost
  stored_reach of_items s a = refl
  stored_reach of_pairs s a = refl

  flat_reached : (ws : List ℕ) (k : ListKind) (s : Shape) (i : ℕ) → flat_reach enc m ws (list k s) i ≡ items_reach enc m (list k s) (ptr m (slice_index ws i)) (ptr m (slice_index ws (i + 1)))
  unfolding flat_reach
  flat_reached ws of_items s i = refl
  flat_reached ws of_pairs s i = refl

  -- the same list by other words for its pointer and its length
  list_told_so : (s : Shape) (p q n j before after : ℕ) (vs : List Val) → p ≡ q → n ≡ j → IsListLoaded enc m s p n before after vs → IsListLoaded enc m s q j before after vs
  list_told_so s p q n j before after vs ep en h = subst (λ b. IsListLoaded enc m s b j before after vs) ep (subst (λ b. IsListLoaded enc m s p b before after vs) en h)

  module _ (s part : Shape) (kind : ListKind) (is : s ≡ list kind part) (p n before : ℕ) where
    module _ (a : ℕ) (pointer : p ≡ pointer_at m a) (long : n ≡ length_at m a) where
      pub list_parts : (after : ℕ) (vs : List Val) → Inside m a (size m.wide (list kind part)) → IsListLoaded enc m s p n before after vs → ArePartsLoaded enc m s a before after vs
      unfolding size
      list_parts after vs inside loaded =
          let h = list_told_so s p (pointer_at m a) n (length_at m a) before after vs pointer long loaded in
          subst (λ (x : Shape). ArePartsLoaded enc m x a before after vs) (sym is) (
          let (ts, there, have, spent) = subst (λ (x : Shape). IsListLoaded enc m x (pointer_at m a) (length_at m a) before after vs) is h in
          (ts, (inside, there), have, spent)
          )

      pub list_refused : (e : Fault) → LiftBlames (Exactly (ItemsFault enc m s (address a) p n)) (before < items_reach enc m s p n) e → LiftBlames (Exactly (StoredFault enc m s a)) (before < reach_cost enc m s a) e
      list_refused e h =
          subst (λ (x : Shape). LiftBlames (Exactly (StoredFault enc m x a)) (before < reach_cost enc m x a) e) (sym is)
          (subst (λ (low : ℕ). LiftBlames (Exactly (StoredFault enc m (list kind part) a)) (before < low) e) (sym (stored_reach kind part a))
          (subst (λ q. LiftBlames (Exactly (ItemsFault enc m (list kind part) (address a) q (length_at m a))) (before < items_reach enc m (list kind part) q (length_at m a)) e) pointer
          (subst (λ j. LiftBlames (Exactly (ItemsFault enc m (list kind part) (address a) p j)) (before < items_reach enc m (list kind part) p j) e) long
          (subst (λ (x : Shape). LiftBlames (Exactly (ItemsFault enc m x (address a) p n)) (before < items_reach enc m x p n) e) is h))))

    module _ (ws : List ℕ) (i : ℕ) (pointer : p ≡ ptr m (slice_index ws i)) (count : n ≡ ptr m (slice_index ws (i + 1))) where
      pub list_lifted : (after : ℕ) (vs : List Val) → IsListLoaded enc m s p n before after vs → ArePartsLifted enc m ws i (i + 2) before after s vs
      unfolding flat
      list_lifted after vs loaded =
          let h = list_told_so s p (ptr m (slice_index ws i)) n (ptr m (slice_index ws (i + 1))) before after vs pointer count loaded in
          subst (λ (x : Shape). ArePartsLifted enc m ws i (i + 2) before after x vs) (sym is) (
          let (ts, there, have, spent) = subst (λ (x : Shape). IsListLoaded enc m x (ptr m (slice_index ws i)) (ptr m (slice_index ws (i + 1))) before after vs) is h in
          (ts, (there, λ strict. cc), have, spent, refl)
          )

      pub list_unlifted : (at : Place) (e : Fault) → IsPlace at (word i) → LiftBlames (Exactly (ItemsFault enc m s (place_of at) p n)) (before < items_reach enc m s p n) e
          → LiftBlames (ToldAt (FlatFault enc m ws s i)) (before < flat_reach enc m ws s i) e
      list_unlifted at e here h =
          let k : Shape = list kind part in
          let mine : LiftBlames (Exactly (ItemsFault enc m k (place_of at) p n)) (before < items_reach enc m k p n) e =
          subst (λ (x : Shape). LiftBlames (Exactly (ItemsFault enc m x (place_of at) p n)) (before < items_reach enc m x p n) e) is h in
          let told : LiftBlames (ToldAt (ItemsFault enc m k (word i) p n)) (before < items_reach enc m k p n) e = blamed_by _ _ _ _ (core_list_told at (word i) here enc m (StoredFault enc m part) part p n) (λ low. low) e mine in
          subst (λ (x : Shape). LiftBlames (ToldAt (FlatFault enc m ws x i)) (before < flat_reach enc m ws x i) e) (sym is)
          (subst (λ (low : ℕ). LiftBlames (ToldAt (FlatFault enc m ws k i)) (before < low) e) (sym (flat_reached ws kind part i))
          (subst (λ q. LiftBlames (ToldAt (ItemsFault enc m k (word i) q (ptr m (slice_index ws (i + 1))))) (before < items_reach enc m k q (ptr m (slice_index ws (i + 1)))) e) pointer
          (subst (λ j. LiftBlames (ToldAt (ItemsFault enc m k (word i) p j)) (before < items_reach enc m k p j) e) count told)))
