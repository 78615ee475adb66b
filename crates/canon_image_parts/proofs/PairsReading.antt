-- A map, read pair by pair.
use Rattle.std.proofs.Common.{Err, List, Ok, Vec, [], append-nil, append_assoc, ap, arith, drop, inl, inr, length, refl, subst, suc, sym, true, ℕ, ◌+◌, ◌++◌, ◌-◌, ◌<◌, ◌^◌, ◌∙◌, ◌∷◌, ◌≡◌, ◌≤◌}
use Rattle.std.specs.Bool.{⊤}
use Rattle.std.specs.declared.alloc.Global.{Global}
use Rattle.canon_model.specs.Image.{EachImage, Image, le_bytes}
use Rattle.canon_model.specs.Shape.{Shape}
use Rattle.canon_model.specs.Tree.{Tree, Trees, items, no_trees, parts, tree, tree_count}
use Rattle.canon_types.specs.Depth.{element_shape}
use Rattle.canon_plan.specs.Element.{IsMap, first_of, second_of}
use Rattle.canon_val.specs.Value.{EachHas, PairHas}
use Rattle.canon_val.specs.declared.val.Val.{Val}
use Rattle.canon_val.specs.declared.val.Val.TheVariants as val
use Rattle.canon_value_parts.proofs.Contents.{each_count}
use Rattle.canon_value_parts.proofs.ResourcesOf.{pair_resources}
use Rattle.canon_value_parts.specs.Elements.{by_turns}
use Rattle.canon_value_parts.specs.Resources.{all_resources, resources}
use Rattle.canon_image_parts.proofs.Numbering.{numbered_many, stand_both}
use Rattle.canon_image_parts.proofs.Reading.{first_span, first_stops, spans_join, spans_none, stops_as, stops_later}
use Rattle.canon_image_parts.proofs.PairsWriting.{pair_of}
use Rattle.canon_image_parts.specs.Numbered.{StandFor, all_handles, handles_in, numbered_shape, numbered_tree, numbered_trees}
use Rattle.canon_image_parts.specs.Read.{NumberReadTo, ReadsTo, Spans, StopsFrom}
use Rattle.canon_image_parts.specs.Stops.{RowStops, StopsAt}
use Rattle.canon_image_parts.specs.declared.error.ImageError.{ImageError}

abbrev pub PairsRead : List ℕ → ℕ → ℕ → Shape → ℕ → List (Val × Val) → Type 0
PairsRead bs from to s n ps = (ts : Trees) × (xs : List ℕ) × Spans bs from to xs × EachImage (λ t ys. Image (numbered_shape s) t ys) (numbered_trees ts) xs × EachHas (λ p t. PairHas true s p t) ps ts
    × (length ps ≡ n) × StandFor (all_handles ts) (all_resources (by_turns ps))

abbrev pub PairsStop : List ℕ → ℕ → Shape → ℕ → ImageError → Type 0
PairsStop bs from s n e = StopsFrom (RowStops (λ t ys. Image (numbered_shape s) t ys) (λ ys i h. StopsAt (numbered_shape s) ys i h) n (drop from bs)) from e

-- a pair and those after it
pair_stands : (key value : Val) (ws : List (Val × Val)) (t u : Tree) (ts : Trees) → StandFor (handles_in t) (resources key) → StandFor (handles_in u) (resources value) → StandFor (all_handles ts) (all_resources (by_turns ws))
    → StandFor (all_handles (tree (parts (tree t (tree u no_trees))) ts)) (all_resources (by_turns ((key, value) ∷ ws)))
pair_stands key value ws t u ts h g more =
    let same : all_handles (tree (parts (tree t (tree u no_trees))) ts) ≡ handles_in t ++ (handles_in u ++ all_handles ts) =
    ap (λ ns. (handles_in t ++ ns) ++ all_handles ts) (append-nil (handles_in u)) ∙ append_assoc (handles_in t) (handles_in u) (all_handles ts) in
    subst (λ ns. StandFor ns (all_resources (by_turns ((key, value) ∷ ws)))) (sym same)
    (stand_both (handles_in t) (handles_in u ++ all_handles ts) (resources key) (resources value ++ all_resources (by_turns ws)) h (stand_both (handles_in u) (all_handles ts) (resources value) (all_resources (by_turns ws)) g more))

-- What is left to read after i of n pairs completes what is done.
pub record PairsAreRead (bs : List ℕ) (from : ℕ) (s : Shape) (n : ℕ) (at : ℕ) (ps : List (Val × Val)) (i : ℕ) : Type 0 where
  pub inside : at ≤ length bs
  pub many : i ≤ n
  pub rest : (z : ℕ) (qs : List (Val × Val)) → PairsRead bs at z s (n - i) qs → PairsRead bs from z s n (ps ++ qs)
  pub stops : (e : ImageError) → PairsStop bs at s (n - i) e → PairsStop bs from s n e

pub pairs_begin : (bs : List ℕ) (from : ℕ) (s : Shape) (n : ℕ) → from ≤ length bs → PairsAreRead bs from s n from [] 0
pairs_begin bs from s n h = record {
  inside = h;
  many = omega arith;
  rest = λ z qs g. subst (λ k. PairsRead bs from z s k qs) (let same : n - 0 ≡ n = omega arith in same) g;
  stops = λ e g. subst (λ k. PairsStop bs from s k e) (let same : n - 0 ≡ n = omega arith in same) g;
}

module _ (bs : List ℕ) (from : ℕ) (s k u : Shape) (is : s ≡ pair_of k u) (n : ℕ) (at : ℕ) (ps : List (Val × Val)) (i : ℕ) (h : PairsAreRead bs from s n at ps i) where
  module _ (more : i < n) where
    left : n - i ≡ suc (n - (i + 1))
    left = omega (arith, more)

    first_stop : (e : ImageError) → StopsFrom (StopsAt (numbered_shape (pair_of k u)) (drop at bs)) at e → PairsStop bs from s n e
    first_stop e g = h.stops e (subst (λ j. PairsStop bs at s j e) (sym left) (subst (λ (x : Shape). PairsStop bs at x (suc (n - (i + 1))) e) (sym is)
        (stops_as (StopsAt (numbered_shape (pair_of k u)) (drop at bs))
        (RowStops (λ t ys. Image (numbered_shape (pair_of k u)) t ys) (λ ys q w. StopsAt (numbered_shape (pair_of k u)) ys q w) (suc (n - (i + 1))) (drop at bs)) at e (λ j how f. inl f) g)))

    pub key_stop : (to : ℕ) (e : ImageError) → ReadsTo bs at to k (Err e) → PairsStop bs from s n e
    key_stop to e g = first_stop e (stops_as (StopsAt (numbered_shape k) (drop at bs)) (StopsAt (numbered_shape (pair_of k u)) (drop at bs)) at e (λ j how f. inl f) g)

    pub value_stop : (mid to : ℕ) (key : Val) (e : ImageError) → ReadsTo bs at mid k (Ok key) → ReadsTo bs mid to u (Err e) → PairsStop bs from s n e
    value_stop mid to key e (t, xs, span, image, lifted, number) g =
        first_stop e (stops_later (StopsAt (numbered_shape u) (drop mid bs)) (StopsAt (numbered_shape (pair_of k u)) (drop at bs)) (length xs) at mid e span.to_is
        (λ j how f. inr (numbered_tree t, xs, drop mid bs, j, span.is, image, refl, inl f)) g)

    pub pair_read : (mid to : ℕ) (key value : Val) (qs : List (Val × Val)) → ReadsTo bs at mid k (Ok key) → ReadsTo bs mid to u (Ok value) → qs ≡ ps ++ (key, value) ∷ [] → PairsAreRead bs from s n to qs (i + 1)
    pair_read mid to key value qs (t, xs, span, image, lifted, number) (t2, ys, span2, image2, lifted2, number2) eq =
        let whole : Tree = parts (tree t (tree t2 no_trees)) in
        let both = spans_join bs at mid to xs ys span span2 in
        let pair_image : Image (numbered_shape (pair_of k u)) (numbered_tree whole) (xs ++ ys) = (
          tree (numbered_tree t) (tree (numbered_tree t2) no_trees),
          refl,
          (numbered_tree t, tree (numbered_tree t2) no_trees, xs, ys, refl, refl, image, (numbered_tree t2, no_trees, ys, [], refl, sym (append-nil ys), image2, (refl, refl))),
        ) in
        let pair_has : PairHas true (pair_of k u) (key, value) whole = (tree t (tree t2 no_trees), refl, (key, value ∷ [], t, tree t2 no_trees, refl, refl, lifted, (value, [], t2, no_trees, refl, refl, lifted2, (refl, refl)))) in
        record {
          inside = span2.inside;
          many = omega (arith, more);
          rest = λ z ws (ts, zs, more_span, images, each, count, numbers).
              subst (λ l. PairsRead bs from z s n l) (sym (append_assoc ps ((key, value) ∷ []) ws) ∙ ap (λ l. l ++ ws) (sym eq))
              (h.rest z ((key, value) ∷ ws) (
                tree whole ts,
                (xs ++ ys) ++ zs,
                spans_join bs at to z (xs ++ ys) zs both more_span,
                (xs ++ ys, zs, refl, subst (λ (x : Shape). Image (numbered_shape x) (numbered_tree whole) (xs ++ ys)) (sym is) pair_image, images),
                (whole, ts, refl, subst (λ (x : Shape). PairHas true x (key, value) whole) (sym is) pair_has, each),
                omega (arith, count, left),
                pair_stands key value ws t t2 ts number number2 numbers,
              ));
          stops = λ e g. h.stops e (subst (λ j. PairsStop bs at s j e) (sym left)
              (stops_later (RowStops (λ v l. Image (numbered_shape s) v l) (λ l q w. StopsAt (numbered_shape s) l q w) (n - (i + 1)) (drop to bs))
              (RowStops (λ v l. Image (numbered_shape s) v l) (λ l q w. StopsAt (numbered_shape s) l q w) (suc (n - (i + 1))) (drop at bs)) (length (xs ++ ys)) at to e both.to_is
              (λ j how f. inr (numbered_tree whole, xs ++ ys, drop to bs, j, both.is, subst (λ (x : Shape). Image (numbered_shape x) (numbered_tree whole) (xs ++ ys)) (sym is) pair_image, refl, f)) g));
        }

  pub pairs_done : i ≡ n → PairsRead bs from at s n ps
  pairs_done e = subst (λ l. PairsRead bs from at s n l) (append-nil ps) (h.rest at [] (no_trees, [], spans_none bs at h.inside, refl, refl, omega (arith, e), refl))

-- ---- a map after its count

pub map_read : (bs : List ℕ) (from mid to n : ℕ) (s : Shape) (xs : Vec (Val × Val) Global) → IsMap s → NumberReadTo bs from mid 8 (Ok n) → PairsRead bs mid to (element_shape s) n xs.items → ReadsTo bs from to s (Ok (val.Map xs))
map_read bs from mid to n s xs is (field, em, inside) h =
    let k = first_of (element_shape s) in
    let u = second_of (element_shape s) in
    let (ts, ys, span, images, each, count, numbers) = subst (λ (x : Shape). PairsRead bs mid to x n xs.items) (ap element_shape is) h in
    let many : tree_count (numbered_trees ts) ≡ n = numbered_many ts ∙ (each_count (λ p t. PairHas true (pair_of k u) p t) xs.items ts each ∙ count) in
    subst (λ (x : Shape). ReadsTo bs from to x (Ok (val.Map xs))) (sym is) (
      items ts,
      le_bytes 8 n ++ ys,
      first_span bs from mid 8 n field em to ys span,
      (numbered_trees ts, ys, refl, record { fits = subst (λ i. i < 256 ^ 8) (sym many) field.fits; is = ap (λ i. le_bytes 8 i ++ ys) (sym many) }, images),
      (refl, (xs.items, ts, (xs, refl, refl), refl, each)),
      pair_resources xs.items (val.Map xs) (xs, refl, refl) ∙ numbers,
    )

pub map_stops : (bs : List ℕ) (from mid to n : ℕ) (s : Shape) (e : ImageError) → IsMap s → NumberReadTo bs from mid 8 (Ok n) → PairsStop bs mid (element_shape s) n e → ReadsTo bs from to s (Err e)
map_stops bs from mid to n s e is (field, em, inside) h =
    let k = first_of (element_shape s) in
    let u = second_of (element_shape s) in
    let pair : Shape = numbered_shape (pair_of k u) in
    subst (λ (x : Shape). StopsFrom (StopsAt (numbered_shape x) (drop from bs)) from e) (sym is)
    (first_stops bs from mid 8 n field em (λ i. ⊤) (λ i l j w. RowStops (λ t ys. Image pair t ys) (λ ys q g. StopsAt pair ys q g) i l j w) e
    (subst (λ (x : Shape). PairsStop bs mid x n e) (ap element_shape is) h))
