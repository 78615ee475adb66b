-- Steps of writing the image of a map, over plain lists.
use Rattle.std.proofs.Common.{Err, List, Ok, Result, Vec, [], append-nil, append_assoc, ap, ap₂, arith, drop, drop-cons, false, get_or, inl, inr, length, map, refl, subst, suc, sym, ℕ, ◌+◌, ◌++◌, ◌<◌, ◌^◌, ◌∙◌, ◌∷◌, ◌≡◌}
use Rattle.std.specs.declared.alloc.Global.{Global}
use Rattle.canon_model.specs.Image.{IsField, le_bytes}
use Rattle.canon_model.specs.Shape.{Members, Shape, map_of, member, no_members, of_places, product}
use Rattle.canon_model.specs.Text.{utf8}
use Rattle.canon_model.specs.Tree.{items, no_trees, parts, tree, tree_count}
use Rattle.canon_types.specs.Depth.{element_shape}
use Rattle.canon_value_parts.specs.Elements.{by_turns}
use Rattle.canon_value_parts.specs.Fails.{FailsAt, MemberFails, PairFails, SomeFails}
use Rattle.canon_val.specs.Value.{PairHas, all_places, pair_places, total}
use Rattle.canon_model.specs.Memory.{cap}
use Rattle.canon_plan.specs.Element.{IsMap, first_of, second_of}
use Rattle.canon_context.specs.declared.fault.Fault.{Fault}
use Rattle.canon_val.specs.declared.val.Val.{Val}
use Rattle.canon_val.specs.declared.val.Val.TheVariants as val
use Rattle.canon_value_parts.proofs.Contents.{each_count}
use Rattle.canon_plan.proofs.Lookups.{drop_all}
use Rattle.canon_value_parts.proofs.PairRows.{places_map}
use Rattle.canon_value_parts.proofs.Steps.{blames_first, blames_later}
use Rattle.canon_image_parts.proofs.Counting.{image_count_members}
use Rattle.canon_value_parts.proofs.ResourcesOf.{pair_resources}
use Rattle.canon_value_parts.specs.Resources.{all_resources, resources}
use Rattle.canon_image_parts.proofs.Numbering.{numbered_many}
use Rattle.canon_image_parts.proofs.Writing.{Puts, adds_both, adds_nothing, adds_of, image_parts_cons, image_parts_none, image_parts_stop, puts_first}
use Rattle.canon_image_parts.specs.Numbered.{all_handles, handles_in, numbered_trees}
use Rattle.canon_image_parts.specs.Written.{AddsImage, CountsPlaces, PairsWriteTo, PartsWriteTo, Sink, WritesTo}

-- ---- the pairs of a map

abbrev pub pair_members : Shape → Shape → Members
pair_members k u = member [] k (member [] u no_members)

abbrev pub pair_of : Shape → Shape → Shape
pair_of k u = product of_places (pair_members k u)

pairs_none : (a : Sink) (s : Shape) (from : ℕ) → from < 2 ^ 64 → PairsWriteTo a a s [] from (Ok from)
pairs_none a s from few = record { written = (no_trees, [], adds_nothing a, refl, refl); counted = omega (arith, few); told = tt }

pairs_counted : (k u : Shape) (p : Val × Val) (ps : List (Val × Val)) (from mid : ℕ) (r : Result ℕ Fault) → mid ≡ cap (from + pair_places p)
    → CountsPlaces (λ how j. SomeFails pair_places (λ q i. PairFails how (pair_of k u) q i) ps j) mid (total (map pair_places ps)) r
    → CountsPlaces (λ how j. SomeFails pair_places (λ q i. PairFails how (pair_of k u) q i) (p ∷ ps) j) from (total (map pair_places (p ∷ ps))) r
pairs_counted k u p ps from mid (Ok to) em e = omega (arith, em, e)
pairs_counted k u p ps from mid (Err e) em b =
    blames_later utf8 (λ how j. SomeFails pair_places (λ q i. PairFails how (pair_of k u) q i) ps j) (λ how j. SomeFails pair_places (λ q i. PairFails how (pair_of k u) q i) (p ∷ ps) j) (pair_places p) from mid e em
    (λ how j f. inr (j, refl, f)) b

-- a key and its value
one_pair : (a b c : Sink) (k u : Shape) (p : Val × Val) (from mid : ℕ) (r : Result ℕ Fault) → WritesTo a b k p.0 from (Ok mid) → WritesTo b c u p.1 mid r → PartsWriteTo a c 0 (pair_members k u) ([] ∷ [] ∷ []) (p.0 ∷ p.1 ∷ []) from r
one_pair a b c k u p from mid (Ok to) h g =
    image_parts_cons a b c 0 [] [] k (member [] u no_members) ([] ∷ []) p.0 (p.1 ∷ []) from mid (Ok to) refl h
    (image_parts_cons b c c 0 [] [] u no_members [] p.1 [] mid to (Ok to) refl g (image_parts_none c 0 to (omega (arith, g.counted))))
one_pair a b c k u p from mid (Err e) h g =
    image_parts_cons a b c 0 [] [] k (member [] u no_members) ([] ∷ []) p.0 (p.1 ∷ []) from mid (Err e) refl h (image_parts_stop b c 0 [] [] u no_members [] p.1 [] mid e g)

pair_count : (k u : Shape) (p : Val × Val) (from : ℕ) (a c : Sink) (r : Result ℕ Fault) → PartsWriteTo a c 0 (pair_members k u) ([] ∷ [] ∷ []) (p.0 ∷ p.1 ∷ []) from r
    → CountsPlaces (λ how j. MemberFails how (pair_members k u) (p.0 ∷ p.1 ∷ []) j) from (all_places (p.0 ∷ p.1 ∷ [])) r
pair_count k u p from a c r h = image_count_members 0 (pair_members k u) ([] ∷ [] ∷ []) (p.0 ∷ p.1 ∷ []) from r refl h.counted

pairs_stop : (a c : Sink) (k u : Shape) (p : Val × Val) (ps : List (Val × Val)) (from : ℕ) (e : Fault) → PartsWriteTo a c 0 (pair_members k u) ([] ∷ [] ∷ []) (p.0 ∷ p.1 ∷ []) from (Err e)
    → PairsWriteTo a c (pair_of k u) (p ∷ ps) from (Err e)
pairs_stop a c k u p ps from e h = record {
  written = tt;
  counted = blames_first utf8 (λ how j. MemberFails how (pair_members k u) (p.0 ∷ p.1 ∷ []) j) (λ how j. SomeFails pair_places (λ q i. PairFails how (pair_of k u) q i) (p ∷ ps) j) from e
      (λ how j f. inl f) (pair_count k u p from a c (Err e) h);
  told = h.told;
}

-- a key and its value, and what the pairs after it have
adds_of_pair : (a c : Sink) (bs : List ℕ) (p : Val × Val) (ps : List (Val × Val)) (ns : List ℕ) → AddsImage a c bs (all_resources (p.0 ∷ p.1 ∷ []) ++ all_resources (by_turns ps)) ns → AddsImage a c bs (all_resources (by_turns (p ∷ ps))) ns
adds_of_pair a c bs p ps ns h =
    subst (λ xs. AddsImage a c bs xs ns)
    (ap (λ xs. (resources p.0 ++ xs) ++ all_resources (by_turns ps)) (append-nil (resources p.1)) ∙ append_assoc (resources p.0) (resources p.1) (all_resources (by_turns ps))) h

pairs_cons : (a b c : Sink) (k u : Shape) (p : Val × Val) (ps : List (Val × Val)) (from mid : ℕ) (r : Result ℕ Fault) → PartsWriteTo a b 0 (pair_members k u) ([] ∷ [] ∷ []) (p.0 ∷ p.1 ∷ []) from (Ok mid)
    → PairsWriteTo b c (pair_of k u) ps mid r → PairsWriteTo a c (pair_of k u) (p ∷ ps) from r
pairs_cons a b c k u p ps from mid (Err e) h g = record {
  written = tt;
  counted = pairs_counted k u p ps from mid (Err e) (omega (arith, pair_count k u p from a b (Ok mid) h)) g.counted;
  told = g.told;
}
pairs_cons a b c k u p ps from mid (Ok to) h g =
    let (ts, xs, eb, have, are) = h.written in
    let (us, ys, ec, each, images) = g.written in
    record {
      written = (
        tree (parts ts) us,
        xs ++ ys,
        adds_of_pair a c (xs ++ ys) p ps (all_handles (tree (parts ts) us)) (adds_both a b c xs ys (all_resources (p.0 ∷ p.1 ∷ [])) (all_resources (by_turns ps)) (all_handles ts) (all_handles us) eb ec),
        (parts ts, us, refl, (ts, refl, have), each),
        (xs, ys, refl, (numbered_trees ts, refl, are), images),
      );
      counted = pairs_counted k u p ps from mid (Ok to) (omega (arith, pair_count k u p from a b (Ok mid) h)) g.counted;
      told = tt;
    }

-- What is left to write after i pairs completes what is done.
pub record PairsAreWritten (a : Sink) (s : Shape) (pairs : List (Val × Val)) (from : ℕ) (now : Sink) (next i : ℕ) : Type 0 where
  pub few : next < 2 ^ 64
  pub rest : (z : Sink) (r : Result ℕ Fault) → PairsWriteTo now z s (drop i pairs) next r → PairsWriteTo a z s pairs from r

pub pairs_begin : (a : Sink) (s : Shape) (pairs : List (Val × Val)) (from : ℕ) → from < 2 ^ 64 → PairsAreWritten a s pairs from a from 0
pairs_begin a s pairs from few = record { few = few; rest = λ z r h. h }

module _ (a : Sink) (s k u : Shape) (is : s ≡ pair_of k u) (pairs : List (Val × Val)) (from : ℕ) (now : Sink) (next i : ℕ) (h : PairsAreWritten a s pairs from now next i) where
  module _ (p : Val × Val) (here : drop i pairs ≡ p ∷ drop (i + 1) pairs) where
    rest_told : (z : Sink) (r : Result ℕ Fault) → PairsWriteTo now z (pair_of k u) (p ∷ drop (i + 1) pairs) next r → PairsWriteTo a z s pairs from r
    rest_told z r g = h.rest z r (subst (λ (x : Shape). PairsWriteTo now z x (drop i pairs) next r) (sym is) (subst (λ (ps : List (Val × Val)). PairsWriteTo now z (pair_of k u) ps next r) (sym here) g))

    pub key_stops : (z : Sink) (e : Fault) → WritesTo now z k p.0 next (Err e) → PairsWriteTo a z s pairs from (Err e)
    key_stops z e g = rest_told z (Err e) (pairs_stop now z k u p (drop (i + 1) pairs) next e (image_parts_stop now z 0 [] [] k (member [] u no_members) ([] ∷ []) p.0 (p.1 ∷ []) next e g))

    pub value_stops : (m z : Sink) (mid : ℕ) (e : Fault) → WritesTo now m k p.0 next (Ok mid) → WritesTo m z u p.1 mid (Err e) → PairsWriteTo a z s pairs from (Err e)
    value_stops m z mid e f g = rest_told z (Err e) (pairs_stop now z k u p (drop (i + 1) pairs) next e (one_pair now m z k u p next mid (Err e) f g))

    pub pair_goes_on : (m z : Sink) (mid to : ℕ) → to < 2 ^ 64 → WritesTo now m k p.0 next (Ok mid) → WritesTo m z u p.1 mid (Ok to) → PairsAreWritten a s pairs from z to (i + 1)
    pair_goes_on m z mid to few f g = record {
      few = few;
      rest = λ y r more. rest_told y r (pairs_cons now z y k u p (drop (i + 1) pairs) next to r (one_pair now m z k u p next mid (Ok to) f g) (subst (λ (x : Shape). PairsWriteTo z y x (drop (i + 1) pairs) to r) is more));
    }

  pub image_pairs_end : i ≡ length pairs → PairsWriteTo a now s pairs from (Ok next)
  image_pairs_end e = h.rest now (Ok next) (subst (λ (ps : List (Val × Val)). PairsWriteTo now now s ps next (Ok next)) (sym (drop_all pairs i e)) (pairs_none now s next h.few))

-- ---- a map from its pairs

turns_total : (ps : List (Val × Val)) → all_places (by_turns ps) ≡ total (map pair_places ps)
turns_total [] = refl
turns_total (p ∷ ps) = omega (arith, turns_total ps)

pub map_written : (a b c : Sink) (place n : ℕ) (s k u : Shape) (xs : Vec (Val × Val) Global) (r : Result ℕ Fault) → s ≡ map_of k u → n ≡ length xs.items → n < 2 ^ 64 → Puts a b (le_bytes 8 n)
    → PairsWriteTo b c (pair_of k u) xs.items (cap (place + 1)) r → WritesTo a c s (val.Map xs) place r
map_written a b c place n s k u xs (Err e) is en few eb h = subst (λ (x : Shape). WritesTo a c x (val.Map xs) place (Err e)) (sym is) (record {
  written = tt;
  counted = blames_later utf8 (λ how j. SomeFails pair_places (λ p i. PairFails how (pair_of k u) p i) xs.items j) (λ how j. FailsAt how (map_of k u) (val.Map xs) j) 1 place (cap (place + 1)) e refl
      (λ how j f. inr (xs.items, j, (xs, refl, refl), refl, f)) h.counted;
  told = h.told;
})
map_written a b c place n s k u xs (Ok to) is en few eb h =
    let (ts, bs, ec, each, images) = h.written in
    let many : tree_count (numbered_trees ts) ≡ length xs.items = numbered_many ts ∙ each_count (λ p t. PairHas false (pair_of k u) p t) xs.items ts each in
    let adds = adds_of a c (le_bytes 8 n ++ bs) (val.Map xs) (all_resources (by_turns xs.items)) (all_handles ts) (handles_in (items ts)) (pair_resources xs.items (val.Map xs) (xs, refl, refl)) refl
    (puts_first a b c (le_bytes 8 n) bs (all_resources (by_turns xs.items)) (all_handles ts) eb ec) in
    let field : IsField 8 (tree_count (numbered_trees ts)) (le_bytes 8 n ++ bs) bs = record { fits = omega (arith, few, en, many); is = ap (λ i. le_bytes 8 i ++ bs) (en ∙ sym many) } in
    subst (λ (x : Shape). WritesTo a c x (val.Map xs) place (Ok to)) (sym is) (record {
      written = (items ts, le_bytes 8 n ++ bs, adds, (refl, (xs.items, ts, (xs, refl, refl), refl, each)), (numbered_trees ts, bs, refl, field, images));
      counted = omega (arith, h.counted, places_map xs, turns_total xs.items);
      told = tt;
    })

pub map_told : (a b c : Sink) (place n first : ℕ) (s : Shape) (xs : Vec (Val × Val) Global) (r : Result ℕ Fault) → IsMap s → n ≡ length xs.items → n < 2 ^ 64 → Puts a b (le_bytes 8 n) → first ≡ cap (place + 1)
    → PairsWriteTo b c (element_shape s) xs.items first r → WritesTo a c s (val.Map xs) place r
map_told a b c place n first s xs r is en few eb ef h =
    map_written a b c place n s (first_of (element_shape s)) (second_of (element_shape s)) xs r is en few eb
    (subst (λ (x : Shape). PairsWriteTo b c x xs.items (cap (place + 1)) r) (ap element_shape is) (subst (λ (f : ℕ). PairsWriteTo b c (element_shape s) xs.items f r) ef h))

pub pair_here : (ps qs : List (Val × Val)) (i : ℕ) (p : Val × Val) → qs ≡ ps → i < length qs → p ≡ get_or qs i p → drop i ps ≡ p ∷ drop (i + 1) ps
pair_here ps qs i p e l is = subst (λ (xs : List (Val × Val)). drop i xs ≡ p ∷ drop (i + 1) xs) e
    (drop-cons qs i p l ∙ ap₂ (λ x xs. x ∷ xs) (sym is) (ap (λ (n : ℕ). drop n qs) (let same : suc i ≡ i + 1 = omega arith in same)))
