-- The keys and values of a map by turns, as members: their trees, their faults, and each by its number.
use Rattle.std.proofs.Common.{◌≡◌, ◌++◌, ◌≤◌, ◌<◌, ◌+◌, ◌/◌, ◌%◌, ◌∙◌, ◌&&◌, List, Vec, [], ◌∷◌, ap, arith, drop, get_or, inl, inr, length, map, refl, rules, subst, suc, sym, true, zero, ℕ, Bool, false}
use Rattle.std.specs.declared.alloc.Global.{Global}
use Rattle.canon_lowering.proofs.Pairing.{pair_shape}
use Rattle.canon_lowering.specs.Copies.{paired, pairs_of, unpaired}
use Rattle.canon_model.specs.Cost.{cost, members_cost, names_length, pair_parts_cost}
use Rattle.canon_model.specs.Shape.{Name, Shape, map_of}
use Rattle.canon_model.specs.Tree.{Trees, no_trees, parts, sum_of, tree, tree_count}
use Rattle.canon_types.specs.Depth.{deepest, depth}
use Rattle.canon_plan.specs.NoHandle.{HaveNoHandle, HasNoHandle, has_no_handle}
use Rattle.canon_value_parts.specs.Elements.{by_turns}
use Rattle.canon_value_parts.specs.Fails.{Failure, MemberFails, PairFails, SomeFails}
use Rattle.canon_val.specs.Value.{EachHas, HasTree, HaveTrees, PairHas, all_places, member_names, no_names, pair_places, places, total, HasTreeAs, HaveTreesAs}
use Rattle.canon_val.specs.declared.val.Val.{Val, the_lemmas}
use Rattle.canon_val.specs.declared.val.Val.TheShapes.{former-Val-Map-0-at-2}
use Rattle.canon_val.specs.declared.val.Val.TheVariants as val
use Rattle.canon_plan.proofs.Lookups.{both}
use Rattle.canon_plan.proofs.Pairs.{twice, even-is, odd-is, half_below}

-- ---- numbers

pub count_turns : (ps : List (Val × Val)) → length (by_turns ps) ≡ length ps + length ps
count_turns [] = refl
count_turns (p ∷ ps) = omega (arith, count_turns ps)

pub turns_push : (ps : List (Val × Val)) (p : Val × Val) → by_turns (ps ++ p ∷ []) ≡ by_turns ps ++ p.0 ∷ p.1 ∷ []
turns_push [] p = refl
turns_push (q ∷ ps) p = ap (λ vs. q.0 ∷ q.1 ∷ vs) (turns_push ps p)

-- ---- one of them by its number

first_turn : (ps : List (Val × Val)) (j : ℕ) (d x : Val × Val) → x ≡ get_or ps j d → j < length ps → drop (twice j) (by_turns ps) ≡ x.0 ∷ drop (suc (twice j)) (by_turns ps)
unfolding twice
first_turn [] j d x e h = absurd (omega (arith, h))
first_turn (p ∷ ps) zero d x e h = ap (λ (y : Val × Val). y.0 ∷ p.1 ∷ by_turns ps) (sym e)
first_turn (p ∷ ps) (suc j) d x e h = first_turn ps j d x e (omega (arith, h))

second_turn : (ps : List (Val × Val)) (j : ℕ) (d x : Val × Val) → x ≡ get_or ps j d → j < length ps → drop (suc (twice j)) (by_turns ps) ≡ x.1 ∷ drop (suc (suc (twice j))) (by_turns ps)
unfolding twice
second_turn [] j d x e h = absurd (omega (arith, h))
second_turn (p ∷ ps) zero d x e h = ap (λ (y : Val × Val). y.1 ∷ by_turns ps) (sym e)
second_turn (p ∷ ps) (suc j) d x e h = second_turn ps j d x e (omega (arith, h))

pub key_at : (ps : List (Val × Val)) (k : ℕ) (d x : Val × Val) → k % 2 ≡ 0 → x ≡ get_or ps (k / 2) d → k < length (by_turns ps) → drop k (by_turns ps) ≡ x.0 ∷ drop (k + 1) (by_turns ps)
key_at ps k d x even e h =
    let lt : k / 2 < length ps = half_below k (length ps) (omega (arith, h, count_turns ps)) in
    let after : suc (twice (k / 2)) ≡ k + 1 = omega (arith, even-is k even) in
    ap (λ i. drop i (by_turns ps)) (even-is k even) ∙ (first_turn ps (k / 2) d x e lt ∙ ap (λ i. x.0 ∷ drop i (by_turns ps)) after)

pub pair_value_at : (ps : List (Val × Val)) (k : ℕ) (d x : Val × Val) → ¬ (k % 2 ≡ 0) → x ≡ get_or ps (k / 2) d → k < length (by_turns ps) → drop k (by_turns ps) ≡ x.1 ∷ drop (k + 1) (by_turns ps)
pair_value_at ps k d x odd e h =
    let lt : k / 2 < length ps = half_below k (length ps) (omega (arith, h, count_turns ps)) in
    let after : suc (suc (twice (k / 2))) ≡ k + 1 = omega (arith, odd-is k odd) in
    ap (λ i. drop i (by_turns ps)) (odd-is k odd) ∙ (second_turn ps (k / 2) d x e lt ∙ ap (λ i. x.1 ∷ drop i (by_turns ps)) after)

-- ---- by a look-up of the map

-- ---- their trees and their faults

pub pairs_have : (lifted : Bool) (s u : Shape) (ps : List (Val × Val)) (ts : Trees) → HaveTreesAs lifted (pairs_of (length ps) s u) (by_turns ps) ts
    → EachHas (λ p t. PairHas lifted (pair_shape s u) p t) ps (paired ts) × (tree_count ts ≡ length ps + length ps)
pairs_have lifted s u [] ts (ev, et) = (ap paired et, ap tree_count et)
pairs_have lifted s u (p ∷ ps) ts (v, others, t, rest, ev, et, has, (w, last, x, more, ew, ex, has2, have)) =
    let first : v ≡ p.0 = cc in
    let then : others ≡ p.1 ∷ by_turns ps = cc in
    let second : w ≡ p.1 = cc in
    let tail : last ≡ by_turns ps = cc in
    let (each, count) = pairs_have lifted s u ps more (subst (λ vs. HaveTreesAs lifted (pairs_of (length ps) s u) vs more) tail have) in
    let is : ts ≡ tree t (tree x more) = et ∙ ap (λ us. tree t us) ex in (
      subst (λ us. EachHas (λ q y. PairHas lifted (pair_shape s u) q y) (p ∷ ps) (paired us)) (sym is) (
        _,
        paired more,
        refl,
        (tree t (tree x no_trees), refl, (p.0, p.1 ∷ [], t, tree x no_trees, refl, refl, subst (λ y. HasTreeAs lifted s y t) first has, (p.1, [], x, no_trees, refl, refl, subst (λ y. HasTreeAs lifted u y x) second has2, (refl, refl)))),
        each,
      ),
      ap tree_count is ∙ omega (arith, count),
    )

pub have_pairs : (s u : Shape) (ps : List (Val × Val)) (ts : Trees) → EachHas (λ p t. PairHas false (pair_shape s u) p t) ps ts → HaveTrees (pairs_of (length ps) s u) (by_turns ps) (unpaired ts) × (ts ≡ paired (unpaired ts))
have_pairs s u [] ts e = ((refl, ap unpaired e), e ∙ sym (ap (λ us. paired (unpaired us)) e))
have_pairs s u (p ∷ ps) ts (t, rest, et, (us, eu, (v, others, a, ra, ev, ea, has, (w, last, b, rb, ew, eb, has2, (el, er)))), each) =
    let first : v ≡ p.0 = cc in
    let then : others ≡ p.1 ∷ [] = cc in
    let second : w ≡ p.1 = cc in
    let is : t ≡ parts (tree a (tree b no_trees)) = eu ∙ ap parts (ea ∙ ap (λ xs. tree a xs) (eb ∙ ap (λ xs. tree b xs) er)) in
    let more = have_pairs s u ps rest each in
    subst (λ xs. HaveTrees (pairs_of (suc (length ps)) s u) (by_turns (p ∷ ps)) (unpaired xs) × (xs ≡ paired (unpaired xs))) (sym (et ∙ ap (λ x. tree x rest) is)) (
      (p.0, p.1 ∷ by_turns ps, a, tree b (unpaired rest), refl, refl, subst (λ y. HasTree s y a) first has, (p.1, by_turns ps, b, unpaired rest, refl, refl, subst (λ y. HasTree u y b) second has2, more.0)),
      ap (λ xs. tree (parts (tree a (tree b no_trees))) xs) more.1,
    )

pub pairs_fail : (how : Failure) (s u : Shape) (ps : List (Val × Val)) (k : ℕ) → MemberFails how (pairs_of (length ps) s u) (by_turns ps) k → SomeFails pair_places (λ p i. PairFails how (pair_shape s u) p i) ps k
pairs_fail how s u [] k f = absurd f
pairs_fail how s u (p ∷ ps) k (inl f) = inl (inl f)
pairs_fail how s u (p ∷ ps) k (inr (j, e, inl f)) = inl (inr (j, e, inl f))
pairs_fail how s u (p ∷ ps) k (inr (j, e, inr (i, e2, f))) = inr (i, omega (arith, e, e2), pairs_fail how s u ps i f)

pub pairs_failed : (how : Failure) (s u : Shape) (ps : List (Val × Val)) (k : ℕ) → SomeFails pair_places (λ p i. PairFails how (pair_shape s u) p i) ps k → MemberFails how (pairs_of (length ps) s u) (by_turns ps) k
pairs_failed how s u [] k f = absurd f
pairs_failed how s u (p ∷ ps) k (inl (inl f)) = inl f
pairs_failed how s u (p ∷ ps) k (inl (inr (j, e, inl f))) = inr (j, e, inl f)
pairs_failed how s u (p ∷ ps) k (inl (inr (j, e, inr (i, e2, f)))) = absurd f
pairs_failed how s u (p ∷ ps) k (inr (j, e, f)) = inr (places p.1 + j, omega (arith, e), inr (j, refl, pairs_failed how s u ps j f))

-- ---- what they are as a row

pub pairs_named : (s u : Shape) (ps : List (Val × Val)) → no_names (by_turns ps) ≡ member_names (pairs_of (length ps) s u)
pairs_named s u [] = refl
pairs_named s u (p ∷ ps) = ap (λ (ns : List Name). [] ∷ [] ∷ ns) (pairs_named s u ps)

pub pairs_no_handle : (n : ℕ) (s u : Shape) → HasNoHandle (map_of s u) → HaveNoHandle (pairs_of n s u)
pairs_no_handle zero s u h = refl
pairs_no_handle (suc n) s u h =
    let parts = both (has_no_handle s) (has_no_handle u && true) h in
    rw parts.0 (rw (both (has_no_handle u) true parts.1).0 (pairs_no_handle n s u h))

pub pairs_deepest : (n : ℕ) (s u : Shape) → deepest (pairs_of n s u) + 1 ≤ depth (map_of s u)
pairs_deepest zero s u = omega arith
pairs_deepest (suc n) s u = omega (arith, pairs_deepest n s u)

pub pairs_nameless : (n : ℕ) (s u : Shape) → names_length (pairs_of n s u) ≡ 0
pairs_nameless zero s u = refl
pairs_nameless (suc n) s u = omega (arith, pairs_nameless n s u)

pub pairs_cost : (n : ℕ) (s u : Shape) (ts : Trees) → tree_count ts ≡ n + n → members_cost (pairs_of n s u) ts ≡ sum_of (λ t. pair_parts_cost (pair_shape s u) t) (paired ts)
unfolding cost
pairs_cost zero s u no_trees e = refl
pairs_cost zero s u (tree t ts) e = absurd (omega (arith, e))
pairs_cost (suc n) s u no_trees e = absurd (omega (arith, e))
pairs_cost (suc n) s u (tree t no_trees) e = absurd (omega (arith, e))
pairs_cost (suc n) s u (tree t (tree w ts)) e = omega (arith, pairs_cost n s u ts (omega (arith, e)))

-- ---- places

turns_places : (ps : List (Val × Val)) → total (map (λ p. p.0 + p.1) (map (former-Val-Map-0-at-2.map Val ℕ places) ps)) ≡ all_places (by_turns ps)
turns_places [] = refl
turns_places (p ∷ ps) = omega (arith, turns_places ps)

pub places_map : (ps : Vec (Val × Val) Global) → places (val.Map ps) ≡ 1 + all_places (by_turns ps.items)
places_map ps = search (rules, the_lemmas, turns_places ps.items)
