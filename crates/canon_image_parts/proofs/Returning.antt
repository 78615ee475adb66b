-- What was imaged comes back: a value has each tree that differs from its own in how many bytes spell a text.
use Rattle.std.proofs.Common.{Bool, List, [], false, refl, subst, suc, sym, zero, ℕ, ◌∙◌, ◌∷◌, ◌≡◌}
use Rattle.canon_model.proofs.Images.{images_determine}
use Rattle.canon_model.specs.Same.{Carried, CarriedTrees}
use Rattle.canon_model.specs.Shape.{Cases, Members, Scalar, Shape, bare, bool, borrow, char, f32, f64, fixed, flags, list, member, no_cases, no_members, of_items, of_pairs, own, payload, product, s16, s32, s64, s8, scalar, string, u16, u32, u64, u8, variant}
use Rattle.canon_model.specs.Tree.{Tree, Trees, no_trees, tree}
use Rattle.canon_lowering.specs.Copies.{case_tree}
use Rattle.canon_value_parts.proofs.LiftedValues.{unlifted}
use Rattle.canon_value_parts.proofs.OneValue.{tree_one, value_one}
use Rattle.canon_val.specs.Value.{CaseHas, EachHas, HasScalar, HasTreeAs, HaveTreesAs, PairHas}
use Rattle.canon_val.specs.declared.val.Val.{Val}
use Rattle.canon_image_parts.specs.Laws.{ImagesComeBack}

scalar_carried : (k : Scalar) (v : Val) (t u : Tree) → HasScalar k v t → Carried t u → u ≡ t
scalar_carried bool v t u (x, e, h) c = subst (λ y. Carried y u) h c ∙ sym h
scalar_carried s8 v t u (x, e, h) c = subst (λ y. Carried y u) h c ∙ sym h
scalar_carried u8 v t u (x, e, h) c = subst (λ y. Carried y u) h c ∙ sym h
scalar_carried s16 v t u (x, e, h) c = subst (λ y. Carried y u) h c ∙ sym h
scalar_carried u16 v t u (x, e, h) c = subst (λ y. Carried y u) h c ∙ sym h
scalar_carried s32 v t u (x, e, h) c = subst (λ y. Carried y u) h c ∙ sym h
scalar_carried u32 v t u (x, e, h) c = subst (λ y. Carried y u) h c ∙ sym h
scalar_carried s64 v t u (x, e, h) c = subst (λ y. Carried y u) h c ∙ sym h
scalar_carried u64 v t u (x, e, h) c = subst (λ y. Carried y u) h c ∙ sym h
scalar_carried f32 v t u (x, e, h) c = subst (λ y. Carried y u) h c ∙ sym h
scalar_carried f64 v t u (x, e, h) c = subst (λ y. Carried y u) h c ∙ sym h
scalar_carried char v t u (x, e, h) c = subst (λ y. Carried y u) h c ∙ sym h

each_along : {A : Type 0} → (Has : A → Tree → Type 0) → ((x : A) (t u : Tree) → Has x t → Carried t u → Has x u) → (xs : List A) (ts us : Trees) → EachHas Has xs ts → CarriedTrees ts us → EachHas Has xs us
each_along Has one [] ts us h c = subst (λ ys. CarriedTrees ys us) h c
each_along Has one (x ∷ xs) ts us (t, rest, e, h, hs) c =
    let (u, more, f, d, ds) = subst (λ ys. CarriedTrees ys us) e c in
    (u, more, f, one x t u h d, each_along Has one xs rest more hs ds)

module _ (lifted : Bool) where
  mutual
    has_along : (s : Shape) (v : Val) (t u : Tree) → HasTreeAs lifted s v t → Carried t u → HasTreeAs lifted s v u
    has_along (scalar k) v t u h c = subst (λ y. HasScalar k v y) (sym (scalar_carried k v t u h c)) h
    has_along string v t u (cs, n, is, e) c = let (m, f) = subst (λ y. Carried y u) e c in (cs, m, is, f)
    has_along (own r) v t u (x, h, is, e) c = let (k, f) = subst (λ y. Carried y u) e c in (x, k, is, f)
    has_along (borrow r) v t u (x, h, is, e) c = let (k, f) = subst (λ y. Carried y u) e c in (x, k, is, f)
    has_along (list of_items s) v t u (vs, ts, is, e, h) c =
        let (us, f, d) = subst (λ y. Carried y u) e c in
        (vs, us, is, f, each_along (λ w y. HasTreeAs lifted s w y) (λ w x y g k. has_along s w x y g k) vs ts us h d)
    has_along (list of_pairs s) v t u (pair, (ps, ts, is, e, h)) c =
        let (us, f, d) = subst (λ y. Carried y u) e c in
        (pair, (ps, us, is, f, each_along (λ p y. PairHas lifted s p y) (λ p x y g k. pair_along s p x y g k) ps ts us h d))
    has_along (fixed n s) v t u (vs, ts, is, len, e, h) c =
        let (us, f, d) = subst (λ y. Carried y u) e c in
        (vs, us, is, len, f, each_along (λ w y. HasTreeAs lifted s w y) (λ w x y g k. has_along s w x y g k) vs ts us h d)
    has_along (product k ms) v t u (vs, ts, is, e, h) c =
        let (us, f, d) = subst (λ y. Carried y u) e c in
        (vs, us, is, f, members_along ms vs ts us h d)
    has_along (variant k cs) v t u (d, vs, ts, is, e, h) c =
        let (us, f, g) = case_along cs d d vs ts u h (subst (λ y. Carried y u) e c) in
        (d, vs, us, is, f, g)
    has_along (flags names) v t u (set, bs, is, all, e, marked, order) c = (set, bs, is, all, subst (λ y. Carried y u) e c, marked, order)

    members_along : (ms : Members) (vs : List Val) (ts us : Trees) → HaveTreesAs lifted ms vs ts → CarriedTrees ts us → HaveTreesAs lifted ms vs us
    members_along no_members vs ts us (none, e) c = (none, subst (λ ys. CarriedTrees ys us) e c)
    members_along (member name s ms) vs ts us (v, others, t, rest, is, e, h, hs) c =
        let (u, more, f, d, ds) = subst (λ ys. CarriedTrees ys us) e c in
        (v, others, u, more, is, f, has_along s v t u h d, members_along ms others rest more hs ds)

    pair_along : (s : Shape) (p : Val × Val) (t u : Tree) → PairHas lifted s p t → Carried t u → PairHas lifted s p u
    pair_along (product k ms) p t u (ts, e, h) c =
        let (us, f, d) = subst (λ y. Carried y u) e c in
        (us, f, members_along ms (p.0 ∷ p.1 ∷ []) ts us h d)
    pair_along (scalar k) p t u h c = absurd h
    pair_along string p t u h c = absurd h
    pair_along (own r) p t u h c = absurd h
    pair_along (borrow r) p t u h c = absurd h
    pair_along (list k s) p t u h c = absurd h
    pair_along (fixed n s) p t u h c = absurd h
    pair_along (variant k cs) p t u h c = absurd h
    pair_along (flags names) p t u h c = absurd h

    case_along : (cs : Cases) (i d : ℕ) (vs : List Val) (ts : Trees) (u : Tree) → CaseHas lifted cs i vs ts → Carried (case_tree d ts) u → (us : Trees) × (u ≡ case_tree d us) × CaseHas lifted cs i vs us
    case_along no_cases i d vs ts u h c = absurd h
    case_along (bare name cs) zero d vs ts u (none, e) c = (no_trees, subst (λ ys. Carried (case_tree d ys) u) e c, (none, refl))
    case_along (bare name cs) (suc i) d vs ts u h c = case_along cs i d vs ts u h c
    case_along (payload name s cs) zero d vs ts u (v, t, is, e, h) c =
        let (x, f, g) = subst (λ ys. Carried (case_tree d ys) u) e c in
        (tree x no_trees, f, (v, x, is, refl, has_along s v t x h g))
    case_along (payload name s cs) (suc i) d vs ts u h c = case_along cs i d vs ts u h c

pub images_come_back : ImagesComeBack
images_come_back = record {
  value = λ s v w t u bs has image other lifted. value_one s v w u (has_along false s v t u has (images_determine.trees s t u bs image other)) (unlifted s w u lifted);
  bytes = λ s w t u xs ys image lifted has other. images_determine.bytes s t u xs ys image other (tree_one s w t u (unlifted s w t lifted) has);
}
