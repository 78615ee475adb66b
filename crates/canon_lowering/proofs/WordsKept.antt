-- Homes by words, at either width: of the same words elsewhere, and in another memory.
use Rattle.std.proofs.Common.{Bool, List, [], ap, arith, false, length, refl, subst, subst₂, suc, suc-mul, sym, true, zero, ℕ, ◌*◌, ◌+◌, ◌-◌, ◌<◌, ◌^◌, ◌∙◌, ◌∷◌, ◌≡◌, ◌≤◌}
use Rattle.std.specs.Prelude.{IsFalse, slice_index}
use Rattle.std.proofs.Math.Nat.{mod-eq_of_lt}
use Rattle.canon_model.proofs.Along.{below_same, low_number_same, some_words}
use Rattle.canon_model.specs.Carrying.{AllRespelled, Respelled}
use Rattle.canon_model.specs.Fits.{AllTrees, CaseFits, Fits, MembersFit}
use Rattle.canon_model.specs.Flat.{AreBelow, CaseFlat, Flat, MembersFlat, RepFlatIn, SameWords}
use Rattle.canon_model.specs.Homes.{CaseFlatHome, EachHome, FlatHomes, Homes, IsHandleWord, IsScalarWord, IsTextHome, MembersFlatHome, PointsTo, Texts}
use Rattle.canon_model.specs.Layout.{cases_flat, flag_words, flat, members_flat, size}
use Rattle.canon_model.specs.Memory.{Block, InsideBlocks, Memory, memory_of, ptr}
use Rattle.canon_model.specs.Rep.{Stored, bits_of}
use Rattle.canon_model.specs.Shape.{Cases, Members, Shape, bare, borrow, fixed, flags, list, member, no_cases, no_members, own, payload, product, scalar, string, variant}
use Rattle.canon_model.specs.Text.{Encoding}
use Rattle.canon_model.specs.Tree.{EachAt, Tree, Trees, bits, case_number, no_trees, payload_of, tree, tree_count, trees_of}
use Rattle.canon_lowering.proofs.Kept.{each_home_along, each_home_respelled, first_tree, homes_respelled, other_trees, respelled_number, respelled_payload, respelled_trees}
use Rattle.canon_lowering.proofs.Attempts.{AttemptKeeps}
use Rattle.canon_lowering.proofs.AimedAt.{points_same, value_homes_kept}

-- two words of 32 bits
pub pair_below : (p n : ℕ) → p < 2 ^ 32 → n < 2 ^ 32 → AreBelow (2 ^ 32) (p ∷ n ∷ []) 0 2
pair_below p n h g zero l u = h
pair_below p n h g (suc zero) l u = g
pair_below p n h g (suc (suc j)) l u = absurd (omega arith)

-- ---- the same words elsewhere

each_home_moved : (ws vs : List ℕ) (P : Tree → Type 0) (H K : ℕ → Tree → List ℕ → List ℕ → Type 0) (k : ℕ)
    → ((i j : ℕ) (u : Tree) (xs ys : List ℕ) → P u → SameWords ws i vs j k → H i u xs ys → K j u xs ys)
    → (i j : ℕ) (ts : Trees) (xs ys : List ℕ) → AllTrees P ts → SameWords ws i vs j (tree_count ts * k) → EachHome H k i ts xs ys → EachHome K k j ts xs ys
each_home_moved ws vs P H K k one i j no_trees xs ys f e h = h
each_home_moved ws vs P H K k one i j (tree t ts) xs ys f e (zs, h, hs) =
    let more = suc-mul (tree_count ts) k in (
      zs,
      one i j t xs zs f.0 (some_words ws vs i j (suc (tree_count ts) * k) i j k e (omega arith) (omega (arith, more)) (omega arith)) h,
      each_home_moved ws vs P H K k one (i + k) (j + k) ts zs ys f.1 (some_words ws vs i j (suc (tree_count ts) * k) (i + k) (j + k) (tree_count ts * k) e (omega arith) (omega (arith, more)) (omega arith)) hs,
    )

module _ (wide : Bool) (pointer : ℕ → ℕ → Type 0) (texts : Texts) (ws vs : List ℕ) where
  mutual
    unfolding flat

    pub flat_homes_moved : (s : Shape) (i j : ℕ) (t : Tree) (xs ys : List ℕ) → Fits s t → SameWords ws i vs j (flat s) → FlatHomes pointer texts wide ws s i t xs ys → FlatHomes pointer texts wide vs s j t xs ys
    flat_homes_moved (scalar k) i j t xs ys f e (w, h) = (subst (λ n. IsScalarWord k n t) (e i j (omega arith) (omega arith) (omega arith)) w, h)
    flat_homes_moved string i j t xs ys f e (n, h) = (
      subst (λ k. texts.Long k t) (e (i + 1) (j + 1) (omega arith) (omega arith) (omega arith)) n,
      subst (λ p. IsTextHome texts.asks t p xs ys) (e i j (omega arith) (omega arith) (omega arith)) h,
    )
    flat_homes_moved (own x) i j t xs ys f e (w, h) = (subst (λ n. IsHandleWord n t) (e i j (omega arith) (omega arith) (omega arith)) w, h)
    flat_homes_moved (borrow x) i j t xs ys f e (w, h) = (subst (λ n. IsHandleWord n t) (e i j (omega arith) (omega arith) (omega arith)) w, h)
    flat_homes_moved (list k s) i j t xs ys f e (zs, is, n, h) =
        let w = e i j (omega arith) (omega arith) (omega arith) in (
          zs,
          is ∙ ap (λ p. p ∷ zs) w,
          sym (e (i + 1) (j + 1) (omega arith) (omega arith) (omega arith)) ∙ n,
          subst (λ p. EachHome (λ b u us qs. Homes pointer texts wide s b u us qs) (size wide s) p (trees_of t) zs ys) w h,
        )
    flat_homes_moved (fixed n s) i j t xs ys f e h = each_home_moved ws vs (λ u. Fits s u) (λ k u zs us. FlatHomes pointer texts wide ws s k u zs us) (λ k u zs us. FlatHomes pointer texts wide vs s k u zs us) (flat s)
        (λ k l u zs us g w m. flat_homes_moved s k l u zs us g w m) i j (trees_of t) xs ys f.1 (subst (λ k. SameWords ws i vs j (k * flat s)) (sym f.0) e) h
    flat_homes_moved (product k ms) i j t xs ys f e h = members_homes_moved ms i j (trees_of t) xs ys f e h
    flat_homes_moved (variant k cs) i j t xs ys f e (d, h) = (
      sym (e i j (omega arith) (omega arith) (omega arith)) ∙ d,
      case_homes_moved cs (case_number t) (i + 1) (j + 1) (cases_flat cs) (payload_of t) xs ys (omega arith) f (some_words ws vs i j _ (i + 1) (j + 1) (cases_flat cs) e (omega arith) (omega arith) (omega arith)) h,
    )
    flat_homes_moved (flags names) i j t xs ys f e (w, h) =
        let same = low_number_same ws vs i j (flag_words (length names)) e in (
          (
            w.0 ∙ ap (λ n. bits (bits_of (length names) n)) same,
            below_same (2 ^ 32) ws vs i j _ _ _ e (omega arith) (omega arith) w.1,
            subst (λ n. n < 2 ^ length names) same w.2,
          ),
          h,
        )

    pub members_homes_moved : (ms : Members) (i j : ℕ) (ts : Trees) (xs ys : List ℕ) → MembersFit ms ts → SameWords ws i vs j (members_flat ms) → MembersFlatHome pointer texts wide ws ms i ts xs ys
        → MembersFlatHome pointer texts wide vs ms j ts xs ys
    members_homes_moved no_members i j ts xs ys f e h = h
    members_homes_moved (member name s ms) i j no_trees xs ys f e h = h
    members_homes_moved (member name s ms) i j (tree t ts) xs ys f e (zs, h, hs) = (
      zs,
      flat_homes_moved s i j t xs zs f.0 (some_words ws vs i j _ i j (flat s) e (omega arith) (omega arith) (omega arith)) h,
      members_homes_moved ms (i + flat s) (j + flat s) ts zs ys f.1 (some_words ws vs i j _ (i + flat s) (j + flat s) (members_flat ms) e (omega arith) (omega arith) (omega arith)) hs,
    )

    case_homes_moved : (cs : Cases) (d i j n : ℕ) (u : Tree) (xs ys : List ℕ) → cases_flat cs ≤ n → CaseFits cs d u → SameWords ws i vs j n → CaseFlatHome pointer texts wide ws cs d i (i + n) u xs ys
        → CaseFlatHome pointer texts wide vs cs d j (j + n) u xs ys
    case_homes_moved no_cases d i j n u xs ys l f e h = h
    case_homes_moved (bare name cs) zero i j n u xs ys l f e (zeros, h) = (below_same 1 ws vs i j n _ _ e (omega arith) (omega arith) zeros, h)
    case_homes_moved (bare name cs) (suc d) i j n u xs ys l f e h = case_homes_moved cs d i j n u xs ys l f e h
    case_homes_moved (payload name s cs) zero i j n u xs ys l f e (zeros, h) = (
      below_same 1 ws vs (i + flat s) (j + flat s) (n - flat s) _ _ (some_words ws vs i j n (i + flat s) (j + flat s) (n - flat s) e (omega arith) (omega arith) (omega arith)) (omega arith) (omega arith) zeros,
      flat_homes_moved s i j u xs ys f (some_words ws vs i j n i j (flat s) e (omega arith) (omega arith) (omega arith)) h,
    )
    case_homes_moved (payload name s cs) (suc d) i j n u xs ys l f e h = case_homes_moved cs d i j n u xs ys (omega arith) f e h

pub ptr_same : (wide : Bool) (xs : List ℕ) (w : ℕ) → (IsFalse wide → w < 2 ^ 32) → ptr (memory_of xs wide) w ≡ w
ptr_same true xs w h = refl
ptr_same false xs w h = mod-eq_of_lt (h refl)

-- ---- another memory, where the bytes of blocks are kept

case_flat_is : (r : ℕ → ℕ → Type 0) (strict : Bool) (enc : Encoding) (m : Memory) (ws : List ℕ) (cs : Cases) (i d j e : ℕ) (t : Tree) → CaseFlat r strict enc m ws cs i d j e t → case_number t ≡ d
case_flat_is r strict enc m ws no_cases i d j e t h = absurd h
case_flat_is r strict enc m ws (bare name cs) zero d j e t h = ap case_number h.0
case_flat_is r strict enc m ws (bare name cs) (suc i) d j e t h = case_flat_is r strict enc m ws cs i d j e t h
case_flat_is r strict enc m ws (payload name s cs) zero d j e t (u, is, h, least) = ap case_number is
case_flat_is r strict enc m ws (payload name s cs) (suc i) d j e t h = case_flat_is r strict enc m ws cs i d j e t h

module _ (wide : Bool) (texts : Texts) (blocks more : List Block) (xs ys : List ℕ) (k : AttemptKeeps blocks more xs ys) (ws : List ℕ) where
  mutual
    pub flat_homes_kept : (s : Shape) (i : ℕ) (t : Tree) (ps qs : List ℕ) → RepFlatIn blocks true texts.encoding (memory_of xs wide) ws i s t
        → FlatHomes (PointsTo (memory_of xs wide)) texts wide ws s i t ps qs → FlatHomes (PointsTo (memory_of ys wide)) texts wide ws s i t ps qs
    flat_homes_kept (scalar k) i t ps qs f h = h
    flat_homes_kept string i t ps qs f h = h
    flat_homes_kept (own x) i t ps qs f h = h
    flat_homes_kept (borrow x) i t ps qs f h = h
    flat_homes_kept (list l s) i t ps qs (f, below) (zs, is, n, h) =
        let There = Stored (InsideBlocks blocks (memory_of xs wide)) true texts.encoding (memory_of xs wide) s in
        let narrow : ptr (memory_of xs wide) (slice_index ws i) ≡ slice_index ws i = ptr_same wide xs (slice_index ws i) (λ nar. below refl nar i (omega arith) (omega arith)) in (
          zs,
          is,
          n,
          each_home_along There (Homes (PointsTo (memory_of xs wide)) texts wide s) (Homes (PointsTo (memory_of ys wide)) texts wide s) (λ b u vs us m g. value_homes_kept wide texts blocks more xs ys k s b u vs us m g)
              (size wide s) (slice_index ws i) (trees_of t) zs qs (subst₂ (λ p us. EachAt There (size wide s) p us) narrow (ap trees_of (sym f.is)) f.each) h,
        )
    flat_homes_kept (fixed n s) i t ps qs f h = each_home_along (Flat (InsideBlocks blocks (memory_of xs wide)) true texts.encoding (memory_of xs wide) ws s)
        (FlatHomes (PointsTo (memory_of xs wide)) texts wide ws s) (FlatHomes (PointsTo (memory_of ys wide)) texts wide ws s)
        (λ j u vs us g w. flat_homes_kept s j u vs us g w) (flat s) i (trees_of t) ps qs
        (subst (λ us. EachAt (Flat (InsideBlocks blocks (memory_of xs wide)) true texts.encoding (memory_of xs wide) ws s) (flat s) i us) (ap trees_of (sym f.is)) f.each) h
    flat_homes_kept (product k ms) i t ps qs (ts, is, f) h =
        members_flat_homes_kept ms i (trees_of t) ps qs (subst (λ us. MembersFlat (InsideBlocks blocks (memory_of xs wide)) true texts.encoding (memory_of xs wide) ws ms i us) (ap trees_of (sym is)) f) h
    flat_homes_kept (variant k cs) i t ps qs (f, least) (d, h) = (
      d,
      case_flat_homes_kept cs _ _ (i + 1) _ t (case_number t) (payload_of t) ps qs f (case_flat_is (InsideBlocks blocks (memory_of xs wide)) true texts.encoding (memory_of xs wide) ws cs _ _ _ _ t f) refl h,
    )
    flat_homes_kept (flags names) i t ps qs f h = h

    pub members_flat_homes_kept : (ms : Members) (i : ℕ) (ts : Trees) (ps qs : List ℕ) → MembersFlat (InsideBlocks blocks (memory_of xs wide)) true texts.encoding (memory_of xs wide) ws ms i ts
        → MembersFlatHome (PointsTo (memory_of xs wide)) texts wide ws ms i ts ps qs → MembersFlatHome (PointsTo (memory_of ys wide)) texts wide ws ms i ts ps qs
    members_flat_homes_kept no_members i ts ps qs f h = h
    members_flat_homes_kept (member name s ms) i no_trees ps qs f h = h
    members_flat_homes_kept (member name s ms) i (tree t ts) ps qs (u, rest, is, f, fs) (zs, h, hs) = (
      zs,
      flat_homes_kept s i t ps zs (subst (λ v. RepFlatIn blocks true texts.encoding (memory_of xs wide) ws i s v) (first_tree t u ts rest is) f) h,
      members_flat_homes_kept ms (i + flat s) ts zs qs (subst (λ vs. MembersFlat (InsideBlocks blocks (memory_of xs wide)) true texts.encoding (memory_of xs wide) ws ms (i + flat s) vs) (other_trees t u ts rest is) fs) hs,
    )

    case_flat_homes_kept : (cs : Cases) (c d j e : ℕ) (t : Tree) (n : ℕ) (v : Tree) (ps qs : List ℕ) → CaseFlat (InsideBlocks blocks (memory_of xs wide)) true texts.encoding (memory_of xs wide) ws cs c d j e t → n ≡ c → v ≡ payload_of t
        → CaseFlatHome (PointsTo (memory_of xs wide)) texts wide ws cs n j e v ps qs → CaseFlatHome (PointsTo (memory_of ys wide)) texts wide ws cs n j e v ps qs
    case_flat_homes_kept no_cases c d j e t n v ps qs f is same h = absurd f
    case_flat_homes_kept (bare name cs) c d j e t zero v ps qs f is same h = h
    case_flat_homes_kept (bare name cs) zero d j e t (suc n) v ps qs f is same h = absurd (omega arith)
    case_flat_homes_kept (bare name cs) (suc c) d j e t (suc n) v ps qs f is same h = case_flat_homes_kept cs c d j e t n v ps qs f (omega (arith, is)) same h
    case_flat_homes_kept (payload name s cs) zero d j e t zero v ps qs (u, at, f, least) is same (zeros, h) =
        (zeros, flat_homes_kept s j v ps qs (subst (λ x. RepFlatIn blocks true texts.encoding (memory_of xs wide) ws j s x) (sym (same ∙ ap payload_of at)) f) h)
    case_flat_homes_kept (payload name s cs) (suc c) d j e t zero v ps qs f is same h = absurd (omega arith)
    case_flat_homes_kept (payload name s cs) zero d j e t (suc n) v ps qs f is same h = absurd (omega arith)
    case_flat_homes_kept (payload name s cs) (suc c) d j e t (suc n) v ps qs f is same h = case_flat_homes_kept cs c d j e t n v ps qs f (omega (arith, is)) same h

-- ---- the same, where a tree stands that is spelled otherwise

module _ (wide : Bool) (texts : Texts) (blocks more : List Block) (xs ys : List ℕ) (k : AttemptKeeps blocks more xs ys) (ws : List ℕ) where
  abbrev Here : Shape → ℕ → Tree → Type 0
  Here s b u = Stored (InsideBlocks blocks (memory_of xs wide)) true texts.encoding (memory_of xs wide) s b u

  abbrev InWords : Shape → ℕ → Tree → Type 0
  InWords s i u = Flat (InsideBlocks blocks (memory_of xs wide)) true texts.encoding (memory_of xs wide) ws s i u

  value_homes_respelled : (s : Shape) (b : ℕ) (t u : Tree) (vs us : List ℕ) → Respelled t u → Here s b u → Homes (PointsTo (memory_of xs wide)) texts wide s b t vs us → Homes (PointsTo (memory_of ys wide)) texts wide s b t vs us
  value_homes_respelled s b t u vs us same h g = homes_respelled _ true texts xs wide (PointsTo (memory_of ys wide)) (points_same wide texts blocks more xs ys k) s b t u vs us same h g

  mutual
    pub flat_homes_respelled : (s : Shape) (i : ℕ) (t u : Tree) (ps qs : List ℕ) → Respelled t u → InWords s i u
        → FlatHomes (PointsTo (memory_of xs wide)) texts wide ws s i t ps qs → FlatHomes (PointsTo (memory_of ys wide)) texts wide ws s i t ps qs
    flat_homes_respelled (scalar k) i t u ps qs same f h = h
    flat_homes_respelled string i t u ps qs same f h = h
    flat_homes_respelled (own x) i t u ps qs same f h = h
    flat_homes_respelled (borrow x) i t u ps qs same f h = h
    flat_homes_respelled (list l s) i t u ps qs same (f, below) (zs, is, n, h) =
        let narrow : ptr (memory_of xs wide) (slice_index ws i) ≡ slice_index ws i = ptr_same wide xs (slice_index ws i) (λ nar. below refl nar i (omega arith) (omega arith)) in (
          zs,
          is,
          n,
          each_home_respelled (Here s) (Homes (PointsTo (memory_of xs wide)) texts wide s) (Homes (PointsTo (memory_of ys wide)) texts wide s) (λ b v w vs us l m g. value_homes_respelled s b v w vs us l m g)
              (size wide s) (slice_index ws i) (trees_of t) (trees_of u) zs qs (respelled_trees t u same) (subst₂ (λ p us. EachAt (Here s) (size wide s) p us) narrow (ap trees_of (sym f.is)) f.each) h,
        )
    flat_homes_respelled (fixed n s) i t u ps qs same f h = each_home_respelled (InWords s) (FlatHomes (PointsTo (memory_of xs wide)) texts wide ws s) (FlatHomes (PointsTo (memory_of ys wide)) texts wide ws s)
        (λ j v w vs us l m g. flat_homes_respelled s j v w vs us l m g) (flat s) i (trees_of t) (trees_of u) ps qs (respelled_trees t u same) (subst (λ us. EachAt (InWords s) (flat s) i us) (ap trees_of (sym f.is)) f.each) h
    flat_homes_respelled (product k ms) i t u ps qs same (ts, is, f) h =
        members_flat_respelled ms i (trees_of t) (trees_of u) ps qs (respelled_trees t u same)
        (subst (λ us. MembersFlat (InsideBlocks blocks (memory_of xs wide)) true texts.encoding (memory_of xs wide) ws ms i us) (ap trees_of (sym is)) f) h
    flat_homes_respelled (variant k cs) i t u ps qs same (f, least) (d, h) = (
      d,
      case_flat_respelled cs _ _ (i + 1) _ u (case_number t) (payload_of t) ps qs f
          (sym (respelled_number t u same) ∙ case_flat_is (InsideBlocks blocks (memory_of xs wide)) true texts.encoding (memory_of xs wide) ws cs _ _ _ _ u f) (respelled_payload t u same) h,
    )
    flat_homes_respelled (flags names) i t u ps qs same f h = h

    pub members_flat_respelled : (ms : Members) (i : ℕ) (ts us : Trees) (ps qs : List ℕ) → AllRespelled ts us → MembersFlat (InsideBlocks blocks (memory_of xs wide)) true texts.encoding (memory_of xs wide) ws ms i us
        → MembersFlatHome (PointsTo (memory_of xs wide)) texts wide ws ms i ts ps qs → MembersFlatHome (PointsTo (memory_of ys wide)) texts wide ws ms i ts ps qs
    members_flat_respelled no_members i ts us ps qs same f h = h
    members_flat_respelled (member name s ms) i no_trees us ps qs same f h = h
    members_flat_respelled (member name s ms) i (tree t ts) us ps qs (v, other, e, l, ls) (u, rest, is, f, fs) (zs, h, hs) =
        let both : tree v other ≡ tree u rest = sym e ∙ is in (
          zs,
          flat_homes_respelled s i t v ps zs l (subst (λ w. InWords s i w) (first_tree v u other rest both) f) h,
          members_flat_respelled ms (i + flat s) ts other zs qs ls (subst (λ vs. MembersFlat (InsideBlocks blocks (memory_of xs wide)) true texts.encoding (memory_of xs wide) ws ms (i + flat s) vs) (other_trees v u other rest both) fs) hs,
        )

    case_flat_respelled : (cs : Cases) (c d j e : ℕ) (u : Tree) (n : ℕ) (v : Tree) (ps qs : List ℕ)
        → CaseFlat (InsideBlocks blocks (memory_of xs wide)) true texts.encoding (memory_of xs wide) ws cs c d j e u → n ≡ c → Respelled v (payload_of u)
        → CaseFlatHome (PointsTo (memory_of xs wide)) texts wide ws cs n j e v ps qs → CaseFlatHome (PointsTo (memory_of ys wide)) texts wide ws cs n j e v ps qs
    case_flat_respelled no_cases c d j e u n v ps qs f is same h = absurd f
    case_flat_respelled (bare name cs) c d j e u zero v ps qs f is same h = h
    case_flat_respelled (bare name cs) zero d j e u (suc n) v ps qs f is same h = absurd (omega arith)
    case_flat_respelled (bare name cs) (suc c) d j e u (suc n) v ps qs f is same h = case_flat_respelled cs c d j e u n v ps qs f (omega (arith, is)) same h
    case_flat_respelled (payload name s cs) zero d j e u zero v ps qs (w, at, f, least) is same (zeros, h) =
        (zeros, flat_homes_respelled s j v w ps qs (subst (λ x. Respelled v (payload_of x)) at same) f h)
    case_flat_respelled (payload name s cs) (suc c) d j e u zero v ps qs f is same h = absurd (omega arith)
    case_flat_respelled (payload name s cs) zero d j e u (suc n) v ps qs f is same h = absurd (omega arith)
    case_flat_respelled (payload name s cs) (suc c) d j e u (suc n) v ps qs f is same h = case_flat_respelled cs c d j e u n v ps qs f (omega (arith, is)) same h
