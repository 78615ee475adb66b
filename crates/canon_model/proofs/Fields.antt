-- Where a tree stands in two memories with the same homes, its fields have the same bytes.
use Rattle.std.proofs.Common.{Bool, List, [], ap, ap₂, arith, drop, ext_get_or, false, get_or-drop, length, length-drop, length-take-le, mod-eq_of_lt, refl, subst, subst₂, suc, sym, take, true, zero, ℕ, ⊎_elim, ◌*◌, ◌+◌, ◌<◌, ◌^◌, ◌∙◌, ◌∷◌, ◌≡◌, ◌≤◌}
use Rattle.std.specs.Prelude.{IsFalse, slice_index}
use Rattle.canon_model.proofs.Determined.{homes_same, members_words_fit, members_words_same, text_count_same, text_home_same, text_length_same, words_fit, words_same}
use Rattle.canon_model.proofs.Images.{bits_same, scalar_same}
use Rattle.canon_model.proofs.Layouts.{tag-le-size}
use Rattle.canon_model.proofs.Numbers.{num-split, num_below}
use Rattle.canon_model.specs.Fields.{CasePointed, EachAtBoth, MembersPointed, SameArgs, SameCase, SameFields, SameMembers, SamePointed}
use Rattle.std.proofs.lemmas.Bool.{cases_lt}
use Rattle.canon_model.specs.Flat.{AreWords, CaseFlat, Flat, MembersFlat, RepArgs, SameWords, max_params}
use Rattle.canon_model.specs.Homes.{CaseFlatHome, CaseHome, EachHome, FlatHomes, Homes, MembersFlatHome, MembersHome, ParamsHome, PointsTo, host_texts}
use Rattle.canon_model.specs.Laws.{FieldsDetermine}
use Rattle.canon_model.specs.Layout.{begins, cases_flat, ends, flags_size, flat, members_flat, payload_offset, pointer_size, scalar_size, size, tag_size}
use Rattle.canon_model.specs.Memory.{Inside, IsMemory, Memory, bytes_in, le_number, length_at, memory_of, num, number_in, pointer_at, ptr, tag_at}
use Rattle.canon_model.specs.Rep.{CaseStored, IsText, MembersStored, Stored}
use Rattle.canon_model.specs.Shape.{Cases, Members, Shape, bare, borrow, case_count, fixed, flags, list, member, no_cases, no_members, own, payload, product, scalar, string, variant}
use Rattle.canon_model.specs.Text.{Encoding, IsLeastTag, spelling, text_bytes, text_form}
use Rattle.canon_model.specs.Tree.{EachAt, Tree, Trees, bits_in, case_number, handle_of, no_trees, payload_of, scalars_of, tree, tree_count, trees_of}

-- ---- bytes by their number

le_same : (xs ys : List ℕ) → length xs ≡ length ys → ((i : ℕ) → slice_index xs i < 256) → ((i : ℕ) → slice_index ys i < 256) → le_number xs ≡ le_number ys → xs ≡ ys
le_same [] [] l h g e = refl
le_same [] (y ∷ ys) l h g e = absurd (omega arith)
le_same (x ∷ xs) [] l h g e = absurd (omega arith)
le_same (x ∷ xs) (y ∷ ys) l h g e =
    let first : x ≡ y = omega (arith, h 0, g 0, e) in
    let rest : le_number xs ≡ le_number ys = omega (arith, h 0, g 0, e) in
    ap₂ ◌∷◌ first (le_same xs ys (omega arith) (λ i. h (suc i)) (λ i. g (suc i)) rest)

take_below : (k : ℕ) (xs : List ℕ) → ((i : ℕ) → slice_index xs i < 256) → (i : ℕ) → slice_index (take k xs) i < 256
take_below zero xs h i = omega arith
take_below (suc k) [] h i = h i
take_below (suc k) (x ∷ xs) h zero = h 0
take_below (suc k) (x ∷ xs) h (suc i) = take_below k xs (λ j. h (suc j)) i

bytes_below : (xs : List ℕ) (a k : ℕ) → ((i : ℕ) → slice_index xs i < 256) → (i : ℕ) → slice_index (bytes_in xs a k) i < 256
unfolding bytes_in
bytes_below xs a k h = take_below k (drop a xs) (λ i. rw (get_or-drop a xs i 0) (h (a + i)))

length-bytes_in : (xs : List ℕ) (a k : ℕ) → a + k ≤ length xs → length (bytes_in xs a k) ≡ k
unfolding bytes_in
length-bytes_in xs a k h = length-take-le k (drop a xs) (omega (arith, length-drop a xs))

module _ (enc : Encoding) (wide : Bool) (xs ys : List ℕ) (memory : IsMemory (memory_of xs wide)) (other : IsMemory (memory_of ys wide)) where
  by_number : (a b k : ℕ) → a + k ≤ length xs → b + k ≤ length ys → number_in xs a k ≡ number_in ys b k → bytes_in xs a k ≡ bytes_in ys b k
  by_number a b k h g e = le_same (bytes_in xs a k) (bytes_in ys b k) (length-bytes_in xs a k h ∙ sym (length-bytes_in ys b k g)) (bytes_below xs a k memory.bytes) (bytes_below ys b k other.bytes) e

  by_halves : (a b k : ℕ) → a + 2 * k ≤ length xs → b + 2 * k ≤ length ys → number_in xs a k ≡ number_in ys b k → number_in xs (a + k) k ≡ number_in ys (b + k) k → bytes_in xs a (2 * k) ≡ bytes_in ys b (2 * k)
  by_halves a b k h g e f =
      let twice : k + k ≡ 2 * k = omega arith in
      subst (λ n. bytes_in xs a n ≡ bytes_in ys b n) twice (by_number a b (k + k) (omega arith) (omega arith)
      (num-split xs wide a k k (omega arith) ∙ ap₂ (λ n m. n + 256 ^ k * m) e f ∙ sym (num-split ys wide b k k (omega arith))))

  abbrev X : Memory
  X = memory_of xs wide

  abbrev Y : Memory
  Y = memory_of ys wide

  -- the homes of the texts of the host, as each memory has them
  abbrev AreHomes : Memory → Shape → ℕ → Tree → List ℕ → List ℕ → Type 0
  AreHomes m s a t ps qs = Homes (PointsTo m) (host_texts enc) wide s a t ps qs

  abbrev Stands : Memory → Shape → ℕ → Tree → Type 0
  Stands m s a t = Stored (Inside m) true enc m s a t

  text_same : (p q n k : ℕ) (t : Tree) → IsText (Inside X) true enc X p n t → IsText (Inside Y) true enc Y q k t → (n ≡ k) × (bytes_in xs p (text_bytes enc n) ≡ bytes_in ys q (text_bytes enc n))
  text_same p q n k t h g =
      let cs : h.scalars ≡ g.scalars = ap scalars_of (sym h.is ∙ g.is) in
      let count : n ≡ k = text_count_same enc n k h.scalars (h.least refl) (subst (IsLeastTag enc k) (sym cs) (g.least refl)) (ap length h.spelled.is ∙ length-bytes_in xs p (text_bytes enc n) h.inside)
      (ap (λ l. length (spelling (text_form enc k) l)) cs ∙ ap length g.spelled.is ∙ length-bytes_in ys q (text_bytes enc k) g.inside) in
      (count, sym h.spelled.is ∙ ap₂ (λ j l. spelling (text_form enc j) l) count cs ∙ g.spelled.is ∙ ap (λ j. bytes_in ys q (text_bytes enc j)) (sym count))

  each_both : (s : Shape) → ((a b : ℕ) (u : Tree) (ps qs rs : List ℕ) → Stands X s a u → Stands Y s b u → AreHomes X s a u ps qs → AreHomes Y s b u ps rs → SameFields enc wide xs ys s a b u)
      → (step a b : ℕ) (ts : Trees) (ps qs rs : List ℕ) → EachAt (Stands X s) step a ts → EachAt (Stands Y s) step b ts → EachHome (AreHomes X s) step a ts ps qs → EachHome (AreHomes Y s) step b ts ps rs
      → EachAtBoth (SameFields enc wide xs ys s) step a b ts
  each_both s one step a b no_trees ps qs rs h g j k = tt
  each_both s one step a b (tree t ts) ps qs rs h g (us, j, js) (vs, k, ks) =
      let same = homes_same (PointsTo X) (PointsTo Y) (host_texts enc) wide s a b t ps us vs j k in (
        one a b t ps us vs h.0 g.0 j k,
        each_both s one step (a + step) (b + step) ts us qs rs h.1 g.1 js (subst (λ l. EachHome (AreHomes Y s) step (b + step) ts l rs) (sym same) ks),
      )

  case_stood : (m : Memory) (cs : Cases) (i d a : ℕ) (t : Tree) → CaseStored (Inside m) true enc m cs i d a t → case_number t ≡ d
  case_stood m no_cases i d a t h = absurd h
  case_stood m (bare name cs) zero d a t h = ap case_number h
  case_stood m (bare name cs) (suc i) d a t h = case_stood m cs i d a t h
  case_stood m (payload name s cs) zero d a t (u, e, h) = ap case_number e
  case_stood m (payload name s cs) (suc i) d a t h = case_stood m cs i d a t h

  mutual
    pub fields_same : (s : Shape) (a b : ℕ) (t : Tree) (ps qs rs : List ℕ) → Stands X s a t → Stands Y s b t → AreHomes X s a t ps qs → AreHomes Y s b t ps rs → SameFields enc wide xs ys s a b t
    fields_same (scalar k) a b t ps qs rs (r, is, least) (r2, is2, least2) j l =
        by_number a b (scalar_size k) r r2 (scalar_same k (num X a (scalar_size k)) (num Y b (scalar_size k)) t (num_below X a _ memory) (num_below Y b _ other) (least refl) (least2 refl) is is2)
    fields_same string a b t ps qs rs (r, h) (r2, g) (p, e, j) (q, d, l) =
        let both = text_home_same (host_texts enc).asks t p q ps qs rs j l in
        let texts = text_same (pointer_at X a) (pointer_at Y b) (length_at X a) (length_at Y b) t h g in
        (by_halves a b (pointer_size wide) r r2 (e ∙ both.0 ∙ sym d) texts.0, texts.1)
    fields_same (own i) a b t ps qs rs (r, h) (r2, g) j l = by_number a b 4 r r2 (ap handle_of (sym h ∙ g))
    fields_same (borrow i) a b t ps qs rs (r, h) (r2, g) j l = by_number a b 4 r r2 (ap handle_of (sym h ∙ g))
    fields_same (list k s) a b t ps qs rs (r, h) (r2, g) (p, us, e, is, j) (q, vs, d, is2, l) =
        let heads : p ∷ us ≡ q ∷ vs = sym is ∙ is2 in
        let first : p ≡ q = cc in
        let rest : us ≡ vs = cc in
        let these : h.trees ≡ trees_of t = ap trees_of (sym h.is) in
        let those : g.trees ≡ trees_of t = ap trees_of (sym g.is) in (
          by_halves a b (pointer_size wide) r r2 (e ∙ first ∙ sym d) (sym h.count ∙ ap tree_count (these ∙ sym those) ∙ g.count),
          each_both s (λ a b u ps qs rs h g j k. fields_same s a b u ps qs rs h g j k) (size wide s) (pointer_at X a) (pointer_at Y b) (trees_of t) us qs rs
              (subst (EachAt (Stands X s) (size wide s) (pointer_at X a)) these h.each) (subst (EachAt (Stands Y s) (size wide s) (pointer_at Y b)) those g.each)
              (subst (λ k. EachHome (AreHomes X s) (size wide s) k (trees_of t) us qs) (sym e) j)
              (subst₂ (λ k o. EachHome (AreHomes Y s) (size wide s) k (trees_of t) o rs) (sym d) (sym rest) l),
        )
    fields_same (fixed n s) a b t ps qs rs (r, h) (r2, g) j l =
        each_both s (λ a b u ps qs rs h g j k. fields_same s a b u ps qs rs h g j k) (size wide s) a b (trees_of t) ps qs rs
        (subst (EachAt (Stands X s) (size wide s) a) (ap trees_of (sym h.is)) h.each) (subst (EachAt (Stands Y s) (size wide s) b) (ap trees_of (sym g.is)) g.each) j l
    fields_same (product k ms) a b t ps qs rs (r, (ts, e, h)) (r2, (us, d, g)) j l =
        members_fields_same ms 0 a b (trees_of t) ps qs rs (subst (MembersStored (Inside X) true enc X ms 0 a) (ap trees_of (sym e)) h) (subst (MembersStored (Inside Y) true enc Y ms 0 b) (ap trees_of (sym d)) g) j l
    fields_same (variant k cs) a b t ps qs rs (r, h) (r2, g) j l =
        let here : case_number t ≡ tag_at X a cs = case_stood X cs _ _ _ t h in
        let there : case_number t ≡ tag_at Y b cs = case_stood Y cs _ _ _ t g in
        let fits = tag-le-size wide k cs in (
          by_number a b (tag_size (case_count cs)) (omega (arith, r, fits)) (omega (arith, r2, fits)) (sym here ∙ there),
          case_fields_same cs (case_number t) (case_number t) (a + payload_offset wide cs) (b + payload_offset wide cs) t ps qs rs
              (subst (λ d. CaseStored (Inside X) true enc X cs d d (a + payload_offset wide cs) t) (sym here) h)
              (subst (λ d. CaseStored (Inside Y) true enc Y cs d d (b + payload_offset wide cs) t) (sym there) g) j l,
        )
    fields_same (flags names) a b t ps qs rs (r, h, few) (r2, g, less) j l =
        by_number a b (flags_size (length names)) r r2
        (bits_same (length names) (num X a (flags_size (length names))) (num Y b (flags_size (length names))) (few refl) (less refl) (ap bits_in (sym h ∙ g)))

    pub members_fields_same : (ms : Members) (o a b : ℕ) (ts : Trees) (ps qs rs : List ℕ) → MembersStored (Inside X) true enc X ms o a ts → MembersStored (Inside Y) true enc Y ms o b ts
        → MembersHome (PointsTo X) (host_texts enc) wide ms o a ts ps qs → MembersHome (PointsTo Y) (host_texts enc) wide ms o b ts ps rs → SameMembers enc wide xs ys ms o a b ts
    members_fields_same no_members o a b ts ps qs rs h g j l = tt
    members_fields_same (member name s ms) o a b no_trees ps qs rs h g j l = tt
    members_fields_same (member name s ms) o a b (tree t ts) ps qs rs (u, us, e, h, hs) (v, vs, d, g, gs) (ks, j, js) (ls, l, more) =
        let this : t ≡ u = cc in
        let these : ts ≡ us = cc in
        let that : t ≡ v = cc in
        let those : ts ≡ vs = cc in
        let same = homes_same (PointsTo X) (PointsTo Y) (host_texts enc) wide s _ _ t ps ks ls j l in (
          fields_same s (a + begins wide o s) (b + begins wide o s) t ps ks ls (subst (Stands X s _) (sym this) h) (subst (Stands Y s _) (sym that) g) j l,
          members_fields_same ms (ends wide o s) a b ts ks qs rs (subst (MembersStored (Inside X) true enc X ms (ends wide o s) a) (sym these) hs)
              (subst (MembersStored (Inside Y) true enc Y ms (ends wide o s) b) (sym those) gs) js (subst (λ z. MembersHome (PointsTo Y) (host_texts enc) wide ms (ends wide o s) b ts z rs) (sym same) more),
        )

    case_fields_same : (cs : Cases) (i d a b : ℕ) (t : Tree) (ps qs rs : List ℕ) → CaseStored (Inside X) true enc X cs i d a t → CaseStored (Inside Y) true enc Y cs i d b t
        → CaseHome (PointsTo X) (host_texts enc) wide cs i a (payload_of t) ps qs → CaseHome (PointsTo Y) (host_texts enc) wide cs i b (payload_of t) ps rs → SameCase enc wide xs ys cs i a b (payload_of t)
    case_fields_same no_cases i d a b t ps qs rs h g j l = tt
    case_fields_same (bare name cs) zero d a b t ps qs rs h g j l = tt
    case_fields_same (bare name cs) (suc i) d a b t ps qs rs h g j l = case_fields_same cs i d a b t ps qs rs h g j l
    case_fields_same (payload name s cs) zero d a b t ps qs rs (u, e, h) (v, f, g) j l =
        fields_same s a b (payload_of t) ps qs rs (subst (Stands X s a) (sym (ap payload_of e)) h) (subst (Stands Y s b) (sym (ap payload_of f)) g) j l
    case_fields_same (payload name s cs) (suc i) d a b t ps qs rs h g j l = case_fields_same cs i d a b t ps qs rs h g j l

  -- ---- words

  unpointed : (bytes : List ℕ) (w : ℕ) → (IsFalse wide → w < 2 ^ 32) → ptr (memory_of bytes wide) w ≡ w
  unpointed bytes w few = by wide few
    where
      by : (wide : Bool) → (IsFalse wide → w < 2 ^ 32) → ptr (memory_of bytes wide) w ≡ w
      by true few = refl
      by false few = mod-eq_of_lt (few refl)

  module _ (ws vs : List ℕ) (few : AreWords ws) (less : AreWords vs) where
    abbrev StandsIn : Memory → List ℕ → Shape → ℕ → Tree → Type 0
    StandsIn m words s i t = Flat (Inside m) true enc m words s i t

    abbrev WordHomes : Memory → List ℕ → Shape → ℕ → Tree → List ℕ → List ℕ → Type 0
    WordHomes m words s i t ps qs = FlatHomes (PointsTo m) (host_texts enc) wide words s i t ps qs

    flat_rest : (s : Shape) (i j : ℕ) (t : Tree) (ps qs rs : List ℕ) → StandsIn X ws s i t → WordHomes X ws s i t ps qs → WordHomes Y vs s j t ps rs → (qs ≡ rs) × SameWords ws i vs j (flat s)
    flat_rest s i j t ps qs rs h k l =
        words_same (host_texts enc) (λ n m t h g. text_length_same enc n m t t refl h g) (PointsTo X) (PointsTo Y) wide ws vs few less s i j t ps qs rs (words_fit (Inside X) true enc X ws s i t h) k l

    each_pointed : (s : Shape) → ((i j : ℕ) (u : Tree) (ps qs rs : List ℕ) → StandsIn X ws s i u → StandsIn Y vs s j u → WordHomes X ws s i u ps qs → WordHomes Y vs s j u ps rs → SamePointed enc wide xs ys ws vs s i j u)
        → (step i j : ℕ) (ts : Trees) (ps qs rs : List ℕ) → EachAt (StandsIn X ws s) step i ts → EachAt (StandsIn Y vs s) step j ts → EachHome (WordHomes X ws s) step i ts ps qs → EachHome (WordHomes Y vs s) step j ts ps rs
        → EachAtBoth (SamePointed enc wide xs ys ws vs s) step i j ts
    each_pointed s one step i j no_trees ps qs rs h g k l = tt
    each_pointed s one step i j (tree t ts) ps qs rs h g (us, k, ks) (os, l, ls) =
        let same = (flat_rest s i j t ps us os h.0 k l).0 in (
          one i j t ps us os h.0 g.0 k l,
          each_pointed s one step (i + step) (j + step) ts us qs rs h.1 g.1 ks (subst (λ z. EachHome (WordHomes Y vs s) step (j + step) ts z rs) (sym same) ls),
        )

    case_in : (m : Memory) (words : List ℕ) (cs : Cases) (c d i e : ℕ) (t : Tree) → CaseFlat (Inside m) true enc m words cs c d i e t → case_number t ≡ d
    case_in m words no_cases c d i e t h = absurd h
    case_in m words (bare name cs) zero d i e t h = ap case_number h.0
    case_in m words (bare name cs) (suc c) d i e t h = case_in m words cs c d i e t h
    case_in m words (payload name s cs) zero d i e t (u, is, h, z) = ap case_number is
    case_in m words (payload name s cs) (suc c) d i e t h = case_in m words cs c d i e t h

    mutual
      pub pointed_same : (s : Shape) (i j : ℕ) (t : Tree) (ps qs rs : List ℕ) → StandsIn X ws s i t → StandsIn Y vs s j t → WordHomes X ws s i t ps qs → WordHomes Y vs s j t ps rs → SamePointed enc wide xs ys ws vs s i j t
      pointed_same (scalar sk) i j t ps qs rs h g k l = tt
      pointed_same string i j t ps qs rs (h, hn) (g, gn) k l = (text_same _ _ _ _ t h g).1
      pointed_same (own r) i j t ps qs rs h g k l = tt
      pointed_same (borrow r) i j t ps qs rs h g k l = tt
      pointed_same (list lk s) i j t ps qs rs (h, hn) (g, gn) (us, is, n, k) (os, is2, n2, l) =
          let heads : slice_index ws i ∷ us ≡ slice_index vs j ∷ os = sym is ∙ is2 in
          let rest : us ≡ os = cc in
          let here = unpointed xs (slice_index ws i) (λ nar. hn refl nar i (omega arith) (omega arith)) in
          let there = unpointed ys (slice_index vs j) (λ nar. gn refl nar j (omega arith) (omega arith)) in
          each_both s (λ a b u ps qs rs h g j k. fields_same s a b u ps qs rs h g j k) (size wide s) (ptr X (slice_index ws i)) (ptr Y (slice_index vs j)) (trees_of t) us qs rs
          (subst (EachAt (Stands X s) (size wide s) (ptr X (slice_index ws i))) (ap trees_of (sym h.is)) h.each) (subst (EachAt (Stands Y s) (size wide s) (ptr Y (slice_index vs j))) (ap trees_of (sym g.is)) g.each)
          (subst (λ p. EachHome (AreHomes X s) (size wide s) p (trees_of t) us qs) (sym here) k)
          (subst₂ (λ p o. EachHome (AreHomes Y s) (size wide s) p (trees_of t) o rs) (sym there) (sym rest) l)
      pointed_same (fixed n s) i j t ps qs rs h g k l =
          each_pointed s (λ i j u ps qs rs h g k l. pointed_same s i j u ps qs rs h g k l) (flat s) i j (trees_of t) ps qs rs
          (subst (EachAt (StandsIn X ws s) (flat s) i) (ap trees_of (sym h.is)) h.each) (subst (EachAt (StandsIn Y vs s) (flat s) j) (ap trees_of (sym g.is)) g.each) k l
      pointed_same (product pk ms) i j t ps qs rs (ts, e, h) (us, d, g) k l =
          members_pointed_same ms i j (trees_of t) ps qs rs (subst (MembersFlat (Inside X) true enc X ws ms i) (ap trees_of (sym e)) h) (subst (MembersFlat (Inside Y) true enc Y vs ms j) (ap trees_of (sym d)) g) k l
      pointed_same (variant vk cs) i j t ps qs rs (h, hn) (g, gn) (e, k) (d, l) =
          let here = case_in X ws cs _ _ _ _ t h in
          let there = case_in Y vs cs _ _ _ _ t g in
          case_pointed_same cs (case_number t) (case_number t) (i + 1) (j + 1) (i + 1 + cases_flat cs) (j + 1 + cases_flat cs) t ps qs rs
          (subst (λ c. CaseFlat (Inside X) true enc X ws cs c c (i + 1) (i + 1 + cases_flat cs) t) (sym here) h)
          (subst (λ c. CaseFlat (Inside Y) true enc Y vs cs c c (j + 1) (j + 1 + cases_flat cs) t) (sym there) g) k l
      pointed_same (flags names) i j t ps qs rs h g k l = tt

      pub members_pointed_same : (ms : Members) (i j : ℕ) (ts : Trees) (ps qs rs : List ℕ) → MembersFlat (Inside X) true enc X ws ms i ts → MembersFlat (Inside Y) true enc Y vs ms j ts
          → MembersFlatHome (PointsTo X) (host_texts enc) wide ws ms i ts ps qs → MembersFlatHome (PointsTo Y) (host_texts enc) wide vs ms j ts ps rs → MembersPointed enc wide xs ys ws vs ms i j ts
      members_pointed_same no_members i j ts ps qs rs h g k l = tt
      members_pointed_same (member name s ms) i j no_trees ps qs rs h g k l = tt
      members_pointed_same (member name s ms) i j (tree t ts) ps qs rs (u, us, e, h, hs) (v, os, d, g, gs) (as1, k, ks) (as2, l, ls) =
          let this : t ≡ u = cc in
          let these : ts ≡ us = cc in
          let that : t ≡ v = cc in
          let those : ts ≡ os = cc in
          let here = subst (StandsIn X ws s i) (sym this) h in
          let same = (flat_rest s i j t ps as1 as2 here k l).0 in (
            pointed_same s i j t ps as1 as2 here (subst (StandsIn Y vs s j) (sym that) g) k l,
            members_pointed_same ms (i + flat s) (j + flat s) ts as1 qs rs (subst (MembersFlat (Inside X) true enc X ws ms (i + flat s)) (sym these) hs)
                (subst (MembersFlat (Inside Y) true enc Y vs ms (j + flat s)) (sym those) gs) ks (subst (λ z. MembersFlatHome (PointsTo Y) (host_texts enc) wide vs ms (j + flat s) ts z rs) (sym same) ls),
          )

      case_pointed_same : (cs : Cases) (c d i j e f : ℕ) (t : Tree) (ps qs rs : List ℕ) → CaseFlat (Inside X) true enc X ws cs c d i e t → CaseFlat (Inside Y) true enc Y vs cs c d j f t
          → CaseFlatHome (PointsTo X) (host_texts enc) wide ws cs c i e (payload_of t) ps qs → CaseFlatHome (PointsTo Y) (host_texts enc) wide vs cs c j f (payload_of t) ps rs
          → CasePointed enc wide xs ys ws vs cs c i j (payload_of t)
      case_pointed_same no_cases c d i j e f t ps qs rs h g k l = tt
      case_pointed_same (bare name cs) zero d i j e f t ps qs rs h g k l = tt
      case_pointed_same (bare name cs) (suc c) d i j e f t ps qs rs h g k l = case_pointed_same cs c d i j e f t ps qs rs h g k l
      case_pointed_same (payload name s cs) zero d i j e f t ps qs rs (u, is, h, z) (v, is2, g, y) (zk, k) (zl, l) =
          pointed_same s i j (payload_of t) ps qs rs (subst (StandsIn X ws s i) (sym (ap payload_of is)) h) (subst (StandsIn Y vs s j) (sym (ap payload_of is2)) g) k l
      case_pointed_same (payload name s cs) (suc c) d i j e f t ps qs rs h g k l = case_pointed_same cs c d i j e f t ps qs rs h g k l

    all_words : (n : ℕ) → length ws ≡ n → length vs ≡ n → SameWords ws 0 vs 0 n → ws ≡ vs
    all_words n e d same = ext_get_or 0 ws vs (e ∙ sym d) (λ i l. same i i (omega arith) (omega (arith, l, e)) refl)

    pub args_same : (ms : Members) (ts : Trees) (ps qs rs : List ℕ) → RepArgs true enc X ws ms ts → RepArgs true enc Y vs ms ts → ParamsHome (PointsTo X) (host_texts enc) wide ws ms ts ps qs
        → ParamsHome (PointsTo Y) (host_texts enc) wide vs ms ts ps rs → SameArgs enc wide xs ys ws vs ms ts
    args_same ms ts ps qs rs h g k l = record {
      words = ⊎_elim
          (λ far.
          let (us, e, ks) = k.far far in
          let (os, d, ls) = l.far far in
          let heads : slice_index ws 0 ∷ us ≡ slice_index vs 0 ∷ os = sym e ∙ d in
          let first : slice_index ws 0 ≡ slice_index vs 0 = cc in
          all_words 1 (h.far far).0 (g.far far).0 (λ p q lo hi pe. ap (slice_index ws) (omega arith) ∙ first ∙ ap (slice_index vs) (omega arith)))
          (λ near. all_words (members_flat ms) (h.near near).0 (g.near near).0
          (members_words_same (host_texts enc) (λ n m t h g. text_length_same enc n m t t refl h g) (PointsTo X) (PointsTo Y) wide ws vs few less ms 0 0 ts ps qs rs
          (members_words_fit (Inside X) true enc X ws ms 0 ts (h.near near).1) (k.near near) (l.near near)).1)
          (cases_lt max_params (members_flat ms));
      near = λ near. members_pointed_same ms 0 0 ts ps qs rs (h.near near).1 (g.near near).1 (k.near near) (l.near near);
      far = λ far.
          let (us, e, ks) = k.far far in
          let (os, d, ls) = l.far far in
          let heads : slice_index ws 0 ∷ us ≡ slice_index vs 0 ∷ os = sym e ∙ d in
          let rest : us ≡ os = cc in
          let (r, (t1, e1, hs)) = (h.far far).1.stored in
          let (r2, (t2, e2, gs)) = (g.far far).1.stored in
          let here = unpointed xs (slice_index ws 0) (λ nar. (h.far far).1.narrow refl nar) in
          let there = unpointed ys (slice_index vs 0) (λ nar. (g.far far).1.narrow refl nar) in
          members_fields_same ms 0 (ptr X (slice_index ws 0)) (ptr Y (slice_index vs 0)) ts us qs rs
          (subst (MembersStored (Inside X) true enc X ms 0 _) (ap trees_of (sym e1)) hs) (subst (MembersStored (Inside Y) true enc Y ms 0 _) (ap trees_of (sym e2)) gs)
          (subst (λ p. MembersHome (PointsTo X) (host_texts enc) wide ms 0 p ts us qs) (sym here) ks)
          (subst₂ (λ p o. MembersHome (PointsTo Y) (host_texts enc) wide ms 0 p ts o rs) (sym there) (sym rest) ls);
    }

pub fields_determine : FieldsDetermine
fields_determine = record {
  memory = λ enc wide xs ys s a b t ps qs rs memory other h g j l. fields_same enc wide xs ys memory other s a b t ps qs rs h g j l;
  flat = λ enc wide xs ys ws vs s i j t ps qs rs memory other few less h g k l. (
    (flat_rest enc wide xs ys memory other ws vs few less s i j t ps qs rs h k l).1,
    pointed_same enc wide xs ys memory other ws vs few less s i j t ps qs rs h g k l,
  );
  args = λ enc wide xs ys ws vs ms ts ps qs rs memory other few less h g k l. args_same enc wide xs ys memory other ws vs few less ms ts ps qs rs h g k l;
}
