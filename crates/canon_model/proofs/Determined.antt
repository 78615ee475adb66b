-- A tree, the answers and, in it, the handles determine each word of a lowering, and what is left of the answers.
use Rattle.std.proofs.Common.{Bool, List, [], ap, append_assoc, arith, drop, drop-drop, drop_at, false, le-leb, le-ltb, length, length-append, lt-ltb, nat_le, refl, subst, suc, suc-mul, sym, true, zero, zero-mul, ℕ, ⊎_elim, ◌%◌, ◌*◌, ◌++◌, ◌+◌, ◌-◌, ◌<◌, ◌^◌, ◌∙◌, ◌∷◌, ◌≡◌, ◌≤◌}
use Rattle.std.specs.Prelude.{if◌then◌else◌, not, slice_index}
use Rattle.std.specs.Int.{cast_signed, cast_unsigned, w16, w32, w8}
use Rattle.std.proofs.lemmas.Bool.{cases_lt, cond-false, cond-true, false≢true, lt-leb}
use Rattle.canon_model.proofs.ImageFields.{append_parts}
use Rattle.canon_model.proofs.Images.{bits_same, scalar_same}
use Rattle.canon_model.specs.Carrying.{carried_texts}
use Rattle.canon_model.specs.Fits.{AllTrees, CaseFits, Fits, MembersFit}
use Rattle.canon_model.specs.Flat.{AreBelow, AreWords, AreZero, CaseFlat, Flat, MembersFlat, SameWords, low_number, max_params}
use Rattle.canon_model.specs.Homes.{AnyPointer, AreFlagWords, CaseFlatHome, CaseHome, EachHome, FlatHomes, Homes, IsHandleWord, IsScalarWord, IsTextHome, IsTextLength, MembersFlatHome, MembersHome, ParamsHome, Texts, host_texts}
use Rattle.canon_model.specs.Laws.{AreDetermined, HomesDetermine}
use Rattle.canon_model.specs.Layout.{cases_flat, flag_words, flat, members_flat, size}
use Rattle.canon_model.specs.Memory.{Memory, low}
use Rattle.canon_model.specs.Requests.{Request, case_requests, members_requests, requests}
use Rattle.canon_model.specs.Shape.{Cases, Members, Scalar, Shape, bare, bool, borrow, char, f32, f64, fixed, flags, list, member, no_cases, no_members, own, payload, product, s16, s32, s64, s8, scalar, string, u16, u32, u64, u8, variant}
use Rattle.canon_model.specs.Text.{Encoding, IsLeastTag, compact, in_latin1, in_utf16, is_tagged, spelling, text_bytes, text_form, utf16, utf8}
use Rattle.canon_model.specs.Tree.{EachAt, Tree, Trees, bits_in, case_number, handle_of, list_of_each, no_trees, payload_of, scalars_of, text, tree, tree_count, trees_of}

-- ---- what is left of the answers

-- after two parts
left : (xs zs ys : List ℕ) (fs gs : List Request) → zs ≡ drop (length fs) xs → ys ≡ drop (length gs) zs → ys ≡ drop (length (fs ++ gs)) xs
left xs zs ys fs gs h g = g ∙ ap (drop (length gs)) h ∙ drop-drop (length gs) (length fs) xs ∙ ap (λ n. drop n xs) (sym (length-append fs gs))

each_left : (H : ℕ → Tree → List ℕ → List ℕ → Type 0) (f : Tree → List Request) → ((b : ℕ) (u : Tree) (zs vs : List ℕ) → H b u zs vs → vs ≡ drop (length (f u)) zs)
    → (step a : ℕ) (ts : Trees) (xs ys : List ℕ) → EachHome H step a ts xs ys → ys ≡ drop (length (list_of_each f ts)) xs
each_left H f one step a no_trees xs ys h = sym h
each_left H f one step a (tree t ts) xs ys (zs, h, hs) = left xs zs ys (f t) (list_of_each f ts) (one a t xs zs h) (each_left H f one step (a + step) ts zs ys hs)

text_left : (asks : Tree → List Request) (t : Tree) (p : ℕ) (xs ys : List ℕ) → IsTextHome asks t p xs ys → ys ≡ drop (length (asks t)) xs
text_left asks t p xs ys h =
    sym (ap (drop (length (asks t))) (h.answers ∙ sym (append_assoc h.earlier (p ∷ []) ys)) ∙ drop_at (h.earlier ++ p ∷ []) ys (length (asks t)) (omega (arith, h.count, length-append h.earlier (p ∷ []))))

module _ (pointer : ℕ → ℕ → Type 0) (texts : Texts) (wide : Bool) where
  mutual
    unfolding requests

    pub homes_left : (s : Shape) (a : ℕ) (t : Tree) (xs ys : List ℕ) → Homes pointer texts wide s a t xs ys → ys ≡ drop (length (requests wide texts.asks s t)) xs
    homes_left (scalar k) a t xs ys h = sym h
    homes_left string a t xs ys (p, at, h) = text_left texts.asks t p xs ys h
    homes_left (own r) a t xs ys h = sym h
    homes_left (borrow r) a t xs ys h = sym h
    homes_left (list k s) a t xs ys (p, zs, at, e, h) =
        each_left (Homes pointer texts wide s) (requests wide texts.asks s) (λ b u vs us g. homes_left s b u vs us g) (size wide s) p (trees_of t) zs ys h
        ∙ ap (λ l. drop (suc (length (list_of_each (requests wide texts.asks s) (trees_of t)))) l) (sym e)
    homes_left (fixed n s) a t xs ys h = each_left (Homes pointer texts wide s) (requests wide texts.asks s) (λ b u vs us g. homes_left s b u vs us g) (size wide s) a (trees_of t) xs ys h
    homes_left (product k ms) a t xs ys h = members_home_left ms 0 a (trees_of t) xs ys h
    homes_left (variant k cs) a t xs ys h = case_home_left cs (case_number t) _ (payload_of t) xs ys h
    homes_left (flags names) a t xs ys h = sym h

    pub members_home_left : (ms : Members) (o a : ℕ) (ts : Trees) (xs ys : List ℕ) → MembersHome pointer texts wide ms o a ts xs ys → ys ≡ drop (length (members_requests wide texts.asks ms ts)) xs
    members_home_left no_members o a ts xs ys h = sym h
    members_home_left (member name s ms) o a no_trees xs ys h = sym h
    members_home_left (member name s ms) o a (tree t ts) xs ys (zs, h, hs) =
        left xs zs ys (requests wide texts.asks s t) (members_requests wide texts.asks ms ts) (homes_left s _ t xs zs h) (members_home_left ms _ a ts zs ys hs)

    case_home_left : (cs : Cases) (i a : ℕ) (u : Tree) (xs ys : List ℕ) → CaseHome pointer texts wide cs i a u xs ys → ys ≡ drop (length (case_requests wide texts.asks cs i u)) xs
    case_home_left no_cases i a u xs ys h = sym h
    case_home_left (bare name cs) zero a u xs ys h = sym h
    case_home_left (bare name cs) (suc i) a u xs ys h = case_home_left cs i a u xs ys h
    case_home_left (payload name s cs) zero a u xs ys h = homes_left s a u xs ys h
    case_home_left (payload name s cs) (suc i) a u xs ys h = case_home_left cs i a u xs ys h

-- of two, by the answers alone
module _ (P Q : ℕ → ℕ → Type 0) (texts : Texts) (wide : Bool) where
  pub homes_same : (s : Shape) (a b : ℕ) (t : Tree) (xs ys zs : List ℕ) → Homes P texts wide s a t xs ys → Homes Q texts wide s b t xs zs → ys ≡ zs
  homes_same s a b t xs ys zs h g = homes_left P texts wide s a t xs ys h ∙ sym (homes_left Q texts wide s b t xs zs g)

  pub members_home_same : (ms : Members) (o p a b : ℕ) (ts : Trees) (xs ys zs : List ℕ) → MembersHome P texts wide ms o a ts xs ys → MembersHome Q texts wide ms p b ts xs zs → ys ≡ zs
  members_home_same ms o p a b ts xs ys zs h g = members_home_left P texts wide ms o a ts xs ys h ∙ sym (members_home_left Q texts wide ms p b ts xs zs g)

  pub each_home_same : (s : Shape) (step a b : ℕ) (ts : Trees) (xs ys zs : List ℕ) → EachHome (Homes P texts wide s) step a ts xs ys → EachHome (Homes Q texts wide s) step b ts xs zs → ys ≡ zs
  each_home_same s step a b ts xs ys zs h g =
      each_left (Homes P texts wide s) (requests wide texts.asks s) (homes_left P texts wide s) step a ts xs ys h
      ∙ sym (each_left (Homes Q texts wide s) (requests wide texts.asks s) (homes_left Q texts wide s) step b ts xs zs g)

-- a text's home is the last of its own answers
pub text_home_same : (asks : Tree → List Request) (t : Tree) (p q : ℕ) (xs ys zs : List ℕ) → IsTextHome asks t p xs ys → IsTextHome asks t q xs zs → (p ≡ q) × (ys ≡ zs)
text_home_same asks t p q xs ys zs h g =
    let both = append_parts h.earlier g.earlier (p ∷ ys) (q ∷ zs) (omega (arith, h.count, g.count)) (sym h.answers ∙ g.answers) in
    let rest : p ∷ ys ≡ q ∷ zs = both.1 in (cc, cc)

-- ---- single words

scalar_word_same : (k : Scalar) (w v : ℕ) (t : Tree) → w < 2 ^ 64 → v < 2 ^ 64 → IsScalarWord k w t → IsScalarWord k v t → w ≡ v
scalar_word_same bool w v t few less (h, l) (g, m) =
    let same = scalar_same bool (w % 2 ^ 32) (v % 2 ^ 32) t (omega (arith, l)) (omega (arith, m)) (omega (arith, l)) (omega (arith, m)) h g in omega (arith, l, m, same)
scalar_word_same s8 w v t few less (h, l) (g, m) = l ∙ ap (λ n. cast_unsigned w32 (cast_signed w8 n)) (scalar_same s8 (w % 2 ^ 8) (v % 2 ^ 8) t (omega arith) (omega arith) tt tt h g) ∙ sym m
scalar_word_same u8 w v t few less (h, l) (g, m) = let same = scalar_same u8 (w % 2 ^ 8) (v % 2 ^ 8) t (omega arith) (omega arith) tt tt h g in omega (arith, l, m, same)
scalar_word_same s16 w v t few less (h, l) (g, m) = l ∙ ap (λ n. cast_unsigned w32 (cast_signed w16 n)) (scalar_same s16 (w % 2 ^ 16) (v % 2 ^ 16) t (omega arith) (omega arith) tt tt h g) ∙ sym m
scalar_word_same u16 w v t few less (h, l) (g, m) = let same = scalar_same u16 (w % 2 ^ 16) (v % 2 ^ 16) t (omega arith) (omega arith) tt tt h g in omega (arith, l, m, same)
scalar_word_same s32 w v t few less (h, l) (g, m) = let same = scalar_same s32 (w % 2 ^ 32) (v % 2 ^ 32) t (omega arith) (omega arith) tt tt h g in omega (arith, l, m, same)
scalar_word_same u32 w v t few less (h, l) (g, m) = let same = scalar_same u32 (w % 2 ^ 32) (v % 2 ^ 32) t (omega arith) (omega arith) tt tt h g in omega (arith, l, m, same)
scalar_word_same s64 w v t few less (h, l) (g, m) = let same = scalar_same s64 (w % 2 ^ 64) (v % 2 ^ 64) t (omega arith) (omega arith) tt tt h g in omega (arith, few, less, same)
scalar_word_same u64 w v t few less (h, l) (g, m) = let same = scalar_same u64 (w % 2 ^ 64) (v % 2 ^ 64) t (omega arith) (omega arith) tt tt h g in omega (arith, few, less, same)
scalar_word_same f32 w v t few less (h, l) (g, m) = let same = scalar_same f32 (w % 2 ^ 32) (v % 2 ^ 32) t (omega arith) (omega arith) tt tt h g in omega (arith, l, m, same)
scalar_word_same f64 w v t few less (h, l) (g, m) = let same = scalar_same f64 (w % 2 ^ 64) (v % 2 ^ 64) t (omega arith) (omega arith) tt tt h g in omega (arith, few, less, same)
scalar_word_same char w v t few less (h, l) (g, m) = let same = scalar_same char (w % 2 ^ 32) (v % 2 ^ 32) t (omega arith) (omega arith) tt tt h g in omega (arith, l, m, same)

handle_word_same : (w v : ℕ) (t : Tree) → IsHandleWord w t → IsHandleWord v t → w ≡ v
handle_word_same w v t (h, l) (g, m) = let same : low w ≡ low v = ap handle_of (sym h ∙ g) in omega (arith, l, m, same)

-- a text's length with its tag, by its scalars
tagged_same : (n m : ℕ) → is_tagged n ≡ is_tagged m → text_bytes compact n ≡ text_bytes compact m → n ≡ m
tagged_same n m tag e = ⊎_elim
    (λ l. ⊎_elim (λ k. sym (plain n l) ∙ e ∙ plain m k) (λ k. absurd (false≢true (sym (short n l) ∙ tag ∙ long m k))) (cases_lt m (2 ^ 31)))
    (λ l. ⊎_elim (λ k. absurd (false≢true (sym (short m k) ∙ sym tag ∙ long n l))) (λ k. omega (arith, sym (wide n l) ∙ e ∙ wide m k, l, k)) (cases_lt m (2 ^ 31)))
    (cases_lt n (2 ^ 31))
  where
    short : (n : ℕ) → n < 2 ^ 31 → is_tagged n ≡ false
    short n l = ap not (lt-ltb n (2 ^ 31) l)

    long : (n : ℕ) → 2 ^ 31 ≤ n → is_tagged n ≡ true
    long n l = ap not (le-ltb n (2 ^ 31) l)

    plain : (n : ℕ) → n < 2 ^ 31 → text_bytes compact n ≡ n
    plain n l = cond-false (is_tagged n) (2 * (n - 2 ^ 31)) n (short n l)

    wide : (n : ℕ) → 2 ^ 31 ≤ n → text_bytes compact n ≡ 2 * (n - 2 ^ 31)
    wide n l = cond-true (is_tagged n) (2 * (n - 2 ^ 31)) n (long n l)

pub text_count_same : (enc : Encoding) (n m : ℕ) (cs : List ℕ) → IsLeastTag enc n cs → IsLeastTag enc m cs → length (spelling (text_form enc n) cs) ≡ text_bytes enc n → length (spelling (text_form enc m) cs) ≡ text_bytes enc m → n ≡ m
text_count_same utf8 n m cs a b h g = sym h ∙ g
text_count_same utf16 n m cs a b h g = omega (arith, h, g)
text_count_same compact n m cs a b h g =
    let tag : is_tagged n ≡ is_tagged m = a ∙ sym b in
    tagged_same n m tag (sym h ∙ ap (λ x. length (spelling (if x then in_utf16 else in_latin1) cs)) tag ∙ g)

pub text_length_same : (enc : Encoding) (n m : ℕ) (t u : Tree) → scalars_of u ≡ scalars_of t → IsTextLength enc n t → IsTextLength enc m u → n ≡ m
text_length_same enc n m t u e h g = text_count_same enc n m (scalars_of t) h.least (subst (IsLeastTag enc m) e g.least)
    (ap length h.spelled.is ∙ h.count) (ap (λ l. length (spelling (text_form enc m) l)) (sym e) ∙ ap length g.spelled.is ∙ g.count)

-- ---- words

one_word : (ws vs : List ℕ) (i j : ℕ) → slice_index ws i ≡ slice_index vs j → SameWords ws i vs j 1
one_word ws vs i j e p q l u pe = ap (slice_index ws) (omega arith) ∙ e ∙ ap (slice_index vs) (omega arith)

joined : (ws vs : List ℕ) (i j m n : ℕ) → SameWords ws i vs j m → SameWords ws (i + m) vs (j + m) n → SameWords ws i vs j (m + n)
joined ws vs i j m n h g p q l u pe = ⊎_elim (λ lt. h p q l lt pe) (λ ge. g p q ge (omega arith) (omega arith)) (cases_lt p (i + m))

two_words : (ws vs : List ℕ) (i j : ℕ) → slice_index ws i ≡ slice_index vs j → slice_index ws (i + 1) ≡ slice_index vs (j + 1) → SameWords ws i vs j 2
two_words ws vs i j e f = joined ws vs i j 1 1 (one_word ws vs i j e) (one_word ws vs (i + 1) (j + 1) f)

no_words : (ws vs : List ℕ) (i j : ℕ) → SameWords ws i vs j 0
no_words ws vs i j p q l u pe = absurd (omega arith)

zero_words : (ws vs : List ℕ) (i j m n : ℕ) → AreZero ws (i + m) (i + n) → AreZero vs (j + m) (j + n) → SameWords ws i vs j m → SameWords ws i vs j n
zero_words ws vs i j m n z y h p q l u pe = ⊎_elim (λ lt. h p q l lt pe) (λ ge. omega (arith, z p ge u, y q (omega arith) (omega arith))) (cases_lt p (i + m))

-- words below 2 ^ 32 are the digits of their number
digits_same : (ws vs : List ℕ) (i j n : ℕ) → AreBelow (2 ^ 32) ws i (i + n) → AreBelow (2 ^ 32) vs j (j + n) → low_number ws i n ≡ low_number vs j n → SameWords ws i vs j n
digits_same ws vs i j zero h g e = no_words ws vs i j
digits_same ws vs i j (suc n) h g e =
    let a = h i (omega arith) (omega arith) in
    let b = g j (omega arith) (omega arith) in
    let first : slice_index ws i ≡ slice_index vs j = omega (arith, a, b, e) in
    let rest : low_number ws (i + 1) n ≡ low_number vs (j + 1) n = omega (arith, a, b, e) in
    let more = digits_same ws vs (i + 1) (j + 1) n (λ p l u. h p (omega arith) (omega arith)) (λ p l u. g p (omega arith) (omega arith)) rest in
    let length : 1 + n ≡ suc n = omega arith in
    subst (SameWords ws i vs j) length (joined ws vs i j 1 n (one_word ws vs i j first) more)

flag_words_same : (ws vs : List ℕ) (i j n : ℕ) (t : Tree) → AreFlagWords ws i n t → AreFlagWords vs j n t → SameWords ws i vs j (flag_words n)
flag_words_same ws vs i j n t (h, hb, hn) (g, gb, gn) =
    digits_same ws vs i j (flag_words n) hb gb (bits_same n (low_number ws i (flag_words n)) (low_number vs j (flag_words n)) hn gn (ap bits_in (sym h ∙ g)))

each_word_same : (ws vs : List ℕ) (F : Tree → Type 0) (H G : ℕ → Tree → List ℕ → List ℕ → Type 0) (k : ℕ)
    → ((i j : ℕ) (u : Tree) (xs ys zs : List ℕ) → F u → H i u xs ys → G j u xs zs → (ys ≡ zs) × SameWords ws i vs j k)
    → (i j : ℕ) (ts : Trees) (xs ys zs : List ℕ) → AllTrees F ts → EachHome H k i ts xs ys → EachHome G k j ts xs zs → (ys ≡ zs) × SameWords ws i vs j (tree_count ts * k)
each_word_same ws vs F H G k one i j no_trees xs ys zs f h g = let none : 0 ≡ 0 * k = sym (zero-mul k) in (sym h ∙ g, subst (SameWords ws i vs j) none (no_words ws vs i j))
each_word_same ws vs F H G k one i j (tree t ts) xs ys zs f (us, h, hs) (qs, g, gs) =
    let first = one i j t xs us qs f.0 h g in
    let rest = each_word_same ws vs F H G k one (i + k) (j + k) ts us ys zs f.1 hs (subst (λ l. EachHome G k (j + k) ts l zs) (sym first.0) gs) in
    let length : k + tree_count ts * k ≡ suc (tree_count ts) * k = omega (arith, suc-mul (tree_count ts) k) in
    (rest.0, subst (SameWords ws i vs j) length (joined ws vs i j k (tree_count ts * k) first.1 rest.1))

module _ (texts : Texts) (one_length : (n m : ℕ) (t : Tree) → texts.Long n t → texts.Long m t → n ≡ m) (P Q : ℕ → ℕ → Type 0) (wide : Bool) (ws vs : List ℕ) (few : AreWords ws) (less : AreWords vs) where
  mutual
    unfolding flat

    pub words_same : (s : Shape) (i j : ℕ) (t : Tree) (xs ys zs : List ℕ) → Fits s t → FlatHomes P texts wide ws s i t xs ys → FlatHomes Q texts wide vs s j t xs zs → (ys ≡ zs) × SameWords ws i vs j (flat s)
    words_same (scalar k) i j t xs ys zs f (h, e) (g, d) = (sym e ∙ d, one_word ws vs i j (scalar_word_same k _ _ t (few i) (less j) h g))
    words_same string i j t xs ys zs f (h, e) (g, d) =
        let both = text_home_same texts.asks t _ _ xs ys zs e d in
        (both.1, two_words ws vs i j both.0 (one_length _ _ t h g))
    words_same (own r) i j t xs ys zs f (h, e) (g, d) = (sym e ∙ d, one_word ws vs i j (handle_word_same _ _ t h g))
    words_same (borrow r) i j t xs ys zs f (h, e) (g, d) = (sym e ∙ d, one_word ws vs i j (handle_word_same _ _ t h g))
    words_same (list k s) i j t xs ys zs f (us, e, n, h) (qs, d, m, g) =
        let both : slice_index ws i ∷ us ≡ slice_index vs j ∷ qs = sym e ∙ d in
        let first : slice_index ws i ≡ slice_index vs j = cc in
        let rest : us ≡ qs = cc in (
          each_home_same P Q texts wide s (size wide s) (slice_index ws i) (slice_index vs j) (trees_of t) us ys zs h
              (subst (λ l. EachHome (Homes Q texts wide s) (size wide s) (slice_index vs j) (trees_of t) l zs) (sym rest) g),
          two_words ws vs i j first (n ∙ sym m),
        )
    words_same (fixed n s) i j t xs ys zs (count, f) h g =
        let both = each_word_same ws vs (Fits s) (FlatHomes P texts wide ws s) (FlatHomes Q texts wide vs s) (flat s) (λ i j u xs ys zs f h g. words_same s i j u xs ys zs f h g) i j (trees_of t) xs ys zs f h g in
        (both.0, subst (λ c. SameWords ws i vs j (c * flat s)) count both.1)
    words_same (product k ms) i j t xs ys zs f h g = members_words_same ms i j (trees_of t) xs ys zs f h g
    words_same (variant k cs) i j t xs ys zs f (e, h) (d, g) =
        let rest = case_words_same cs (case_number t) (i + 1) (j + 1) (cases_flat cs) (payload_of t) xs ys zs f h g in
        (rest.0, joined ws vs i j 1 (cases_flat cs) (one_word ws vs i j (e ∙ sym d)) rest.1)
    words_same (flags names) i j t xs ys zs f (h, e) (g, d) = (sym e ∙ d, flag_words_same ws vs i j (length names) t h g)

    pub members_words_same : (ms : Members) (i j : ℕ) (ts : Trees) (xs ys zs : List ℕ) → MembersFit ms ts → MembersFlatHome P texts wide ws ms i ts xs ys → MembersFlatHome Q texts wide vs ms j ts xs zs
        → (ys ≡ zs) × SameWords ws i vs j (members_flat ms)
    members_words_same no_members i j ts xs ys zs f h g = (sym h ∙ g, no_words ws vs i j)
    members_words_same (member name s ms) i j no_trees xs ys zs f h g = absurd f
    members_words_same (member name s ms) i j (tree t ts) xs ys zs f (us, h, hs) (qs, g, gs) =
        let first = words_same s i j t xs us qs f.0 h g in
        let rest = members_words_same ms (i + flat s) (j + flat s) ts us ys zs f.1 hs (subst (λ l. MembersFlatHome Q texts wide vs ms (j + flat s) ts l zs) (sym first.0) gs) in
        (rest.0, joined ws vs i j (flat s) (members_flat ms) first.1 rest.1)

    case_words_same : (cs : Cases) (c i j n : ℕ) (u : Tree) (xs ys zs : List ℕ) → CaseFits cs c u → CaseFlatHome P texts wide ws cs c i (i + n) u xs ys → CaseFlatHome Q texts wide vs cs c j (j + n) u xs zs
        → (ys ≡ zs) × SameWords ws i vs j n
    case_words_same no_cases c i j n u xs ys zs f h g = absurd f
    case_words_same (bare name cs) zero i j n u xs ys zs f (h, e) (g, d) =
        (sym e ∙ d, zero_words ws vs i j 0 n (λ p l. h p (omega arith)) (λ p l. g p (omega arith)) (no_words ws vs i j))
    case_words_same (bare name cs) (suc c) i j n u xs ys zs f h g = case_words_same cs c i j n u xs ys zs f h g
    case_words_same (payload name s cs) zero i j n u xs ys zs f (z, h) (y, g) =
        let inner = words_same s i j u xs ys zs f h g in
        (inner.0, zero_words ws vs i j (flat s) n z y inner.1)
    case_words_same (payload name s cs) (suc c) i j n u xs ys zs f h g = case_words_same cs c i j n u xs ys zs f h g

  pub params_same : (ms : Members) (ts : Trees) (xs ys zs : List ℕ) → MembersFit ms ts → ParamsHome P texts wide ws ms ts xs ys → ParamsHome Q texts wide vs ms ts xs zs
      → (ys ≡ zs) × SameWords ws 0 vs 0 (if nat_le (members_flat ms) max_params then members_flat ms else 1)
  params_same ms ts xs ys zs f h g = ⊎_elim
      (λ l.
      let (us, e, hs) = h.far l in
      let (qs, d, gs) = g.far l in
      let both : slice_index ws 0 ∷ us ≡ slice_index vs 0 ∷ qs = sym e ∙ d in
      let first : slice_index ws 0 ≡ slice_index vs 0 = cc in
      let rest : us ≡ qs = cc in (
        members_home_same P Q texts wide ms 0 0 _ _ ts us ys zs hs (subst (λ k. MembersHome Q texts wide ms 0 (slice_index vs 0) ts k zs) (sym rest) gs),
        subst (SameWords ws 0 vs 0) (sym (cond-false (nat_le (members_flat ms) max_params) (members_flat ms) 1 (lt-leb (members_flat ms) max_params l))) (one_word ws vs 0 0 first),
      ))
      (λ l.
      let near = members_words_same ms 0 0 ts xs ys zs f (h.near l) (g.near l) in
      (near.0, subst (SameWords ws 0 vs 0) (sym (cond-true (nat_le (members_flat ms) max_params) (members_flat ms) 1 (le-leb _ _ l))) near.1))
      (cases_lt max_params (members_flat ms))

-- ---- what represents a tree says that it fits

module _ (r : ℕ → ℕ → Type 0) (strict : Bool) (enc : Encoding) (m : Memory) (ws : List ℕ) where
  each_fit : (P : ℕ → Tree → Type 0) (F : Tree → Type 0) → ((j : ℕ) (u : Tree) → P j u → F u) → (step a : ℕ) (ts : Trees) → EachAt P step a ts → AllTrees F ts
  each_fit P F one step a no_trees h = tt
  each_fit P F one step a (tree t ts) h = (one a t h.0, each_fit P F one step (a + step) ts h.1)

  mutual
    pub words_fit : (s : Shape) (i : ℕ) (t : Tree) → Flat r strict enc m ws s i t → Fits s t
    words_fit (scalar k) i t h = tt
    words_fit string i t h = tt
    words_fit (own q) i t h = tt
    words_fit (borrow q) i t h = tt
    words_fit (list k s) i t h = tt
    words_fit (fixed n s) i t h =
        subst (Fits (fixed n s)) (sym h.is) (h.count, each_fit (Flat r strict enc m ws s) (Fits s) (λ j u g. words_fit s j u g) (flat s) i h.trees h.each)
    words_fit (product k ms) i t (ts, e, h) = subst (Fits (product k ms)) (sym e) (members_words_fit ms i ts h)
    words_fit (variant k cs) i t h = let c = case_words_fit cs _ _ _ _ t h.0 in subst (λ d. CaseFits cs d (payload_of t)) (sym c.0) c.1
    words_fit (flags names) i t h = tt

    pub members_words_fit : (ms : Members) (i : ℕ) (ts : Trees) → MembersFlat r strict enc m ws ms i ts → MembersFit ms ts
    members_words_fit no_members i ts h = tt
    members_words_fit (member name s ms) i ts (t, rest, e, h, hs) = subst (MembersFit (member name s ms)) (sym e) (words_fit s i t h, members_words_fit ms (i + flat s) rest hs)

    case_words_fit : (cs : Cases) (c d j e : ℕ) (t : Tree) → CaseFlat r strict enc m ws cs c d j e t → (case_number t ≡ d) × CaseFits cs c (payload_of t)
    case_words_fit no_cases c d j e t h = absurd h
    case_words_fit (bare name cs) zero d j e t h = (ap case_number h.0, tt)
    case_words_fit (bare name cs) (suc c) d j e t h = case_words_fit cs c d j e t h
    case_words_fit (payload name s cs) zero d j e t (u, is, h, z) = (ap case_number is, subst (Fits s) (sym (ap payload_of is)) (words_fit s j u h))
    case_words_fit (payload name s cs) (suc c) d j e t h = case_words_fit cs c d j e t h

determined : (texts : Texts) → ((n m : ℕ) (t : Tree) → texts.Long n t → texts.Long m t → n ≡ m) → AreDetermined texts
determined texts one = record {
  memory = λ wide s a b t xs ys zs h g. homes_same AnyPointer AnyPointer texts wide s a b t xs ys zs h g;
  flat = λ wide ws vs s i j t xs ys zs few less f h g. words_same texts one AnyPointer AnyPointer wide ws vs few less s i j t xs ys zs f h g;
  params = λ wide ws vs ms ts xs ys zs few less f h g. params_same texts one AnyPointer AnyPointer wide ws vs few less ms ts xs ys zs f h g;
}

pub homes_determine : HomesDetermine
homes_determine = record {
  host = λ enc. determined (host_texts enc) (λ n m t h g. text_length_same enc n m t t refl h g);
  carried = λ from to. determined (carried_texts from to) (λ n m t h g. text_length_same to n m (text (scalars_of t) (text_bytes to n)) (text (scalars_of t) (text_bytes to m)) refl h g);
}
