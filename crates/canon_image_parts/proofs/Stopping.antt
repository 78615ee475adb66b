-- Reading stops nowhere in an image, and otherwise at one place and in one way.
use Rattle.std.proofs.Common.{IsTrue, List, [], append_assoc, ap, arith, inl, inr, length, refl, subst, suc, sym, take, zero, ℕ, ◌++◌, ◌<◌, ◌^◌, ◌∙◌, ◌∷◌, ◌≡◌}
use Rattle.std.specs.Bool.{⊤}
use Rattle.std.specs.Str.{all_scalars, encode_utf8_all}
use Rattle.canon_model.proofs.Images.{image_front}
use Rattle.canon_model.specs.Image.{CaseImage, EachImage, Image, IsField, MembersImage}
use Rattle.canon_model.specs.Layout.{flags_size, scalar_size, tag_size}
use Rattle.canon_model.specs.Shape.{Cases, Members, Shape, bare, borrow, case_count, fixed, flags, list, member, no_cases, no_members, own, payload, product, scalar, string, variant}
use Rattle.canon_model.specs.Tree.{Tree, Trees, no_trees, tree, tree_count}
use Rattle.canon_model.proofs.ImageFields.{field_length, field_once, field_then, length-join}
use Rattle.canon_image_parts.specs.Laws.{StopsOnce}
use Rattle.canon_image_parts.specs.Stops.{CaseStops, FirstStops, IsSpelling, MembersStop, NumberStops, RowStops, Stop, StopsAt, TextStops, malformed, truncated}

-- ---- one field

number_good : (k : ℕ) (Good : ℕ → Type 0) (n : ℕ) (bs rest : List ℕ) (how : Stop) → IsField k n bs rest → Good n → ¬ NumberStops k Good bs how
number_good k Good n bs rest truncated f good h = omega (arith, h, field_length k n bs rest f)
number_good k Good n bs rest malformed f good (m, end, g, bad) = bad (subst Good (field_once k n m bs rest end f g).0 good)

number_once : (k : ℕ) (Good : ℕ → Type 0) (bs : List ℕ) (how other : Stop) → NumberStops k Good bs how → NumberStops k Good bs other → how ≡ other
number_once k Good bs truncated truncated h g = refl
number_once k Good bs truncated malformed h (n, rest, f, bad) = absurd (omega (arith, h, field_length k n bs rest f))
number_once k Good bs malformed truncated (n, rest, f, bad) g = absurd (omega (arith, g, field_length k n bs rest f))
number_once k Good bs malformed malformed h g = refl

text_once : (n : ℕ) (bs : List ℕ) (how other : Stop) → TextStops n bs how → TextStops n bs other → how ≡ other
text_once n bs truncated truncated h g = refl
text_once n bs truncated malformed h (enough, bad) = absurd (omega (arith, h, enough))
text_once n bs malformed truncated (enough, bad) g = absurd (omega (arith, g, enough))
text_once n bs malformed malformed h g = refl

take_front : (xs ys : List ℕ) → take (length xs) (xs ++ ys) ≡ xs
take_front [] ys = refl
take_front (x ∷ xs) ys = ap (λ l. x ∷ l) (take_front xs ys)

text_good : (cs rest : List ℕ) (how : Stop) → IsTrue (all_scalars cs) → ¬ TextStops (length (encode_utf8_all cs)) (encode_utf8_all cs ++ rest) how
text_good cs rest truncated all h = omega (arith, h, length-join (encode_utf8_all cs) rest)
text_good cs rest malformed all (enough, bad) = bad cs all (take_front (encode_utf8_all cs) rest)

-- ---- a first field

first_good : (k : ℕ) (Good : ℕ → Type 0) (After : ℕ → List ℕ → ℕ → Stop → Type 0) (n : ℕ) (bs rest : List ℕ) (p : ℕ) (how : Stop) → IsField k n bs rest → Good n → ((j : ℕ) → ¬ After n rest j how)
    → ¬ FirstStops k Good After bs p how
first_good k Good After n bs rest p how f good after (inl (e, h)) = number_good k Good n bs rest how f good h
first_good k Good After n bs rest p how f good after (inr (m, end, j, g, e, h)) =
    let same = field_once k n m bs rest end f g in
    after j (subst (λ x. After x rest j how) (sym same.0) (subst (λ l. After m l j how) (sym same.1) h))

first_once : (k : ℕ) (Good : ℕ → Type 0) (After : ℕ → List ℕ → ℕ → Stop → Type 0) → ((n : ℕ) (rest : List ℕ) (j : ℕ) (h : Stop) → After n rest j h → Good n)
    → ((n : ℕ) (rest : List ℕ) (i j : ℕ) (h g : Stop) → After n rest i h → After n rest j g → (i ≡ j) × (h ≡ g))
    → (bs : List ℕ) (p q : ℕ) (how other : Stop) → FirstStops k Good After bs p how → FirstStops k Good After bs q other → (p ≡ q) × (how ≡ other)
first_once k Good After good once bs p q how other (inl (e, h)) (inl (f, g)) = (e ∙ sym f, number_once k Good bs how other h g)
first_once k Good After good once bs p q how other (inl (e, h)) (inr (m, rest, j, g, f, a)) = absurd (number_good k Good m bs rest how g (good m rest j other a) h)
first_once k Good After good once bs p q how other (inr (n, rest, i, h, e, a)) (inl (f, g)) = absurd (number_good k Good n bs rest other h (good n rest i how a) g)
first_once k Good After good once bs p q how other (inr (n, rest, i, h, e, a)) (inr (m, end, j, g, f, b)) =
    let same = field_once k n m bs rest end h g in
    let r = once n rest i j how other a (subst (λ x. After x rest j other) (sym same.0) (subst (λ l. After m l j other) (sym same.1) b)) in
    (omega (arith, e, f, r.0), r.1)

-- ---- after an image

after_same : (s : Shape) (t u : Tree) (bs xs ys p q : List ℕ) → Image s t xs → Image s u ys → bs ≡ xs ++ p → bs ≡ ys ++ q → (length xs ≡ length ys) × (p ≡ q)
after_same s t u bs xs ys p q h g e f =
    let r = (image_front s t u xs ys p q h g (sym e ∙ f)).1 in
    (omega (arith, ap length e, ap length f, ap length r, length-join xs p, length-join ys q), r)

module _ (s : Shape) where
  -- the images of a row, of which each stops nowhere
  row_good : ((t : Tree) (bs xs rest : List ℕ) (p : ℕ) (how : Stop) → bs ≡ xs ++ rest → Image s t xs → ¬ StopsAt s bs p how)
      → (ts : Trees) (n : ℕ) (bs xs rest : List ℕ) (p : ℕ) (how : Stop) → tree_count ts ≡ n → bs ≡ xs ++ rest → EachImage (λ t l. Image s t l) ts xs → ¬ RowStops (λ t l. Image s t l) (λ l i g. StopsAt s l i g) n bs p how
  row_good apart ts zero bs xs rest p how c e h f = absurd f
  row_good apart no_trees (suc n) bs xs rest p how c e h f = absurd (omega (arith, c))
  row_good apart (tree t ts) (suc n) bs xs rest p how c e (x1, x2, xe, h, hs) (inl f) = apart t bs x1 (x2 ++ rest) p how (e ∙ ap (λ l. l ++ rest) xe ∙ append_assoc x1 x2 rest) h f
  row_good apart (tree t ts) (suc n) bs xs rest p how c e (x1, x2, xe, h, hs) (inr (u, ys, end, j, be, g, pe, f)) =
      let same = after_same s t u bs x1 ys (x2 ++ rest) end h g (e ∙ ap (λ l. l ++ rest) xe ∙ append_assoc x1 x2 rest) be in
      row_good apart ts n end x2 rest j how (omega (arith, c)) (sym same.1) hs f

  row_once : ((t : Tree) (bs xs rest : List ℕ) (p : ℕ) (how : Stop) → bs ≡ xs ++ rest → Image s t xs → ¬ StopsAt s bs p how)
      → ((bs : List ℕ) (p q : ℕ) (how other : Stop) → StopsAt s bs p how → StopsAt s bs q other → (p ≡ q) × (how ≡ other))
      → (n : ℕ) (bs : List ℕ) (p q : ℕ) (how other : Stop) → RowStops (λ t l. Image s t l) (λ l i g. StopsAt s l i g) n bs p how → RowStops (λ t l. Image s t l) (λ l i g. StopsAt s l i g) n bs q other → (p ≡ q) × (how ≡ other)
  row_once apart once zero bs p q how other f g = absurd f
  row_once apart once (suc n) bs p q how other (inl f) (inl g) = once bs p q how other f g
  row_once apart once (suc n) bs p q how other (inl f) (inr (u, ys, end, j, be, h, pe, g)) = absurd (apart u bs ys end p how be h f)
  row_once apart once (suc n) bs p q how other (inr (u, ys, end, j, be, h, pe, f)) (inl g) = absurd (apart u bs ys end q other be h g)
  row_once apart once (suc n) bs p q how other (inr (t, xs, rest, i, ae, h, pe, f)) (inr (u, ys, end, j, be, g, qe, k)) =
      let same = after_same s t u bs xs ys rest end h g ae be in
      let r = row_once apart once n rest i j how other f (subst (λ l. RowStops (λ t l. Image s t l) (λ l i g. StopsAt s l i g) n l j other) (sym same.1) k) in
      (omega (arith, pe, qe, same.0, r.0), r.1)

case_inside : (cs : Cases) (d : ℕ) (bs : List ℕ) (p : ℕ) (how : Stop) → CaseStops cs d bs p how → d < case_count cs
case_inside no_cases d bs p how h = absurd h
case_inside (bare name cs) zero bs p how h = absurd h
case_inside (bare name cs) (suc d) bs p how h = omega (arith, case_inside cs d bs p how h)
case_inside (payload name s cs) zero bs p how h = omega arith
case_inside (payload name s cs) (suc d) bs p how h = omega (arith, case_inside cs d bs p how h)

image_inside : (cs : Cases) (i d : ℕ) (t : Tree) (bs : List ℕ) → CaseImage cs i d t bs → i < case_count cs
image_inside no_cases i d t bs h = absurd h
image_inside (bare name cs) zero d t bs h = omega arith
image_inside (bare name cs) (suc i) d t bs h = omega (arith, image_inside cs i d t bs h)
image_inside (payload name s cs) zero d t bs h = omega arith
image_inside (payload name s cs) (suc i) d t bs h = omega (arith, image_inside cs i d t bs h)

mutual
  pub image_good : (s : Shape) (t : Tree) (bs xs rest : List ℕ) (p : ℕ) (how : Stop) → bs ≡ xs ++ rest → Image s t xs → ¬ StopsAt s bs p how
  image_good (scalar k) t bs xs rest p how e (n, f, h, l) (pe, g) =
      number_good (scalar_size k) (IsSpelling k) n (xs ++ rest) ([] ++ rest) how (field_then (scalar_size k) n xs [] rest f) (t, h, l) (subst (λ b. NumberStops (scalar_size k) (IsSpelling k) b how) e g)
  image_good string t bs xs rest p how e (cs, n, h, hc, f) g =
      first_good 8 (λ i. ⊤) (λ i l j w. (j ≡ 0) × TextStops i l w) (length (encode_utf8_all cs)) (xs ++ rest) (encode_utf8_all cs ++ rest) p how (field_then 8 (length (encode_utf8_all cs)) xs (encode_utf8_all cs) rest f) tt
      (λ j a. text_good cs rest how hc a.1) (subst (λ b. StopsAt string b p how) e g)
  image_good (own r) t bs xs rest p how e h g = h
  image_good (borrow r) t bs xs rest p how e h g = h
  image_good (list k s) t bs xs rest p how e (ts, inner, h, f, hs) g =
      first_good 8 (λ i. ⊤) (λ i l j w. RowStops (λ u m. Image s u m) (λ m q v. StopsAt s m q v) i l j w) (tree_count ts) (xs ++ rest) (inner ++ rest) p how (field_then 8 (tree_count ts) xs inner rest f) tt
      (λ j a. row_good s (λ u b l m q w e h g. image_good s u b l m q w e h g) ts (tree_count ts) (inner ++ rest) inner rest j how refl refl hs a) (subst (λ b. StopsAt (list k s) b p how) e g)
  image_good (fixed n s) t bs xs rest p how e (ts, h, hc, hs) g = row_good s (λ u b l m q w e h g. image_good s u b l m q w e h g) ts n bs xs rest p how hc e hs g
  image_good (product k ms) t bs xs rest p how e (ts, h, hs) g = members_good ms ts bs xs rest p how e hs g
  image_good (variant k cs) t bs xs rest p how e (d, inner, f, h) g =
      first_good (tag_size (case_count cs)) (λ i. i < case_count cs) (λ i l j w. CaseStops cs i l j w) d (xs ++ rest) (inner ++ rest) p how (field_then (tag_size (case_count cs)) d xs inner rest f) (image_inside cs d d t inner h)
      (λ j a. case_good cs d d t (inner ++ rest) inner rest j how refl h a) (subst (λ b. StopsAt (variant k cs) b p how) e g)
  image_good (flags names) t bs xs rest p how e (n, l, h, f) (pe, g) =
      number_good (flags_size (length names)) (λ i. i < 2 ^ length names) n (xs ++ rest) ([] ++ rest) how (field_then (flags_size (length names)) n xs [] rest f) l
      (subst (λ b. NumberStops (flags_size (length names)) (λ i. i < 2 ^ length names) b how) e g)

  members_good : (ms : Members) (ts : Trees) (bs xs rest : List ℕ) (p : ℕ) (how : Stop) → bs ≡ xs ++ rest → MembersImage ms ts xs → ¬ MembersStop ms bs p how
  members_good no_members ts bs xs rest p how e h g = g
  members_good (member name s ms) ts bs xs rest p how e (t, ts2, x1, x2, te, xe, h, hs) (inl g) = image_good s t bs x1 (x2 ++ rest) p how (e ∙ ap (λ l. l ++ rest) xe ∙ append_assoc x1 x2 rest) h g
  members_good (member name s ms) ts bs xs rest p how e (t, ts2, x1, x2, te, xe, h, hs) (inr (u, ys, end, j, be, f, pe, g)) =
      let same = after_same s t u bs x1 ys (x2 ++ rest) end h f (e ∙ ap (λ l. l ++ rest) xe ∙ append_assoc x1 x2 rest) be in
      members_good ms ts2 end x2 rest j how (sym same.1) hs g

  case_good : (cs : Cases) (i d : ℕ) (t : Tree) (bs xs rest : List ℕ) (p : ℕ) (how : Stop) → bs ≡ xs ++ rest → CaseImage cs i d t xs → ¬ CaseStops cs i bs p how
  case_good no_cases i d t bs xs rest p how e h g = h
  case_good (bare name cs) zero d t bs xs rest p how e h g = g
  case_good (bare name cs) (suc i) d t bs xs rest p how e h g = case_good cs i d t bs xs rest p how e h g
  case_good (payload name s cs) zero d t bs xs rest p how e (u, te, h) g = image_good s u bs xs rest p how e h g
  case_good (payload name s cs) (suc i) d t bs xs rest p how e h g = case_good cs i d t bs xs rest p how e h g

mutual
  pub stops_at_one : (s : Shape) (bs : List ℕ) (p q : ℕ) (how other : Stop) → StopsAt s bs p how → StopsAt s bs q other → (p ≡ q) × (how ≡ other)
  stops_at_one (scalar k) bs p q how other (e, h) (f, g) = (e ∙ sym f, number_once (scalar_size k) (IsSpelling k) bs how other h g)
  stops_at_one string bs p q how other h g =
      first_once 8 (λ n. ⊤) (λ n rest j w. (j ≡ 0) × TextStops n rest w) (λ n rest j w a. tt) (λ n rest i j w v a b. (a.0 ∙ sym b.0, text_once n rest w v a.1 b.1)) bs p q how other h g
  stops_at_one (own r) bs p q how other h g = absurd h
  stops_at_one (borrow r) bs p q how other h g = absurd h
  stops_at_one (list k s) bs p q how other h g =
      first_once 8 (λ n. ⊤) (λ n rest j w. RowStops (λ t xs. Image s t xs) (λ xs i v. StopsAt s xs i v) n rest j w) (λ n rest j w a. tt)
      (λ n rest i j w v a b. row_once s (λ t l m r x y e h f. image_good s t l m r x y e h f) (λ l x y w v h g. stops_at_one s l x y w v h g) n rest i j w v a b) bs p q how other h g
  stops_at_one (fixed n s) bs p q how other h g = row_once s (λ t l m r x y e h f. image_good s t l m r x y e h f) (λ l x y w v h g. stops_at_one s l x y w v h g) n bs p q how other h g
  stops_at_one (product k ms) bs p q how other h g = members_once ms bs p q how other h g
  stops_at_one (variant k cs) bs p q how other h g =
      first_once (tag_size (case_count cs)) (λ d. d < case_count cs) (λ d rest j w. CaseStops cs d rest j w) (λ d rest j w a. case_inside cs d rest j w a) (λ d rest i j w v a b. case_once cs d rest i j w v a b) bs p q how other h g
  stops_at_one (flags names) bs p q how other (e, h) (f, g) = (e ∙ sym f, number_once (flags_size (length names)) (λ i. i < 2 ^ length names) bs how other h g)

  members_once : (ms : Members) (bs : List ℕ) (p q : ℕ) (how other : Stop) → MembersStop ms bs p how → MembersStop ms bs q other → (p ≡ q) × (how ≡ other)
  members_once no_members bs p q how other h g = absurd h
  members_once (member name s ms) bs p q how other (inl h) (inl g) = stops_at_one s bs p q how other h g
  members_once (member name s ms) bs p q how other (inl h) (inr (u, ys, end, j, be, f, pe, g)) = absurd (image_good s u bs ys end p how be f h)
  members_once (member name s ms) bs p q how other (inr (u, ys, end, j, be, f, pe, h)) (inl g) = absurd (image_good s u bs ys end q other be f g)
  members_once (member name s ms) bs p q how other (inr (t, xs, rest, i, ae, f, pe, h)) (inr (u, ys, end, j, be, k, qe, g)) =
      let same = after_same s t u bs xs ys rest end f k ae be in
      let r = members_once ms rest i j how other h (subst (λ l. MembersStop ms l j other) (sym same.1) g) in
      (omega (arith, pe, qe, same.0, r.0), r.1)

  case_once : (cs : Cases) (d : ℕ) (bs : List ℕ) (p q : ℕ) (how other : Stop) → CaseStops cs d bs p how → CaseStops cs d bs q other → (p ≡ q) × (how ≡ other)
  case_once no_cases d bs p q how other h g = absurd h
  case_once (bare name cs) zero bs p q how other h g = absurd h
  case_once (bare name cs) (suc d) bs p q how other h g = case_once cs d bs p q how other h g
  case_once (payload name s cs) zero bs p q how other h g = stops_at_one s bs p q how other h g
  case_once (payload name s cs) (suc d) bs p q how other h g = case_once cs d bs p q how other h g

pub stops_once : StopsOnce
stops_once = record {
  whole = λ s t xs rest p how h g. image_good s t (xs ++ rest) xs rest p how refl h g;
  once = stops_at_one;
}
