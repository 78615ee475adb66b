-- The law of `realloc`, and its test.
use Rattle.std.proofs.Common.{◌≡◌, ℕ, zero, suc, append_assoc, get_or, ◌+◌, ◌-◌, ◌<◌, ◌≤◌, min, max, Bool, true, false, not, List, [], ◌∷◌, ◌++◌, drop, length, take, refl, sym, ap, ap₂, subst, ◌∙◌, arith, ◌⊎◌, inl, inr, ⊎_elim, ◌↔◌, IsTrue, eqb-true, eq-eqb, slice_index, slice_index_or}
use Rattle.std.proofs.lemmas.Bool.{and_parts, and_from, both_ways, cond-true, cond-false, ne_eqb, cases_Bool, cases_lt, leb-true, le-leb}
use Rattle.std.proofs.lemmas.List.{get_or-append_right, get_or-drop, get_or-take, get_or_append_left, get_or_past, length-append, length-drop, length-take, take_all}
use Rattle.std.proofs.lemmas.List.Elements.{All-append, Contains-append_cases, Contains-append_left, Contains-append_right, Contains-get_or, filter-append}
use Rattle.std.proofs.lemmas.Grind.{same_number_lists}
use lib.Dec.{leb}
use Rattle.std.specs.Prelude.{nat_eq}
use Rattle.std.specs.Cmp.Lexicographic.{other_text, pointwise, same_text}
use Rattle.std.specs.List.{All, AllWithin, Contains, slice_range}
use Rattle.canon_model.specs.Memory.{Block, InBlocks, Within}
use Rattle.canon_model.specs.Requests.{Call}
use Rattle.canon_model.proofs.Blocks.{in_either, in_left, in_right}
use Rattle.canon_memory.specs.declared.guest.Step.{Step}
use Rattle.canon_memory.specs.declared.guest.Step.TheVariants as step
use Rattle.canon_memory.specs.Guest.{Mark}
use Rattle.canon_memory.specs.Journal.{step_event}
use Rattle.canon_memory.specs.Realloc.{IsTidy, ReallocLaw, block, call, new_block, old_block}
use Rattle.canon_memory.specs.Watch.{BlocksApart, BlockEndsBy, IsExactMark, IsShot, IsSpared, LawHolds, BytesMoved, unless_empty, live_after, other_blocks, relisted, is_block}

-- ---- tests of a block

pub same_yes : (b c : Block) → is_block b c ≡ true → b ≡ c
same_yes b c e = let p = and_parts _ _ e in ap₂ block (eqb-true _ _ p.0) (eqb-true _ _ p.1)

pub same_from : (b c : Block) → b ≡ c → is_block b c ≡ true
same_from b c e = and_from _ _ (eq-eqb _ _ (ap (λ (x : Block). x.start) e)) (eq-eqb _ _ (ap (λ (x : Block). x.size) e))

-- ---- bytes

at_part : (xs ys : List ℕ) (at count k : ℕ) → ys ≡ slice_range xs at (at + count) → k < count → slice_index ys k ≡ slice_index xs (at + k)
at_part xs ys at count k is lt =
    ap (λ (zs : List ℕ). slice_index zs k) is
    ∙ get_or-take (at + count - at) (drop at xs) k 0 (omega (arith, lt))
    ∙ get_or-drop at xs k 0

part_length : (xs ys : List ℕ) (at count : ℕ) → ys ≡ slice_range xs at (at + count) → at + count ≤ length xs → length ys ≡ count
part_length xs ys at count is inside = ap length is ∙ length-take (at + count - at) (drop at xs) ∙ omega (arith, inside, length-drop at xs)

-- parts that lie inside are compared as lists
pub parts_tested : (before after old new : List ℕ) (at to count : ℕ) (r : Bool) → at + count ≤ length before → to + count ≤ length after → old ≡ slice_range before at (at + count) → new ≡ slice_range after to (to + count)
    → r ≡ pointwise nat_eq new old → (IsTrue r ↔ BytesMoved before at after to count)
parts_tested before after old new at to count r inside inside2 eo en told = (
  λ t k lt.
      let same : new ≡ old = same_text new old (sym t ∙ told) in
      sym (at_part after new to count k en lt) ∙ ap (λ (zs : List ℕ). slice_index zs k) same ∙ at_part before old at count k eo lt,
  λ h. ⊎_elim
      (λ yes. yes)
      (λ no. absurd (other_text new old (sym no ∙ told) (same_number_lists new old
      (part_length after new to count en inside2 ∙ sym (part_length before old at count eo inside))
      (λ k lt. let lt2 : k < count = omega (arith, lt, part_length after new to count en inside2) in at_part after new to count k en lt2 ∙ h k lt2 ∙ sym (at_part before old at count k eo lt2)))))
      (cases_Bool r),
)

-- past both ends there are zeros
pub same_past : (before after : List ℕ) (at to seen count : ℕ) → seen ≡ min (max (length before - at) (length after - to)) count → BytesMoved before at after to seen → BytesMoved before at after to count
same_past before after at to seen count is h k lt = ⊎_elim
    (λ (low : k < seen). h k low)
    (λ past. get_or_past after (to + k) 0 (omega (arith, is, past, lt)) ∙ sym (get_or_past before (at + k) 0 (omega (arith, is, past, lt))))
    (cases_lt k seen)

-- ---- apart

pub within : (b : Block) (i : ℕ) → InBlocks (b ∷ []) i → (b.start ≤ i) × (i < b.start + b.size)
within b i h = ⊎_elim (λ p. p) (λ k. absurd k) h

pub apart_tested : (b c : Block) (x y : ℕ) → x ≡ min (b.start + b.size) (c.start + c.size) → y ≡ max b.start c.start → (IsTrue (leb x y) ↔ BlocksApart b c)
apart_tested b c x y ex ey = (
  λ t i p q.
      let le = leb-true x y t in
      let u = within b i p in
      let v = within c i q in
      omega (arith, le, ex, ey, u.0, u.1, v.0, v.1),
  λ h. ⊎_elim
      (λ (lt : y < x). absurd (h y (inl (omega (arith, ey), omega (arith, lt, ex))) (inl (omega (arith, ey), omega (arith, lt, ex)))))
      (λ le. le-leb x y le)
      (cases_lt y x),
)

-- ---- spared

module _ (before after : List ℕ) (old new b : Block) (r : Bool) (other : is_block b old ≡ false) where
  pub spared_then : BlocksApart b new → (IsTrue r ↔ BytesMoved before b.start after b.start b.size) → (IsTrue r ↔ IsSpared before after old new b)
  spared_then apart h = (λ t. inr (apart, h.0 t), λ s. ⊎_elim (λ e. absurd (both_ways _ other (same_from b old e))) (λ p. h.1 p.1) s)

  pub spared_else : (IsTrue r ↔ BlocksApart b new) → r ≡ false → (IsTrue r ↔ IsSpared before after old new b)
  spared_else h differs = (λ t. absurd (both_ways _ differs t), λ s. ⊎_elim (λ e. absurd (both_ways _ other (same_from b old e))) (λ p. h.1 p.0) s)

-- ---- tidy

pub tidy_tested : (before after : List ℕ) (b : Block) (s e n : ℕ) (r : Bool) → s ≡ min b.start (length before) → e ≡ min (b.start + b.size) (length before) → n ≡ length before - e
    → BytesMoved before 0 after 0 s → (IsTrue r ↔ BytesMoved before e after e n) → (IsTrue r ↔ IsTidy before after b)
tidy_tested before after b s e n r es ee en first h = (
  λ t i lt out. ⊎_elim
      (λ low. let is : 0 + i ≡ i = omega arith in subst (λ (j : ℕ). slice_index after j ≡ slice_index before j) is (first i low))
      (λ high. ⊎_elim
      (λ (inside : i < b.start + b.size). absurd (out (inl (omega (arith, high, es, lt), inside))))
      (λ past.
      let is : e + (i - e) ≡ i = omega (arith, past, ee, lt) in
      let at : slice_index after (e + (i - e)) ≡ slice_index before (e + (i - e)) = h.0 t (i - e) (omega (arith, past, ee, en, lt)) in
      subst (λ (j : ℕ). slice_index after j ≡ slice_index before j) is at)
      (cases_lt i (b.start + b.size)))
      (cases_lt i s),
  λ tidy. h.1 (λ k lt. tidy (e + k) (omega (arith, lt, en, ee)) (λ p. let u = within b (e + k) p in omega (arith, u.0, u.1, lt, ee, en))),
)

-- ---- lists of blocks

abbrev pub Among : List Block → Block → Type 0
Among [] b = ⊥
Among (x ∷ xs) b = (x ≡ b) ⊎ Among xs b

among_from : (xs : List Block) (b : Block) → Contains xs b → Among xs b
among_from [] b (k, lt, e) = absurd (omega (arith, lt))
among_from (x ∷ xs) b (zero, lt, e) = inl e
among_from (x ∷ xs) b (suc k, lt, e) = inr (among_from xs b (k, omega (arith, lt), e))

among_to : (xs : List Block) (b : Block) → Among xs b → Contains xs b
among_to [] b h = absurd h
among_to (x ∷ xs) b (inl e) = (0, omega arith, e)
among_to (x ∷ xs) b (inr h) = let c = among_to xs b h in (suc c.0, omega (arith, c.1), c.2)

left_out : (x : Block) (xs : List Block) (o : Block) → is_block x o ≡ true → other_blocks (x ∷ xs) o ≡ other_blocks xs o
left_out x xs o e = cond-false _ _ _ (ap not e)

left_in : (x : Block) (xs : List Block) (o : Block) → is_block x o ≡ false → other_blocks (x ∷ xs) o ≡ x ∷ other_blocks xs o
left_in x xs o e = cond-true _ _ _ (ap not e)

others_are : (xs : List Block) (o b : Block) → Among (other_blocks xs o) b → Among xs b × (b ≡ o → ⊥)
others_are [] o b h = absurd h
others_are (x ∷ xs) o b h = ⊎_elim
    (λ same. let r = others_are xs o b (subst (λ l. Among l b) (left_out x xs o same) h) in (inr r.0, r.1))
    (λ other. ⊎_elim
    (λ e. (inl e, λ is. both_ways _ other (same_from x o (e ∙ is))))
    (λ g. let r = others_are xs o b g in (inr r.0, r.1))
    (subst (λ l. Among l b) (left_in x xs o other) h))
    (cases_Bool (is_block x o))

others_have : (xs : List Block) (o b : Block) → Among xs b → (b ≡ o → ⊥) → Among (other_blocks xs o) b
others_have [] o b h differs = h
others_have (x ∷ xs) o b h differs = ⊎_elim
    (λ same. subst (λ l. Among l b) (sym (left_out x xs o same)) (⊎_elim (λ e. absurd (differs (sym e ∙ same_yes x o same))) (λ g. others_have xs o b g differs) h))
    (λ other. subst (λ l. Among l b) (sym (left_in x xs o other)) (⊎_elim (λ e. inl e) (λ g. inr (others_have xs o b g differs)) h))
    (cases_Bool (is_block x o))

pub listed_none : (b : Block) → b.size ≡ 0 → unless_empty b ≡ []
listed_none b e = cond-true _ _ _ (eq-eqb b.size 0 e)

pub listed_some : (b : Block) → 0 < b.size → unless_empty b ≡ b ∷ []
listed_some b h = cond-false _ _ _ (ne_eqb b.size 0 (λ e. omega (arith, h, e)))

listed_are : (n b : Block) → Among (unless_empty n) b → (b ≡ n) × (0 < n.size)
listed_are n b h = ⊎_elim
    (λ (some : 0 < n.size). ⊎_elim (λ e. (sym e, some)) (λ k. absurd k) (subst (λ l. Among l b) (listed_some n some) h))
    (λ none. absurd (subst (λ l. Among l b) (listed_none n (omega (arith, none))) h))
    (cases_lt 0 n.size)

lives_after : (live : List Block) (o n b : Block) → Contains (other_blocks live o ++ unless_empty n) b ↔ ((Contains live b × (b ≡ o → ⊥)) ⊎ ((b ≡ n) × (0 < n.size)))
lives_after live o n b = (
  λ h. ⊎_elim
      (λ g. let r = others_are live o b (among_from (other_blocks live o) b g) in inl (among_to live b r.0, r.1))
      (λ g. inr (listed_are n b (among_from (unless_empty n) b g)))
      (Contains-append_cases (other_blocks live o) (unless_empty n) b h),
  λ h. ⊎_elim
      (λ p. Contains-append_left (other_blocks live o) (unless_empty n) b (among_to (other_blocks live o) b (others_have live o b (among_from live b p.0) p.1)))
      (λ p. Contains-append_right (other_blocks live o) (unless_empty n) b (among_to (unless_empty n) b (subst (λ l. Among l b) (sym (listed_some n p.1)) (inl (sym p.0)))))
      h,
)

-- ---- the law

module _ (live : List Block) (before after : List ℕ) (c : Call) (answer : ℕ) where
  spared : All (IsSpared before after (old_block c) (new_block c answer)) live → (b : Block) → Contains live b → (b ≡ old_block c → ⊥) → BlocksApart b (new_block c answer) × BytesMoved before b.start after b.start b.size
  spared all b has differs = ⊎_elim (λ e. absurd (differs e)) (λ p. p) (subst (IsSpared before after (old_block c) (new_block c answer)) has.2 (all has.0 b has.1))

  keeps : (b : Block) → BytesMoved before b.start after b.start b.size → (i : ℕ) → InBlocks (b ∷ []) i → slice_index after i ≡ slice_index before i
  keeps b same i h =
      let u = within b i h in
      let is : b.start + (i - b.start) ≡ i = omega (arith, u.0) in
      subst (λ (j : ℕ). slice_index after j ≡ slice_index before j) is (same (i - b.start) (omega (arith, u.0, u.1)))

  pub law_from : length before ≤ length after → LawHolds live before after c answer → ReallocLaw live (relisted live c answer) before after c answer
  law_from longer h = record {
    aligned = h.0;
    inside = h.1;
    apart = λ i o. (spared h.3 o.0 o.1 o.2).0 i o.3;
    kept = λ i o. keeps o.0 (spared h.3 o.0 o.1 o.2).1 i o.3;
    copied = λ k lt mt. h.2 k (omega (arith, lt, mt));
    no_shorter = longer;
    lives = λ b. lives_after live (old_block c) (new_block c answer) b;
  }

  is_spared : ReallocLaw live (relisted live c answer) before after c answer → (b : Block) → Contains live b → IsSpared before after (old_block c) (new_block c answer) b
  is_spared law b has = ⊎_elim
      (λ same. inl (same_yes b (old_block c) same))
      (λ other.
      let differs : b ≡ old_block c → ⊥ = λ e. both_ways _ other (same_from b (old_block c) e) in
      inr (λ i p q. law.apart i (b, has, differs, p) q, λ k lt. law.kept (b.start + k) (b, has, differs, inl (omega arith, omega (arith, lt)))))
      (cases_Bool (is_block b (old_block c)))

  pub law_to : ReallocLaw live (relisted live c answer) before after c answer → LawHolds live before after c answer
  law_to law = (law.aligned, law.inside, λ k lt. law.copied k (omega (arith, lt)) (omega (arith, lt)), λ k d lt. is_spared law (slice_index_or live k d) (Contains-get_or live k d lt))

-- ---- places held beside the blocks given

all_left : (P : Block → Type 0) (xs ys : List Block) → All P (xs ++ ys) → All P xs
all_left P xs ys h k d lt = subst P (get_or_append_left xs ys d k lt) (h k d (omega (arith, lt, length-append xs ys)))

all_right : (P : Block → Type 0) (xs ys : List Block) → All P (xs ++ ys) → All P ys
all_right P xs ys h k d lt =
    let at : length xs + k - length xs ≡ k = omega arith in
    subst (λ j. P (get_or ys j d)) at (subst P (get_or-append_right xs ys (length xs) (length xs + k) d refl (omega arith)) (h (length xs + k) d (omega (arith, lt, length-append xs ys))))

pub both_spared : (before after : List ℕ) (old new : Block) (held live : List Block) (r s : Bool)
    → (IsTrue r ↔ All (IsSpared before after old new) held) → (IsTrue s ↔ All (IsSpared before after old new) live) → IsTrue r → (IsTrue s ↔ All (IsSpared before after old new) (held ++ live))
both_spared before after old new held live r s h g first = (
  λ t. All-append (IsSpared before after old new) held live (h.0 first) (g.0 t),
  λ all. g.1 (all_right (IsSpared before after old new) held live all),
)

pub not_spared : (before after : List ℕ) (old new : Block) (held live : List Block) (r : Bool)
    → (IsTrue r ↔ All (IsSpared before after old new) held) → r ≡ false → All (IsSpared before after old new) (held ++ live) → ⊥
not_spared before after old new held live r h isnt all = absurd (both_ways _ isnt (h.1 (all_left (IsSpared before after old new) held live all)))

-- a place more is held
module _ (held live held2 live2 : List Block) (place : Block) (more : held2 ≡ held ++ place ∷ []) (same : live2 ≡ live) where
  pub more_live : Within (held ++ live) (held2 ++ live2)
  more_live i h = ⊎_elim
      (λ p. in_left held2 live2 i (subst (λ xs. InBlocks xs i) (sym more) (in_left held (place ∷ []) i p)))
      (λ p. in_right held2 live2 i (subst (λ xs. InBlocks xs i) (sym same) p))
      (in_either held live i h)

  pub only_place : Within (held2 ++ live2) (place ∷ (held ++ live))
  only_place i h =
      let all = place ∷ [] in
      ⊎_elim
      (λ p. ⊎_elim
      (λ q. in_right all (held ++ live) i (in_left held live i q))
      (λ q. in_left all (held ++ live) i q)
      (in_either held all i (subst (λ xs. InBlocks xs i) more p)))
      (λ p. in_right all (held ++ live) i (in_right held live i (subst (λ xs. InBlocks xs i) same p)))
      (in_either held2 live2 i h)

  pub place_live : Within (place ∷ []) (held2 ++ live2)
  place_live i h = in_left held2 live2 i (subst (λ xs. InBlocks xs i) (sym more) (in_right held (place ∷ []) i h))

-- a block is taken off both lists
pub both_relisted : (held live : List Block) (old new : Block) → other_blocks held old ++ (other_blocks live old ++ unless_empty new) ≡ other_blocks (held ++ live) old ++ unless_empty new
both_relisted held live old new =
    sym (append_assoc (other_blocks held old) (other_blocks live old) (unless_empty new))
    ∙ ap (λ l. l ++ unless_empty new) (sym (filter-append (λ b. not (is_block b old)) held live))

-- ---- events

pub after_step : (live : List Block) (done : Step) (after : List ℕ) → live_after live (step_event done after) ≡ live
after_step live (step.Return words) after = refl
after_step live (step.Import index words) after = refl

-- ---- what is kept of memory

reads : (m : List ℕ) (end i : ℕ) → i < end → slice_index (take (min end (length m)) m) i ≡ slice_index m i
reads m end i lt = ⊎_elim
    (λ (inside : i < length m). get_or-take (min end (length m)) m i 0 (omega (arith, lt, inside)))
    (λ past. get_or_past (take (min end (length m)) m) i 0 (omega (arith, past, length-take (min end (length m)) m)) ∙ sym (get_or_past m i 0 past))
    (cases_lt i (length m))

module _ (live : List Block) (m b after : List ℕ) (end : ℕ) (is : b ≡ take (min end (length m)) m) where
  at : (i : ℕ) → i < end → slice_index b i ≡ slice_index m i
  at i lt = ap (λ (xs : List ℕ). slice_index xs i) is ∙ reads m end i lt

  bytes_from : (x to n : ℕ) → x + n ≤ end → BytesMoved b x after to n → BytesMoved m x after to n
  bytes_from x to n le h k lt = h k lt ∙ at (x + k) (omega (arith, le, lt))

  bytes_to : (x to n : ℕ) → x + n ≤ end → BytesMoved m x after to n → BytesMoved b x after to n
  bytes_to x to n le h k lt = h k lt ∙ sym (at (x + k) (omega (arith, le, lt)))

  shot_law : (c : Call) (answer : ℕ) → c.old + c.old_size ≤ end → All (BlockEndsBy end) live → (LawHolds live b after c answer ↔ LawHolds live m after c answer)
  shot_law c answer le ends = (
    λ h. (
      h.0,
      h.1,
      bytes_from c.old answer (min c.old_size c.new_size) (omega (arith, le)) h.2,
      λ k d lt. ⊎_elim (λ e. inl e) (λ p. inr (p.0, bytes_from _ _ _ (ends k d lt) p.1)) (h.3 k d lt),
    ),
    λ h. (
      h.0,
      h.1,
      bytes_to c.old answer (min c.old_size c.new_size) (omega (arith, le)) h.2,
      λ k d lt. ⊎_elim (λ e. inl e) (λ p. inr (p.0, bytes_to _ _ _ (ends k d lt) p.1)) (h.3 k d lt),
    ),
  )

whole_shot : (m b : List ℕ) (end : ℕ) → b ≡ take (min end (length m)) m → length m ≤ end → b ≡ m
whole_shot m b end is le = is ∙ take_all (min end (length m)) m (omega (arith, le))

pub shot_at : (w : Bool) (live live2 : List Block) (old_end : ℕ) (m m2 b b2 : List ℕ) → live ≡ live2 → m ≡ m2 → b ≡ b2 → IsShot w live old_end m b → IsShot w live2 old_end m2 b2
shot_at w live live2 old_end m m2 b b2 el em eb h =
    let h1 : IsShot w live2 old_end m b = subst (λ (ys : List Block). IsShot w ys old_end m b) el h in
    let h2 : IsShot w live2 old_end m2 b = subst (λ (xs : List ℕ). IsShot w live2 old_end xs b) em h1 in
    subst (λ (xs : List ℕ). IsShot w live2 old_end m2 xs) eb h2

pub all_end_by : (x y : ℕ) (live : List Block) → x ≤ y → All (BlockEndsBy x) live → All (BlockEndsBy y) live
all_end_by x y live le h k d lt = let e = h k d lt in omega (arith, le, e)

pub ended_by : (x y : ℕ) (live : List Block) (i : ℕ) → x ≤ y → AllWithin (BlockEndsBy x) live 0 i → AllWithin (BlockEndsBy y) live 0 i
ended_by x y live i le h k d low lt = let e = h k d low lt in omega (arith, le, e)

-- ---- marks

module _ (w : Bool) (live : List Block) (before after : List ℕ) (o os al ns answer : ℕ) (l t : Bool) where
  exact : length before ≤ length after → (IsTrue l ↔ LawHolds live before after (call o os al ns) answer) → (IsTrue t → IsTrue w × IsTidy before after (block answer ns)) → (IsTrue w → IsTidy before after (block answer ns) → IsTrue t)
      → IsExactMark w live (relisted live (call o os al ns) answer) before after (call o os al ns) answer (record { lawful = l; tidy = t })
  exact longer h g k = record {
    lawful = (λ e. law_from live before after (call o os al ns) answer longer (h.0 e), λ law. h.1 (law_to live before after (call o os al ns) answer law));
    tidy = g;
    tells_tidy = k;
  }

  pub marked : (xs live2 : List Block) (shot : List ℕ) (old new : Block) → old ≡ block o os → new ≡ block answer ns → xs ≡ live → live2 ≡ other_blocks live old ++ unless_empty new
      → (IsTrue l ↔ LawHolds xs shot after (call old.start old.size al new.size) new.start) → (IsTrue t → IsTrue w × IsTidy shot after new) → (IsTrue w → IsTidy shot after new → IsTrue t)
      → IsShot w live (o + os) before shot → length before ≤ length after
      → IsExactMark w live live2 before after (call o os al ns) answer (record { lawful = l; tidy = t })
  marked xs live2 shot old new eo en ex el h g k is longer =
      let h1 : IsTrue l ↔ LawHolds live shot after (call old.start old.size al new.size) new.start = subst (λ (ys : List Block). IsTrue l ↔ LawHolds ys shot after (call old.start old.size al new.size) new.start) ex h in
      let h2 : IsTrue l ↔ LawHolds live shot after (call o os al new.size) new.start = subst (λ (b : Block). IsTrue l ↔ LawHolds live shot after (call b.start b.size al new.size) new.start) eo h1 in
      let h3 : IsTrue l ↔ LawHolds live shot after (call o os al ns) answer = subst (λ (b : Block). IsTrue l ↔ LawHolds live shot after (call o os al b.size) b.start) en h2 in
      let both = shot_law live before shot after is.0 is.1 (call o os al ns) answer is.2 is.3 in
      let h4 : IsTrue l ↔ LawHolds live before after (call o os al ns) answer = (λ e. both.0 (h3.0 e), λ e. h3.1 (both.1 e)) in
      let g1 : IsTrue t → IsTrue w × IsTidy before after (block answer ns) =
      λ e. ((g e).0, subst (λ (xs : List ℕ). IsTidy xs after (block answer ns)) (whole_shot before shot is.0 is.1 (is.4 (g e).0)) (subst (λ (b : Block). IsTidy shot after b) en (g e).1)) in
      let k1 : IsTrue w → IsTidy before after (block answer ns) → IsTrue t =
      λ e tidy. k e (subst (λ (b : Block). IsTidy shot after b) (sym en) (subst (λ (xs : List ℕ). IsTidy xs after (block answer ns)) (sym (whole_shot before shot is.0 is.1 (is.4 e))) tidy)) in
      let l1 : live2 ≡ relisted live (call o os al ns) answer = el ∙ ap₂ (λ (x y : Block). other_blocks live x ++ unless_empty y) eo en in
      subst (λ (ys : List Block). IsExactMark w live ys before after (call o os al ns) answer (record { lawful = l; tidy = t })) (sym l1) (exact longer h4 g1 k1)

pub exact_at : (w : Bool) (live xs live2 : List Block) (m m2 bs2 : List ℕ) (c : Call) (answer : ℕ) (mark : Mark) → xs ≡ live → bs2 ≡ m2 → IsExactMark w xs live2 m bs2 c answer mark → IsExactMark w live live2 m m2 c answer mark
exact_at w live xs live2 m m2 bs2 c answer mark ex ea h =
    let h1 : IsExactMark w live live2 m bs2 c answer mark = subst (λ (ys : List Block). IsExactMark w ys live2 m bs2 c answer mark) ex h in
    subst (λ (b : List ℕ). IsExactMark w live live2 m b c answer mark) ea h1
