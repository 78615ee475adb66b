-- The blocks that live, and what is apart from them.
use Rattle.std.proofs.Common.{◌≡◌, ℕ, ◌+◌, ◌-◌, append-nil, ap₂, take, length-append, ◌<◌, ◌≤◌, Bool, true, false, not, List, [], ◌∷◌, ◌++◌, length, refl, sym, ap, subst, ◌∙◌, arith, ◌⊎◌, inl, inr, ⊎_elim, ◌↔◌, IsTrue}
use Rattle.std.specs.List.{All, Contains}
use Rattle.std.proofs.Math.Seq.{take-append_seam}
use Rattle.std.proofs.lemmas.Bool.{both_ways, cases_Bool, cond-false, cond-true}
use Rattle.std.proofs.lemmas.List.Elements.{All-append, All-cons, All-contains, All-filter, All-head, All-nil, All-same, All-tail, All-take, All-weaker, Contains-append_cases, Contains-get_or, filter-append}
use Rattle.std.specs.Prelude.{slice_index_or}
use Rattle.canon_model.specs.Memory.{Block}
use Rattle.canon_model.specs.Requests.{Call}
use Rattle.canon_memory.specs.Realloc.{new_block, old_block}
use Rattle.canon_memory.specs.Watch.{BlocksApart, is_block, other_blocks}
use Rattle.canon_memory.proofs.Watch.{same_from, same_yes, within}
use Rattle.canon_replay_guest.specs.Lawful.{AreListed, AreLiveUpTo, IsFree, IsHighestBlock, IsLiveUpTo, IsNotEmpty, IsOldOrApart}

-- ---- free

-- past the last end
pub free_past : (end : ℕ) (live : List Block) (c : Call) (answer : ℕ) → AreLiveUpTo end live → end ≤ answer → IsFree live c answer
free_past end live c answer kept le i o new =
    let k = All-contains (IsLiveUpTo end) live o.0 kept o.1 in
    let u = within o.0 i o.3 in
    let v = within (new_block c answer) i new in
    omega (arith, le, k.1, u.1, v.0)

pub free_tested : (live : List Block) (c : Call) (answer : ℕ) → (All (IsOldOrApart (old_block c) (new_block c answer)) live ↔ IsFree live c answer)
free_tested live c answer = (
  λ all i o new. ⊎_elim (λ e. o.2 e) (λ apart. apart i o.3 new) (All-contains (IsOldOrApart (old_block c) (new_block c answer)) live o.0 all o.1),
  λ free k d lt. ⊎_elim
      (λ same. inl (same_yes (slice_index_or live k d) (old_block c) same))
      (λ other. inr (λ i p q. free i (slice_index_or live k d, Contains-get_or live k d lt, λ e. both_ways _ other (same_from (slice_index_or live k d) (old_block c) e), p) q))
      (cases_Bool (is_block (slice_index_or live k d) (old_block c))),
)

-- ---- listed

other_size : (x o : Block) → 0 < x.size → o.size ≡ 0 → is_block x o ≡ false
other_size x o some none = ⊎_elim
    (λ same. let e = ap (λ (b : Block). b.size) (same_yes x o same) in absurd (omega (arith, some, none, e)))
    (λ other. other)
    (cases_Bool (is_block x o))

-- an empty block isn't among them
pub given_up_none : (live : List Block) (o : Block) → All IsNotEmpty live → o.size ≡ 0 → live ≡ other_blocks live o
given_up_none [] o all none = refl
given_up_none (x ∷ xs) o all none =
    ap (λ l. x ∷ l) (given_up_none xs o (All-tail IsNotEmpty x xs all) none)
    ∙ sym (cond-true _ _ _ (ap not (other_size x o (All-head IsNotEmpty x xs all) none)))

pub not_empty : (end : ℕ) (live xs : List Block) → xs ≡ live → AreLiveUpTo end live → All IsNotEmpty xs
not_empty end live xs e kept = All-same IsNotEmpty xs live e (All-weaker (IsLiveUpTo end) IsNotEmpty (λ b k. k.0) live kept)

pub take_less : (before : ℕ) (live : List Block) → AreLiveUpTo before live → AreListed live before before
take_less before live kept = (kept, All-take (IsLiveUpTo before) (length live - 1) live kept)

-- what is left once a block was taken out
pub kept_out : (end before : ℕ) (live ys : List Block) (old : Block) → ys ≡ other_blocks live old → AreListed live end before → AreListed ys end end
kept_out end before live ys old e listed =
    take_less end ys (All-same (IsLiveUpTo end) ys (other_blocks live old) e (All-filter (λ b. not (is_block b old)) (IsLiveUpTo end) live listed.0))

-- ---- tests

pub other_then : (old new b : Block) → is_block b old ≡ true → (IsTrue true ↔ IsOldOrApart old new b)
other_then old new b same = (λ t. inl (same_yes b old same), λ o. refl)

pub other_else : (old new b : Block) (r : Bool) → is_block b old ≡ false → (IsTrue r ↔ BlocksApart b new) → (IsTrue r ↔ IsOldOrApart old new b)
other_else old new b r other h = (λ t. inr (h.0 t), λ o. ⊎_elim (λ e. absurd (both_ways _ other (same_from b old e))) (λ apart. h.1 apart) o)

pub free_else : (live xs : List Block) (c : Call) (answer : ℕ) (r : Bool) → xs ≡ live → (IsTrue r ↔ All (IsOldOrApart (old_block c) (new_block c answer)) xs) → (IsTrue r ↔ IsFree live c answer)
free_else live xs c answer r e h =
    let k : IsTrue r ↔ All (IsOldOrApart (old_block c) (new_block c answer)) live = subst (λ l. IsTrue r ↔ All (IsOldOrApart (old_block c) (new_block c answer)) l) e h in
    let f = free_tested live c answer in
    (λ t. f.0 (k.0 t), λ free. k.1 (f.1 free))

-- ---- the last block

others_end : (before : ℕ) (xs : List Block) (o : Block) → AreLiveUpTo before xs → before ≤ o.start → other_blocks xs o ≡ xs
others_end before [] o kept le = refl
others_end before (x ∷ xs) o kept le =
    let k = All-head (IsLiveUpTo before) x xs kept in
    let other : is_block x o ≡ false = ⊎_elim
    (λ same. let e = ap (λ (b : Block). b.start) (same_yes x o same) in let size = k.0 in let ends = k.1 in absurd (omega (arith, size, ends, e, le)))
    (λ no_match. no_match)
    (cases_Bool (is_block x o)) in
    cond-true _ _ _ (ap not other) ∙ ap (λ l. x ∷ l) (others_end before xs o (All-tail (IsLiveUpTo before) x xs kept) le)

module _ (live : List Block) (end before : ℕ) (o : Block) (listed : AreListed live end before) (ends : IsHighestBlock live before o) where
  abbrev front : List Block
  front = take (length live - 1) live

  itself : is_block o o ≡ true
  itself = same_from o o refl

  pub last_given_up : front ≡ other_blocks live o
  last_given_up =
      sym (ap (λ (l : List Block). other_blocks l o) ends.0
      ∙ filter-append (λ b. not (is_block b o)) front (o ∷ [])
      ∙ ap (λ (l : List Block). l ++ other_blocks (o ∷ []) o) (others_end before front o listed.1 ends.1)
      ∙ ap (λ (l : List Block). front ++ l) (cond-false _ _ _ (ap not itself))
      ∙ append-nil front)

  -- what is free of those before it is free
  pub free_of_front : (c : Call) (answer : ℕ) → old_block c ≡ o → before ≤ answer → IsFree live c answer
  free_of_front c answer e le i x new =
      let in_front : Contains front x.0 = ⊎_elim
      (λ k. k)
      (λ k. absurd (x.2 (All-contains (λ b. b ≡ old_block c) (o ∷ []) x.0 (All-cons (λ b. b ≡ old_block c) o [] (sym e) (All-nil (λ b. b ≡ old_block c))) k)))
      (Contains-append_cases front (o ∷ []) x.0 (subst (λ (l : List Block). Contains l x.0) ends.0 x.1)) in
      let k = All-contains (IsLiveUpTo before) front x.0 listed.1 in_front in
      let u = within x.0 i x.3 in
      let v = within (new_block c answer) i new in
      omega (arith, le, k.1, u.1, v.0)

-- a block added at the end
pub listed_more : (end before end2 : ℕ) (live ys : List Block) (new : Block) → ys ≡ live ++ new ∷ [] → AreListed live end before → 0 < new.size → end ≤ end2 → new.start + new.size ≤ end2 → AreListed ys end2 end
listed_more end before end2 live ys new e listed some le le2 =
    let longer : length ys ≡ length live + 1 = ap length e ∙ length-append live (new ∷ []) in
    let front : take (length ys - 1) ys ≡ live = ap₂ (λ (n : ℕ) (l : List Block). take n l) (omega (arith, longer)) e ∙ take-append_seam live (new ∷ []) in (
      All-same (IsLiveUpTo end2) ys (live ++ new ∷ []) e (All-append (IsLiveUpTo end2) live (new ∷ [])
          (All-weaker (IsLiveUpTo end) (IsLiveUpTo end2) (λ b k. let l = k.1 in (k.0, omega (arith, l, le))) live listed.0)
          (All-cons (IsLiveUpTo end2) new [] (some, le2) (All-nil (IsLiveUpTo end2)))),
      subst (λ (l : List Block). AreLiveUpTo end l) (sym front) listed.0,
    )
