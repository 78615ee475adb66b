-- Memory that was grown, and bytes that were copied: the law of `realloc`.
use Rattle.std.proofs.Common.{◌≡◌, ℕ, ◌+◌, ◌-◌, ◌<◌, ◌≤◌, List, [], ◌∷◌, ◌++◌, drop, length, replicate, sym, ap, ◌∙◌, arith, ◌⊎◌, inl, inr, ⊎_elim, length-append, length-drop}
use Rattle.std.proofs.Math.Seq.{get_or-append_right, paste}
use Rattle.std.proofs.lemmas.Bool.{both_ways, cases_Bool, cases_lt}
use Rattle.std.proofs.lemmas.List.{get_or-drop, get_or-replicate, get_or_append_left, get_or_past, length-replicate}
use Rattle.std.proofs.lemmas.List.Edits.{length-paste}
use Rattle.std.proofs.lemmas.List.Elements.{Contains-get_or}
use Rattle.std.specs.List.{All}
use Rattle.std.specs.Prelude.{slice_index, slice_index_or}
use Rattle.canon_model.specs.Memory.{Block, InBlocks}
use Rattle.canon_model.specs.Requests.{Call}
use Rattle.canon_memory.specs.Realloc.{IsTidy, ReallocLaw, new_block, old_block}
use Rattle.canon_memory.specs.Watch.{IsSpared, LawHolds, is_block, relisted}
use Rattle.canon_memory.proofs.Watch.{law_from, same_from, same_yes}
use Rattle.canon_scripted.proofs.Bytes.{paste_in, paste_out}
use Rattle.canon_replay_guest.specs.Lawful.{IsLawfulAnswer}
use Rattle.canon_replay_guest.specs.Replaying.{CanGrow, grown_to, moved}
use Rattle.canon_scripted.proofs.Laws.{kept}

-- ---- grown

pub length-grown : (m : List ℕ) (n : ℕ) → CanGrow (length m) n → length (grown_to m n) ≡ n
length-grown m n can = length-append m (replicate (n - length m) 0) ∙ omega (arith, can.0, length-replicate {A = ℕ} (n - length m) 0)

-- it reads the same, since past an end there are zeros
pub grown_same : (m : List ℕ) (n i : ℕ) → slice_index (grown_to m n) i ≡ slice_index m i
grown_same m n i = ⊎_elim
    (λ (lt : i < length m). get_or_append_left m (replicate (n - length m) 0) 0 i lt)
    (λ past.
    get_or-append_right m (replicate (n - length m) 0) i 0 past
    ∙ ⊎_elim
    (λ (low : i - length m < n - length m). get_or-replicate (n - length m) (i - length m) 0 0 low)
    (λ high. get_or_past (replicate (n - length m) 0) (i - length m) 0 (omega (arith, high, length-replicate {A = ℕ} (n - length m) 0)))
    (cases_lt (i - length m) (n - length m))
    ∙ sym (get_or_past m i 0 past))
    (cases_lt i (length m))

-- ---- copied

module _ (m : List ℕ) (from to count : ℕ) (inside : from + count ≤ length m) (room : to + count ≤ length m) where
  moved_is : moved m from to count ≡ paste m to (drop from m) count
  moved_is = ap (λ (n : ℕ). paste m to (drop from m) n) (omega arith)

  pub length-moved : length (moved m from to count) ≡ length m
  length-moved = ap length moved_is ∙ length-paste m to (drop from m) count room (omega (arith, length-drop from m, inside))

  moved_out : (i : ℕ) → (i < to) ⊎ (to + count ≤ i) → slice_index (moved m from to count) i ≡ slice_index m i
  moved_out i out = ap (λ (xs : List ℕ). slice_index xs i) moved_is ∙ paste_out m to (drop from m) count i room (omega (arith, length-drop from m, inside)) out

  moved_in : (k : ℕ) → k < count → slice_index (moved m from to count) (to + k) ≡ slice_index m (from + k)
  moved_in k lt =
      ap (λ (xs : List ℕ). slice_index xs (to + k)) moved_is ∙ paste_in m to (drop from m) count k room (omega (arith, length-drop from m, inside)) lt
      ∙ get_or-drop from m k 0

-- ---- the law

-- A lawful answer in grown memory, with its bytes copied.
module _ (live : List Block) (m : List ℕ) (n : ℕ) (after : List ℕ) (c : Call) (answer : ℕ) (can : CanGrow (length m) n) (law : IsLawfulAnswer live n c answer)
    (is : after ≡ moved (grown_to m n) c.old answer (kept c)) where
  inside : c.old + kept c ≤ length (grown_to m n)
  inside = omega (arith, law.from, length-grown m n can)

  room : answer + kept c ≤ length (grown_to m n)
  room = omega (arith, law.inside, length-grown m n can)

  pub after_length : length after ≡ n
  after_length = ap length is ∙ length-moved (grown_to m n) c.old answer (kept c) inside room ∙ length-grown m n can

  out : (i : ℕ) → (i < answer) ⊎ (answer + kept c ≤ i) → slice_index after i ≡ slice_index m i
  out i o = ap (λ (xs : List ℕ). slice_index xs i) is ∙ moved_out (grown_to m n) c.old answer (kept c) inside room i o ∙ grown_same m n i

  outside : (i : ℕ) → (InBlocks (new_block c answer ∷ []) i → ⊥) → (i < answer) ⊎ (answer + kept c ≤ i)
  outside i o = ⊎_elim
      (λ lt. inl lt)
      (λ le. ⊎_elim (λ lt. absurd (o (inl (le, lt)))) (λ past. inr (omega (arith, past))) (cases_lt i (answer + c.new_size)))
      (cases_lt i answer)

  spared : All (IsSpared m after (old_block c) (new_block c answer)) live
  spared k d lt =
      let b : Block = slice_index_or live k d in
      ⊎_elim
      (λ same. inl (same_yes b (old_block c) same))
      (λ other.
      let has = Contains-get_or live k d lt in
      let differs : b ≡ old_block c → ⊥ = λ e. both_ways _ other (same_from b (old_block c) e) in
      inr (
        λ i p q. law.free i (b, has, differs, p) q,
        λ j low. out (b.start + j) (outside (b.start + j) (λ q. law.free (b.start + j) (b, has, differs, inl (omega arith, omega (arith, low))) q)),
      ))
      (cases_Bool (is_block b (old_block c)))

  holds : LawHolds live m after c answer
  holds = (
    law.aligned,
    omega (arith, law.inside, after_length),
    λ k lt. ap (λ (xs : List ℕ). slice_index xs (answer + k)) is ∙ moved_in (grown_to m n) c.old answer (kept c) inside room k lt ∙ grown_same m n (c.old + k),
    spared,
  )

  pub keeps_law : ReallocLaw live (relisted live c answer) m after c answer
  keeps_law = law_from live m after c answer (omega (arith, after_length, can.0)) holds

  pub is_tidy : IsTidy m after (new_block c answer)
  is_tidy i lt o = out i (outside i o)
