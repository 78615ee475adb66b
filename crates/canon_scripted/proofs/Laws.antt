-- What the allocator answers obeys the law of `realloc`, and no byte outside the answered block changes.
use Rattle.std.proofs.Common.{◌≡◌, ℕ, ◌+◌, ◌%◌, ◌<◌, ◌≤◌, ◌^◌, min, List, [], ◌∷◌, ◌++◌, length, drop, Some, ◌⊎◌, inl, inr, ⊎_elim, sym, ap, subst, ◌∙◌, arith, length-drop, ◌↔◌}
use Rattle.std.proofs.Math.Seq.{paste}
use Rattle.std.proofs.lemmas.Bool.{cases_lt}
use Rattle.std.proofs.lemmas.List.{get_or-drop}
use Rattle.std.proofs.lemmas.List.Edits.{length-paste, paste_none}
use Rattle.std.proofs.lemmas.Nat.Gcd.{mod-eq-zero_of_dvd}
use Rattle.std.specs.List.{Contains}
use Rattle.std.specs.Prelude.{slice_index}
use Rattle.canon_model.specs.Layout.{align_to}
use Rattle.canon_model.specs.Memory.{Block, InBlocks}
use Rattle.canon_model.specs.Requests.{Call}
use Rattle.canon_model.proofs.Layouts.{align_to-dvd, align_to-le}
use Rattle.canon_memory.specs.Realloc.{InOthers, IsTidy, ReallocLaw, new_block, old_block}
use Rattle.canon_scripted.specs.Allocator.{Allocator, InRow, Placed, allocate, copied, listed, with_block_resized}
use Rattle.canon_scripted.proofs.Bytes.{paste_in, paste_out, paste_same}
use Rattle.canon_scripted.proofs.Rows.{added_keeps, added_lives, added_new, among_from, among_to, live_among, resized_keeps, resized_lives, resized_new, row_apart, row_place}
use Rattle.canon_scripted.proofs.Rules.{at_place, by_rule, placed_is}
use Rattle.canon_scripted.proofs.Steps.{allocator}
use Rattle.canon_memory.proofs.Watch.{Among, within}

-- ---- copied bytes

abbrev pub kept : Call → ℕ
kept c = min c.old_size c.new_size

-- the new block is inside memory, and so are the bytes that are copied
pub record HasRoom (m : List ℕ) (c : Call) (answer : ℕ) : Type 0 where
  pub room : answer + c.new_size ≤ length m
  pub from : (kept c ≡ 0) ⊎ (c.old + kept c ≤ length m)

module _ (m : List ℕ) (c : Call) (answer : ℕ) where
  pub copied_is : copied m c answer ≡ paste m answer (drop c.old m) (kept c)
  copied_is = ap (λ (n : ℕ). paste m answer (drop c.old m) n) (omega arith)

  pub copied_none : kept c ≡ 0 → copied m c answer ≡ m
  copied_none e = copied_is ∙ ap (λ (n : ℕ). paste m answer (drop c.old m) n) e ∙ sym (paste_none m answer (drop c.old m))

  copied_out : HasRoom m c answer → (i : ℕ) → (i < answer) ⊎ (answer + kept c ≤ i) → slice_index (copied m c answer) i ≡ slice_index m i
  copied_out h i out = ⊎_elim
      (λ e. ap (λ (xs : List ℕ). slice_index xs i) (copied_none e))
      (λ le. ap (λ (xs : List ℕ). slice_index xs i) copied_is ∙ paste_out m answer (drop c.old m) (kept c) i (omega (arith, h.room)) (omega (arith, length-drop c.old m, le)) out)
      h.from

  copied_in : HasRoom m c answer → (k : ℕ) → k < kept c → slice_index (copied m c answer) (answer + k) ≡ slice_index m (c.old + k)
  copied_in h k lt = ⊎_elim
      (λ e. absurd (omega (arith, e, lt)))
      (λ le. ap (λ (xs : List ℕ). slice_index xs (answer + k)) copied_is
      ∙ paste_in m answer (drop c.old m) (kept c) k (omega (arith, h.room)) (omega (arith, length-drop c.old m, le)) lt
      ∙ get_or-drop c.old m k 0)
      h.from

  copied_length : HasRoom m c answer → length (copied m c answer) ≡ length m
  copied_length h = ⊎_elim
      (λ e. ap length (copied_none e))
      (λ le. ap length copied_is ∙ length-paste m answer (drop c.old m) (kept c) (omega (arith, h.room)) (omega (arith, length-drop c.old m, le)))
      h.from

pub copied_there : (m : List ℕ) (c : Call) → copied m c c.old ≡ m
copied_there m c = copied_is m c c.old ∙ paste_same m c.old (kept c)

-- ---- what an answer keeps

abbrev pub LivesAfter : List Block → Call → ℕ → Block → Type 0
LivesAfter live c answer b = (Contains live b × (b ≡ old_block c → ⊥)) ⊎ ((b ≡ new_block c answer) × (0 < c.new_size))

pub record Keeps (len : ℕ) (a : Allocator) (c : Call) (p : Placed) : Type 0 where
  pub near : p.answer < 2 ^ 32
  pub aligned : p.answer % c.align ≡ 0
  pub room : p.answer + c.new_size ≤ len
  -- the bytes to be copied are inside memory; they stay where they are where the block does
  pub from : (kept c ≡ 0) ⊎ (c.old + kept c ≤ len)
  pub apart : (i : ℕ) → InOthers a.live c i → InBlocks (new_block c p.answer ∷ []) i → ⊥
  pub lives : (b : Block) → Contains p.after.live b ↔ LivesAfter a.live c p.answer b

module _ (len : ℕ) (a : Allocator) (c : Call) (row : InRow 0 a.live a.top) where
  -- a new block, after the blocks of `rest` that live beside the old one
  new_keeps : (rest : List Block) → ((b : Block) → Among rest b → Among a.live b × (b ≡ old_block c → ⊥)) → ((b : Block) → Among a.live b → (b ≡ old_block c → ⊥) → Among rest b)
      → 0 < c.align → (align_to a.top c.align < 2 ^ 32) → (align_to a.top c.align + c.new_size ≤ len) → (kept c ≡ 0) ⊎ (c.old + kept c ≤ len)
      → let s = align_to a.top c.align in Keeps len a c (at_place s (allocator (s + c.new_size) (rest ++ listed s c.new_size)))
  new_keeps rest less more some near room from =
      let s : ℕ = align_to a.top c.align in
      record {
        near = near;
        aligned = mod-eq-zero_of_dvd c.align (align_to-dvd a.top c.align);
        room = room;
        from = from;
        apart = λ i h g. let w = row_place 0 a.live a.top h.0 row (among_from a.live h.0 h.1) in
            let q = within h.0 i h.3 in let r = within (new_block c s) i g in
            omega (arith, w.1, q.1, r.0, align_to-le a.top c.align some);
        lives = λ b. (
          (λ h. ⊎_elim (λ k. let l = less b k in inl (among_to a.live b l.0, l.1)) (λ k. inr k) (added_lives rest s c.new_size b (among_from _ b h))),
          (λ h. among_to _ b (⊎_elim
              (λ k. added_keeps rest s c.new_size b (more b (among_from a.live b k.0) k.1))
              (λ k. subst (λ (y : Block). Among (rest ++ listed s c.new_size) y) (sym k.0) (added_new rest s c.new_size k.1)) h)),
        );
      }

  -- the block in another size, where it is
  same_keeps : (t : ℕ) → Among a.live (old_block c) → ((i : ℕ) → c.old + c.old_size ≤ i → i < c.old + c.new_size → a.top ≤ i)
      → c.old % c.align ≡ 0 → (c.old < 2 ^ 32) → (c.old + c.new_size ≤ len)
      → Keeps len a c (at_place c.old (allocator t (with_block_resized a.live (old_block c) c.new_size)))
  same_keeps t there past aligned near room =
      record {
        near = near;
        aligned = aligned;
        room = room;
        from = inr (omega (arith, room));
        apart = λ i h g. let w = row_place 0 a.live a.top h.0 row (among_from a.live h.0 h.1) in
            let q = within h.0 i h.3 in let r = within (new_block c c.old) i g in
            ⊎_elim
            (λ lt. row_apart 0 a.live a.top h.0 (old_block c) i row (among_from a.live h.0 h.1) there h.2 q (r.0, lt))
            (λ le. omega (arith, w.1, q.1, past i le r.1))
            (cases_lt i (c.old + c.old_size));
        lives = λ b. (
          (λ h. ⊎_elim (λ k. inl (among_to a.live b k.0, k.1)) (λ k. inr k) (resized_lives 0 a.live a.top (old_block c) c.new_size b row (among_from _ b h))),
          (λ h. among_to _ b (⊎_elim
              (λ k. resized_keeps a.live (old_block c) c.new_size b (among_from a.live b k.0) k.1)
              (λ k. subst (λ (y : Block). Among (with_block_resized a.live (old_block c) c.new_size) y) (sym k.0) (resized_new a.live (old_block c) c.new_size there k.1)) h)),
        );
      }

  -- no live block is empty
  not_empty : c.old_size ≡ 0 → (b : Block) → Among a.live b → b ≡ old_block c → ⊥
  not_empty e b h same =
      let w = row_place 0 a.live a.top b row h in
      let n : b.size ≡ c.old_size = ap (λ (y : Block). y.size) same in
      omega (arith, w.2, n, e)

  pub keeps : (p : Placed) → 0 < c.align → allocate len a c ≡ Some p → Keeps len a c p
  keeps p some e =
      let As : Placed → Type 0 = λ q. Keeps len a c q in
      let s : ℕ = align_to a.top c.align in
      let old : Block = old_block c in
      by_rule (Keeps len a c p) len a c p e
      (λ none h. let f = placed_is len s c.new_size _ p h in
      subst As f.is (new_keeps a.live (λ b k. (k, not_empty none b k)) (λ b k d. k) some f.near f.room (inl (omega (arith, none)))))
      (λ lives last aligned h. let f = placed_is len c.old c.new_size _ p h in
      subst As f.is (same_keeps (c.old + c.new_size) (live_among a.live old lives) (λ i le lt. omega (arith, last, le)) aligned f.near f.room))
      (λ lives less aligned h. let f = placed_is len c.old c.new_size _ p h in
      subst As f.is (same_keeps a.top (live_among a.live old lives) (λ i le lt. absurd (omega (arith, less, le, lt))) aligned f.near f.room))
      (λ lives h. let f = placed_is len s c.new_size _ p h in
      let w = row_place 0 a.live a.top old row (live_among a.live old lives) in
      subst As f.is (new_keeps (with_block_resized a.live old 0)
      (λ b k. ⊎_elim (λ q. q) (λ q. absurd (omega (arith, q.1))) (resized_lives 0 a.live a.top old 0 b row k))
      (λ b k d. resized_keeps a.live old 0 b k d)
      some f.near f.room (inr (omega (arith, w.1, f.room, align_to-le a.top c.align some)))))

-- ---- the law

module _ (m : List ℕ) (a : Allocator) (c : Call) (p : Placed) (h : Keeps (length m) a c p) where
  has_room : HasRoom m c p.answer
  has_room = record { room = h.room; from = h.from }

  outside : (i : ℕ) → (InBlocks (new_block c p.answer ∷ []) i → ⊥) → (i < p.answer) ⊎ (p.answer + kept c ≤ i)
  outside i out = ⊎_elim
      (λ lt. inl lt)
      (λ le. ⊎_elim (λ lt. absurd (out (inl (le, lt)))) (λ past. inr (omega (arith, past))) (cases_lt i (p.answer + c.new_size)))
      (cases_lt i p.answer)

  pub lawful : ReallocLaw a.live p.after.live m (copied m c p.answer) c p.answer
  lawful = record {
    aligned = h.aligned;
    inside = subst (λ (n : ℕ). p.answer + c.new_size ≤ n) (sym (copied_length m c p.answer has_room)) h.room;
    apart = h.apart;
    kept = λ i others. copied_out m c p.answer has_room i (outside i (h.apart i others));
    copied = λ k one two. copied_in m c p.answer has_room k (omega (arith, one, two));
    no_shorter = omega (arith, copied_length m c p.answer has_room);
    lives = h.lives;
  }

  pub tidy : IsTidy m (copied m c p.answer) (new_block c p.answer)
  tidy i lt out = copied_out m c p.answer has_room i (outside i out)

  pub same_length : length (copied m c p.answer) ≡ length m
  same_length = copied_length m c p.answer has_room

-- ---- as the code does it

-- the bytes to be copied are inside memory
pub from_inside : (len : ℕ) (a b : Allocator) (c : Call) (answer : ℕ) → InRow 0 a.live a.top → 0 < c.align → allocate len a c ≡ Some (at_place answer b) → 0 < kept c → c.old + kept c ≤ len
from_inside len a b c answer row some e more = ⊎_elim (λ z. absurd (omega (arith, z, more))) (λ le. le) (keeps len a c row (at_place answer b) some e).from

pub answer_inside : (len : ℕ) (a b : Allocator) (c : Call) (answer : ℕ) → InRow 0 a.live a.top → 0 < c.align → allocate len a c ≡ Some (at_place answer b) → (answer < 2 ^ 32) × (answer + c.new_size ≤ len)
answer_inside len a b c answer row some e = let k = keeps len a c row (at_place answer b) some e in (k.near, k.room)

-- nothing is to be copied
pub stays_there : (m : List ℕ) (c : Call) (answer : ℕ) → (kept c ≡ 0) ⊎ (answer ≡ c.old) → m ≡ copied m c answer
stays_there m c answer h = sym (⊎_elim (λ e. copied_none m c answer e) (λ e. ap (λ (x : ℕ). copied m c x) e ∙ copied_there m c) h)
