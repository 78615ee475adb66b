-- What the code of a rule does is what the rule says: xs and t are its fields, and a is what contracts see.
use Rattle.std.proofs.Common.{◌≡◌, ℕ, ◌+◌, ◌%◌, ◌<◌, true, Option, Result, ◌≤◌, ◌^◌, List, ◌++◌, take, drop, Some, sym, ap, ap₂, subst, ◌∙◌, arith}
use Rattle.std.specs.List.{slice_get}
use Rattle.canon_model.specs.Layout.{align_to}
use Rattle.canon_model.specs.Memory.{Block}
use Rattle.canon_model.proofs.Layouts.{align_to-le}
use Rattle.canon_memory.specs.Realloc.{block, call}
use Rattle.canon_memory.specs.declared.error.GuestFault.{GuestFault}
use Rattle.canon_scripted.specs.Allocator.{Allocator, DoesPlace, InRow, Placed, allocate, is_live, last_placed, listed, moved_placed, placed_inside, with_block_resized, smaller_placed}
use Rattle.canon_scripted.proofs.Rows.{among_got, live_from, resized_at, row_add, row_last, row_smaller}
use Rattle.canon_scripted.proofs.Rules.{at_place, is_last, is_larger, is_smaller, is_unaligned, placed_yes}

abbrev pub allocator : ℕ → List Block → Allocator
allocator top live = record { top = top; live = live }

pub in_row : (t : ℕ) (xs : List Block) (a : Allocator) → allocator t xs ≡ a → InRow 0 xs t → InRow 0 a.live a.top
in_row t xs a e h = subst (λ (b : Allocator). InRow 0 b.live b.top) e h

-- the block at place i was given n bytes
pub record Replaced (a : Allocator) (t : ℕ) (xs : List Block) (i old old_size n : ℕ) (live : List Block) : Type 0 where
  pub view : allocator t xs ≡ a
  pub row : InRow 0 xs t
  pub got : slice_get a.live i ≡ Some (block old old_size)
  pub now : live ≡ take i xs ++ listed old n ++ drop (i + 1) xs

module _ (a : Allocator) (t : ℕ) (xs : List Block) (i old old_size n : ℕ) (live : List Block) (h : Replaced a t xs i old old_size n live) where
  pub a_row : InRow 0 a.live a.top
  a_row = in_row t xs a h.view h.row

  pub is_resized : live ≡ with_block_resized a.live (block old old_size) n
  is_resized = h.now ∙ ap (λ (b : Allocator). take i b.live ++ listed old n ++ drop (i + 1) b.live) h.view ∙ sym (resized_at 0 a.live a.top i (block old old_size) n a_row h.got)

  pub last_row : old + old_size ≡ a.top → InRow 0 live (old + n)
  last_row last = subst (λ ys. InRow 0 ys (old + n)) (sym is_resized) (row_last 0 a.live a.top (block old old_size) n (among_got a.live i _ h.got) last a_row)

  pub last_does : (len : ℕ) → old < 2 ^ 32 → old + n ≤ len → last_placed len a (call old old_size 1 n) ≡ Some (at_place old (allocator (old + n) live))
  last_does len near room = placed_yes len old n _ near room ∙ ap (λ ys. Some (at_place old (allocator (old + n) ys))) (sym is_resized)

  pub smaller_row : n ≤ old_size → InRow 0 live t
  smaller_row le = subst (λ (u : ℕ). InRow 0 live u) (sym (ap (λ (b : Allocator). b.top) h.view)) (subst (λ ys. InRow 0 ys a.top) (sym is_resized) (row_smaller 0 a.live a.top (block old old_size) n le a_row))

  pub smaller_does : (len : ℕ) → old < 2 ^ 32 → old + n ≤ len → smaller_placed len a (call old old_size 1 n) ≡ Some (at_place old (allocator t live))
  smaller_does len near room = placed_yes len old n _ near room ∙ ap₂ (λ (u : ℕ) (ys : List Block). Some (at_place old (allocator u ys))) (sym (ap (λ (b : Allocator). b.top) h.view)) (sym is_resized)

-- the block at place i was given up, and a new one was listed
module _ (a : Allocator) (t : ℕ) (xs : List Block) (i old old_size : ℕ) (live : List Block) (h : Replaced a t xs i old old_size 0 live)
    (align n start : ℕ) (live2 : List Block) (up : start ≡ align_to t align) (e : live2 ≡ live ++ listed start n) where
  pub moved_row : 0 < align → InRow 0 live2 (start + n)
  moved_row some =
      subst (λ ys. InRow 0 ys (start + n)) (sym e)
      (row_add 0 live t start n (omega (arith, align_to-le t align some, up)) (smaller_row a t xs i old old_size 0 live h (omega arith)))

  pub moved_does : (len : ℕ) → align_to t align < 2 ^ 32 → align_to t align + n ≤ len → moved_placed len a (call old old_size align n) ≡ Some (at_place start (allocator (start + n) live2))
  moved_does len near room =
      let top : t ≡ a.top = ap (λ (b : Allocator). b.top) h.view in
      let at : align_to a.top align ≡ start = ap (λ (u : ℕ). align_to u align) (sym top) ∙ sym up in
      let now : with_block_resized a.live (block old old_size) 0 ++ listed start n ≡ live2 = ap (λ ys. ys ++ listed start n) (sym (is_resized a t xs i old old_size 0 live h)) ∙ sym e in
      ap (λ (s : ℕ). placed_inside len s n (allocator (s + n) (with_block_resized a.live (block old old_size) 0 ++ listed s n))) at
      ∙ placed_yes len start n _ (subst (λ (s : ℕ). s < 2 ^ 32) (sym up) near) (subst (λ (s : ℕ). s + n ≤ len) (sym up) room)
      ∙ ap (λ ys. Some (at_place start (allocator (start + n) ys))) now

-- The allocator does what its rule does. The code has the alignment as a wider number, al.
module _ (len : ℕ) (a : Allocator) (i old old_size align al n : ℕ) (same : al ≡ align) (some : old_size ≡ 0 → ⊥) (got : slice_get a.live i ≡ Some (block old old_size))
    (after : Allocator) (result : Result ℕ GuestFault) where
  there : 0 < old_size
  there = omega (arith, some)

  living : is_live a.live (block old old_size) ≡ true
  living = live_from a.live _ (among_got a.live i _ got)

  abbrev As : Option Placed → Type 0
  As rule = DoesPlace rule a after result

  pub does_unaligned : (old % al ≡ 0 → ⊥) → As (moved_placed len a (call old old_size al n)) → As (allocate len a (call old old_size align n))
  does_unaligned d h =
      subst As (sym (is_unaligned len a (call old old_size align n) there living (subst (λ (x : ℕ). old % x ≡ 0 → ⊥) same d)))
      (subst (λ (x : ℕ). As (moved_placed len a (call old old_size x n))) same h)

  pub does_last : old + old_size ≡ a.top → old % al ≡ 0 → As (last_placed len a (call old old_size 1 n)) → As (allocate len a (call old old_size align n))
  does_last e d h = subst As (sym (is_last len a (call old old_size align n) there living e (subst (λ (x : ℕ). old % x ≡ 0) same d))) h

  pub does_smaller : (old + old_size ≡ a.top → ⊥) → n ≤ old_size → old % al ≡ 0 → As (smaller_placed len a (call old old_size 1 n)) → As (allocate len a (call old old_size align n))
  does_smaller e le d h = subst As (sym (is_smaller len a (call old old_size align n) there living e le (subst (λ (x : ℕ). old % x ≡ 0) same d))) h

  pub does_larger : (old + old_size ≡ a.top → ⊥) → old_size < n → As (moved_placed len a (call old old_size al n)) → As (allocate len a (call old old_size align n))
  does_larger e lt h =
      subst As (sym (is_larger len a (call old old_size align n) there living e lt))
      (subst (λ (x : ℕ). As (moved_placed len a (call old old_size x n))) same h)
