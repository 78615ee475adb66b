-- Flags that are written one after another: into bytes of memory, and into words.
use Rattle.std.proofs.Common.{◌≡◌, ◌≤◌, ◌<◌, ◌+◌, ◌-◌, ◌*◌, ◌/◌, ◌%◌, ◌^◌, ◌∙◌, ◌++◌, All, List, String, []}
use Rattle.std.proofs.Common.{◌∷◌, ap, arith, get_or, inl, length, refl, slice_index, string_bytes, subst, sym, ℕ, ⊎_elim, take}
use Rattle.std.specs.Int.{bit_at}
use Rattle.std.specs.declared.alloc.Global.{Global}
use Rattle.std.proofs.Math.Nat.{mod-eq_of_lt}
use Rattle.std.proofs.Math.Seq.{take-length}
use Rattle.std.proofs.lemmas.List.{get_or-map, length-map, map_more}
use Rattle.canon_types.specs.Keeps.{names_of}
use Rattle.std.proofs.lemmas.Bool.{cases_eq}
use Rattle.std.proofs.lemmas.List.Elements.{All-nil, All-push}
use Rattle.canon_memory.specs.Realloc.{block}
use Rattle.canon_lowering.proofs.Steps.{writes_then}
use Rattle.canon_lowering.specs.Steps.{Writes}
use Rattle.canon_lowering.specs.Storing.{narrow}
use Rattle.canon_model.specs.Flat.{low_number}
use Rattle.canon_model.specs.Layout.{flag_words, flags_size}
use Rattle.canon_model.specs.Memory.{low, num}
use Rattle.canon_model.specs.Shape.{Name}
use Rattle.canon_value_parts.specs.Flags.{AreSetInWords, SetsBit, SomeUnknown}
use Rattle.canon_val.specs.Value.{Occurs}
use Rattle.canon_passing.specs.Words.{WordsWritten}
use Rattle.canon_value_parts.proofs.FlagBits.{Gains, digit_gains, digits, digits_none, digits_same}
use Rattle.canon_value_parts.proofs.FlagDigits.{byte_inside, num_digits, word_inside, words_digits}
use Rattle.canon_value_parts.proofs.FlagNames.{Differ, IsMarked, marked_all, marked_more, marked_none}

-- ---- a digit that gains a bit

-- of the digits of w bits from place i on, the one at q gained bit r
module _ (w : ℕ) (some : 0 < w) (xs ys : List ℕ) (n i q r : ℕ) (h : SetsBit w (i + q) r xs ys) (inside : q < n) (low : r < w) (small : (j : ℕ) → j < n → slice_index xs (i + j) < 2 ^ w) where
  pub still_small : (j : ℕ) → j < n → slice_index ys (i + j) < 2 ^ w
  still_small j l = ⊎_elim
      (λ (e : j ≡ q). subst (λ (x : ℕ). slice_index ys (i + x) < 2 ^ w) (sym e) h.below)
      (λ ne. subst (λ (x : ℕ). x < 2 ^ w) (sym (h.kept (i + j) (λ e. ne (omega (arith, e))))) (small j l))
      (cases_eq j q)

  pub digits_gain : Gains (w * q + r) (digits w (λ j. slice_index xs j) i n) (digits w (λ j. slice_index ys j) i n)
  digits_gain = digit_gains w some (λ j. slice_index xs j) (λ j. slice_index ys j) n i q r small still_small (λ j l ne. h.kept (i + j) (λ e. ne (omega (arith, e))))
      (record { here = h.here; others = λ j ne. h.others j ne ∙ ap (λ (x : ℕ). bit_at x j) (mod-eq_of_lt (small q inside)) }) inside low

-- ---- in bytes

-- the flags so far are those that are set in the bytes
pub record AreStored (xs ys : List ℕ) (at size : ℕ) (names set : List Name) : Type 0 where
  pub writes : Writes (block at size) xs ys
  pub below : (j : ℕ) → j < size → slice_index ys (at + j) < 2 ^ 8
  pub marked : IsMarked names set (num (narrow ys) at size)
  pub known : All (λ x. Occurs x names) set

pub stored_begin : (xs ys : List ℕ) (at size : ℕ) (names : List Name) → at + size ≤ length xs → Writes (block at size) xs ys → ((j : ℕ) → at ≤ j → j < at + size → slice_index ys j ≡ 0) → AreStored xs ys at size names []
stored_begin xs ys at size names room w none = record {
  writes = w;
  below = λ j l. let e : slice_index ys (at + j) ≡ 0 = none (at + j) (omega arith) (omega (arith, l)) in omega (arith, e);
  marked = marked_none names _ (num_digits ys size at (omega (arith, room, w.same_length)) ∙ digits_none 8 (λ j. slice_index ys j) size at (λ j l. none (at + j) (omega arith) (omega (arith, l))));
  known = All-nil (λ x. Occurs x names);
}

occurs_at : (names : List Name) (k : ℕ) (x : Name) → k < length names → ((d : Name) → get_or names k d ≡ x) → Occurs x names
occurs_at names k x l at = (k, x, l, at x, refl)

pub stored_more : (xs ys zs : List ℕ) (at size : ℕ) (names set : List Name) (k : ℕ) (x : Name) → at + size ≤ length xs → size ≡ flags_size (length names) → Differ names
    → AreStored xs ys at size names set → k < length names → ((d : Name) → get_or names k d ≡ x)
    → SetsBit 8 (at + k / 8) (k % 8) ys zs → AreStored xs zs at size names (set ++ x ∷ [])
stored_more xs ys zs at size names set k x room es differ h l is s =
    let inside : k / 8 < size = omega (arith, byte_inside (length names) k l, es) in
    let low : k % 8 < 8 = omega arith in
    let gains = digits_gain 8 (omega arith) ys zs size at (k / 8) (k % 8) s inside low h.below in
    let place : 8 * (k / 8) + k % 8 ≡ k = omega arith in
    let old = num_digits ys size at (omega (arith, room, h.writes.same_length)) in
    let new = num_digits zs size at (omega (arith, room, h.writes.same_length, s.same_length)) in
    let one : Gains k (num (narrow ys) at size) (num (narrow zs) at size) = subst (λ (i : ℕ). Gains i (num (narrow ys) at size) (num (narrow zs) at size)) place (rw (old, new) gains) in
    record {
      writes = writes_then (block at size) xs ys zs h.writes (record { same_length = s.same_length; kept = λ i out. s.kept i (λ e. out (inl (omega (arith, e), omega (arith, e, inside)))) });
      below = still_small 8 (omega arith) ys zs size at (k / 8) (k % 8) s inside low h.below;
      marked = marked_more names set _ _ k x differ h.marked l is one;
      known = All-push (λ y. Occurs y names) set x h.known (occurs_at names k x l is);
    }

-- ---- in words

pub record ArePut (ws vs : List ℕ) (first count : ℕ) (names set : List Name) : Type 0 where
  pub written : WordsWritten first (first + count) ws vs
  pub below : (j : ℕ) → j < count → slice_index vs (first + j) < 2 ^ 32
  pub marked : IsMarked names set (low_number vs first count)
  pub known : All (λ x. Occurs x names) set

-- words whose upper halves are zero
whole_words : (ws : List ℕ) (n i : ℕ) → ((j : ℕ) → j < n → slice_index ws (i + j) < 2 ^ 32) → low_number ws i n ≡ digits 32 (λ j. slice_index ws j) i n
whole_words ws n i below = words_digits ws n i ∙ digits_same 32 (λ j. low (slice_index ws j)) (λ j. slice_index ws j) n i (λ j l. mod-eq_of_lt (below j l))

pub put_begin : (ws vs : List ℕ) (first count : ℕ) (names : List Name) → WordsWritten first (first + count) ws vs → ((j : ℕ) → first ≤ j → j < first + count → slice_index vs j ≡ 0) → ArePut ws vs first count names []
put_begin ws vs first count names written none =
    let below : (j : ℕ) → j < count → slice_index vs (first + j) < 2 ^ 32 = λ j l. let e : slice_index vs (first + j) ≡ 0 = none (first + j) (omega arith) (omega (arith, l)) in omega (arith, e) in
    record {
      written = written;
      below = below;
      marked = marked_none names _ (whole_words vs count first below ∙ digits_none 32 (λ j. slice_index vs j) count first (λ j l. none (first + j) (omega arith) (omega (arith, l))));
      known = All-nil (λ x. Occurs x names);
    }

pub put_more : (ws vs us : List ℕ) (first count : ℕ) (names set : List Name) (k : ℕ) (x : Name) → count ≡ flag_words (length names) → Differ names → ArePut ws vs first count names set → k < length names → ((d : Name) → get_or names k d ≡ x)
    → SetsBit 32 (first + k / 32) (k % 32) vs us → ArePut ws us first count names (set ++ x ∷ [])
put_more ws vs us first count names set k x es differ h l is s =
    let inside : k / 32 < count = omega (arith, word_inside (length names) k l, es) in
    let low : k % 32 < 32 = omega arith in
    let gains = digits_gain 32 (omega arith) vs us count first (k / 32) (k % 32) s inside low h.below in
    let small = still_small 32 (omega arith) vs us count first (k / 32) (k % 32) s inside low h.below in
    let place : 32 * (k / 32) + k % 32 ≡ k = omega arith in
    let old = whole_words vs count first h.below in
    let new = whole_words us count first small in
    let one : Gains k (low_number vs first count) (low_number us first count) = subst (λ (i : ℕ). Gains i (low_number vs first count) (low_number us first count)) place (rw (old, new) gains) in
    record {
      written = record {
        stays = record { same_length = s.same_length ∙ h.written.stays.same_length; before = λ p u. s.kept p (λ e. omega (arith, e, u)) ∙ h.written.stays.before p u };
        behind = λ p u. s.kept p (λ e. omega (arith, e, u, inside)) ∙ h.written.behind p u;
      };
      below = small;
      marked = marked_more names set _ _ k x differ h.marked l is one;
      known = All-push (λ y. Occurs y names) set x h.known (occurs_at names k x l is);
    }

pub value_put_end : (ws vs : List ℕ) (first : ℕ) (names set : List Name) → ArePut ws vs first (flag_words (length names)) names set → AreSetInWords names set vs first
value_put_end ws vs first names set h =
    (λ j l u. subst (λ (i : ℕ). slice_index vs i < 2 ^ 32) (let e : first + (j - first) ≡ j = omega (arith, l) in e) (h.below (j - first) (omega (arith, l, u))), marked_all names set _ h.marked h.known)

-- a name of the value that the type hasn't
pub some_unknown : (names set : List Name) (i : ℕ) (x : Name) → i < length set → get_or set i x ≡ x → (Occurs x names → ⊥) → SomeUnknown names set
some_unknown names set i x l e other = (i, x, l, e, other)

-- ---- the names of a value, one after another

module _ (xs ys : List (String Global)) (same : ys ≡ xs) (i : ℕ) (s : String Global) (inside : i < length ys) (is : s ≡ get_or ys i s) where
  pub next_name : names_of (take (i + 1) ys) ≡ names_of (take i ys) ++ string_bytes s ∷ []
  next_name = map_more (λ (x : String Global). string_bytes x) ys i s inside ∙ ap (λ (x : String Global). names_of (take i ys) ++ string_bytes x ∷ []) (sym is)

  pub next_unknown : (names : List Name) → (Occurs (string_bytes s) names → ⊥) → SomeUnknown names (names_of xs)
  next_unknown names other =
      let l : i < length (names_of xs) = subst (λ (zs : List (String Global)). i < length (names_of zs)) same (simp length-map inside) in
      let e : get_or (names_of ys) i (string_bytes s) ≡ string_bytes s = get_or-map (λ (x : String Global). string_bytes x) ys i s (string_bytes s) inside ∙ ap (λ (x : String Global). string_bytes x) (sym is) in
      some_unknown names (names_of xs) i (string_bytes s) l (subst (λ (zs : List (String Global)). get_or (names_of zs) i (string_bytes s) ≡ string_bytes s) same e) other

pub last_name : (xs ys : List (String Global)) (i : ℕ) → ys ≡ xs → i ≤ length ys → length ys ≤ i → names_of (take i ys) ≡ names_of xs
last_name xs ys i same l u = ap (λ (n : ℕ). names_of (take n ys)) (let e : i ≡ length ys = omega (arith, l, u) in e) ∙ (ap (λ (zs : List (String Global)). names_of zs) (take-length ys) ∙ ap (λ (zs : List (String Global)). names_of zs) same)
