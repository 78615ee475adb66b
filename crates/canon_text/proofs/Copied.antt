-- Runs of units that are copied as they are.
use Rattle.std.proofs.Common.{Bool, List, [], ap, arith, drop, drop-drop, false, get_or, length, length-drop, length-take-le, refl, set, suc, sym, take, take-add, true, zero, ℕ, ⊎_elim, ◌++◌, ◌+◌, ◌-◌, ◌<◌, ◌∙◌, ◌∷◌, ◌≡◌, ◌≤◌}
use Rattle.std.proofs.lemmas.Bool.{cases_lt, false≢true}
use Rattle.std.specs.Bool.{MatchBool}
use Rattle.std.proofs.lemmas.List.{drop_more, get_or-append_right, get_or-drop, get_or-take, get_or_append_left, get_or_past, length-append, length-take, set_at, take-append-drop}
use Rattle.std.proofs.lemmas.Simd.{put_chunk_is}
use lib.Lanes.{put_chunk}
use Rattle.canon_text.specs.Runs.{AllBelow, Copies, run}
use Rattle.canon_text.specs.Writing.{placed}
use Rattle.canon_text.proofs.Bytes.{placed-more, placed-nil}

pub length-run : (source : List ℕ) (from count : ℕ) → from + count ≤ length source → length (run source from count) ≡ count
length-run source from count h = length-take-le count (drop from source) (omega (arith, length-drop from source))

pub run-append : (source : List ℕ) (from n k : ℕ) → run source from (n + k) ≡ run source from n ++ run source (from + n) k
run-append source from n k = take-add n k (drop from source) ∙ ap (λ l. run source from n ++ take k l) (drop-drop n from source)

below-append : (limit : ℕ) (xs ys : List ℕ) → AllBelow limit xs → AllBelow limit ys → AllBelow limit (xs ++ ys)
below-append limit xs ys h g k = ⊎_elim
    (λ lt. omega (arith, h k, get_or_append_left xs ys 0 k lt))
    (λ le. omega (arith, g (k - length xs), get_or-append_right xs ys (length xs) k 0 refl le))
    (cases_lt k (length xs))

pub run-more : (limit : ℕ) (source : List ℕ) (from n k : ℕ) → AllBelow limit (run source from n) → AllBelow limit (run source (from + n) k) → AllBelow limit (run source from (n + k))
run-more limit source from n k h g i = omega (arith, below-append limit (run source from n) (run source (from + n) k) h g i, ap (λ l. get_or l i 0) (run-append source from n k))

pub length-placed : (old items : List ℕ) (at : ℕ) → at + length items ≤ length old → length (placed old at items) ≡ length old
length-placed old items at h = omega (arith, length-append (take at old) (items ++ drop (at + length items) old), length-append items (drop (at + length items) old), length-drop (at + length items) old, length-take-le at old (omega arith))

pub copies-none : (limit : ℕ) (source old : List ℕ) (from at : ℕ) → 0 < limit → from ≤ length source → at ≤ length old → Copies limit source old old from at 0
copies-none limit source old from at some h g = record {
  inside = omega arith;
  room = omega arith;
  below = λ k. some;
  writes = sym (placed-nil old at);
}

pub copies-more : (limit : ℕ) (source old now new : List ℕ) (from at n k : ℕ) → Copies limit source old now from at n → Copies limit source now new (from + n) (at + n) k → Copies limit source old new from at (n + k)
copies-more limit source old now new from at n k h g =
    let long : length (run source from n) ≡ n = length-run source from n h.inside in
    let same : length now ≡ length old = ap length h.writes ∙ length-placed old (run source from n) at (omega (arith, h.room)) in
    let split = run-append source from n k in
    record {
      inside = omega (arith, g.inside);
      room = omega (arith, g.room);
      below = run-more limit source from n k h.below g.below;
      writes = g.writes ∙ placed-more old now (run source from n) (run source (from + n) k) at (at + n) (omega (arith, h.room)) h.writes (omega arith) ∙ ap (λ l. placed old at l) (sym split);
    }

-- a short block, long blocks, short blocks, and units one by one
pub copies-four : (limit : ℕ) (source old a b c new : List ℕ) (from at i j k l : ℕ) → Copies limit source old a from at i →
    Copies limit source a b (from + i) (at + i) j → Copies limit source b c (from + (i + j)) (at + (i + j)) k →
    Copies limit source c new (from + (i + j + k)) (at + (i + j + k)) l → Copies limit source old new from at (i + j + k + l)
copies-four limit source old a b c new from at i j k l h1 h2 h3 h4 =
    let two = copies-more limit source old a b from at i j h1 h2 in
    let three = copies-more limit source old b c from at (i + j) k two h3 in
    copies-more limit source old c new from at (i + j + k) l three h4

pub run-one : (source : List ℕ) (from : ℕ) → from < length source → run source from 1 ≡ get_or source from 0 ∷ []
run-one source from h = ap (λ l. take 1 l) (drop_more source from 0 h)

pub set-placed : (now : List ℕ) (at x : ℕ) → at < length now → set now at x ≡ placed now at (x ∷ [])
set-placed now at x h =
    let whole : now ≡ take at now ++ get_or now at 0 ∷ drop (at + 1) now = sym (take-append-drop at now) ∙ ap (λ l. take at now ++ l) (drop_more now at 0 h) in
    ap (λ l. set l at x) whole ∙ set_at (take at now) (get_or now at 0) (drop (at + 1) now) x at (length-take-le at now (omega arith))

pub run_of_one : (limit : ℕ) (source : List ℕ) (from : ℕ) → from < length source → get_or source from 0 < limit → AllBelow limit (run source from 1)
run_of_one limit source from h small = one_below limit (get_or source from 0) (run source from 1) small (run-one source from h)
  where
    one_below : (limit x : ℕ) (xs : List ℕ) → x < limit → xs ≡ x ∷ [] → (k : ℕ) → get_or xs k 0 < limit
    one_below limit x xs lt e zero = omega (arith, ap (λ l. get_or l 0 0) e)
    one_below limit x xs lt e (suc k) = omega (arith, ap (λ l. get_or l (suc k) 0) e)

pub copies-one : (limit : ℕ) (source now new : List ℕ) (from at : ℕ) → from < length source → at < length now → get_or source from 0 < limit → new ≡ set now at (get_or source from 0) → Copies limit source now new from at 1
copies-one limit source now new from at h g small w =
    let one = run-one source from h in
    record {
      inside = omega arith;
      room = omega arith;
      below = run_of_one limit source from h small;
      writes = w ∙ set-placed now at (get_or source from 0) g ∙ ap (λ l. placed now at l) (sym one);
    }

pub copies-block : (limit : ℕ) (source now new lanes : List ℕ) (from at n : ℕ) → from + n ≤ length source → at + n ≤ length now → AllBelow limit (run source from n) → lanes ≡ run source from n
    → new ≡ put_chunk at now lanes → Copies limit source now new from at n
copies-block limit source now new lanes from at n h g small same w =
    let items = run source from n in
    let long : length items ≡ n = length-run source from n h in
    record {
      inside = h;
      room = g;
      below = small;
      writes = w ∙ ap (λ l. put_chunk at now l) same ∙ put_chunk_is at now items (omega arith) ∙ ap (λ l. take at now ++ (items ++ l)) (drop-drop (length items) at now);
    }

pub when_true : (P Q : Type 0) (b : Bool) → MatchBool b P Q → b ≡ true → P
when_true P Q true m e = m
when_true P Q false m e = absurd (false≢true e)

-- what holds of all units holds of a run
pub run-below : (limit : ℕ) (source : List ℕ) (from n : ℕ) → 0 < limit → AllBelow limit source → AllBelow limit (run source from n)
run-below limit source from n some h k = ⊎_elim
    (λ lt. omega (arith, h (from + k), get_or-take n (drop from source) k 0 lt ∙ get_or-drop from source k 0))
    (λ le. omega (arith, get_or_past (run source from n) k 0 (omega (arith, length-take n (drop from source)))))
    (cases_lt k n)
