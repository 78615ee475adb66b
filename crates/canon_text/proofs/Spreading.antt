-- Runs of ASCII that are written as the bytes of units.
use Rattle.std.proofs.Common.{List, ap, arith, flat_map, get_or, length, sym, ℕ, ◌*◌, ◌++◌, ◌+◌, ◌<◌, ◌∙◌, ◌≡◌, ◌≤◌}
use Rattle.std.proofs.lemmas.Grind.{flat_map-append}
use Rattle.canon_model.specs.Text.{unit_bytes}
use Rattle.canon_text.specs.Runs.{AllBelow, Spreads, run}
use Rattle.canon_text.specs.Writing.{placed}
use Rattle.canon_text.proofs.Bytes.{placed-more, placed-nil}
use Rattle.canon_text.proofs.Copied.{length-placed, length-run, run-append, run-more, run-one, run_of_one}
use Rattle.canon_text.proofs.Widths.{length-unit_bytes}

pub spreads-none : (source old : List ℕ) (from at : ℕ) → from ≤ length source → at ≤ length old → Spreads source old old from at 0
spreads-none source old from at h g = record {
  inside = omega arith;
  room = omega arith;
  below = λ k. omega arith;
  writes = sym (placed-nil old at);
}

pub length-spread : (source old new : List ℕ) (from at n : ℕ) → Spreads source old new from at n → length new ≡ length old
length-spread source old new from at n h =
    let xs = run source from n in
    let long : length (flat_map unit_bytes xs) ≡ 2 * n = omega (arith, length-unit_bytes xs, length-run source from n h.inside) in
    ap length h.writes ∙ length-placed old (flat_map unit_bytes xs) at (omega (arith, h.room))

pub spreads-more : (source old now new : List ℕ) (from at n k : ℕ) → Spreads source old now from at n → Spreads source now new (from + n) (at + 2 * n) k → Spreads source old new from at (n + k)
spreads-more source old now new from at n k h g =
    let xs = run source from n in
    let ys = run source (from + n) k in
    let long : length (flat_map unit_bytes xs) ≡ 2 * n = omega (arith, length-unit_bytes xs, length-run source from n h.inside) in
    let both : flat_map unit_bytes xs ++ flat_map unit_bytes ys ≡ flat_map unit_bytes (run source from (n + k)) =
    sym (flat_map-append unit_bytes xs ys) ∙ ap (λ l. flat_map unit_bytes l) (sym (run-append source from n k)) in
    record {
      inside = omega (arith, g.inside);
      room = omega (arith, g.room, length-spread source old now from at n h);
      below = run-more 128 source from n k h.below g.below;
      writes = g.writes ∙ placed-more old now (flat_map unit_bytes xs) (flat_map unit_bytes ys) at (at + 2 * n) (omega (arith, h.room)) h.writes (omega arith) ∙ ap (λ l. placed old at l) both;
    }

pub spreads-block : (source now new : List ℕ) (from at n : ℕ) → from + n ≤ length source → at + 2 * n ≤ length now → AllBelow 128 (run source from n)
    → new ≡ placed now at (flat_map unit_bytes (run source from n)) → Spreads source now new from at n
spreads-block source now new from at n h g small w = record { inside = h; room = g; below = small; writes = w }

pub spreads-one : (source now new : List ℕ) (from at u : ℕ) → from < length source → at + 2 ≤ length now → get_or source from 0 < 128 → u ≡ get_or source from 0 → new ≡ placed now at (unit_bytes u) → Spreads source now new from at 1
spreads-one source now new from at u h g small is w = record {
  inside = omega arith;
  room = omega arith;
  below = run_of_one 128 source from h small;
  writes = w ∙ ap (λ x. placed now at (unit_bytes x)) is ∙ ap (λ l. placed now at (flat_map unit_bytes l)) (sym (run-one source from h));
}
