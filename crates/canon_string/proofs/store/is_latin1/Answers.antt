use Rattle.std.proofs.Common.{List, arith, get_or, length, subst, sym, ℕ, ⊎_elim, ◌<◌, ◌≤◌}
use Rattle.std.proofs.lemmas.Bool.{cases_lt}
use Rattle.std.proofs.lemmas.List.{get_or_past}
use Rattle.canon_string.proofs.TextForms.{high_byte, string_low_bytes}
use Rattle.canon_string.proofs.store.is_latin1.Goals as goal

pub returns-then-text-i-ge196 : goal.returns-then-text-i-ge196
returns-then-text-i-ge196 c cs spells = sym (high_byte cs c.loop-i.i (subst (λ (l : List ℕ). 196 ≤ get_or l c.loop-i.i 0) (sym spells.is) c.if-text-i-ge196.true))

pub returns : goal.returns
returns c cs spells =
    let text = c.args.text.now in
    let each : (k : ℕ) → get_or text k 0 < 196 =
    λ k. ⊎_elim (λ (l : k < length text). c.loop-i.invariant k (omega (arith, l, c.loop-i-test.false))) (λ (g : length text ≤ k). omega (arith, get_or_past text k 0 g)) (cases_lt k (length text)) in
    sym (string_low_bytes cs (λ k. subst (λ (l : List ℕ). get_or l k 0 < 196) (sym spells.is) (each k)))
