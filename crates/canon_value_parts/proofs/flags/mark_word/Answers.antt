use Rattle.std.proofs.Common.{◌≡◌, ◌<◌, ◌+◌, ◌*◌, ◌/◌, ◌%◌, ◌^◌, ◌∙◌, ap, arith, bit_or, slice_index, w32, ℕ}
use Rattle.std.proofs.lemmas.Grind.{get_or_default_zero}
use Rattle.std.proofs.lemmas.Nat.{or_lt}
use Rattle.std.proofs.lemmas.Nat.Bits.{bit_at_set_other, bit_at_set_same}
use Rattle.canon_value_parts.proofs.FlagBits.{set_bit}
use Rattle.canon_value_parts.proofs.flags.mark_word.Goals as goal

pub returns : goal.returns
returns c =
    let xs = c.args.dst.now in
    let p = c.args.first + c.args.k / 32 in
    let r = c.args.k % 32 in
    let half = slice_index xs p % 2 ^ 32 in
    let mask = 1 * 2 ^ r % 2 ^ 32 in
    let word : c.u32.result ≡ bit_or half mask = c.u32.ensures ∙ ap (λ (n : ℕ). bit_or n mask) (c.get_u32.ensures ∙ ap (λ (n : ℕ). n % 2 ^ 32) (get_or_default_zero xs p c.index-dst-index.result c.requires.room)) in
    let small : half < 2 ^ 32 = omega arith in
    let below : mask < 2 ^ 32 = omega arith in
    let new = bit_or half mask in
    rw word (set_bit 32 p r new xs c.requires.room (or_lt 32 half mask small below) (bit_at_set_same w32 half r (omega arith)) (λ j other. bit_at_set_other w32 half r (omega arith) j other))
