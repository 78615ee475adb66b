use Rattle.std.proofs.Common.{◌≡◌, ◌<◌, ◌+◌, ◌*◌, ◌/◌, ◌%◌, ◌^◌, arith, bit_or, rules, slice_index, w8}
use Rattle.std.proofs.Math.Nat.{mod-eq_of_lt}
use Rattle.std.proofs.lemmas.Nat.{or_lt}
use Rattle.std.proofs.lemmas.Nat.Bits.{bit_at_set_other, bit_at_set_same}
use Rattle.canon_value_parts.proofs.FlagBits.{set_bit}
use Rattle.canon_value_parts.proofs.flags.mark_byte.Goals as goal

pub returns : goal.returns
returns c =
    let xs = c.args.memory.now in
    let p = c.args.at + c.args.k / 8 in
    let r = c.args.k % 8 in
    let byte = slice_index xs p in
    let small : byte < 2 ^ 8 = search rules in
    let mask : 1 * 2 ^ r % 256 < 2 ^ 8 = omega arith in
    let whole : byte % 2 ^ 8 ≡ byte = mod-eq_of_lt small in
    set_bit 8 p r (bit_or byte (1 * 2 ^ r % 256)) xs c.requires.room (or_lt 8 byte _ small mask) (bit_at_set_same w8 byte r (omega arith))
    (λ j other. rw whole (bit_at_set_other w8 byte r (omega arith) j other))
