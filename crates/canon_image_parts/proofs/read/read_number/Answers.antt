use Rattle.std.proofs.Common.{arith, ap, drop, length, take, w32, ℕ, ◌+◌, ◌-◌, ◌∙◌, ◌≡◌, ◌≤◌}
use Rattle.std.specs.Int.{from_le_bytes}
use Rattle.canon_bytes.proofs.Numbers.{num_read_4}
use Rattle.canon_image_parts.proofs.Fetching.{number_read}
use Rattle.canon_image_parts.proofs.read.read_number.Goals as goal

pub returns : goal.returns
returns c =
    let bs = c.args.bytes.now in
    let at = c.args.at.now in
    let room : at + 4 ≤ length bs = omega (arith, c.if-bytes-at-lt4.false, c.requires.inside) in
    let count : at + 4 - at ≡ 4 = omega arith in
    let copied = c.copy_from_slice.ensures.after ∙ ap (λ (n : ℕ). take n (drop at bs)) count in
    record { reads = number_read bs at 4 room (λ i. omega (arith, c.type_inv.bytes i)) c.from_le_bytes.result (c.from_le_bytes.ensures ∙ (ap (from_le_bytes w32) copied ∙ num_read_4 bs at room)) }
