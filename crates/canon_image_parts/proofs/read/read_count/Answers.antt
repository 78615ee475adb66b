use Rattle.std.proofs.Common.{arith, ap, drop, length, take, w64, ℕ, ◌+◌, ◌-◌, ◌∙◌, ◌≡◌, ◌≤◌}
use Rattle.std.specs.Int.{from_le_bytes}
use Rattle.canon_bytes.proofs.Numbers.{num_read_8}
use Rattle.canon_image_parts.proofs.Fetching.{number_read}
use Rattle.canon_image_parts.proofs.read.read_count.Goals as goal

pub returns : goal.returns
returns c =
    let bs = c.args.bytes.now in
    let at = c.args.at.now in
    let room : at + 8 ≤ length bs = omega (arith, c.if-bytes-at-lt8.false, c.requires.inside) in
    let count : at + 8 - at ≡ 8 = omega arith in
    let copied = c.copy_from_slice.ensures.after ∙ ap (λ (n : ℕ). take n (drop at bs)) count in
    record { reads = number_read bs at 8 room (λ i. omega (arith, c.type_inv.bytes i)) c.from_le_bytes.result (c.from_le_bytes.ensures ∙ (ap (from_le_bytes w64) copied ∙ num_read_8 bs at room)) }
