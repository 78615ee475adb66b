-- What a hole for digits with zeros before them prints.
use Rattle.std.proofs.Common.{◌≡◌, ◌^◌, ◌-◌, ℕ, [], false, rules}
use Rattle.std.specs.Fmt.{char_count, digits, format_spec, padded_integral}
use Rattle.canon_transcript.specs.Text.{hexadecimal}

pub padded_hexadecimal : (k n : ℕ) → padded_integral (format_spec 32 0 4 k (2 ^ 64 - 1)) false [] (digits 16 false n) ≡ hexadecimal k n
unfolding padded_integral char_count
padded_hexadecimal k n = search rules
