-- The characters from U+0080 to U+00FF in UTF-8.
use Rattle.std.specs.Prelude.{ℕ, ◌*◌, ◌+◌, ◌-◌, ◌<◌, ◌≡◌, ◌≤◌, ◌⊎◌}

-- c is these two bytes
abbrev pub IsTwoBytes : ℕ → ℕ → ℕ → Type 0
IsTwoBytes first second c = (194 ≤ first) × (first ≤ 195) × (128 ≤ second) × (second < 192) × (c ≡ (first - 192) * 64 + (second - 128))

-- two bytes that are none of them
abbrev pub IsNotTwoBytes : ℕ → ℕ → Type 0
IsNotTwoBytes first second = (first < 194) ⊎ ((195 < first) ⊎ ((second < 128) ⊎ (192 ≤ second)))
