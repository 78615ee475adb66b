-- How a unit and the next make a character of UTF-16.
use Rattle.std.specs.Prelude.{IfSome, IsSomeAnd, List, Option, get_or, ℕ, ◌-◌, ◌<◌, ◌≡◌, ◌≤◌, ◌⊎◌}
use Rattle.std.specs.Char.Utf16.{surrogate_pair_char}

-- c is the unit u, or the unit and the next
abbrev pub IsCharOf : ℕ → Option ℕ → ℕ → Type 0
IsCharOf u next c = ((c ≡ u) × ((u < 0xD800) ⊎ (0xE000 ≤ u)))
    ⊎ ((0xD800 ≤ u) × (u < 0xDC00) × IsSomeAnd next (λ v. (0xDC00 ≤ v) × (v < 0xE000) × (c ≡ surrogate_pair_char u v)))

-- u is a surrogate, and begins no pair
abbrev pub IsLone : ℕ → Option ℕ → Type 0
IsLone u next = (0xD800 ≤ u) × (u < 0xE000) × IfSome next (λ v. u < 0xDC00 → (v < 0xDC00) ⊎ (0xE000 ≤ v))

-- no unit is a surrogate
abbrev pub HasNoSurrogate : List ℕ → Type 0
HasNoSurrogate us = (k : ℕ) → (get_or us k 0 < 0xD800) ⊎ (0xE000 ≤ get_or us k 0)

-- no pair stands across a place: the unit before it begins none, or the unit behind it ends none
abbrev pub CutsNoPair : List ℕ → ℕ → Type 0
CutsNoPair us at = ((get_or us (at - 1) 0 < 0xD800) ⊎ (0xDC00 ≤ get_or us (at - 1) 0)) ⊎ (get_or us at 0 < 0xDC00)
