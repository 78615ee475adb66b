-- An index of the host's table, as one number.
use Rattle.std.specs.Prelude.{ℕ, ◌+◌, ◌*◌, ◌/◌, ◌%◌, ◌^◌}

-- an index of the host's table, with the generation in which it was given
pub record GivenIndex : Type 0 where
  pub index : ℕ
  pub generation : ℕ

-- as one number of 64 bits: the index in the low 32, the generation in the high 32
abbrev pub packed : GivenIndex → ℕ
packed x = x.index + x.generation * 2 ^ 32

abbrev pub unpacked : ℕ → GivenIndex
unpacked n = record { index = n % 2 ^ 32; generation = n / 2 ^ 32 }
