-- The numbers that JSON writes.
use Rattle.std.specs.Prelude.{ℕ, ℤ, pos, negsuc, nat_lt, nat_le, if◌then◌else◌, Option, None, Some, option_and_then}
use Rattle.serde_json.specs.Data.{Data}
use Rattle.serde_json.specs.Find.{as_i64, as_number}
use Rattle.canon_json.specs.Json.{word_of}

abbrev pub if_below : ℕ → ℕ → Option ℕ
if_below limit n = if nat_lt n limit then Some n else None

abbrev pub if_at_most : ℕ → ℕ → Option ℕ
if_at_most most n = if nat_le n most then Some n else None

-- from -half on and below half
abbrev pub if_within : ℕ → ℤ → Option ℤ
if_within half (pos n) = if nat_lt n half then Some (pos n) else None
if_within half (negsuc n) = if nat_lt n half then Some (negsuc n) else None

-- a number that is below the limit
abbrev pub number_below : ℕ → Data → Option ℕ
number_below limit d = option_and_then (if_below limit) (word_of d)

-- a number that is at most so much
abbrev pub number_to : ℕ → Data → Option ℕ
number_to most d = option_and_then (if_at_most most) (word_of d)

-- a number that may be negative
abbrev pub integer_of : Data → Option ℤ
integer_of d = option_and_then as_i64 (as_number d)

-- such a number from -half on and below half
abbrev pub integer_within : ℕ → Data → Option ℤ
integer_within half d = option_and_then (if_within half) (integer_of d)
