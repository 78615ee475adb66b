-- What two functions of the host answer, each in its place.
use Rattle.std.specs.Prelude.{suc, zero, ℕ}
use Rattle.canon_host.specs.Forms.{ValuesAnswering, over_values}
use Rattle.canon_host.specs.HostSide.{Giving}

-- by the number of an import: 0 may answer as the first function may, each other number as the last may
abbrev pub one_of_two : {T : Type 0} → ValuesAnswering T → ValuesAnswering T → ℕ → ValuesAnswering T
one_of_two first last zero = first
one_of_two first last (suc n) = last

-- All of them are over values, each is one of these two, and no asks are exposed.
abbrev pub gives_two : {T : Type 0} → ValuesAnswering T → ValuesAnswering T → Giving T
gives_two first last = record { answers = λ log n before params result after. ⊥; form = λ n. over_values (one_of_two first last n) }
