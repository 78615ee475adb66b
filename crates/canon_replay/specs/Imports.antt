-- What imports give that answer as recorded.
use Rattle.std.specs.Prelude.{List, None, Option, Some, if◌then◌else◌, length, slice_get, ℕ, ◌==◌}
use Rattle.canon_host.specs.HostSide.{Giving, LoggedEntry, gives_values}
use Rattle.canon_script.specs.Imports.{HostAnswer}
use Rattle.canon_literals.specs.Literals.{literals_view}
use Rattle.canon_imports.specs.Imports.{GivesAnswer}
use Rattle.canon_recording.specs.Recordings.{ServedAsk}

-- the recorded results, where the ask was one of import n
abbrev pub answer_of_ask : ℕ → Option ServedAsk → HostAnswer
answer_of_ask n None = None
answer_of_ask n (Some a) = if a.import == n then Some (literals_view a.results) else None

-- What import n gives after these asks: the results of the recorded ask of that place, where it was one of import n. Else it refuses.
abbrev pub recorded_answer : List ServedAsk → List LoggedEntry → ℕ → HostAnswer
recorded_answer asks log n = answer_of_ask n (slice_get asks (length log))

abbrev pub GivesNext : {T : Type 0} → List ServedAsk → Giving T
GivesNext asks = gives_values (λ log n before params result after. GivesAnswer (recorded_answer asks log n) before params result after)
