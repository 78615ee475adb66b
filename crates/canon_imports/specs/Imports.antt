-- What the imports of a script give, and which asks they refuse.
use Rattle.std.specs.Prelude.{Err, List, None, Ok, Option, Result, Some, [], ◌+◌, ◌==◌, ◌∷◌, ◌≡◌, drop, if◌then◌else◌, map, option_map, take, ℕ}
use Rattle.std.specs.Borrow.{Bor}
use Rattle.canon_context.specs.declared.host.HostStop.{HostStop}
use Rattle.canon_context.specs.declared.host.HostStop.TheVariants as stop
use Rattle.canon_val.specs.declared.val.Val.{Val}
use Rattle.canon_host.specs.HostSide.{LoggedEntry, Giving, gives_values}
use Rattle.canon_script.specs.Imports.{HostAnswer, answer_after}
use Rattle.canon_literals.specs.Literals.{literals_view}
use Rattle.canon_imports.specs.declared.imports.Line.{Line}

-- ---- the log

-- the first values of a line are the parameters, and the others the results
abbrev pub line_entry : Line → LoggedEntry
line_entry l = record { index = l.index; params = take l.given l.values.items; results = drop l.given l.values.items }

abbrev pub entries_of : List Line → List LoggedEntry
entries_of lines = map line_entry lines

-- how many of these asks were of import n
abbrev pub times : ℕ → List LoggedEntry → ℕ
times n [] = 0
times n (e ∷ log) = (if e.index == n then 1 else 0) + times n log

-- ---- the answers

-- What import n gives after these asks: of its answers the one whose place is how many of them were its own; none where that is a
-- refusal, or missing.
abbrev pub answer_next : List (List HostAnswer) → List LoggedEntry → ℕ → HostAnswer
answer_next answers log n = answer_after answers n (times n log)

-- It gives the values of an answer, or refuses where there is none, unless memory ran out; and it leaves the data.
abbrev pub IsAnsweredBy : HostAnswer → Result (List Val) HostStop → Type 0
IsAnsweredBy answer (Ok results) = answer ≡ Some (literals_view results)
IsAnsweredBy answer (Err stop.Refused) = answer ≡ None
IsAnsweredBy answer (Err stop.OutOfMemory) = Unit {0}

abbrev pub GivesAnswer : {T : Type 0} → HostAnswer → T → List Val → Result (List Val) HostStop → T → Type 0
GivesAnswer answer before params result after = IsAnsweredBy answer result × (after ≡ before)

abbrev pub GivesAnswers : {T : Type 0} → List (List HostAnswer) → Giving T
GivesAnswers answers = gives_values (λ log n before params result after. GivesAnswer (answer_next answers log n) before params result after)

-- an answer that is lent
abbrev pub answer_told : Option (Bor (List Val)) → HostAnswer
answer_told a = option_map (λ (vs : Bor (List Val)). literals_view vs.now) a
