-- The recorded ask that comes next, and the log with one more.
use Rattle.std.proofs.Common.{List, Option, Some, [], ap, length, ℕ, ◌++◌, ◌∙◌, ◌∷◌, ◌≡◌}
use Rattle.std.proofs.lemmas.List.{map-append}
use Rattle.std.proofs.lemmas.Option.{slice_get-map}
use Rattle.std.specs.Prelude.{option_map, slice_get}
use Rattle.canon_host.specs.HostSide.{LoggedEntry}
use Rattle.canon_host.specs.Imports.{logged}
use Rattle.canon_script.specs.Imports.{HostAnswer}
use Rattle.canon_imports.specs.Imports.{entries_of, line_entry}
use Rattle.canon_imports.specs.declared.imports.Line.{Line}
use Rattle.canon_recording.proofs.Rows.{map_length}
use Rattle.canon_recording.specs.Recordings.{served_ask, served_asks}
use Rattle.canon_recording.specs.declared.recording.Served.{Served}
use Rattle.canon_replay.specs.Imports.{answer_of_ask, recorded_answer}

abbrev pub replay_log : List Line → Option (List LoggedEntry)
replay_log lines = Some (entries_of lines)

pub replay_log_more : (lines lines2 : List Line) (l : Line) → lines2 ≡ lines ++ l ∷ [] → replay_log lines2 ≡ logged (replay_log lines) (line_entry l)
replay_log_more lines lines2 l more = ap replay_log more ∙ ap (λ (es : List LoggedEntry). Some es) (map-append line_entry lines (l ∷ []))

-- the answer by the lines, and by the same lines after room was made
pub replay_next_is : (asks : List Served) (lines lines2 : List Line) (n : ℕ) (a : HostAnswer) → a ≡ recorded_answer (served_asks asks) (entries_of lines2) n → lines2 ≡ lines → a ≡ recorded_answer (served_asks asks) (entries_of lines) n
replay_next_is asks lines lines2 n a is same = is ∙ ap (λ (ls : List Line). recorded_answer (served_asks asks) (entries_of ls) n) same

-- where the ask at the place of the next line is this one, or there is none
pub there_is : (asks : List Served) (lines : List Line) (n : ℕ) (o : Option Served) → slice_get asks (length lines) ≡ o → recorded_answer (served_asks asks) (entries_of lines) n ≡ answer_of_ask n (option_map served_ask o)
there_is asks lines n o e = ap (λ i. answer_of_ask n (slice_get (served_asks asks) i)) (map_length line_entry lines) ∙ ap (answer_of_ask n) (slice_get-map served_ask asks (length lines) ∙ ap (option_map served_ask) e)
