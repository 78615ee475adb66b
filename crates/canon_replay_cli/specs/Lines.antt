-- The lines that tell how a replay ended.
use Rattle.std.specs.Prelude.{List, None, Ok, Err, Option, Some, [], codes, length, suc, zero, ℕ, ◌++◌, ◌≡◌, ◌⊎◌}
use Rattle.std.specs.Fmt.{decimal}
use Rattle.canon_context.specs.declared.component.Component.{Component}
use Rattle.canon_recording_parts.specs.declared.error.ReplayError.{ReplayError}
use Rattle.canon_recording_parts.specs.declared.error.ReplayError.TheVariants as error
use Rattle.canon_recording.specs.Coded.{IsDecoded}
use Rattle.canon_recording.specs.Recordings.{RecordedCall, calls_in}
use Rattle.canon_recording.specs.declared.recording.Recording.{Recording}
use Rattle.canon_replay.specs.Calls.{IsReplayed}
use Rattle.canon_replay.specs.declared.outcome.Outcome.{Outcome}
use Rattle.canon_replay.specs.declared.outcome.Outcome.TheVariants as outcome

-- a line for each of so many calls
abbrev pub same_lines : ℕ → List ℕ
same_lines zero = []
same_lines (suc k) = same_lines k ++ (codes "call " ++ decimal k ++ codes " same\n")

-- a line for each call before one that isn't as it was recorded, and its own; or for each of so many
abbrev pub outcome_text : ℕ → Outcome → List ℕ
outcome_text count outcome.Same = same_lines count
outcome_text count (outcome.Differs k e) = same_lines k ++ (codes "call " ++ decimal k ++ codes " differs " ++ decimal e ++ codes "\n")
outcome_text count (outcome.Unlawful k e) = same_lines k ++ (codes "call " ++ decimal k ++ codes " unlawful " ++ decimal e ++ codes "\n")

-- why bytes are no recording; the other errors aren't told of bytes
abbrev pub replay_error_line : ReplayError → Option (List ℕ)
replay_error_line (error.BadRecording p) = Some (codes "error BadRecording " ++ decimal p ++ codes "\n")
replay_error_line (error.NotARun k) = Some (codes "error NotARun " ++ decimal k ++ codes "\n")
replay_error_line error.TooLong = None
replay_error_line error.OutOfMemory = None

-- the text tells how the calls of a recording were made again
abbrev pub IsReplayedText : Component → List RecordedCall → ℕ → ℕ → List ℕ → Type 0
IsReplayedText c calls fuel turns text = (o : Outcome) × IsReplayed c calls fuel turns (Ok o) × (text ≡ outcome_text (length calls) o)

-- it tells this of the recording that the bytes are, or why they are none
abbrev pub IsToldOf : Component → ℕ → ℕ → List ℕ → List ℕ → Type 0
IsToldOf c fuel turns bytes text =
    ((r : Recording) × IsDecoded c bytes (Ok r) × IsReplayedText c (calls_in r) fuel turns text)
    ⊎ ((e : ReplayError) × IsDecoded c bytes (Err e) × (replay_error_line e ≡ Some text))
