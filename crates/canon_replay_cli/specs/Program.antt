-- What the program reads, and what it answers.
use Rattle.std.specs.Prelude.{ℕ, ◌≡◌, ◌<◌, ◌≤◌, ◌⊎◌, List, Option, None, Some, String, [], ◌∷◌, codes, if◌then◌else◌, length, nat_eq, string_bytes, ⊤}
use lib.Pointwise.{pointwise}
use Rattle.std.specs.declared.alloc.Global.{Global}
use Rattle.serde_json.specs.Data.{Data}
use Rattle.canon_script.specs.Script.{Play}
use Rattle.canon_cli.specs.Program.{IsInput, IsJson, IsNoJson, IsStatus, max_input}
use Rattle.canon_cli.specs.declared.status.Status.{Status}
use Rattle.canon_replay_cli.specs.Recorded.{IsPlayTooLong, IsPlayRecorded}
use Rattle.canon_replay_cli.specs.Replays.{IsNoReplayTask, IsReplayText, ReplayTask, replay_task_of}
use Rattle.canon_replay_cli.specs.Scripts.{IsNoRecordable, plain_script_of}
use Rattle.canon_replay_cli.specs.declared.command.ReplayCommand.{ReplayCommand}
use Rattle.canon_replay_cli.specs.declared.command.ReplayCommand.TheVariants as command

-- the command that the words are
abbrev pub replay_command_named : List ℕ → Option ReplayCommand
replay_command_named name =
    if pointwise nat_eq name (codes "record") then Some command.Record
    else (if pointwise nat_eq name (codes "replay") then Some command.Replay else None)

abbrev pub replay_command_of : List (String Global) → Option ReplayCommand
replay_command_of [] = None
replay_command_of (word ∷ []) = replay_command_named (string_bytes word)
replay_command_of (word ∷ other ∷ words) = None

-- a JSON value isn't what the command reads
abbrev pub IsNoTaskOf : ReplayCommand → Data → Type 0
IsNoTaskOf command.Record tree = IsNoRecordable (plain_script_of tree)
IsNoTaskOf command.Replay tree = IsNoReplayTask (replay_task_of tree)

-- it was done, and this is to be written
abbrev pub IsDoneOf : ReplayCommand → Data → List ℕ → Type 0
IsDoneOf command.Record tree bytes = (play : Play) × (plain_script_of tree ≡ Some play) × IsPlayRecorded play bytes
IsDoneOf command.Replay tree text = (task : ReplayTask) × (replay_task_of tree ≡ Some task) × IsReplayText task text

-- it was played, and its recording is too long to be written
abbrev pub IsTooLongOf : ReplayCommand → Data → Type 0
IsTooLongOf command.Record tree = (play : Play) × (plain_script_of tree ≡ Some play) × IsPlayTooLong play
IsTooLongOf command.Replay tree = ⊥

-- what was read is a JSON value of which this is so
pub record ReadsSo (IsSo : Data → Type 0) (left left' : Option (List ℕ)) : Type 0 where
  pub input : List ℕ
  pub tree : Data
  pub whole : IsInput left left' input
  pub json : IsJson input tree
  pub so : IsSo tree

abbrev pub IsDoneBy : ReplayCommand → Option (List ℕ) → Option (List ℕ) → List ℕ → Type 0
IsDoneBy asked left left' bytes = ReadsSo (λ tree. IsDoneOf asked tree bytes) left left'

abbrev pub ReadsTooLong : ReplayCommand → Option (List ℕ) → Option (List ℕ) → Type 0
ReadsTooLong asked left left' = ReadsSo (IsTooLongOf asked) left left'

abbrev pub ReadsOther : ReplayCommand → Option (List ℕ) → Option (List ℕ) → Type 0
ReadsOther asked left left' = ReadsSo (IsNoTaskOf asked) left left'

-- those of `canon`, and 9
abbrev pub IsReplayStatus : Status → Type 0
IsReplayStatus s = IsStatus s ⊎ (s.0 ≡ 9)

-- The status of an input that was there to be read, where no read failed: each is answered, or memory ran out.
pub record AnswersReplay (asked : ReplayCommand) (input : List ℕ) (s : Status) : Type 0 where
  pub too_long : max_input < length input → (s.0 ≡ 6) ⊎ (s.0 ≡ 5)
  pub not_json : length input ≤ max_input → IsNoJson input → (s.0 ≡ 7) ⊎ (s.0 ≡ 5)
  pub no_task : length input ≤ max_input → (tree : Data) → IsJson input tree → IsNoTaskOf asked tree → (s.0 ≡ 8) ⊎ (s.0 ≡ 5)
  pub task : length input ≤ max_input → (tree : Data) → IsJson input tree → ¬ IsNoTaskOf asked tree → (s.0 ≡ 0) ⊎ ((s.0 ≡ 4) ⊎ ((s.0 ≡ 5) ⊎ (s.0 ≡ 9)))

-- an input that the command reads
pub record IsTaskOf (asked : ReplayCommand) (input : List ℕ) : Type 0 where
  pub short : length input ≤ max_input
  pub tree : Data
  pub json : IsJson input tree
  pub asks : ¬ IsNoTaskOf asked tree
