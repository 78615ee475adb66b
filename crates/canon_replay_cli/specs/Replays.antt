-- What the word `replay` asks: a script, and the bytes of a recording.
use Rattle.std.specs.Prelude.{List, None, Option, Some, codes, if◌then◌else◌, option_and_then, option_map, ℕ, ⊤}
use Rattle.serde_json.specs.Data.{Data}
use Rattle.serde_json.specs.Find.{as_object, get}
use Rattle.canon_context.specs.declared.component.Component.{Component}
use Rattle.canon_json.specs.Hex.{bytes_of}
use Rattle.canon_json.specs.Json.{has_len}
use Rattle.canon_recording.specs.Fits.{IsRecordable}
use Rattle.canon_script.specs.Script.{Play}
use Rattle.canon_replay_cli.specs.Lines.{IsToldOf}
use Rattle.canon_replay_cli.specs.Scripts.{AreCallItems, IsOfScript, IsRecordableScript, plain_script_of}

-- a script, and bytes
pub record ReplayTask : Type 0 where
  pub script : Play
  pub bytes : List ℕ

abbrev pub replay_task_with : Play → List ℕ → ReplayTask
replay_task_with script bytes = record { script = script; bytes = bytes }

-- an object of two members: `script`, and `hex`
abbrev pub replay_task_of : Data → Option ReplayTask
replay_task_of d =
    if has_len 2 (as_object d)
    then option_and_then (λ bytes. option_map (λ script. replay_task_with script bytes)
    (option_and_then plain_script_of (get (codes "script") d)))
    (option_and_then bytes_of (get (codes "hex") d))
    else None

-- there are none, or the script isn't one of calls that may be recorded
abbrev pub IsNoReplayTask : Option ReplayTask → Type 0
IsNoReplayTask None = ⊤
IsNoReplayTask (Some task) = ¬ IsRecordableScript task.script

-- The text tells what became of the bytes, by the component of the script, whose calls may be recorded.
pub record IsReplayText (task : ReplayTask) (text : List ℕ) : Type 0 where
  pub component : Component
  pub is_of : IsOfScript task.script component
  pub recordable : IsRecordable component
  pub all_calls : AreCallItems task.script.items
  pub told : IsToldOf component task.script.fuel task.script.turns task.bytes text
