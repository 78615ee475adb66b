-- What a script leaves as a recording, once it was played.
use Rattle.std.specs.Prelude.{List, length, ℕ, ◌<◌, ◌^◌, ◌≤◌}
use Rattle.canon_context.specs.declared.component.Component.{Component}
use Rattle.canon_recording.specs.Fits.{FitsComponent, IsRecordable}
use Rattle.canon_recording.specs.Recordings.{RecordedCall, recording}
use Rattle.canon_script.specs.Script.{Play}
use Rattle.canon_player.specs.Session.{Session}
use Rattle.canon_transcript.specs.declared.transcript.Record.{Record}
use Rattle.canon_replay_cli.specs.Scripts.{AreCallItems, IsOfScript}
use Rattle.canon_replay_cli.specs.Taken.{TakesCalls}

-- these are the bytes of a recording of the component, which are few enough
abbrev pub IsRecordingOf : Component → List RecordedCall → List ℕ → Type 0
IsRecordingOf c calls bytes = FitsComponent c calls × (recording c).writes calls bytes × (length bytes ≤ 2 ^ 30)

-- each way to write these calls as a recording of the component has too many bytes
abbrev pub IsRecordingTooLong : Component → List RecordedCall → Type 0
IsRecordingTooLong c calls = (bs : List ℕ) → (recording c).writes calls bs → 2 ^ 30 < length bs

-- A script of calls was played, in a session that left these records; of its component, whose calls may be recorded, and of the calls that are taken this
-- is so.
pub record IsPlayTaken (play : Play) (IsSo : Component → List RecordedCall → Type 0) : Type 0 where
  pub records : List Record
  pub session : Session play records
  pub component : Component
  pub is_of : IsOfScript play component
  pub recordable : IsRecordable component
  pub all_calls : AreCallItems play.items
  pub calls : List RecordedCall
  pub taken : TakesCalls play.items records calls
  pub so : IsSo component calls

abbrev pub IsPlayRecorded : Play → List ℕ → Type 0
IsPlayRecorded play bytes = IsPlayTaken play (λ c calls. IsRecordingOf c calls bytes)

abbrev pub IsPlayTooLong : Play → Type 0
IsPlayTooLong play = IsPlayTaken play IsRecordingTooLong
