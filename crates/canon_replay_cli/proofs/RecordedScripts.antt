-- A script that was read twice is one: what was played of it, and whose calls are taken.
use Rattle.std.proofs.Common.{List, Some, map, subst, ◌≡◌, ◌⊎◌}
use Rattle.serde_json.specs.Data.{Data}
use Rattle.canon_context.specs.declared.component.Component.{Component}
use Rattle.canon_recording.specs.Fits.{FitsComponent}
use Rattle.canon_recording.specs.Recordings.{RecordedCall}
use Rattle.canon_script.specs.Script.{Play, item_view, script_of}
use Rattle.canon_transcript.specs.declared.transcript.Record.{Record}
use Rattle.canon_player.specs.Session.{Session}
use Rattle.canon_replay_cli.specs.Recorded.{IsPlayTaken, IsPlayTooLong, IsRecordingTooLong}
use Rattle.canon_replay_cli.specs.Scripts.{IsScriptedBy, plain_script_of}
use Rattle.canon_replay_cli.specs.Taken.{TakesCalls}
use Rattle.canon_replay_cli.specs.declared.scripted.Scripted.{Scripted}
use Rattle.canon_replay_cli.proofs.PlayedRuns.{unwritten_is_long}
use Rattle.canon_replay_cli.proofs.Recordable.{one_script, plain_is_script}

module _ (d : Data) (play other : Play) (s : Scripted) (records : List Record) (calls : List RecordedCall) (is : plain_script_of d ≡ Some play) (by : IsScriptedBy play s)
    (read : script_of d ≡ Some other) (session : Session other records) (takes : TakesCalls (map item_view s.items.items) records calls) where
  played_once : Session play records
  played_once = subst (λ (p : Play). Session p records) (one_script (script_of d) other play read (plain_is_script d play is)) session

  takes_of_play : TakesCalls play.items records calls
  takes_of_play = subst (λ items. TakesCalls items records calls) by.items takes

  pub was_taken : (IsSo : Component → List RecordedCall → Type 0) → IsSo s.component calls → IsPlayTaken play IsSo
  was_taken IsSo so = record {
    records = records;
    session = played_once;
    component = s.component;
    is_of = by.component;
    recordable = by.recordable;
    all_calls = by.calls;
    calls = calls;
    taken = takes_of_play;
    so = so;
  }

  pub was_too_long : (¬ FitsComponent s.component calls) ⊎ IsRecordingTooLong s.component calls → IsPlayTooLong play
  was_too_long h = was_taken IsRecordingTooLong (unwritten_is_long play s.component by.component by.told records played_once calls takes_of_play h)
