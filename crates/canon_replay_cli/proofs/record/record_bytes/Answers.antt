use Rattle.std.proofs.Common.{Err, None, Some, ap, sym, ◌∙◌, ◌≡◌}
use Rattle.std.proofs.lemmas.Result.{IfOk-weaker}
use Rattle.serde_json.specs.View.{view}
use Rattle.canon_json.specs.declared.error.ScriptError.TheVariants as refused
use Rattle.canon_recording.specs.Recordings.{calls_in}
use Rattle.canon_replay_cli.specs.Recorded.{IsRecordingOf}
use Rattle.canon_replay_cli.specs.declared.record.RecordError.TheVariants as error
use Rattle.canon_replay_cli.proofs.Recordable.{plain_is_script}
use Rattle.canon_replay_cli.proofs.RecordedScripts.{was_taken, was_too_long}
use Rattle.canon_replay_cli.proofs.record.record_bytes.Goals as goal

pub returns-in-Err-records_of-clause-bad_script : goal.returns-in-Err-records_of-clause-bad_script
returns-in-Err-records_of-clause-bad_script c =
    λ e.
    let (play, is, by) = c.in-Ok.ensures.script in
    let same : c.error_of-in-Err-records_of.result ≡ error.BadScript = cc in
    let bad = c.error_of-in-Err-records_of.ensures.bad_script.0 same in
    let none = c.in-Err-records_of.ensures.bad_script (ap (λ r. Err r) bad) in
    let no : None ≡ Some play = sym none ∙ plain_is_script (view c.args.v.now) play is in absurd (cc)

pub returns-in-Ok-recording_of-clause-done : goal.returns-in-Ok-recording_of-clause-done
returns-in-Ok-recording_of-clause-done c =
    let (play, is, by) = c.in-Ok.ensures.script in
    let (other, read, session) = c.in-Ok-records_of.ensures.played in
    IfOk-weaker c.bytes_of.result _ _ (λ bytes h. (
      play,
      is,
      was_taken (view c.args.v.now) play other c.in-Ok.scripted c.in-Ok-records_of.records.items (calls_in c.in-Ok-recording_of.recording) is by read session c.in-Ok-recording_of.ensures.takes
          (λ component calls. IsRecordingOf component calls bytes.items) h,
    )) c.bytes_of.ensures.written

pub returns-in-Ok-recording_of-clause-too_long : goal.returns-in-Ok-recording_of-clause-too_long
returns-in-Ok-recording_of-clause-too_long c =
    let (play, is, by) = c.in-Ok.ensures.script in
    let (other, read, session) = c.in-Ok-records_of.ensures.played in
    λ e. (
      play,
      is,
      was_too_long (view c.args.v.now) play other c.in-Ok.scripted c.in-Ok-records_of.records.items (calls_in c.in-Ok-recording_of.recording) is by read session c.in-Ok-recording_of.ensures.takes
          (c.bytes_of.ensures.too_long e),
    )
