use Rattle.std.proofs.Common.{Some, codes, rules, string_bytes, true, ◌≡◌}
use Rattle.std.proofs.lemmas.Result.{IfOk-weaker}
use Rattle.serde_json.specs.Find.{as_object, get}
use Rattle.serde_json.specs.View.{view}
use Rattle.canon_json.specs.Hex.{bytes_of}
use Rattle.canon_json.specs.Json.{has_len}
use Rattle.canon_replay_cli.proofs.Replayed.{task_is, told_of_task}
use Rattle.canon_replay_cli.specs.Replays.{replay_task_with}
use Rattle.canon_replay_cli.proofs.lines.replay_lines.Goals as goal

pub returns-clause-done : goal.returns-clause-done
returns-clause-done c =
    let tree = view c.args.v.now in
    let s = view c.in-Some.script.now in
    let h = view c.in-Some-get.hex.now in
    let bytes = c.in_ok-bytes.bytes.items in
    let two : has_len 2 (as_object tree) ≡ true = search rules in
    let script : get (codes "script") tree ≡ Some s = search rules in
    let hex : get (codes "hex") tree ≡ Some h = search rules in
    let spelled : bytes_of h ≡ Some bytes = search rules in
    let (play, is, by) = c.in_ok-scripted.ensures.script in
    IfOk-weaker c.lines_of.result _ _ (λ text told. (
      replay_task_with play bytes,
      task_is tree s h play bytes two script hex is spelled,
      told_of_task play c.in_ok-scripted.scripted bytes c.deref.result.now (string_bytes text) by c.deref.ensures.value told,
    )) c.lines_of.ensures.lines
