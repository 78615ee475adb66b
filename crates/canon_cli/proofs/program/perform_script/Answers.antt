use Rattle.std.proofs.Common.{ap, inr, option_map, refl, rules}
use Rattle.canon_cli.specs.Program.{script}
use Rattle.canon_player.specs.Session.{Session}
use Rattle.canon_script.specs.Script.{play_of}
use Rattle.canon_transcript.specs.Text.{transcript_text}
use Rattle.canon_cli.proofs.program.perform_script.Goals as goal

pub returns-in-Ok-clause-done : goal.returns-in-Ok-clause-done
returns-in-Ok-clause-done c =
    let p = play_of c.in_ok-script.script in
    let done : Session p c.play.new.transcript = search rules in
    (script p, ap (option_map (λ x. script x)) c.in_ok-script.ensures.script, (done, c.in-Ok.ensures))

pub returns-in-Err-clause-memory : goal.returns-in-Err-clause-memory
returns-in-Err-clause-memory c =
    let p = play_of c.in_ok-script.script in
    let done : Session p c.play.new.transcript = search rules in
    λ _. inr (script p, transcript_text c.play.new.transcript, ap (option_map (λ x. script x)) c.in_ok-script.ensures.script, (done, refl))
