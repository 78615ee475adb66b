use Rattle.std.proofs.Common.{Err, ap}
use Rattle.canon_replay_cli.proofs.Answering.{takes_few}
use Rattle.canon_replay_cli.proofs.program.answer_input.Goals as goal

pub returns-in-Err-clause-taken : goal.returns-in-Err-clause-taken
returns-in-Err-clause-taken g c =
    let h = c.in-Err.ensures in
    takes_few c.args.asked (g.S.Source.left c.args.source.now) (g.S.Source.left c.bytes_of_input.new.source) c.in-Err.status _ _ _ _ _ _ h.no_other
    (λ e. h.taken (ap (λ x. Err x) e)) (λ e. h.not_json (ap (λ x. Err x) e)) (λ e. h.bad_script (ap (λ x. Err x) e)) (λ e. h.not_recorded (ap (λ x. Err x) e))
