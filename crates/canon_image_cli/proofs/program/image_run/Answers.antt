use Rattle.canon_cli.proofs.Inputs.{answers_input, completes_told, status_is}
use Rattle.canon_image_cli.specs.Task.{image_task_of}
use Rattle.canon_image_cli.proofs.program.image_run.Goals as goal

pub returns-clause-answers : goal.returns-clause-answers
returns-clause-answers g c =
    let s = c.answer_input.result in
    let h = c.answer_input.ensures in
    λ none unrisen.
    answers_input image_task_of (g.S.Source.left c.args.source.now) (g.S.Source.left c.answer_input.new.source) s h.no_other
    (λ e. h.used (status_is s 2 e)) (λ e. unrisen (h.read_fault (status_is s 3 e))) (λ e. h.too_long (status_is s 6 e)) (λ e. h.not_json (status_is s 7 e)) (λ e. h.bad_script (status_is s 8 e))
    (λ e. let d = h.done (status_is s 0 e) in (d.1.question, d.1.reads)) (λ e. let d = h.write_fault (status_is s 4 e) in (d.1.question, d.1.reads))

pub returns-clause-complete : goal.returns-clause-complete
returns-clause-complete g c =
    let s = c.answer_input.result in
    let h = c.answer_input.ensures in
    λ none unrisen sound.
    completes_told image_task_of (g.S.Source.left c.args.source.now) s (returns-clause-answers g c none unrisen) (λ e. sound (h.write_fault (status_is s 4 e)).3)
