use Rattle.std.proofs.Common.{List, [], arith, inl, inr, sym, ℕ, ◌∙◌, ◌≡◌, ◌⊎◌}
use Rattle.std.proofs.KnownBytes.{Consumes-nil}
use Rattle.canon_cli.proofs.Inputs.{answers_input, completes_told, performed, status_is}
use Rattle.canon_conversions.proofs.Listed.{some_is}
use Rattle.canon_cli.specs.Program.{IsPerformed, command_of, task_of}
use Rattle.canon_cli.proofs.program.run.Goals as goal

pub returns-in-Some-clause-answers : goal.returns-in-Some-clause-answers
returns-in-Some-clause-answers g c =
    let s = c.run_command.result in
    let h = c.run_command.ensures in
    some_is _ (command_of c.args.words.now) c.in-Some.command (sym c.command_of.ensures ∙ c.in-Some.is) (λ unrisen.
    answers_input (task_of c.in-Some.command) (g.S.Source.left c.args.source.now) (g.S.Source.left c.run_command.new.source) s h.no_other
    (λ e. h.used (status_is s 2 e)) (λ e. unrisen (h.read_fault (status_is s 3 e))) (λ e. h.too_long (status_is s 6 e)) (λ e. h.not_json (status_is s 7 e)) (λ e. h.bad_script (status_is s 8 e))
    (λ e. let d = h.done (status_is s 0 e) in (d.1.task, d.1.reads)) (λ e. let d = h.write_fault (status_is s 4 e) in (d.1.task, d.1.reads)))

pub returns-in-Some-clause-complete : goal.returns-in-Some-clause-complete
returns-in-Some-clause-complete g c =
    let s = c.run_command.result in
    let h = c.run_command.ensures in
    some_is _ (command_of c.args.words.now) c.in-Some.command (sym c.command_of.ensures ∙ c.in-Some.is) (λ unrisen sound.
    completes_told (task_of c.in-Some.command) (g.S.Source.left c.args.source.now) s
    (answers_input (task_of c.in-Some.command) (g.S.Source.left c.args.source.now) (g.S.Source.left c.run_command.new.source) s h.no_other
    (λ e. h.used (status_is s 2 e)) (λ e. unrisen (h.read_fault (status_is s 3 e))) (λ e. h.too_long (status_is s 6 e)) (λ e. h.not_json (status_is s 7 e)) (λ e. h.bad_script (status_is s 8 e))
    (λ e. let d = h.done (status_is s 0 e) in (d.1.task, d.1.reads)) (λ e. let d = h.write_fault (status_is s 4 e) in (d.1.task, d.1.reads)))
    (λ e. sound (h.write_fault (status_is s 4 e)).3))

pub returns-in-Some-clause-memory : goal.returns-in-Some-clause-memory
returns-in-Some-clause-memory g c =
    let new = c.run_command.new in
    let left = g.S.Source.left c.args.source.now in
    let left2 = g.S.Source.left new.source in
    λ e.
    let h = c.run_command.ensures.memory e in (
      h.0,
      elim h.1 as (λ _. (new.transcript ≡ []) ⊎ ((text : List ℕ) × IsPerformed c.args.words.now left left2 new.transcript text)) [
        | inl none ↦ inl none
        | inr some ↦ inr (some.0, performed c.args.words.now c.in-Some.command left left2 new.transcript some.0 (sym c.command_of.ensures ∙ c.in-Some.is) some.1)
      ],
    )

pub returns-in-Some-gen_of-clause-taken : goal.returns-in-Some-gen_of-clause-taken
returns-in-Some-gen_of-clause-taken g c = λ _ _. ([], Consumes-nil (g.S.Source.left c.args.source.now), omega arith)

pub returns-in-Some-gen_of-clause-most : goal.returns-in-Some-gen_of-clause-most
returns-in-Some-gen_of-clause-most g c = ([], Consumes-nil (g.S.Source.left c.args.source.now), omega arith)
