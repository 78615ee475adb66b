use Rattle.std.proofs.Common.{rules, ◌≡◌, None}
use Rattle.canon_replay_guest.specs.Moves.{resumes}
use Rattle.canon_replay_guest.proofs.Doing.{at_within, differs_step, is_next, is_other, resume_begun, steps}
use Rattle.canon_replay_guest.proofs.guest.ReplayGuest.go_on.Goals as goal

pub returns-then-not-is_resume-clause-does : goal.returns-then-not-is_resume-clause-does
returns-then-not-is_resume-clause-does c =
    let none : c.args.self.now.stop ≡ None = search rules in
    differs_step (resumes c.args.words.now) c.args.self.now c.open.new.self c.trap.new.self c.args.memory.now.bytes c.args.memory.now.bytes c.trap.result c.trap.ensures.fault
    (resume_begun c.args.self.now c.open.new.self c.args.memory.now.bytes c.args.words.now none c.open.ensures.opens)
    (is_other _ c.open.new.self (resumes c.args.words.now) c.is_resume.result c.next.ensures c.is_resume.ensures c.read_words.ensures c.if-not-is_resume.true)
    c.trap.ensures.stops

pub step-requires : goal.step-requires
step-requires c = at_within c.open.new.self (resumes c.args.words.now) (is_next _ c.open.new.self (resumes c.args.words.now) c.is_resume.result c.next.ensures c.is_resume.ensures c.if-not-is_resume.false)

pub returns-clause-does : goal.returns-clause-does
returns-clause-does c =
    let none : c.args.self.now.stop ≡ None = search rules in
    steps (resumes c.args.words.now) c.args.self.now c.open.new.self c.step.new.self c.args.memory.now.bytes c.args.memory.now.bytes c.step.new.memory.bytes c.step.result
    (resume_begun c.args.self.now c.open.new.self c.args.memory.now.bytes c.args.words.now none c.open.ensures.opens)
    (is_next _ c.open.new.self (resumes c.args.words.now) c.is_resume.result c.next.ensures c.is_resume.ensures c.if-not-is_resume.false)
    tt c.step.ensures.stepped
