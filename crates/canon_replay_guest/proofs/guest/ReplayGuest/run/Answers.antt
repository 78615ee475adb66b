use Rattle.std.proofs.Common.{rules}
use Rattle.canon_replay_guest.specs.Moves.{starts}
use Rattle.canon_replay_guest.proofs.Doing.{at_within, differs_step, is_next, is_other, start_begun, steps}
use Rattle.canon_replay_guest.proofs.guest.ReplayGuest.run.Goals as goal

pub returns-then-not-is_start-clause-does : goal.returns-then-not-is_start-clause-does
returns-then-not-is_start-clause-does c =
    differs_step (starts c.args.func c.args.words.now) c.args.self.now c.begin.new.self c.trap.new.self c.args.memory.now.bytes c.begin.new.memory.bytes c.trap.result c.trap.ensures.fault
    (start_begun c.args.self.now c.begin.new.self c.args.memory.now.bytes c.begin.new.memory.bytes c.args.func c.args.words.now c.in_ok-begin.ensures.began)
    (is_other _ c.begin.new.self (starts c.args.func c.args.words.now) c.is_start.result c.next.ensures c.is_start.ensures c.read_words.ensures c.if-not-is_start.true)
    c.trap.ensures.stops

pub step-requires : goal.step-requires
step-requires c = at_within c.begin.new.self (starts c.args.func c.args.words.now) (is_next _ c.begin.new.self (starts c.args.func c.args.words.now) c.is_start.result c.next.ensures c.is_start.ensures c.if-not-is_start.false)

pub returns-clause-does : goal.returns-clause-does
returns-clause-does c =
    steps (starts c.args.func c.args.words.now) c.args.self.now c.begin.new.self c.step.new.self c.args.memory.now.bytes c.begin.new.memory.bytes c.step.new.memory.bytes c.step.result
    (start_begun c.args.self.now c.begin.new.self c.args.memory.now.bytes c.begin.new.memory.bytes c.args.func c.args.words.now c.in_ok-begin.ensures.began)
    (is_next _ c.begin.new.self (starts c.args.func c.args.words.now) c.is_start.result c.next.ensures c.is_start.ensures c.if-not-is_start.false)
    tt c.step.ensures.stepped
