use Rattle.canon_memory.specs.Realloc.{call}
use Rattle.canon_replay_guest.proofs.Doing.{gives}
use Rattle.canon_replay_guest.proofs.guest.ReplayGuest.give.Goals as goal

pub returns-clause-does : goal.returns-clause-does
returns-clause-does c = gives (call c.args.old c.args.old_size c.args.align c.args.new_size) c.args.self.now c.begin.new.self c.answer.new.self c.args.memory.now.bytes c.begin.new.memory.bytes c.answer.new.memory.bytes c.answer.result
    c.in_ok-begin.ensures.began c.answer.ensures.answers
