use Rattle.canon_memory.specs.Realloc.{call}
use Rattle.canon_replay_guest.proofs.Guests.{gives_copied, gives_does, gives_moves}
use Rattle.canon_replay_guest.proofs.guest.ReplayGuestGuest.realloc.Goals as goal

pub returns-clause-does : goal.returns-clause-does
returns-clause-does c = gives_does (call c.args.old c.args.old_size c.args.align c.args.new_size) c.args.self.now c.give.new.self c.args.memory.now.bytes c.give.new.memory.bytes c.give.result c.give.ensures.does c.give.ensures.later

pub returns-clause-moves : goal.returns-clause-moves
returns-clause-moves c = gives_moves (call c.args.old c.args.old_size c.args.align c.args.new_size) c.args.self.now c.give.new.self c.args.memory.now c.give.new.memory c.give.result c.give.ensures.does

pub returns-clause-copied : goal.returns-clause-copied
returns-clause-copied c = gives_copied (call c.args.old c.args.old_size c.args.align c.args.new_size) c.args.self.now c.give.new.self c.args.memory.now.bytes c.give.new.memory.bytes c.give.result c.give.ensures.does
