use Rattle.canon_replay_guest.specs.Moves.{starts}
use Rattle.canon_replay_guest.proofs.Guests.{replay_start_moves, step_goes}
use Rattle.canon_replay_guest.proofs.guest.ReplayGuestGuest.start.Goals as goal

pub returns-clause-goes : goal.returns-clause-goes
returns-clause-goes c = step_goes (starts c.args.func c.args.words.now) c.args.self.now c.run.new.self c.args.memory.now.bytes c.run.new.memory.bytes c.run.result _ c.run.ensures.does c.run.ensures.no_shorter c.run.ensures.later

pub returns-clause-moves : goal.returns-clause-moves
returns-clause-moves c = replay_start_moves c.args.func c.args.words.now c.args.self.now c.run.new.self c.args.memory.now c.run.new.memory c.run.result c.run.ensures.does
