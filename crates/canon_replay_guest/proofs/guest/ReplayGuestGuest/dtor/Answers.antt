use Rattle.canon_replay_guest.specs.Moves.{destroys}
use Rattle.canon_replay_guest.proofs.Guests.{replay_dtor_moves, end_cause, end_goes}
use Rattle.canon_replay_guest.proofs.guest.ReplayGuestGuest.dtor.Goals as goal

pub returns-clause-goes : goal.returns-clause-goes
returns-clause-goes c = end_goes (destroys c.args.func c.args.rep) c.args.self.now c.refuse.new.self c.args._memory.now.bytes c.refuse.result _ (c.refuse.ensures.does c.args._memory.now.bytes) c.refuse.ensures.later

pub returns-clause-moves : goal.returns-clause-moves
returns-clause-moves c = replay_dtor_moves c.args.func c.args.rep c.args.self.now c.refuse.new.self c.args._memory.now c.refuse.result (c.refuse.ensures.does c.args._memory.now.bytes)

pub returns-clause-cause : goal.returns-clause-cause
returns-clause-cause c = end_cause (destroys c.args.func c.args.rep) c.args.self.now c.refuse.new.self c.args._memory.now.bytes c.refuse.result (c.refuse.ensures.does c.args._memory.now.bytes)
