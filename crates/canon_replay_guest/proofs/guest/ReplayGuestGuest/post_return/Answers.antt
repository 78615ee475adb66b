use Rattle.canon_replay_guest.specs.Moves.{posts}
use Rattle.canon_replay_guest.proofs.Guests.{end_cause, end_goes, replay_post_moves}
use Rattle.canon_replay_guest.proofs.guest.ReplayGuestGuest.post_return.Goals as goal

pub returns-clause-goes : goal.returns-clause-goes
returns-clause-goes c = end_goes (posts c.args.func c.args.words.now) c.args.self.now c.end.new.self c.args._memory.now.bytes c.end.result _ (c.end.ensures.does c.args._memory.now.bytes) c.end.ensures.later

pub returns-clause-moves : goal.returns-clause-moves
returns-clause-moves c = replay_post_moves c.args.func c.args.words.now c.args.self.now c.end.new.self c.args._memory.now c.end.result (c.end.ensures.does c.args._memory.now.bytes)

pub returns-clause-cause : goal.returns-clause-cause
returns-clause-cause c = end_cause (posts c.args.func c.args.words.now) c.args.self.now c.end.new.self c.args._memory.now.bytes c.end.result (c.end.ensures.does c.args._memory.now.bytes)
