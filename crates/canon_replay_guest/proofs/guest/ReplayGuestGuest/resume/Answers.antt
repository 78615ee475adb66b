use Rattle.canon_replay_guest.specs.Moves.{resumes}
use Rattle.canon_replay_guest.proofs.Guests.{replay_resume_moves, step_goes}
use Rattle.canon_replay_guest.proofs.guest.ReplayGuestGuest.resume.Goals as goal

pub returns-clause-goes : goal.returns-clause-goes
returns-clause-goes c = step_goes (resumes c.args.words.now) c.args.self.now c.go_on.new.self c.args.memory.now.bytes c.go_on.new.memory.bytes c.go_on.result _ c.go_on.ensures.does c.go_on.ensures.no_shorter c.go_on.ensures.later

pub returns-clause-moves : goal.returns-clause-moves
returns-clause-moves c = replay_resume_moves c.args.words.now c.args.self.now c.go_on.new.self c.args.memory.now c.go_on.new.memory c.go_on.result c.go_on.ensures.does
