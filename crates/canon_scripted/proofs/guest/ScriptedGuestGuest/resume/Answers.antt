use Rattle.canon_scripted.specs.Leaves.{with_actions}
use Rattle.canon_scripted.proofs.Guests.{counted_goes, resume_moves}
use Rattle.canon_scripted.proofs.guest.ScriptedGuestGuest.resume.Goals as goal

pub returns-clause-goes : goal.returns-clause-goes
returns-clause-goes c = counted_goes (with_actions c.args.self.now c.act.new.self.plan.actions) c.act.new.self c.act.result c.args.memory.now.bytes c.act.new.memory.bytes _ c.act.ensures.counts c.act.ensures.later c.act.ensures.no_shorter

pub returns-clause-moves : goal.returns-clause-moves
returns-clause-moves c = resume_moves c.args.self.now c.act.new.self c.args.memory.now.bytes c.act.new.memory.bytes _ _ c.args._words.now c.act.result c.act.ensures.counts c.act.ensures.turn
