use Rattle.canon_memory.specs.Realloc.{call}
use Rattle.canon_scripted.proofs.Guests.{answer_moves, fault_does, fault_moves}
use Rattle.canon_scripted.proofs.guest.ScriptedGuestGuest.realloc.Goals as goal

pub returns-in-Ok-clause-moves : goal.returns-in-Ok-clause-moves
returns-in-Ok-clause-moves c = answer_moves c.args.self.now c.answer.new.self c.args.memory.now.bytes c.answer.new.memory.bytes _ _
    (call c.args.old c.args.old_size c.args.align c.args.new_size) c.answer.ensures.same_length c.in-Ok.answer c.in-Ok.ensures.does c.answer.ensures.counts

pub returns-in-Err-clause-does : goal.returns-in-Err-clause-does
returns-in-Err-clause-does c = fault_does c.args.self.now c.answer.new.self c.count.new.self c.args.memory.now.bytes c.answer.new.memory.bytes (call c.args.old c.args.old_size c.args.align c.args.new_size)
    c.answer.ensures.counts c.answer.ensures.same_length c.in-Err.fault c.count.result c.count.ensures.same c.in-Err.ensures.does c.count.ensures.counts c.count.ensures.later

pub returns-in-Err-clause-moves : goal.returns-in-Err-clause-moves
returns-in-Err-clause-moves c = fault_moves c.args.self.now c.answer.new.self c.count.new.self c.args.memory.now.bytes c.answer.new.memory.bytes (call c.args.old c.args.old_size c.args.align c.args.new_size)
    c.answer.ensures.counts c.answer.ensures.same_length _ _ c.in-Err.fault c.count.result c.count.ensures.same c.in-Err.ensures.does c.count.ensures.counts
