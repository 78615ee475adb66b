use Rattle.std.proofs.Common.{◌∙◌, ap, arith}
use Rattle.canon_scripted.specs.Scripted.{Doing, ended}
use Rattle.canon_scripted.proofs.Guests.{counted_goes, dtor_moves}
use Rattle.canon_scripted.proofs.guest.ScriptedGuestGuest.dtor.Goals as goal

pub returns-clause-goes : goal.returns-clause-goes
returns-clause-goes c = counted_goes c.args.self.now c.end-2.new.self c.end-2.result c.args._memory.now.bytes c.args._memory.now.bytes _ c.end-2.ensures.counts c.end-2.ensures.later (omega arith)

pub returns-clause-moves : goal.returns-clause-moves
returns-clause-moves c = dtor_moves c.args.self.now c.end-2.new.self c.args._func c.args._rep c.args._memory.now.bytes _ _ c.end-2.result
    (c.end-2.ensures.ends ∙ ap (λ (g : Doing). ended g.plan.dtor_trap) c.end.view_is) c.end-2.ensures.counts
