use Rattle.std.proofs.Common.{◌∙◌, ◌++◌, ◌∷◌, [], Bool, List, true, false, ap, sym, subst}
use Rattle.canon_model.specs.Memory.{Memory}
use Rattle.canon_memory.specs.Realloc.{ReallocLaw, call}
use Rattle.canon_scripted.specs.Allocator.{Allocator}
use Rattle.canon_scripted.specs.Scripted.{Doing}
use Rattle.canon_scripted.proofs.Guests.{free_answers, free_lawful, free_length, free_tidy, ordered_answers}
use Rattle.canon_scripted.proofs.guest.ScriptedGuest.answer.Goals as goal

pub returns-in-Answer-clause-does : goal.returns-in-Answer-clause-does
returns-in-Answer-clause-does c =
    let s = c.self.inside in
    ordered_answers s.actions s.orders c.next.new.self s.post_trap s.dtor_trap s.allocator s.answers.items c.push_reserved.new.items.items s.traps s.shortages
    c.args.self.now c.self.view_is c.args.memory.now.bytes _ c.next.ensures.left c.in-Answer.answer (sym c.next.ensures.next ∙ c.in-Answer.is)
    (c.push_reserved.ensures ∙ ap (λ (bs : List Bool). bs ++ false ∷ []) c.reserve.ensures.items)

pub returns-clause-does : goal.returns-clause-does
returns-clause-does c =
    let s = c.self.inside in
    free_answers s.actions s.orders c.next.new.self s.post_trap s.dtor_trap s.allocator s.answers.items c.push_reserved-2.new.items.items s.traps s.shortages
    c.args.self.now c.self.view_is c.args.memory.now.bytes _ c.next.ensures.left c.place.new.allocator c.place.new.memory.bytes c.in-Ok.answer (sym c.next.ensures.next ∙ c.in-Free.is)
    c.in-Ok.ensures.does (ap (λ (m : Memory). m.bytes) c.in-Ok.ensures.copies)
    (c.push_reserved-2.ensures ∙ ap (λ (bs : List Bool). bs ++ true ∷ []) c.reserve.ensures.items)

pub returns-clause-lawful : goal.returns-clause-lawful
returns-clause-lawful c free =
    let s = c.self.inside in
    subst (λ (a : Allocator). ReallocLaw a.live c.place.new.allocator.live c.args.memory.now.bytes c.place.new.memory.bytes (call c.args.old c.args.old_size c.args.align c.args.new_size) c.in-Ok.answer)
    (ap (λ (g : Doing). g.plan.allocator) c.self.view_is)
    (free_lawful c.args.memory.now.bytes c.place.new.memory.bytes s.allocator c.place.new.allocator (call c.args.old c.args.old_size c.args.align c.args.new_size) c.in-Ok.answer c.in-Ok.ensures.row c.requires.aligned c.in-Ok.ensures.does (ap (λ (m : Memory). m.bytes) c.in-Ok.ensures.copies))

pub returns-clause-tidy : goal.returns-clause-tidy
returns-clause-tidy c = free_tidy c.args.memory.now.bytes c.place.new.memory.bytes c.self.inside.allocator c.place.new.allocator
    (call c.args.old c.args.old_size c.args.align c.args.new_size) c.in-Ok.answer c.in-Ok.ensures.row c.requires.aligned c.in-Ok.ensures.does (ap (λ (m : Memory). m.bytes) c.in-Ok.ensures.copies)

pub returns-clause-same_length : goal.returns-clause-same_length
returns-clause-same_length c = free_length c.args.memory.now.bytes c.place.new.memory.bytes c.self.inside.allocator c.place.new.allocator
    (call c.args.old c.args.old_size c.args.align c.args.new_size) c.in-Ok.answer c.in-Ok.ensures.row c.requires.aligned c.in-Ok.ensures.does (ap (λ (m : Memory). m.bytes) c.in-Ok.ensures.copies)
