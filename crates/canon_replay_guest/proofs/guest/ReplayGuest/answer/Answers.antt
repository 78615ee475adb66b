use Rattle.std.proofs.Common.{ap, ◌∙◌, min, ℕ, List}
use Rattle.canon_model.specs.Memory.{Memory}
use Rattle.canon_memory.specs.Realloc.{call}
use Rattle.canon_replay_guest.specs.Replaying.{moved}
use Rattle.canon_replay_guest.proofs.Doing.{answers_at, listed_at}
use Rattle.canon_replay_guest.proofs.guest.ReplayGuest.answer.Goals as goal

pub returns-clause-answers : goal.returns-clause-answers
returns-clause-answers c =
    let asked = call c.args.old c.args.old_size c.args.align c.args.new_size in
    answers_at c.args.self.now _ c.args.memory.now.bytes c.copy_kept.new.memory.bytes asked c.in-Some.answer _ c.next.ensures c.in-Some.ensures c.len.result c.len.ensures.count
    (c.is_lawful.ensures.0 c.if-not-is_lawful.false)
    (ap (λ (m : Memory). m.bytes) c.copy_kept.ensures ∙ ap (λ (n : ℕ). moved c.args.memory.now.bytes c.args.old c.in-Some.answer n) c.min.ensures)
    (listed_at _ c.args.self.now c.relist.new.self asked c.in-Some.answer c.relist.result c.is_err.result c.self.view_is c.is_err.ensures.value c.if-is_err.false c.relist.ensures.ok)
