use Rattle.std.proofs.Common.{◌≡◌, ◌≤◌, ◌+◌, ◌%◌, length, rules}
use Rattle.canon_context.proofs.Moves.{granted_bare, misanswered_bare}
use Rattle.canon_context.specs.Core.{moment_of}
use Rattle.canon_memory.specs.Guest.{moment}
use Rattle.canon_memory.specs.Realloc.{call}
use Rattle.canon_context.proofs.core_data.Core.realloc.Goals as goal

pub returns-then-answer-from-ne0-clause-does : goal.returns-then-answer-from-ne0-clause-does
returns-then-answer-from-ne0-clause-does g c =
    let m = c.realloc-answer.new.memory in
    misanswered_bare (moment_of g.G.Guest.seen c.args.self.now) (moment (g.G.Guest.seen c.realloc-answer.new.self) m.bytes) (call c.args.old c.args.old_size c.args.old_align c.args.new_size) c.in-Ok.answer
    (c.in-Ok.answer % c.args.old_align ≡ 0 → ⊥) (search rules) (search rules)

pub returns-then-not-ends_inside-clause-does : goal.returns-then-not-ends_inside-clause-does
returns-then-not-ends_inside-clause-does g c =
    let m = c.realloc-answer.new.memory in
    misanswered_bare (moment_of g.G.Guest.seen c.args.self.now) (moment (g.G.Guest.seen c.realloc-answer.new.self) m.bytes) (call c.args.old c.args.old_size c.args.old_align c.args.new_size) c.in-Ok.answer
    ((c.in-Ok.answer % c.args.old_align ≡ 0) × (c.in-Ok.answer + c.args.new_size ≤ length m.bytes → ⊥)) (search rules) (search rules)

pub returns-clause-does : goal.returns-clause-does
returns-clause-does g c =
    let m = c.realloc-answer.new.memory in
    granted_bare (moment_of g.G.Guest.seen c.args.self.now) (moment (g.G.Guest.seen c.realloc-answer.new.self) m.bytes) (call c.args.old c.args.old_size c.args.old_align c.args.new_size) c.in-Ok.answer
    (search rules) (search rules) (search rules) (search rules)
