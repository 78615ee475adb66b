use Rattle.std.proofs.Common.{None, Some, ap, sym, ◌≡◌, ◌∙◌}
use Rattle.canon_context.specs.Core.{guest_of, moment_of}
use Rattle.canon_func.specs.Stores.{export_callee}
use Rattle.canon_func.proofs.Composed.{post_trapped, posted, posted_none}
use Rattle.canon_func.proofs.steps.post_return.Goals as goal

pub returns-in_default-clause-did : goal.returns-in_default-clause-did
returns-in_default-clause-did g c =
    let core = c.args.core.now in
    let callee = export_callee core.component c.args.export.now in
    let none : callee.post ≡ None = ap (λ comp. (export_callee comp c.args.export.now).post) (sym c.component.ensures.component) ∙ (sym c.options_of.ensures.post ∙ c.in_default.is) in
    posted_none g.G.Guest.leaves callee c.args.words.now (g.G.Guest.seen core.guest) core.memory _ none (g.met.G.Guest.stays (guest_of core))

pub returns-in-Ok-clause-did : goal.returns-in-Ok-clause-did
returns-in-Ok-clause-did g c =
    let core = c.args.core.now in
    let callee = export_callee core.component c.args.export.now in
    let some : callee.post ≡ Some c.in-Some.func = ap (λ comp. (export_callee comp c.args.export.now).post) (sym c.component.ensures.component) ∙ (sym c.options_of.ensures.post ∙ c.in-Some.is) in
    posted g.G.Guest.leaves callee c.args.words.now (moment_of g.G.Guest.seen core) (moment_of g.G.Guest.seen c.post_return.new.self) c.in-Some.func _ some c.in-Ok.ensures.leaves c.in-Ok.ensures.goes c.in-Ok.ensures.moves

pub returns-in-Err-Trap-clause-did : goal.returns-in-Err-Trap-clause-did
returns-in-Err-Trap-clause-did g c =
    let core = c.args.core.now in
    let after = c.post_return.new.self in
    let callee = export_callee core.component c.args.export.now in
    let some : callee.post ≡ Some c.in-Some.func = ap (λ comp. (export_callee comp c.args.export.now).post) (sym c.component.ensures.component) ∙ (sym c.options_of.ensures.post ∙ c.in-Some.is) in
    post_trapped g.G.Guest.leaves callee c.args.words.now (moment_of g.G.Guest.seen core) (moment_of g.G.Guest.seen after) c.in-Some.func c.in-Err-Trap.field-0
    (λ es. g.G.Guest.moves (guest_of core) es (guest_of after)) c.in-Err-Trap.field-0-is some
    c.in-Err-Trap.ensures.goes c.in-Err-Trap.ensures.cause c.in-Err-Trap.ensures.moves
