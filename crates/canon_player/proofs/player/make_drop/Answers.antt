use Rattle.std.proofs.Common.{ap, false, subst, ◌∙◌, ◌≡◌}
use Rattle.std.specs.Prelude.{OnOk}
use Rattle.canon_player.specs.Session.{answer_values, drop_plan}
use Rattle.canon_player.specs.Stores.{ScriptStore}
use Rattle.canon_player.proofs.Dropped.{drop_is}
use Rattle.canon_player.proofs.Played.{loaded_is, taken_is}
use Rattle.canon_player.proofs.player.make_drop.Goals as goal

pub returns-clause-dropped : goal.returns-clause-dropped
returns-clause-dropped c =
    let s : ScriptStore = c.args.store.now in
    let before : ScriptStore = record { core = record c.core_mut.result.now { guest = record c.guest_mut.result.now { guest = c.load.new.self } }; imports = s.imports; turns = s.turns; trapped = s.trapped } in
    let left : ScriptStore = c.resource_drop-dropped.new.store in
    let final : ScriptStore = record { core = record c.core_mut-2.result.now { guest = c.take_journal-events.new.self }; imports = left.imports; turns = left.turns; trapped = left.trapped } in
    drop_is c.args.resource c.args.item.dtor_trap _ s before left final c.resource_drop-dropped.result c.requires.fresh
    (loaded_is (drop_plan c.args.item.dtor_trap) s c.core_mut.result.now c.guest_mut.result.now c.guest_mut-scripted.result.now c.load.new.self c.core_mut.ensures.value c.guest_mut.ensures.value c.guest_mut-scripted.ensures.value
    (c.load.ensures ∙ (λ i. record c.guest_mut-scripted.result.now {
      plan = record {
        actions = c.new.ensures.items i;
        reallocs = c.new-2.ensures.items i;
        post_trap = false;
        dtor_trap = c.args.item.dtor_trap;
        allocator = c.guest_mut-scripted.result.now.plan.allocator;
      };
    })))
    (taken_is left c.core_mut-2.result.now c.guest_mut-2.result.now c.take_journal-events.new.self c.core_mut-2.ensures.value c.guest_mut-2.ensures.value c.take_journal-events.ensures.left)
    (c.take_journal-events.ensures.taken ∙ (ap (λ j. j.events) c.guest_mut-2.ensures.value ∙ ap (λ k. k.guest.events) c.core_mut-2.ensures.value))
    c.in_ok-answer.ensures.outcome
    (subst (λ vs. OnOk c.resource_drop-dropped.result (answer_values c.in_ok-answer.answer ≡ vs)) c.new-3.ensures.items
    c.in_ok-answer.ensures.values) c.in_ok-answer.ensures.memory_left c.in_ok-answer.ensures.played c.new-4.ensures.items c.resource_drop-dropped.ensures.imports
    (ap (λ k. k.id) c.resource_drop-dropped.ensures.same) c.resource_drop-dropped.ensures.no_handle c.resource_drop-dropped.ensures.refused c.resource_drop-dropped.ensures.drops
