use Rattle.std.proofs.Common.{List, ap, drop, length, map, ◌∙◌}
use Rattle.canon_imports.specs.Imports.{entries_of}
use Rattle.canon_imports.specs.declared.imports.Line.{Line}
use Rattle.canon_imports.specs.declared.imports.ScriptedImports.{ScriptedImports}
use Rattle.canon_player.specs.Session.{entry_view, plan_with}
use Rattle.canon_player.specs.Stores.{ScriptStore}
use Rattle.canon_player.proofs.Played.{loaded_is, taken_is}
use Rattle.canon_player.proofs.TypedPlayed.{typed_is}
use Rattle.canon_player.proofs.typed.call_typed.Goals as goal

pub returns-clause-called : goal.returns-clause-called
returns-clause-called g c =
    let s : ScriptStore = c.args.store.now in
    let plan = plan_with c.args.call.guest.items c.args.call.reallocs.items c.args.call.post_trap in
    let before : ScriptStore = record { core = record c.core_mut.result.now { guest = record c.guest_mut.result.now { guest = c.load.new.self } }; imports = s.imports; turns = s.turns; trapped = s.trapped } in
    let left : ScriptStore = c.call-called.new.store in
    let final : ScriptStore = record { core = record c.core_mut-2.result.now { guest = c.take_journal-events.new.self }; imports = left.imports; turns = left.turns; trapped = left.trapped } in
    typed_is (record { fits = g.P.ComponentType.fits; walks = g.P.ComponentType.walks; gives = g.P.Lower.gives }) (record { fits = g.R.ComponentType.fits; reading = g.R.Lift.reading; literals = g.R.Told.literals })
    c.args.call.func c.args.call.guest.items c.args.call.reallocs.items c.args.call.post_trap c.args.params _ s before left final c.args.f.func c.call-called.result (length c.lines-asked.result.now)
    c.requires.fresh c.requires.own_types c.requires.typable.options
    (loaded_is plan s c.core_mut.result.now c.guest_mut.result.now c.guest_mut-scripted.result.now c.load.new.self c.core_mut.ensures.value c.guest_mut.ensures.value c.guest_mut-scripted.ensures.value c.load.ensures)
    (ap (λ n. n.export) c.requires.func)
    (taken_is left c.core_mut-2.result.now c.guest_mut-2.result.now c.take_journal-events.new.self c.core_mut-2.ensures.value c.guest_mut-2.ensures.value c.take_journal-events.ensures.left)
    c.call-called.ensures.refused c.call-called.ensures.unchanged c.call-called.ensures.call c.call-called.ensures.runs c.call-called.ensures.trapped
    (c.take_journal-events.ensures.taken ∙ (ap (λ j. j.events) c.guest_mut-2.ensures.value ∙ ap (λ k. k.guest.events) c.core_mut-2.ensures.value))
    c.in_ok-answer.ensures.told c.in_ok-answer.ensures.memory_left
    (ap (λ (ls : List Line). length ls) (c.lines-asked.ensures ∙ ap (λ (m : ScriptedImports). m.lines.items) c.imports.ensures))
    (c.in_ok-served.ensures ∙ ap (λ (ls : List Line). map entry_view (drop (length c.lines-asked.result.now) (entries_of ls))) (c.lines.ensures ∙ ap (λ (m : ScriptedImports). m.lines.items) c.imports-2.ensures))
