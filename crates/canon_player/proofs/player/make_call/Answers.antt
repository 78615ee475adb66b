use Rattle.std.proofs.Common.{List, ap, drop, length, map, refl, rules, ◌∙◌}
use Rattle.canon_func.specs.Call.{call_refusal}
use Rattle.canon_func.specs.Stores.{callee_of}
use Rattle.canon_literals.specs.Literals.{listed_resource, literals_view, replaced}
use Rattle.canon_script.specs.Script.{call_item_view}
use Rattle.canon_imports.specs.Imports.{entries_of}
use Rattle.canon_imports.specs.declared.imports.Line.{Line}
use Rattle.canon_imports.specs.declared.imports.ScriptedImports.{ScriptedImports}
use Rattle.canon_player.specs.Session.{entry_view, plan_of}
use Rattle.canon_player.specs.Stores.{ScriptStore}
use Rattle.canon_player.proofs.Played.{loaded_is, player_record_is, taken_is}
use Rattle.canon_player.proofs.player.make_call.Goals as goal

pub returns-clause-called : goal.returns-clause-called
returns-clause-called c =
    let call = call_item_view c.args.call in
    let s : ScriptStore = c.args.store.now in
    let before : ScriptStore = record { core = record c.core_mut.result.now { guest = record c.guest_mut.result.now { guest = c.load.new.self } }; imports = s.imports; turns = s.turns; trapped = s.trapped } in
    let left : ScriptStore = c.call-called.new.store in
    let final : ScriptStore = record { core = record c.core_mut-2.result.now { guest = c.take_journal-events.new.self }; imports = left.imports; turns = left.turns; trapped = left.trapped } in
    player_record_is call c.args.list.now _ s before left final c.unwrap-f.result c.deref-2.result.now c.call-called.new.results c.in_ok-results.results c.call-called.result (length c.lines-asked.result.now) c.requires.fresh
    (loaded_is (plan_of call) s c.core_mut.result.now c.guest_mut.result.now c.guest_mut-scripted.result.now c.load.new.self c.core_mut.ensures.value c.guest_mut.ensures.value c.guest_mut-scripted.ensures.value c.load.ensures)
    (search rules)
    (taken_is left c.core_mut-2.result.now c.guest_mut-2.result.now c.take_journal-events.new.self c.core_mut-2.ensures.value c.guest_mut-2.ensures.value c.take_journal-events.ensures.left)
    (ap literals_view c.deref-2.ensures.value ∙ (c.in_ok-params.ensures ∙ ap (λ vs. map (replaced (listed_resource c.args.list.now)) (literals_view vs)) c.deref.ensures.value)) c.in_ok-results.ensures
    (c.call-called.ensures.refused ∙ ap (λ vs. call_refusal (callee_of before c.unwrap-f.result) (length c.deref-2.result.now) (length vs) s.trapped) c.deref_mut.ensures.value)
    c.call-called.ensures.unchanged c.call-called.ensures.call c.call-called.ensures.runs c.call-called.ensures.trapped refl c.live_handles-live.ensures
    (c.take_journal-events.ensures.taken ∙ (ap (λ j. j.events) c.guest_mut-2.ensures.value ∙ ap (λ k. k.guest.events) c.core_mut-2.ensures.value))
    c.in_ok-answer.ensures.outcome (c.call-called.auto.results ∙ c.deref_mut.ensures.len) c.in_ok-answer.ensures.values c.in_ok-answer.ensures.memory_left c.in_ok-answer.ensures.played
    (ap (λ (ls : List Line). length ls) (c.lines-asked.ensures ∙ ap (λ (m : ScriptedImports). m.lines.items) c.imports.ensures))
    (c.in_ok-served.ensures ∙ ap (λ (ls : List Line). map entry_view (drop (length c.lines-asked.result.now) (entries_of ls))) (c.lines.ensures ∙ ap (λ (m : ScriptedImports). m.lines.items) c.imports-2.ensures))
