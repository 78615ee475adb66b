use Rattle.std.proofs.Common.{ap}
use Rattle.canon_script.specs.Imports.{answers_view}
use Rattle.canon_script.specs.Script.{play_of}
use Rattle.canon_player.proofs.Playing.{script_own_types, script_playable, script_session}
use Rattle.canon_player.proofs.player.play.Goals as goal

pub play_items-requires-clause-playable : goal.play_items-requires-clause-playable
play_items-requires-clause-playable c =
    script_playable (play_of c.args.script) c.in_ok-component.component c.new-imports.result c.in_ok-store.store c.deref.result.now c.requires.sound c.deref.ensures.value c.in_ok-component.ensures.scripted c.in_ok-store.ensures

pub play_items-requires-clause-own_types : goal.play_items-requires-clause-own_types
play_items-requires-clause-own_types c =
    script_own_types (play_of c.args.script) c.in_ok-component.component c.new-imports.result c.in_ok-store.store c.deref.result.now c.requires.sound c.deref.ensures.value c.in_ok-component.ensures.scripted c.in_ok-store.ensures

pub returns-clause-ok : goal.returns-clause-ok
returns-clause-ok c =
    script_session (play_of c.args.script) c.in_ok-component.component c.new-imports.result c.in_ok-store.store c.deref.result.now c.requires.sound c.deref.ensures.value c.in_ok-component.ensures.scripted c.in_ok-store.ensures
    (ap (λ given. answers_view given.items) c.new-imports.ensures.answers) c.new-imports.ensures.lines c.new-imports.ensures.refusals c.in_ok-transcript.field-0 c.in_ok-transcript.ensures
