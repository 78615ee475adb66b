use Rattle.serde_json.specs.View.{items_view, view}
use Rattle.canon_script.proofs.Sound.{reads_sound}
use Rattle.canon_script.proofs.reading.script_of_json.Goals as goal

pub returns-clause-sound : goal.returns-clause-sound
returns-clause-sound c =
    reads_sound (view c.args.v.now) c.in-Some.settings (items_view c.in-Some-items_of.resources.now) (items_view c.in-Some-items_of-2.types.now) (items_view c.in-Some-items_of-3.funcs.now)
    (items_view c.in-Some-items_of-4.imports.now) (items_view c.in-Some-items_of-5.items.now) c.played.result
    c.in-Some.ensures c.played.ensures
