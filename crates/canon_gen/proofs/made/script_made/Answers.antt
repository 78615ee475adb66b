use Rattle.std.proofs.Common.{◌≡◌, [], ◌∷◌, map, rules}
use Rattle.canon_script.specs.Script.{call_item, item_view, play_of}
use Rattle.canon_gen.proofs.Sound.{made_sound}
use Rattle.canon_gen.specs.Made.{call_made}
use Rattle.canon_gen.proofs.made.script_made.Goals as goal

pub returns-clause-sound : goal.returns-clause-sound
returns-clause-sound c =
    let called : map item_view c.push.new.self.items ≡ call_item (call_made c.args.n) ∷ [] = search rules in
    made_sound c.args.n (play_of c.in_ok-script.script) c.in_ok-script.ensures.script c.encoding_made-script.result _ c.encoding_made-script.ensures called c.in_ok-script.ensures.sound
