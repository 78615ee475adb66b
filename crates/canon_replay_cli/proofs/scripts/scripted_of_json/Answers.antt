use Rattle.std.proofs.Common.{Bool, List, ap, false, map, refl, subst, sym, ◌∙◌, ◌≡◌}
use Rattle.std.proofs.lemmas.Bool.{iff_false}
use Rattle.serde_json.specs.View.{view}
use Rattle.canon_player.specs.Stores.{IsScripted}
use Rattle.canon_script.specs.Script.{item_view, play_of}
use Rattle.canon_script.specs.declared.script.Item.{Item}
use Rattle.canon_replay_cli.specs.Scripts.{AreCallItems, IsOfScript, has_handle_entry, plain_script_of}
use Rattle.canon_replay_cli.proofs.Recordable.{no_recordable, script_is_plain}
use Rattle.canon_replay_cli.proofs.scripts.scripted_of_json.Goals as goal

pub returns-then-not-recordable-clause-bad_script : goal.returns-then-not-recordable-clause-bad_script
returns-then-not-recordable-clause-bad_script c =
    let tree = view c.args.v.now in
    let s = c.in_ok-script.script in
    let plain = script_is_plain tree (play_of s) (sym c.has_handle_entry.ensures ∙ c.if-has_handle_entry.false) c.in_ok-script.ensures.script in
    let is : IsOfScript (play_of s) c.in-Ok.component = subst (λ (posts : List Bool). IsScripted s.types s.encoding posts s.imports.items c.in-Ok.component) c.deref-2.ensures.value c.in-Ok.ensures.scripted in
    λ _. no_recordable (plain_script_of tree) (play_of s) c.in-Ok.component plain is (iff_false c.recordable.ensures c.if-not-recordable.true)

pub returns-clause-script : goal.returns-clause-script
returns-clause-script c =
    let tree = view c.args.v.now in
    let s = c.in_ok-script.script in (
      play_of s,
      script_is_plain tree (play_of s) (sym c.has_handle_entry.ensures ∙ c.if-has_handle_entry.false) c.in_ok-script.ensures.script,
      record {
        component = subst (λ (posts : List Bool). IsScripted s.types s.encoding posts s.imports.items c.in-Ok.component) c.deref-2.ensures.value c.in-Ok.ensures.scripted;
        sound = c.in-Ok.ensures.sound;
        recordable = c.recordable.ensures.0 c.if-not-recordable.false;
        items = refl;
        calls = subst (λ (items : List Item). AreCallItems (map item_view items)) c.deref.ensures.value (c.are_calls.ensures.0 c.if-not-are_calls.false);
        told = c.in_ok-script.ensures.sound.posts_told;
        fuel = refl;
        turns = refl;
      },
    )
