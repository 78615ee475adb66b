-- Scripts whose calls may be recorded.
use Rattle.std.specs.Option.{is_some, option_map_or}
use Rattle.std.specs.Prelude.{Bool, List, None, Option, Some, [], codes, false, if◌then◌else◌, length, map, ⊤, ◌||◌, ◌∷◌, ◌≡◌, ◌≤◌}
use Rattle.serde_json.specs.Data.{Data, Items, item, no_items}
use Rattle.serde_json.specs.Find.{get}
use Rattle.canon_json.specs.Json.{items_of}
use Rattle.canon_context.specs.Component.{IsComponent}
use Rattle.canon_context.specs.declared.component.Component.{Component}
use Rattle.canon_recording.specs.Fits.{IsRecordable}
use Rattle.canon_script.specs.Script.{Play, ScriptItem, call_item, drop_item, item_view, new_item, script_of, typed_item}
use Rattle.canon_player.specs.Stores.{IsScripted}
use Rattle.canon_replay_cli.specs.declared.scripted.Scripted.{Scripted}

-- ---- types

-- the entry is a handle of a resource
abbrev pub is_handle_entry : Data → Bool
is_handle_entry d = is_some (get (codes "own") d) || is_some (get (codes "borrow") d)

abbrev pub any_handle_entry : Items → Bool
any_handle_entry no_items = false
any_handle_entry (item d ds) = is_handle_entry d || any_handle_entry ds

-- one of the entries of a script's types is, whether a function has it or not
abbrev pub has_handle_entry : Data → Bool
has_handle_entry d = option_map_or any_handle_entry (items_of (get (codes "types") d)) false

-- the script that a JSON value stands for, where no entry of its types is a handle
abbrev pub plain_script_of : Data → Option Play
plain_script_of d = if has_handle_entry d then None else script_of d

-- ---- items

-- it is a call with dynamic values
abbrev pub IsCallItem : ScriptItem → Type 0
IsCallItem (call_item c) = ⊤
IsCallItem (typed_item c) = ⊥
IsCallItem (new_item n) = ⊥
IsCallItem (drop_item d) = ⊥

abbrev pub AreCallItems : List ScriptItem → Type 0
AreCallItems [] = ⊤
AreCallItems (i ∷ items) = IsCallItem i × AreCallItems items

-- the component of a script
abbrev pub IsOfScript : Play → Component → Type 0
IsOfScript play c = IsScripted play.types play.encoding play.posts play.imports c

-- its items are calls, and calls of its component may be recorded
pub record IsRecordableScript (play : Play) : Type 0 where
  pub calls : AreCallItems play.items
  pub component : (c : Component) → IsOfScript play c → IsRecordable c

-- there is no script, or none of this kind
abbrev pub IsNoRecordable : Option Play → Type 0
IsNoRecordable None = ⊤
IsNoRecordable (Some play) = ¬ IsRecordableScript play

-- ---- how it is kept

pub record IsScriptedBy (play : Play) (s : Scripted) : Type 0 where
  pub component : IsOfScript play s.component
  pub sound : IsComponent s.component
  pub recordable : IsRecordable s.component
  pub items : map item_view s.items.items ≡ play.items
  pub calls : AreCallItems play.items
  pub told : length play.posts ≤ length play.types.funcs
  pub fuel : s.fuel ≡ play.fuel
  pub turns : s.turns ≡ play.turns
