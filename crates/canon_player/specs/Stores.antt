-- The store of a script, and how it is kept.
use Rattle.std.specs.Prelude.{Bool, List, [], length, replicate, slice_get, false, ℕ, ◌+◌, ◌<◌, ◌∷◌, ◌≡◌}
use Rattle.canon_memory.specs.Guest.{Recorded}
use Rattle.canon_abi.specs.declared.options.StringEncoding.{StringEncoding}
use Rattle.canon_types.specs.Table.{TypeTable}
use Rattle.canon_scripted.specs.Orders.{AreNarrow}
use Rattle.canon_scripted.specs.declared.orders.Ordered.{Ordered}
use Rattle.canon_scripted.specs.Scripted.{Doing, Plan}
use Rattle.canon_context.specs.declared.component.Component.{Component}
use Rattle.canon_context.specs.declared.component.Export.{Export}
use Rattle.canon_context.specs.declared.component.Import.{Import}
use Rattle.canon_func.specs.Asks.{Limits, allowed}
use Rattle.canon_func.specs.Stores.{Callee, StoreView, callee_in, type_in}
use Rattle.canon_func.specs.Typed.{export_options}
use Rattle.canon_ledger.specs.Ledger.{new_ledger}
use Rattle.canon_script.specs.Imports.{HostAnswer, answers_view}
use Rattle.canon_script.specs.Script.{ScriptCall, ScriptItem, call_item, drop_item, new_item, typed_item}
use Rattle.canon_imports.specs.Imports.{entries_of}
use Rattle.canon_imports.specs.declared.imports.ScriptedImports.{ScriptedImports}
use Rattle.canon_player.specs.Options.{options_number, script_options}
use Rattle.canon_player.specs.Session.{State}

-- ---- its component

-- the export of function i, whose options are one further
abbrev pub export_for : ℕ → Export
export_for i = record { ty = i; func = i; options = i + 1 }

-- of the functions from number i on
abbrev pub exports_from : ℕ → List Bool → List Export
exports_from i [] = []
exports_from i (has_post ∷ posts) = export_for i ∷ exports_from (i + 1) posts

-- One export for each of the first functions of the table, and the imports. The first options are those of the functions of the host, and
-- after them stand those of each export.
pub record IsScripted (t : TypeTable) (encoding : StringEncoding) (posts : List Bool) (given : List Import) (component : Component) : Type 0 where
  pub types : component.types ≡ record { types = t; store = 0 }
  pub options : component.options.items ≡ script_options t encoding posts
  pub exports : component.exports.items ≡ exports_from 0 posts
  pub imports : component.imports.items ≡ given

-- the callee of export i
abbrev pub callee_at : Component → ℕ → Callee
callee_at component i = callee_in component (slice_get component.exports.items i)

-- A call is one of a function that there is; each ordered answer is below 2 ^ 32.
pub record IsCallable (component : Component) (call : ScriptCall) : Type 0 where
  pub export : call.func < length component.exports.items
  pub orders : AreNarrow call.reallocs

-- A typed call too; and the type of the export is that of the function of its number in the table, and its options are that function's.
pub record IsTypable (component : Component) (func : ℕ) (reallocs : List Ordered) : Type 0 where
  pub export : func < length component.exports.items
  pub type : type_in component (slice_get component.exports.items func) ≡ slice_get component.types.types.funcs func
  pub options : export_options (slice_get component.exports.items func) ≡ options_number func
  pub orders : AreNarrow reallocs

abbrev pub IsPlayable : Component → ScriptItem → Type 0
IsPlayable component (call_item c) = IsCallable component c
IsPlayable component (typed_item c) = IsTypable component c.func c.reallocs
IsPlayable component (new_item n) = Unit {0}
IsPlayable component (drop_item d) = Unit {0}

-- ---- its state

abbrev pub ScriptStore : Type 0
ScriptStore = StoreView (Unit {0}) (Recorded Doing) ScriptedImports

-- the types of its component are those of its store
abbrev pub HasItsTypes : ScriptStore → Type 0
HasItsTypes s = s.core.id ≡ s.core.component.types.store

-- nothing was done, with these functions of the host
abbrev pub fresh_store : ℕ → ℕ → ℕ → ℕ → ℕ → Component → ScriptedImports → ScriptStore
fresh_store memory heap fuel turns handles component imports = record {
  core = record {
    id = 0;
    state = tt;
    guest = record {
      guest = record {
        plan = record { actions = []; reallocs = []; post_trap = false; dtor_trap = false; allocator = record { top = heap; live = [] } };
        marks = [];
        traps = 0;
        shortages = 0;
      };
      events = [];
      shortages = 0;
    };
    memory = replicate memory 0;
    wide = false;
    component = component;
    ledger = new_ledger 256 handles 0;
    fuel = fuel;
  };
  imports = imports;
  turns = turns;
  trapped = false;
}

-- what each of its calls may use
abbrev pub limits_of : ScriptStore → Limits
limits_of s = allowed s.core.fuel s.turns

-- what its functions of the host answer
abbrev pub answers_of : ScriptStore → List (List HostAnswer)
answers_of s = answers_view s.imports.answers.items

abbrev pub state_of : ScriptStore → State
state_of s = record {
  store = s.core.id;
  trapped = s.trapped;
  memory = s.core.memory;
  ledger = s.core.ledger;
  log = entries_of s.imports.lines.items;
  refusals = s.imports.refusals;
  allocator = s.core.guest.guest.plan.allocator;
  marks = s.core.guest.guest.marks;
  traps = s.core.guest.guest.traps;
  shortages = s.core.guest.shortages;
}

-- the store with this plan in the place of what its guest was still to do
abbrev pub with_plan : ScriptStore → Plan → ScriptStore
with_plan s plan = record s { core = record s.core { guest = record s.core.guest { guest = record s.core.guest.guest { plan = plan } } } }
