-- The store of a component whose code runs in an engine, as it begins.
use Rattle.std.specs.Prelude.{Bool, IsUtf8, List, None, Option, Some, [], false, if◌then◌else◌, length, replicate, slice_get, ℕ, ◌+◌, ◌∷◌, ◌≡◌, ◌≤◌}
use Rattle.serde_json.specs.Data.{Data}
use Rattle.serde_json.specs.Read.{read}
use Rattle.canon_abi.specs.declared.options.CanonicalOptions.{CanonicalOptions}
use Rattle.canon_abi.specs.declared.options.StringEncoding.{StringEncoding}
use Rattle.canon_types.specs.Table.{TypeTable}
use Rattle.canon_types.specs.declared.types.TypeFunc.{TypeFunc}
use Rattle.canon_ledger.specs.Ledger.{new_ledger}
use Rattle.canon_context.specs.Component.{IsComponent}
use Rattle.canon_context.specs.declared.component.Component.{Component}
use Rattle.canon_context.specs.declared.component.Export.{Export}
use Rattle.canon_context.specs.declared.component.Import.{Import}
use Rattle.canon_model.specs.Memory.{Memory, memory_of}
use Rattle.canon_events.specs.Guest.{maybe_journaled}
use Rattle.canon_relay.specs.Channel.{Message}
use Rattle.canon_relay.specs.Relay.{PassesMessages, Relaying, RepliesDone}
use Rattle.canon_relay.specs.declared.demand.Demand.TheVariants as demand
use Rattle.canon_script.specs.Script.{Play, script_of}
use Rattle.canon_serve.specs.Carries.{EngineStore}

-- ---- its component

-- whether a function is async
abbrev pub has_async : Option TypeFunc → Bool
has_async None = false
has_async (Some f) = f.async_

-- The options of function i, and its export: the core functions of both have its number. Before the options of the functions stand those of the
-- functions of the host.
abbrev pub served_options : TypeTable → StringEncoding → ℕ → Bool → CanonicalOptions
served_options t encoding i has_post = record { instance = 0; string_encoding = encoding; async_ = has_async (slice_get t.funcs i); post_return = if has_post then Some i else None }

abbrev pub served_export : ℕ → Export
served_export i = record { ty = i; func = i; options = i + 1 }

-- of the functions from number i on
abbrev pub served_options_from : TypeTable → StringEncoding → ℕ → List Bool → List CanonicalOptions
served_options_from t encoding i [] = []
served_options_from t encoding i (has_post ∷ posts) = served_options t encoding i has_post ∷ served_options_from t encoding (i + 1) posts

abbrev pub served_exports_from : ℕ → List Bool → List Export
served_exports_from i [] = []
served_exports_from i (has_post ∷ posts) = served_export i ∷ served_exports_from (i + 1) posts

abbrev pub asked_options : StringEncoding → CanonicalOptions
asked_options encoding = record { instance = 0; string_encoding = encoding; async_ = false; post_return = None }

-- The component that exports the first functions of the table: `posts` says for each whether it has a post-return function.
pub record IsServedComponent (t : TypeTable) (encoding : StringEncoding) (posts : List Bool) (given : List Import) (component : Component) : Type 0 where
  pub types : component.types ≡ record { types = t; store = 0 }
  pub options : component.options.items ≡ asked_options encoding ∷ served_options_from t encoding 0 posts
  pub exports : component.exports.items ≡ served_exports_from 0 posts
  pub imports : component.imports.items ≡ given

abbrev pub IsComponentOf : Play → Component → Type 0
IsComponentOf play component = IsServedComponent play.types play.encoding play.posts play.imports component

-- ---- its JSON

-- the bytes are a text of this JSON
abbrev pub IsTree : List ℕ → Data → Type 0
IsTree json tree = IsUtf8 json × (read json ≡ Some tree)

-- they are that of this script
abbrev pub HasPlay : List ℕ → Play → Type 0
HasPlay json play = (tree : Data) × IsTree json tree × (script_of tree ≡ Some play)

abbrev pub HasComponent : List ℕ → Type 0
HasComponent json = (play : Play) × HasPlay json play × (component : Component) × IsComponentOf play component × IsComponent component

-- they are that of none, or of one whose component isn't sound
abbrev pub HasNoComponent : List ℕ → Type 0
HasNoComponent json = (play : Play) → HasPlay json play → (component : Component) × IsComponentOf play component × (IsComponent component → ⊥)

-- ---- the store

-- A store in which nothing was done, of a component, with a guest that was instantiated in this memory.
abbrev pub begun_store : {E H : Type 0} → H → Relaying E → Bool → Bool → Memory → Component → Play → EngineStore E H
begun_store host relay watches_all keeps_events memory component play = record {
  core = record {
    id = 0;
    state = record { channel = host; list = [] };
    guest = record { guest = maybe_journaled relay keeps_events; whole = watches_all; held = []; live = []; marks = []; shortages = 0 };
    memory = memory.bytes;
    wide = memory.wide;
    component = component;
    ledger = new_ledger 256 play.handles 0;
    fuel = play.fuel;
  };
  imports = record { refusals = 0 };
  turns = play.turns;
  trapped = false;
}

module _ {E : Type 0} (log : E → Option (List Message)) where
  -- The engine was asked once, over its channel, to put the component's data into memory.
  pub record IsInstantiated (engine : E) (before : Memory) (relay : Relaying E) (after : Memory) : Type 0 where
    pub passed : PassesMessages (log engine) (log relay.channel) (RepliesDone demand.Instantiate [] before.bytes after.bytes)
    pub longer : length before.bytes ≤ length after.bytes
    pub counts : relay.counts ≡ record { blocks = 0; traps = 0; shortages = 0 }
    pub width : after.wide ≡ before.wide

module _ {E H : Type 0} (log : E → Option (List Message)) where
  -- The store of the component of this JSON began: the engine instantiated it in a memory of zeros.
  pub record IsBegun (engine : E) (host : H) (watches_all keeps_events : Bool) (json : List ℕ) (store : EngineStore E H) : Type 0 where
    pub play : Play
    pub has : HasPlay json play
    pub component : Component
    pub served : IsComponentOf play component
    pub sound : IsComponent component
    pub relay : Relaying E
    pub memory : Memory
    pub instantiated : IsInstantiated log engine (memory_of (replicate play.memory 0) false) relay memory
    pub is : store ≡ begun_store host relay watches_all keeps_events memory component play
