-- The script that a JSON value stands for.
use Rattle.std.specs.Prelude.{ℕ, ◌<◌, ◌≤◌, ◌+◌, ◌*◌, ◌&&◌, All, List, [], is_some, length, map, sum_by, slice_get, Bool, false, nat_eq, nat_le, if◌then◌else◌, codes, Option, None, Some, option_map, option_and_then}
use lib.Pointwise.{pointwise}
use Rattle.std.specs.Option.{option_map_or}
use Rattle.serde_json.specs.Data.{Data, Items}
use Rattle.serde_json.specs.Find.{as_bool, as_object, as_str, get}
use Rattle.canon_context.specs.declared.component.Import.{Import}
use Rattle.canon_json.specs.Json.{each, each_of, has_len, items_of, there, u32_of, word_of}
use Rattle.canon_abi.specs.declared.options.StringEncoding.{StringEncoding}
use Rattle.canon_abi.specs.declared.options.StringEncoding.TheVariants as encoding
use Rattle.canon_types.specs.Table.{TypeTable}
use Rattle.canon_types.specs.declared.types.ResourceKind.{ResourceKind}
use Rattle.canon_types.specs.declared.types.ResourceKind.TheVariants as resource
use Rattle.canon_scripted.specs.declared.actions.Action.{Action}
use Rattle.canon_scripted.specs.Orders.{AreNarrow}
use Rattle.canon_scripted.specs.declared.orders.Ordered.{Ordered}
use Rattle.canon_script.specs.Actions.{action_of, ask_count, growth, ordered_of}
use Rattle.canon_script.specs.Imports.{HaveAnswers, HostAnswer, ImportStands, answers_view, func_result_count}
use Rattle.canon_literals.specs.Literals.{Literal, literals_view}
use Rattle.canon_script.specs.Numbers.{if_below, number_to}
use Rattle.canon_script.specs.Typed.{TypedValues, typed_values, typed_view}
use Rattle.canon_script.specs.Types.{Declared, declared_of}
use Rattle.canon_script.specs.Values.{value_of}
use Rattle.canon_script.specs.declared.script.CallItem.{CallItem}
use Rattle.canon_script.specs.declared.script.DropItem.{DropItem}
use Rattle.canon_script.specs.declared.script.Item.{Item}
use Rattle.canon_script.specs.declared.script.Item.TheVariants as item
use Rattle.canon_script.specs.declared.script.NewItem.{NewItem}
use Rattle.canon_script.specs.declared.script.Script.{Script}
use Rattle.canon_script.specs.declared.script.Settings.{Settings}
use Rattle.canon_script.specs.declared.script.TypedItem.{TypedItem}

-- ---- items

-- one call: its function, its parameters, what the guest does, how many results there is room for, how `realloc` is
-- answered, and whether the post-return function traps
pub record ScriptCall : Type 0 where
  pub func : ℕ
  pub params : List Literal
  pub guest : List Action
  pub slots : ℕ
  pub reallocs : List Ordered
  pub post_trap : Bool

-- one typed call: the same, but with values of a signature, and room for its results
pub record ScriptTyped : Type 0 where
  pub func : ℕ
  pub params : TypedValues
  pub guest : List Action
  pub reallocs : List Ordered
  pub post_trap : Bool

abbrev pub slots_of : ℕ → Option Data → Option ℕ
slots_of results d = option_map_or (number_to 1000) d (Some results)

abbrev pub reallocs_of : Option Data → Option (List Ordered)
reallocs_of d = option_map_or (each_of ordered_of) d (Some [])

abbrev pub call_with : ℕ → List Literal → List Action → ℕ → List Ordered → Bool → ScriptCall
call_with func params guest slots reallocs post_trap = record { func = func; params = params; guest = guest; slots = slots; reallocs = reallocs; post_trap = post_trap }

abbrev pub optional_call_members : Data → ℕ
optional_call_members d = there (get (codes "slots") d) + (there (get (codes "reallocs") d) + there (get (codes "post_trap") d))

-- a call of the function of this number, which has so many results
abbrev pub call_of_func : Data → ℕ → ℕ → Option ScriptCall
call_of_func d func results =
    option_and_then (λ slots. option_and_then (λ post_trap. option_and_then (λ params. option_and_then (λ guest. option_map (λ reallocs. call_with func params guest slots reallocs post_trap)
    (reallocs_of (get (codes "reallocs") d)))
    (option_and_then (each_of action_of) (get (codes "guest") d)))
    (option_and_then (each_of value_of) (get (codes "params") d)))
    (option_map_or as_bool (get (codes "post_trap") d) (Some false)))
    (slots_of results (get (codes "slots") d))

-- an object that calls one of the first functions of the table, of which there are so many
abbrev pub call_item_of : TypeTable → ℕ → Data → Option ScriptCall
call_item_of t count d =
    if has_len (3 + optional_call_members d) (as_object d)
    then option_and_then (λ func. option_and_then (call_of_func d func) (func_result_count t func))
    (option_and_then (if_below count) (option_and_then u32_of (get (codes "call") d)))
    else None

abbrev pub typed_with : ℕ → TypedValues → List Action → List Ordered → Bool → ScriptTyped
typed_with func params guest reallocs post_trap = record { func = func; params = params; guest = guest; reallocs = reallocs; post_trap = post_trap }

abbrev pub optional_typed_members : Data → ℕ
optional_typed_members d = there (get (codes "reallocs") d) + there (get (codes "post_trap") d)

-- the parameters of a typed call, by the number of its signature
abbrev pub typed_params_of : Data → Option TypedValues
typed_params_of d =
    option_and_then (λ signature. option_and_then (typed_values signature)
    (option_and_then (each_of value_of) (get (codes "params") d)))
    (option_and_then word_of (get (codes "typed") d))

-- a typed call of the function of this number
abbrev pub typed_of_func : Data → ℕ → Option ScriptTyped
typed_of_func d func =
    option_and_then (λ post_trap. option_and_then (λ params. option_and_then (λ guest. option_map (λ reallocs. typed_with func params guest reallocs post_trap)
    (reallocs_of (get (codes "reallocs") d)))
    (option_and_then (each_of action_of) (get (codes "guest") d)))
    (typed_params_of d))
    (option_map_or as_bool (get (codes "post_trap") d) (Some false))

-- an object that calls one of the first functions of the table so, of which there are so many
abbrev pub typed_item_of : ℕ → Data → Option ScriptTyped
typed_item_of count d =
    if has_len (4 + optional_typed_members d) (as_object d)
    then option_and_then (typed_of_func d) (option_and_then (if_below count) (option_and_then u32_of (get (codes "call") d)))
    else None

-- the number that gives the type of a resource of the host
abbrev pub dynamic_id : ResourceKind → Option ℕ
dynamic_id (resource.HostDynamic id) = Some id
dynamic_id _ = None

-- the same, if the resource of this number is such a one
abbrev pub dynamic_type : TypeTable → ℕ → Option ℕ
dynamic_type t r = option_and_then (λ x. dynamic_id x.kind) (slice_get t.resources r)

abbrev pub new_with : ℕ → ℕ → Bool → NewItem
new_with ty rep borrow = record { ty = ty; rep = rep; borrow = borrow }

-- a new resource of one of the host's types, which a number gives
abbrev pub new_item_of : TypeTable → Data → Option NewItem
new_item_of t d =
    if has_len (2 + there (get (codes "borrow") d)) (as_object d)
    then option_and_then (λ ty. option_and_then (λ rep. option_map (new_with ty rep)
    (option_map_or as_bool (get (codes "borrow") d) (Some false)))
    (option_and_then u32_of (get (codes "rep") d)))
    (option_and_then (dynamic_type t) (option_and_then u32_of (get (codes "new") d)))
    else None

abbrev pub drop_with : ℕ → Bool → DropItem
drop_with number dtor_trap = record { resource = number; dtor_trap = dtor_trap }

-- a drop of the resource of a number
abbrev pub drop_item_of : Data → Option DropItem
drop_item_of d =
    if has_len (1 + there (get (codes "dtor_trap") d)) (as_object d)
    then option_and_then (λ number. option_map (drop_with number)
    (option_map_or as_bool (get (codes "dtor_trap") d) (Some false)))
    (option_and_then u32_of (get (codes "drop") d))
    else None

pub data ScriptItem : Type 0 where
  call_item : ScriptCall → ScriptItem
  typed_item : ScriptTyped → ScriptItem
  new_item : NewItem → ScriptItem
  drop_item : DropItem → ScriptItem

abbrev pub other_item_of : TypeTable → Data → Option ScriptItem
other_item_of t d = if is_some (get (codes "new") d) then option_map new_item (new_item_of t d) else option_map drop_item (drop_item_of d)

-- a call, with Rust values where it has the member `typed`
abbrev pub called_item_of : TypeTable → ℕ → Data → Option ScriptItem
called_item_of t count d = if is_some (get (codes "typed") d) then option_map typed_item (typed_item_of count d) else option_map call_item (call_item_of t count d)

-- an item: one member names its kind
abbrev pub item_of : TypeTable → ℕ → Data → Option ScriptItem
item_of t count d = if is_some (get (codes "call") d) then called_item_of t count d else other_item_of t d

-- what the guest does in an item
abbrev pub guest_actions_in : ScriptItem → List Action
guest_actions_in (call_item c) = c.guest
guest_actions_in (typed_item c) = c.guest
guest_actions_in (new_item n) = []
guest_actions_in (drop_item d) = []

-- a call starts the guest
abbrev pub starts : ScriptItem → ℕ
starts (call_item c) = 1
starts (typed_item c) = 1
starts (new_item n) = 0
starts (drop_item d) = 0

-- ---- limits

abbrev pub max_memory : ℕ
max_memory = 67108864

abbrev pub max_work : ℕ
max_work = 1073741824

-- memory at the end, as long as all actions that grow it are carried out
abbrev pub final_memory : ℕ → List ScriptItem → ℕ
final_memory memory items = memory + sum_by (λ i. growth (guest_actions_in i)) items

-- how often the guest is started or resumed
abbrev pub times_entered : List ScriptItem → ℕ
times_entered items = sum_by (λ i. starts i + ask_count (guest_actions_in i)) items

abbrev pub fits : ℕ → List ScriptItem → Bool
fits memory items =
    let final = final_memory memory items in
    nat_le final max_memory && nat_le (final * 2 * times_entered items) max_work

-- ---- all of it

-- a script, apart from how it is kept
pub record Play : Type 0 where
  -- memory's bytes, and where the allocator begins
  pub memory : ℕ
  pub heap : ℕ
  -- the fuel that each lifting begins with
  pub fuel : ℕ
  -- how many handles may live at once
  pub handles : ℕ
  -- how many asks of imports a call may have served
  pub turns : ℕ
  -- how texts are spelled in memory
  pub encoding : StringEncoding
  -- its functions, and after them those of the host
  pub types : TypeTable
  -- for each of its functions whether it has a post-return function
  pub posts : List Bool
  -- what the guest may ask for, by its number
  pub imports : List Import
  -- what each of these answers, in order
  pub answers : List (List HostAnswer)
  pub items : List ScriptItem

abbrev pub play_with : Settings → Declared → List ScriptItem → Play
play_with s d items = record {
  memory = s.memory;
  heap = s.heap;
  fuel = s.fuel;
  handles = s.handles;
  turns = s.turns;
  encoding = s.encoding;
  types = d.table;
  posts = d.posts;
  imports = d.imports;
  answers = d.answers;
  items = items;
}

abbrev pub if_fits : Settings → Declared → List ScriptItem → Option Play
if_fits s d items = if fits s.memory items then Some (play_with s d items) else None

abbrev pub memory_setting : Option Data → Option ℕ
memory_setting d = option_map_or (number_to max_memory) d (Some 65536)

-- at most memory, so it is given where memory is below 1,024
abbrev pub heap_setting : ℕ → Option Data → Option ℕ
heap_setting memory d = option_and_then (λ heap. if nat_le heap memory then Some heap else None) (option_map_or word_of d (Some 1024))

abbrev pub fuel_setting : Option Data → Option ℕ
fuel_setting d = option_map_or word_of d (Some 1000000)

abbrev pub handles_setting : Option Data → Option ℕ
handles_setting d = option_map_or (number_to 1000000) d (Some 1000000)

abbrev pub turns_setting : Option Data → Option ℕ
turns_setting d = option_map_or (number_to 1000000) d (Some 100)

abbrev pub encoding_named : List ℕ → Option StringEncoding
encoding_named name =
    if pointwise nat_eq name (codes "utf8") then Some encoding.Utf8
    else (if pointwise nat_eq name (codes "utf16") then Some encoding.Utf16
    else (if pointwise nat_eq name (codes "compact") then Some encoding.CompactUtf16 else None))

abbrev pub encoding_setting : Option Data → Option StringEncoding
encoding_setting d = option_map_or (λ x. option_and_then encoding_named (as_str x)) d (Some encoding.Utf8)

abbrev pub settings_with : ℕ → ℕ → ℕ → ℕ → ℕ → StringEncoding → Settings
settings_with memory heap fuel handles turns encoding = record { memory = memory; heap = heap; fuel = fuel; handles = handles; turns = turns; encoding = encoding }

-- the members that are no arrays
abbrev pub settings_of : Data → Option Settings
settings_of d = option_and_then (λ memory. option_and_then (λ heap. option_and_then (λ fuel. option_and_then (λ handles. option_and_then (λ turns. option_map (settings_with memory heap fuel handles turns)
    (encoding_setting (get (codes "encoding") d)))
    (turns_setting (get (codes "turns") d)))
    (handles_setting (get (codes "handles") d)))
    (fuel_setting (get (codes "fuel") d)))
    (heap_setting memory (get (codes "heap") d)))
    (memory_setting (get (codes "memory") d))

-- items over what was declared
abbrev pub played_over : Settings → Items → Declared → Option Play
played_over s items d = option_and_then (if_fits s d) (each (item_of d.table (length d.posts)) items)

-- what is declared, and the items over it
abbrev pub played : Settings → Items → Items → Items → Items → Items → Option Play
played s resources types funcs imports items = option_and_then (played_over s items) (declared_of resources types funcs imports)

abbrev pub settings_members : Data → ℕ
settings_members d = there (get (codes "memory") d) + (there (get (codes "heap") d) + (there (get (codes "fuel") d) + (there (get (codes "handles") d)
    + (there (get (codes "turns") d) + there (get (codes "encoding") d)))))

abbrev pub script_members : Data → ℕ
script_members d = settings_members d + (there (get (codes "resources") d) + (there (get (codes "types") d) + (there (get (codes "funcs") d)
    + (there (get (codes "imports") d) + there (get (codes "items") d)))))

-- an object of these eleven members, each of which may be missing
abbrev pub script_of : Data → Option Play
script_of d =
    if has_len (script_members d) (as_object d)
    then option_and_then (λ s. option_and_then (λ resources. option_and_then (λ types. option_and_then (λ funcs. option_and_then (λ imports. option_and_then (played s resources types funcs imports)
    (items_of (get (codes "items") d)))
    (items_of (get (codes "imports") d)))
    (items_of (get (codes "funcs") d)))
    (items_of (get (codes "types") d)))
    (items_of (get (codes "resources") d)))
    (settings_of d)
    else None

-- ---- how a script is kept

abbrev pub call_item_view : CallItem → ScriptCall
call_item_view c = call_with c.func (literals_view c.params.items) c.guest.items c.slots c.reallocs.items c.post_trap

abbrev pub typed_item_view : TypedItem → ScriptTyped
typed_item_view c = typed_with c.func (typed_view c.params) c.guest.items c.reallocs.items c.post_trap

abbrev pub item_view : Item → ScriptItem
item_view (item.Call c) = call_item (call_item_view c)
item_view (item.Typed c) = typed_item (typed_item_view c)
item_view (item.New n) = new_item n
item_view (item.Drop d) = drop_item d

abbrev pub play_of : Script → Play
play_of s =
    record {
      memory = s.memory;
      heap = s.heap;
      fuel = s.fuel;
      handles = s.handles;
      turns = s.turns;
      encoding = s.encoding;
      types = s.types;
      posts = s.posts.items;
      imports = s.imports.items;
      answers = answers_view s.answers.items;
      items = map item_view s.items.items;
    }

-- A call is one of a function, of which there are so many, and each ordered answer of `realloc` is below 2 ^ 32.
abbrev pub ItemStands : ℕ → ScriptItem → Type 0
ItemStands count (call_item c) = (c.func < count) × AreNarrow c.reallocs
ItemStands count (typed_item c) = (c.func < count) × AreNarrow c.reallocs
ItemStands count (new_item n) = Unit {0}
ItemStands count (drop_item d) = Unit {0}

-- It keeps the limits, its imports are over its table and have their answers, and its items are over its functions. A table has at most
-- 2 ^ 20 entries.
pub record IsWellFormed (p : Play) : Type 0 where
  pub heap_inside : p.heap ≤ p.memory
  pub memory_fits : final_memory p.memory p.items ≤ max_memory
  pub work_fits : final_memory p.memory p.items * 2 * times_entered p.items ≤ max_work
  pub posts_told : length p.posts ≤ length p.types.funcs
  pub posts_few : length p.posts ≤ 1048576
  pub imports_stand : All (ImportStands p.types) p.imports
  pub answers_stand : HaveAnswers p.types p.imports p.answers
  pub items_stand : All (ItemStands (length p.posts)) p.items
