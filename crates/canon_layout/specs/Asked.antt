-- Which table of types a JSON value asks for.
use Rattle.std.specs.Prelude.{ℕ, ◌+◌, List, [], ◌∷◌, ◌++◌, length, Bool, if◌then◌else◌, codes, Option, None, Some, option_map, option_and_then}
use Rattle.serde_json.specs.Data.{Data, Items}
use Rattle.serde_json.specs.Find.{get, as_array, as_object}
use Rattle.canon_json.specs.Json.{has_len, items_of, onward, there}
use Rattle.canon_types.specs.Refusal.{empty_type_table, func_refusal, refusal, resource_refusal, with_definition, with_func}
use Rattle.canon_types.specs.Table.{Definition, EnumType, FixedListType, FlagsType, ListType, MapType, OptionType, RecordType, ResultType, TupleType, TypeTable, VariantType, knows}
use Rattle.canon_types.specs.declared.error.TypeError.{TypeError}
use Rattle.canon_types.specs.declared.types.InterfaceType.{InterfaceType}
use Rattle.canon_types.specs.declared.types.InterfaceType.TheVariants as ty
use Rattle.canon_types.specs.declared.types.TypeResourceTable.{TypeResourceTable}
use Rattle.canon_layout.specs.Entries.{Entry, FuncParts, defines, entry_by_member, func_of, handle, resource_table_of}

-- a table, and the type of each entry
pub record Listed : Type 0 where
  pub table : TypeTable
  pub types : List InterfaceType

abbrev pub listed_so_far : TypeTable → List InterfaceType → Listed
listed_so_far t types = record { table = t; types = types }

-- with one type more
abbrev pub grown : TypeTable → List InterfaceType → InterfaceType → Listed
grown t types type = listed_so_far t (types ++ type ∷ [])

-- the type that a definition of this number defines
abbrev pub type_at : ℕ → Definition → InterfaceType
type_at n (ListType element) = ty.List n
type_at n (MapType key value) = ty.Map n
type_at n (RecordType fields) = ty.Record n
type_at n (TupleType types) = ty.Tuple n
type_at n (VariantType cases) = ty.Variant n
type_at n (EnumType names) = ty.Enum n
type_at n (OptionType some) = ty.Option n
type_at n (ResultType ok error) = ty.Result n
type_at n (FlagsType names) = ty.Flags n
type_at n (FixedListType element count) = ty.FixedLengthList n

-- what is added, unless it is refused
abbrev pub unless : {A : Type 0} → Option TypeError → A → Option A
unless None a = Some a
unless (Some e) a = None

abbrev pub entry_added : Listed → Entry → Option Listed
entry_added l (defines d) = unless (refusal l.table d) (grown (with_definition l.table d) l.types (type_at (length l.table.definitions) d))
entry_added l (handle t) = if knows l.table t then Some (grown l.table l.types t) else None

abbrev pub add_entry : Listed → Data → Option Listed
add_entry l d = option_and_then (entry_added l) (entry_by_member l.types d)

abbrev pub with_resource : TypeTable → TypeResourceTable → Option TypeTable
with_resource t r = unless (resource_refusal t r) (record t { resources = t.resources ++ r ∷ [] })

abbrev pub add_resource : TypeTable → Data → Option TypeTable
add_resource t d = option_and_then (with_resource t) (resource_table_of d)

-- a table, and for each of its functions whether it has a post-return function
pub record Funcs : Type 0 where
  pub table : TypeTable
  pub posts : List Bool

abbrev pub funcs_so_far : TypeTable → List Bool → Funcs
funcs_so_far t posts = record { table = t; posts = posts }

abbrev pub with_parts : Funcs → FuncParts → Option Funcs
with_parts fs f =
    unless (func_refusal fs.table f.params f.results)
    (funcs_so_far (with_func fs.table f.params f.results f.async) (fs.posts ++ f.post ∷ []))

abbrev pub add_func : List InterfaceType → Funcs → Data → Option Funcs
add_func types fs d = option_and_then (with_parts fs) (func_of types d)

-- the types of an array, over these resources
abbrev pub types_over : TypeTable → Items → Option Listed
types_over t entries = onward add_entry (listed_so_far t []) entries

-- the types of an array, without resources
abbrev pub types_listed : Data → Option Listed
types_listed d = option_and_then (types_over empty_type_table) (as_array d)

-- the functions of an array, over these types
abbrev pub funcs_over : Items → Listed → Option Funcs
funcs_over funcs l = onward (add_func l.types) (funcs_so_far l.table []) funcs

abbrev pub with_funcs : Items → Listed → Option Listed
with_funcs funcs l = option_map (λ fs. listed_so_far fs.table l.types) (funcs_over funcs l)

-- resources come first, then types, then functions
abbrev pub listing_over : Items → Items → Items → Option Listed
listing_over resources types funcs = option_and_then (λ t. option_and_then (with_funcs funcs) (types_over t types)) (onward add_resource empty_type_table resources)

abbrev pub layout_members : Data → ℕ
layout_members d = there (get (codes "resources") d) + (there (get (codes "types") d) + there (get (codes "funcs") d))

-- an object of these three members, each of which may be missing
abbrev pub layout_of : Data → Option Listed
layout_of d =
    if has_len (layout_members d) (as_object d)
    then option_and_then (λ resources. option_and_then (λ types. option_and_then (listing_over resources types)
    (items_of (get (codes "funcs") d)))
    (items_of (get (codes "types") d)))
    (items_of (get (codes "resources") d))
    else None
