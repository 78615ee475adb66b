-- What a JSON value says of a type, of a function and of a resource.
use Rattle.std.specs.Prelude.{ℕ, ◌+◌, List, Bool, true, false, nat_eq, if◌then◌else◌, codes, slice_get, Option, None, Some, option_map, option_and_then}
use Rattle.std.specs.Option.{option_map_or}
use Rattle.std.specs.List.{find}
use lib.Pointwise.{pointwise}
use Rattle.serde_json.specs.Data.{Data, null, boolean, number, string, array, object}
use Rattle.serde_json.specs.Find.{get, as_bool, as_object, as_str, as_u64}
use Rattle.canon_json.specs.Json.{each_of, has_len, only, only_member, there, two, u32_of}
use Rattle.canon_model.specs.Shape.{Name}
use Rattle.canon_types.specs.Table.{Definition, EnumType, FixedListType, FlagsType, ListType, MapType, OptionType, RecordType, ResultType, TupleType, VariantType}
use Rattle.canon_types.specs.declared.types.InterfaceType.{InterfaceType}
use Rattle.canon_types.specs.declared.types.InterfaceType.TheVariants as ty
use Rattle.canon_types.specs.declared.types.ResourceKind.{ResourceKind}
use Rattle.canon_types.specs.declared.types.ResourceKind.TheVariants as resource
use Rattle.canon_types.specs.declared.types.TypeResourceTable.{TypeResourceTable}
use Rattle.canon_layout.specs.Words.{kind_word, entry_kinds, plain_types, type_word}
use Rattle.canon_layout.specs.declared.funcs.Signature.{Signature}
use Rattle.canon_layout.specs.declared.words.Kind.{Kind}
use Rattle.canon_layout.specs.declared.words.Kind.TheVariants as kind

-- ---- types

abbrev pub plain_named : List ℕ → Option InterfaceType
plain_named name = find (λ t. pointwise nat_eq name (type_word t)) plain_types

-- a type by its name, or by the number of an entry among those before
abbrev pub reference_of : List InterfaceType → Data → Option InterfaceType
reference_of before null = None
reference_of before (boolean b) = None
reference_of before (number n) = option_and_then (slice_get before) (as_u64 n)
reference_of before (string s) = plain_named s
reference_of before (array ds) = None
reference_of before (object ms) = None

-- a type, or null for none
abbrev pub optional_type_of : List InterfaceType → Data → Option (Option InterfaceType)
optional_type_of before null = Some None
optional_type_of before d = option_map (λ t. Some t) (reference_of before d)

-- two values, each read in its way
abbrev pub both_of : {A B : Type 0} → (Data → Option A) → (Data → Option B) → Data × Data → Option (A × B)
both_of first second p = option_and_then (λ a. option_map (λ b. (a, b)) (second p.1)) (first p.0)

abbrev pub array_of_two : {A B : Type 0} → (Data → Option A) → (Data → Option B) → Data → Option (A × B)
array_of_two first second d = option_and_then (both_of first second) (two d)

-- a name and a type
abbrev pub name_and_type : List InterfaceType → Data → Option (Name × InterfaceType)
name_and_type before = array_of_two as_str (reference_of before)

abbrev pub bare_case : Data → Option (Name × Option InterfaceType)
bare_case name = option_map (λ n. (n, None)) (as_str name)

-- a name alone, or with a type
abbrev pub case_of : List InterfaceType → Data → Option (Name × Option InterfaceType)
case_of before d = option_map_or bare_case (only d) (option_map (λ f. (f.0, Some f.1)) (name_and_type before d))

-- ---- entries

-- an entry defines a type over those before it, or it is a handle of a resource
pub data Entry : Type 0 where
  defines : Definition → Entry
  handle : InterfaceType → Entry

-- an entry of this kind, by its member's value
abbrev pub entry_by : Kind → List InterfaceType → Data → Option Entry
entry_by kind.List before d = option_map (λ t. defines (ListType t)) (reference_of before d)
entry_by kind.Option before d = option_map (λ t. defines (OptionType t)) (reference_of before d)
entry_by kind.Map before d = option_map (λ p. defines (MapType p.0 p.1)) (array_of_two (reference_of before) (reference_of before) d)
entry_by kind.Record before d = option_map (λ fields. defines (RecordType fields)) (each_of (name_and_type before) d)
entry_by kind.Tuple before d = option_map (λ ts. defines (TupleType ts)) (each_of (reference_of before) d)
entry_by kind.Variant before d = option_map (λ cases. defines (VariantType cases)) (each_of (case_of before) d)
entry_by kind.Enum before d = option_map (λ names. defines (EnumType names)) (each_of as_str d)
entry_by kind.Flags before d = option_map (λ names. defines (FlagsType names)) (each_of as_str d)
entry_by kind.Result before d = option_map (λ p. defines (ResultType p.0 p.1)) (array_of_two (optional_type_of before) (optional_type_of before) d)
entry_by kind.Fixed before d = option_map (λ p. defines (FixedListType p.0 p.1)) (array_of_two (reference_of before) u32_of d)
entry_by kind.Own before d = option_map (λ r. handle (ty.Own r)) (u32_of d)
entry_by kind.Borrow before d = option_map (λ r. handle (ty.Borrow r)) (u32_of d)

abbrev pub kind_named : List ℕ → Option Kind
kind_named name = find (λ k. pointwise nat_eq name (kind_word k)) entry_kinds

-- an object of one member
abbrev pub entry_by_member : List InterfaceType → Data → Option Entry
entry_by_member before d = option_and_then (λ m. option_and_then (λ k. entry_by k before m.1) (kind_named m.0)) (option_and_then only_member (as_object d))

-- ---- functions

-- the types of a function's parameters and results, whether it is async, and whether it has a post-return function, which
-- its type doesn't say
pub record FuncParts : Type 0 where
  pub params : List InterfaceType
  pub results : List InterfaceType
  pub async : Bool
  pub post : Bool

abbrev pub func_with : List InterfaceType → List InterfaceType → Bool → Bool → FuncParts
func_with params results async post = record { params = params; results = results; async = async; post = post }

abbrev pub signature_of : Signature → FuncParts
signature_of s = func_with s.params.items s.results.items s.is_async s.has_post

abbrev pub func_of : List InterfaceType → Data → Option FuncParts
func_of types d =
    let async = get (codes "async") d in
    let post = get (codes "post") d in
    if has_len (2 + (there async + there post)) (as_object d)
    then option_and_then (λ params. option_and_then (λ results. option_and_then (λ a. option_map (func_with params results a)
    (option_map_or as_bool post (Some false)))
    (option_map_or as_bool async (Some false)))
    (option_and_then (each_of (reference_of types)) (get (codes "results") d)))
    (option_and_then (each_of (reference_of types)) (get (codes "params") d))
    else None

-- ---- resources

-- a resource of instance 0
abbrev pub resource_with : ResourceKind → Bool → TypeResourceTable
resource_with k here = record { instance = 0; kind = k; defined_here = here }

-- the host's, by a number
abbrev pub dynamic_resource_of : Data → Option TypeResourceTable
dynamic_resource_of d = if has_len 2 (as_object d) then option_map (λ n. resource_with (resource.HostDynamic n) false) (option_and_then u32_of (get (codes "id") d)) else None

-- a number, or null for none
abbrev pub optional_dtor : Data → Option (Option ℕ)
optional_dtor null = Some None
optional_dtor d = option_map (λ f. Some f) (u32_of d)

-- the guest's, defined here unless it says otherwise, with a destructor or none
abbrev pub guest_resource_of : Data → Option TypeResourceTable
guest_resource_of d =
    let here = get (codes "here") d in
    let dtor = get (codes "dtor") d in
    if has_len (2 + (there here + there dtor)) (as_object d)
    then option_and_then (λ n. option_and_then (λ h. option_map (λ f. resource_with (resource.Guest n f) h)
    (option_map_or optional_dtor dtor (Some None)))
    (option_map_or as_bool here (Some true)))
    (option_and_then u32_of (get (codes "id") d))
    else None

abbrev pub resource_by : Data → List ℕ → Option TypeResourceTable
resource_by d kind =
    if pointwise nat_eq kind (codes "dynamic") then dynamic_resource_of d
    else (if pointwise nat_eq kind (codes "guest") then guest_resource_of d else None)

abbrev pub resource_table_of : Data → Option TypeResourceTable
resource_table_of d = option_and_then (resource_by d) (option_and_then as_str (get (codes "kind") d))
