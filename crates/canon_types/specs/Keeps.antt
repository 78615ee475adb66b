-- How the struct `ComponentTypes` keeps a table.
use Rattle.std.specs.Prelude.{Bool, if◌then◌else◌, ◌≡◌, ℕ, ◌<◌, Some, Option, String, List, length, map, get_or, slice_get, All, string_bytes, false, ⊤}
use Rattle.canon_abi.specs.Abi.{HasInfo, HasLayout}
use Rattle.canon_model.specs.Layout.{offset}
use Rattle.canon_model.specs.Shape.{Members, Name, Scalar, Shape, borrow, own, scalar, string}
use Rattle.canon_model.specs.Layout.{scalar_size}
use Rattle.canon_types.specs.declared.types.InterfaceType.{InterfaceType}
use Rattle.canon_types.specs.declared.types.TypeList.{TypeList}
use Rattle.canon_types.specs.declared.types.TypeMap.{TypeMap}
use Rattle.canon_types.specs.declared.types.RecordField.{RecordField}
use Rattle.canon_types.specs.declared.types.TypeRecord.{TypeRecord}
use Rattle.canon_types.specs.declared.types.TypeTuple.{TypeTuple}
use Rattle.canon_types.specs.declared.types.TypeVariant.{TypeVariant}
use Rattle.canon_types.specs.declared.types.TypeEnum.{TypeEnum}
use Rattle.canon_types.specs.declared.types.TypeOption.{TypeOption}
use Rattle.canon_types.specs.declared.types.TypeResult.{TypeResult}
use Rattle.canon_types.specs.declared.types.TypeFlags.{TypeFlags}
use Rattle.canon_types.specs.declared.types.TypeFixedLengthList.{TypeFixedLengthList}
use Rattle.canon_types.specs.declared.table.Item.{Item}
use Rattle.canon_types.specs.declared.table.Item.TheVariants as item
use Rattle.canon_types.specs.declared.table.Entry.{Entry}
use Rattle.canon_types.specs.declared.table.TupleEntry.{TupleEntry}
use Rattle.canon_types.specs.declared.table.PlainAbis.{PlainAbis}
use Rattle.canon_types.specs.declared.table.ComponentTypes.TheInside.{Inside}
use Rattle.canon_types.specs.Depth.{depth, element_shape, has_borrow, product_members, variant_cases}
use Rattle.canon_types.specs.declared.types.InterfaceType.TheVariants as ty
use Rattle.canon_types.specs.declared.types.TypeFunc.{TypeFunc}
use Rattle.canon_types.specs.Refusal.{has_repeats, names}
use Rattle.canon_types.specs.Valid.{NamesDiffer}
use Rattle.canon_types.specs.Table.{Definition, EnumType, FixedListType, FlagsType, IsOver, Knows, ListType, MapType, OptionType, RecordType, ResultType, TupleType, TypeTable, VariantType, all_shapes, defined_shape, fields_in, no_shape, parts, shape_of}

-- ---- the definitions that the structs are

abbrev pub list_type : TypeList → Definition
list_type l = ListType l.element

abbrev pub map_type : TypeMap → Definition
map_type m = MapType m.key m.value

abbrev pub fields_type : List RecordField → Definition
fields_type fields = RecordType (map (λ f. (string_bytes f.name, f.ty)) fields)

-- the members of a record of these fields
abbrev pub field_members : TypeTable → List RecordField → Members
field_members t fields = fields_in (all_shapes t) (map (λ f. (string_bytes f.name, f.ty)) fields)

abbrev pub record_type : TypeRecord → Definition
record_type r = fields_type r.fields.items

abbrev pub tuple_type : TypeTuple → Definition
tuple_type t = TupleType t.types.items

abbrev pub cases_type : {Z : Type 0} → List (String Z × Option InterfaceType) → Definition
cases_type cases = VariantType (map (λ c. (string_bytes c.0, c.1)) cases)

abbrev pub variant_type : TypeVariant → Definition
variant_type v = cases_type v.cases.entries

abbrev pub names_of : {Z : Type 0} → List (String Z) → List Name
names_of names = map (λ n. string_bytes n) names

abbrev pub enum_type : TypeEnum → Definition
enum_type e = EnumType (names_of e.names.keys)

abbrev pub option_type : TypeOption → Definition
option_type o = OptionType o.ty

abbrev pub result_type : TypeResult → Definition
result_type r = ResultType r.ok r.err

abbrev pub flags_type : TypeFlags → Definition
flags_type f = FlagsType (names_of f.names.keys)

abbrev pub fixed_list_type : TypeFixedLengthList → Definition
fixed_list_type l = FixedListType l.element l.size

abbrev pub definition_of : Item → Definition
definition_of (item.List x) = list_type x
definition_of (item.Map x) = map_type x
definition_of (item.Record x) = record_type x
definition_of (item.Tuple x) = tuple_type x
definition_of (item.Variant x) = variant_type x
definition_of (item.Enum x) = enum_type x
definition_of (item.Option x) = option_type x
definition_of (item.Result x) = result_type x
definition_of (item.Flags x) = flags_type x
definition_of (item.FixedLengthList x) = fixed_list_type x

-- a tuple as an entry
abbrev pub entry_of : TupleEntry → Entry
entry_of t = record { item = item.Tuple t.tuple; depth = t.depth; has_borrow = t.has_borrow }

-- ---- numbers

abbrev pub value_offset_in : Bool → TypeMap → ℕ
value_offset_in wide m = if wide then m.value_offset64 else m.value_offset32

-- the numbers of the pair of a map, and where its value begins
pub record HasPair (m : TypeMap) (s : Shape) : Type 0 where
  pub abi : HasLayout m.entry_abi (element_shape s)
  pub value : (wide : Bool) → value_offset_in wide m ≡ offset wide (product_members (element_shape s)) 1

-- the numbers that an item keeps are those of its shape
abbrev pub KeepsLayout : Item → Shape → Type 0
KeepsLayout (item.List x) s = ⊤
KeepsLayout (item.Map x) s = HasPair x s
KeepsLayout (item.Record x) s = HasLayout x.abi s
KeepsLayout (item.Tuple x) s = HasLayout x.abi s
KeepsLayout (item.Variant x) s = HasLayout x.abi s × HasInfo x.info (variant_cases s)
KeepsLayout (item.Enum x) s = HasLayout x.abi s × HasInfo x.info (variant_cases s)
KeepsLayout (item.Option x) s = HasLayout x.abi s × HasInfo x.info (variant_cases s)
KeepsLayout (item.Result x) s = HasLayout x.abi s × HasInfo x.info (variant_cases s)
KeepsLayout (item.Flags x) s = HasLayout x.abi s
KeepsLayout (item.FixedLengthList x) s = HasLayout x.abi s

-- an entry names types of the table, and is kept with its shape's depth, borrows and numbers
pub record IsEntry (t : TypeTable) (s : Shape) (e : Entry) : Type 0 where
  pub known : All (Knows t) (parts (definition_of e.item))
  pub shape : s ≡ defined_shape (all_shapes t) (definition_of e.item)
  pub depth : e.depth ≡ depth s
  pub borrows : e.has_borrow ≡ has_borrow s
  pub names : has_repeats (names (definition_of e.item)) ≡ false
  pub layout : KeepsLayout e.item s

abbrev pub table : Inside → TypeTable
table c = record {
  definitions = map (λ e. definition_of e.item) c.entries.items;
  funcs = c.funcs.items;
  resources = c.resources.items;
}

-- each entry is that of the shape at its place
abbrev pub EntriesFit : TypeTable → List Entry → Type 0
EntriesFit t entries = (i : ℕ) (e : Entry) → i < length entries → IsEntry t (get_or (all_shapes t) i no_shape) (get_or entries i e)

pub record ArePlain (p : PlainAbis) : Type 0 where
  pub one : (k : Scalar) → scalar_size k ≡ 1 → HasLayout p.scalar1 (scalar k)
  pub two : (k : Scalar) → scalar_size k ≡ 2 → HasLayout p.scalar2 (scalar k)
  pub four : (k : Scalar) → scalar_size k ≡ 4 → HasLayout p.scalar4 (scalar k)
  pub eight : (k : Scalar) → scalar_size k ≡ 8 → HasLayout p.scalar8 (scalar k)
  pub owned : (r : ℕ) → HasLayout p.scalar4 (own r)
  pub borrowed : (r : ℕ) → HasLayout p.scalar4 (borrow r)
  pub text : HasLayout p.pointer_pair string

-- a function is over tuples of the table, and no borrowed handle occurs in its results
pub record IsFunc (t : TypeTable) (f : TypeFunc) : Type 0 where
  pub over : IsOver t f
  pub results : has_borrow (shape_of t (ty.Tuple f.results)) ≡ false

pub record KeepsTable (c : Inside) : Type 0 where
  pub plain : ArePlain c.plain
  pub entries : EntriesFit (table c) c.entries.items
  pub funcs : All (IsFunc (table c)) c.funcs.items
  pub instances : All (λ r. r.instance < 256) c.resources.items

-- the item at a place is the definition there
pub record Finds (t : TypeTable) (i : ℕ) (it : Item) : Type 0 where
  pub definition : slice_get t.definitions i ≡ Some (definition_of it)
  pub known : All (Knows t) (parts (definition_of it))
  pub names : NamesDiffer (definition_of it)
  pub shape : get_or (all_shapes t) i no_shape ≡ defined_shape (all_shapes t) (definition_of it)
  pub layout : KeepsLayout it (get_or (all_shapes t) i no_shape)
