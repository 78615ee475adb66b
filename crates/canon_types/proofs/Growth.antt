-- A table that gains a definition keeps the shapes of its types.
use Rattle.std.proofs.Common.{◌≡◌, ℕ, zero, suc, ◌+◌, ◌<◌, ◌≤◌, Bool, true, false, Option, Some, None, List, [], ◌∷◌, ◌++◌, length, map, get_or, slice_get, filter_map, All, refl, sym, ap, ◌∙◌, subst, ◌⊎◌, inl, inr, arith}
use Rattle.std.specs.Prelude.{IfSome}
use Rattle.std.specs.Option.{option_map_or}
use Rattle.std.proofs.lemmas.List.{append-nil, append_assoc, length-append, length-map, map-append, get_or_append_left, get_or_push}
use Rattle.std.proofs.lemmas.Bool.{cases_lt}
use Rattle.std.proofs.lemmas.List.Elements.{All-head, All-tail}
use Rattle.std.proofs.lemmas.Option.{slice_get_cases}
use Rattle.canon_types.specs.declared.types.InterfaceType.{InterfaceType}
use Rattle.canon_types.specs.declared.types.InterfaceType.TheVariants as ty
use Rattle.canon_types.specs.declared.types.TypeFunc.{TypeFunc}
use Rattle.canon_types.specs.declared.table.Entry.{Entry}
use Rattle.canon_model.specs.Shape.{Name, Shape, fixed, list_of, map_of, of_places, option_of, product, record_of, result_of, variant_of}
use Rattle.canon_types.specs.declared.table.ComponentTypes.TheInside.{Inside}
use Rattle.canon_types.specs.Keeps.{definition_of, table, IsEntry, IsFunc, EntriesFit}
use Rattle.canon_types.specs.Depth.{has_borrow}
use Rattle.canon_types.specs.Refusal.{with_definition}
use Rattle.canon_types.specs.Table.{Definition, EnumType, FixedListType, FlagsType, IsOver, Knows, ListType, MapType, OptionType, RecordType, ResultType, TupleType, TypeTable, VariantType, all_shapes, cases_in, defined_shape, fields_in, has, is_enum, is_fixed_list, is_flags, is_list, is_map, is_option, is_record, is_result, is_tuple, is_variant, members_in, named_case, no_shape, parts, place, shape_in, shape_of, shapes_after}
use Rattle.canon_types.specs.declared.types.TypeResourceTable.{TypeResourceTable}

-- ---- shapes in the order of addition

shapes_after-push : (known : List Shape) (ds : List Definition) (d : Definition) → shapes_after known (ds ++ d ∷ []) ≡ shapes_after known ds ++ defined_shape (shapes_after known ds) d ∷ []
unfolding shapes_after
shapes_after-push known [] d = refl
shapes_after-push known (x ∷ xs) d = shapes_after-push (known ++ defined_shape known x ∷ []) xs d

length-shapes_after : (known : List Shape) (ds : List Definition) → length (shapes_after known ds) ≡ length known + length ds
unfolding shapes_after
length-shapes_after known [] = omega arith
length-shapes_after known (x ∷ xs) = omega (arith, length-shapes_after (known ++ defined_shape known x ∷ []) xs, length-append known (defined_shape known x ∷ []))

pub all_shapes-with : (t : TypeTable) (d : Definition) → all_shapes (with_definition t d) ≡ all_shapes t ++ defined_shape (all_shapes t) d ∷ []
unfolding all_shapes
all_shapes-with t d = shapes_after-push [] t.definitions d

pub length-all_shapes : (t : TypeTable) → length (all_shapes t) ≡ length t.definitions
unfolding all_shapes
length-all_shapes t = omega (arith, length-shapes_after [] t.definitions)

-- ---- a shape stays where more shapes are known

-- the type's definition is among the first n
abbrev pub IsWithin : ℕ → InterfaceType → Type 0
IsWithin n type = IfSome (place type) (λ i. i < n)

shape_at-append : (known more : List Shape) (type : InterfaceType) (o : Option ℕ) → place type ≡ o → IfSome o (λ i. i < length known) → shape_in (known ++ more) type ≡ shape_in known type
shape_at-append known more type None e within = grind arith
shape_at-append known more type (Some i) e within = grind (arith, get_or_append_left known more no_shape i within)

shape_in-append : (known more : List Shape) (type : InterfaceType) → IsWithin (length known) type → shape_in (known ++ more) type ≡ shape_in known type
shape_in-append known more type within = shape_at-append known more type (place type) refl within

members_in-append : (known more : List Shape) (types : List InterfaceType) → All (IsWithin (length known)) types → members_in (known ++ more) types ≡ members_in known types
members_in-append known more [] within = refl
members_in-append known more (t ∷ ts) within =
    let head = shape_in-append known more t (All-head (IsWithin (length known)) t ts within) in
    let tail = members_in-append known more ts (All-tail (IsWithin (length known)) t ts within) in
    cc

fields_in-append : (known more : List Shape) (fs : List (Name × InterfaceType)) → All (IsWithin (length known)) (map (λ f. f.1) fs) → fields_in (known ++ more) fs ≡ fields_in known fs
fields_in-append known more [] within = refl
fields_in-append known more (f ∷ fs) within =
    let head = shape_in-append known more f.1 (All-head (IsWithin (length known)) f.1 (map (λ x. x.1) fs) within) in
    let tail = fields_in-append known more fs (All-tail (IsWithin (length known)) f.1 (map (λ x. x.1) fs) within) in
    cc

cases_in-append : (known more : List Shape) (cs : List (Name × Option InterfaceType)) → All (IsWithin (length known)) (filter_map (λ c. c.1) cs) → cases_in (known ++ more) cs ≡ cases_in known cs
cases_in-append known more [] within = refl
cases_in-append known more ((name, None) ∷ cs) within = ap (named_case name None) (cases_in-append known more cs within)
cases_in-append known more ((name, Some t) ∷ cs) within =
    let head = shape_in-append known more t (All-head (IsWithin (length known)) t (filter_map (λ c. c.1) cs) within) in
    let tail = cases_in-append known more cs (All-tail (IsWithin (length known)) t (filter_map (λ c. c.1) cs) within) in
    cc

pub defined_shape-append : (known more : List Shape) (d : Definition) → All (IsWithin (length known)) (parts d) → defined_shape (known ++ more) d ≡ defined_shape known d
defined_shape-append known more (ListType e) within = ap list_of (shape_in-append known more e (within 0 e (omega arith)))
defined_shape-append known more (MapType k v) within =
    ap (λ (s : Shape). map_of s (shape_in (known ++ more) v)) (shape_in-append known more k (within 0 k (omega arith)))
    ∙ ap (map_of (shape_in known k)) (shape_in-append known more v (within 1 v (omega arith)))
defined_shape-append known more (RecordType fs) within = ap record_of (fields_in-append known more fs within)
defined_shape-append known more (TupleType ts) within = ap (product of_places) (members_in-append known more ts within)
defined_shape-append known more (VariantType cs) within = ap variant_of (cases_in-append known more cs within)
defined_shape-append known more (EnumType ns) within = refl
defined_shape-append known more (OptionType t) within = ap option_of (shape_in-append known more t (within 0 t (omega arith)))
defined_shape-append known more (ResultType None None) within = refl
defined_shape-append known more (ResultType (Some a) None) within = ap (λ (s : Shape). result_of (Some s) None) (shape_in-append known more a (within 0 a (omega arith)))
defined_shape-append known more (ResultType None (Some b)) within = ap (λ (s : Shape). result_of None (Some s)) (shape_in-append known more b (within 0 b (omega arith)))
defined_shape-append known more (ResultType (Some a) (Some b)) within =
    ap (λ (s : Shape). result_of (Some s) (Some (shape_in (known ++ more) b))) (shape_in-append known more a (within 0 a (omega arith)))
    ∙ ap (λ (s : Shape). result_of (Some (shape_in known a)) (Some s)) (shape_in-append known more b (within 1 b (omega arith)))
defined_shape-append known more (FlagsType ns) within = refl
defined_shape-append known more (FixedListType e n) within = ap (fixed n) (shape_in-append known more e (within 0 e (omega arith)))

-- ---- what a table knows

has_within : (test : Definition → Bool) (t : TypeTable) (i : ℕ) → has test t i ≡ true → i < length t.definitions
has_within test t i h = grind (arith, slice_get_cases t.definitions i)

pub known_within : (t : TypeTable) (type : InterfaceType) → Knows t type → IsWithin (length t.definitions) type
known_within t (ty.List i) h = has_within is_list t i h
known_within t (ty.Map i) h = has_within is_map t i h
known_within t (ty.Record i) h = has_within is_record t i h
known_within t (ty.Tuple i) h = has_within is_tuple t i h
known_within t (ty.Variant i) h = has_within is_variant t i h
known_within t (ty.Enum i) h = has_within is_enum t i h
known_within t (ty.Option i) h = has_within is_option t i h
known_within t (ty.Result i) h = has_within is_result t i h
known_within t (ty.Flags i) h = has_within is_flags t i h
known_within t (ty.FixedLengthList i) h = has_within is_fixed_list t i h
known_within t _ h = tt

slice_get-append : (ds more : List Definition) (i : ℕ) (d : Definition) → slice_get ds i ≡ Some d → slice_get (ds ++ more) i ≡ Some d
slice_get-append [] more i d h = cc
slice_get-append (x ∷ xs) more zero d h = h
slice_get-append (x ∷ xs) more (suc i) d h = slice_get-append xs more i d h

has_by : (test : Definition → Bool) (t : TypeTable) (d : Definition) (i : ℕ) (o : Option Definition) → slice_get t.definitions i ≡ o → has test t i ≡ true → has test (with_definition t d) i ≡ true
has_by test t d i None e h = grind arith
has_by test t d i (Some x) e h = grind (arith, slice_get-append t.definitions (d ∷ []) i x e)

has-with : (test : Definition → Bool) (t : TypeTable) (d : Definition) (i : ℕ) → has test t i ≡ true → has test (with_definition t d) i ≡ true
has-with test t d i h = has_by test t d i (slice_get t.definitions i) refl h

pub knows-with : (t : TypeTable) (d : Definition) (type : InterfaceType) → Knows t type → Knows (with_definition t d) type
knows-with t d (ty.List i) h = has-with is_list t d i h
knows-with t d (ty.Map i) h = has-with is_map t d i h
knows-with t d (ty.Record i) h = has-with is_record t d i h
knows-with t d (ty.Tuple i) h = has-with is_tuple t d i h
knows-with t d (ty.Variant i) h = has-with is_variant t d i h
knows-with t d (ty.Enum i) h = has-with is_enum t d i h
knows-with t d (ty.Option i) h = has-with is_option t d i h
knows-with t d (ty.Result i) h = has-with is_result t d i h
knows-with t d (ty.Flags i) h = has-with is_flags t d i h
knows-with t d (ty.FixedLengthList i) h = has-with is_fixed_list t d i h
knows-with t d (ty.Own r) h = h
knows-with t d (ty.Borrow r) h = h
knows-with t d _ h = refl

all_within : (t : TypeTable) (types : List InterfaceType) → All (Knows t) types → All (IsWithin (length (all_shapes t))) types
all_within t types h =
    let P : ℕ → Type 0 = λ n. All (IsWithin n) types in
    subst P (sym (length-all_shapes t)) (λ k x lt. known_within t _ (h k x lt))

-- the shape of a known type stays
pub shape_of-with : (t : TypeTable) (d : Definition) (type : InterfaceType) → Knows t type → shape_of (with_definition t d) type ≡ shape_of t type
shape_of-with t d type h =
    ap (λ (known : List Shape). shape_in known type) (all_shapes-with t d)
    ∙ shape_in-append (all_shapes t) (defined_shape (all_shapes t) d ∷ []) type (subst (λ (n : ℕ). IsWithin n type) (sym (length-all_shapes t)) (known_within t type h))

-- and so does the shape of a definition over known types
pub defined_shape-with : (t : TypeTable) (d x : Definition) → All (Knows t) (parts x) → defined_shape (all_shapes (with_definition t d)) x ≡ defined_shape (all_shapes t) x
defined_shape-with t d x h =
    ap (λ (known : List Shape). defined_shape known x) (all_shapes-with t d)
    ∙ defined_shape-append (all_shapes t) (defined_shape (all_shapes t) d ∷ []) x (all_within t (parts x) h)

-- ---- the entries

entry-with : (t : TypeTable) (d : Definition) (s : Shape) (e : Entry) → IsEntry t s e → IsEntry (with_definition t d) s e
entry-with t d s e h = record {
  known = λ k x lt. knows-with t d _ (h.known k x lt);
  shape = h.shape ∙ sym (defined_shape-with t d (definition_of e.item) h.known);
  depth = h.depth;
  borrows = h.borrows;
  names = h.names;
  layout = h.layout;
}

entry_along : (t : TypeTable) (s s' : Shape) (e e' : Entry) → s' ≡ s → e' ≡ e → IsEntry t s e → IsEntry t s' e'
entry_along t s s' e e' same_shape same_entry h =
    subst (λ (x : Entry). IsEntry t s' x) (sym same_entry) (subst (λ (x : Shape). IsEntry t x e) (sym same_shape) h)

-- one entry more, of known parts
pub entries_fit-push : (t : TypeTable) (entries : List Entry) (e : Entry) → t.definitions ≡ map (λ x. definition_of x.item) entries → EntriesFit t entries
    → IsEntry t (defined_shape (all_shapes t) (definition_of e.item)) e → EntriesFit (with_definition t (definition_of e.item)) (entries ++ e ∷ [])
entries_fit-push t entries e defs fit new i x lt = go (cases_lt i (length entries))
  where
    d : Definition
    d = definition_of e.item

    count : length (all_shapes t) ≡ length entries
    count = length-all_shapes t ∙ ap length defs ∙ length-map entries (λ (y : Entry). definition_of y.item)

    go : (i < length entries) ⊎ (length entries ≤ i) → IsEntry (with_definition t d) (get_or (all_shapes (with_definition t d)) i no_shape) (get_or (entries ++ e ∷ []) i x)
    go (inl below) =
        entry_along (with_definition t d) (get_or (all_shapes t) i no_shape) _ (get_or entries i x) _
        (ap (λ (known : List Shape). get_or known i no_shape) (all_shapes-with t d) ∙ get_or_append_left (all_shapes t) (defined_shape (all_shapes t) d ∷ []) no_shape i (omega (arith, count)))
        (get_or_append_left entries (e ∷ []) x i below)
        (entry-with t d (get_or (all_shapes t) i no_shape) (get_or entries i x) (fit i x below))
    go (inr above) =
        let at : length entries ≡ i = omega (arith, length-append entries (e ∷ [])) in
        entry_along (with_definition t d) (defined_shape (all_shapes t) d) _ e _
        (ap (λ (known : List Shape). get_or known i no_shape) (all_shapes-with t d) ∙ get_or_push (all_shapes t) (defined_shape (all_shapes t) d) no_shape i (count ∙ at))
        (get_or_push entries e x i at)
        (entry-with t d (defined_shape (all_shapes t) d) e new)

abbrev pub definitions_of : List Entry → List Definition
definitions_of = map (λ x. definition_of x.item)

-- the same, of the fields of a `ComponentTypes`
pub kept-push : (c : Inside) (t : TypeTable) (items : List Entry) (e : Entry) → table c ≡ t → items ≡ c.entries.items ++ e ∷ [] →
    EntriesFit (table c) c.entries.items → IsEntry t (defined_shape (all_shapes t) (definition_of e.item)) e →
    EntriesFit (record { definitions = definitions_of items; funcs = c.funcs.items; resources = c.resources.items }) items
kept-push c t items e view same fit new =
    let IsNew : TypeTable → Type 0 = λ x. IsEntry x (defined_shape (all_shapes x) (definition_of e.item)) e in
    let Fit : TypeTable → Type 0 = λ x. EntriesFit x (c.entries.items ++ e ∷ []) in
    let pushed : EntriesFit (with_definition (table c) (definition_of e.item)) (c.entries.items ++ e ∷ []) =
    entries_fit-push (table c) c.entries.items e refl fit (subst IsNew (sym view) new) in
    let grown : with_definition (table c) (definition_of e.item) ≡ record { definitions = definitions_of (c.entries.items ++ e ∷ []); funcs = c.funcs.items; resources = c.resources.items } =
    ap (λ (ds : List Definition). let r : TypeTable = record { definitions = ds; funcs = c.funcs.items; resources = c.resources.items } in r) (sym (map-append (λ (x : Entry). definition_of x.item) c.entries.items (e ∷ []))) in
    subst (λ (xs : List Entry). EntriesFit (record { definitions = definitions_of xs; funcs = c.funcs.items; resources = c.resources.items }) xs) (sym same) (subst Fit grown pushed)

-- entries do not depend on the functions
entries_fit-funcs : (ds : List Definition) (fs gs : List TypeFunc) (n : List TypeResourceTable) (entries : List Entry) → EntriesFit (record { definitions = ds; funcs = fs; resources = n }) entries
    → EntriesFit (record { definitions = ds; funcs = gs; resources = n }) entries
unfolding all_shapes
entries_fit-funcs ds fs gs n entries fit = λ i e lt. record {
  known = (fit i e lt).known;
  shape = (fit i e lt).shape;
  depth = (fit i e lt).depth;
  borrows = (fit i e lt).borrows;
  names = (fit i e lt).names;
  layout = (fit i e lt).layout;
}

-- two entries more, over the same table
pub entries_fit-push_two : (t : TypeTable) (entries : List Entry) (p r : Entry) → t.definitions ≡ definitions_of entries → EntriesFit t entries →
    IsEntry t (defined_shape (all_shapes t) (definition_of p.item)) p → IsEntry t (defined_shape (all_shapes t) (definition_of r.item)) r →
    EntriesFit (with_definition (with_definition t (definition_of p.item)) (definition_of r.item)) (entries ++ p ∷ [] ++ r ∷ [])
entries_fit-push_two t entries p r defs fit first second =
    let dp = definition_of p.item in
    let dr = definition_of r.item in
    let one = entries_fit-push t entries p defs fit first in
    let defs' : t.definitions ++ dp ∷ [] ≡ definitions_of (entries ++ p ∷ []) = ap (λ (ds : List Definition). ds ++ dp ∷ []) defs ∙ sym (map-append (λ (x : Entry). definition_of x.item) entries (p ∷ [])) in
    let grown = entry-with t dp (defined_shape (all_shapes t) dr) r second in
    let second' : IsEntry (with_definition t dp) (defined_shape (all_shapes (with_definition t dp)) dr) r = entry_along (with_definition t dp) (defined_shape (all_shapes t) dr) _ r r (defined_shape-with t dp dr second.known) refl grown in
    entries_fit-push (with_definition t dp) (entries ++ p ∷ []) r defs' one second'

-- the same, of the fields of a `ComponentTypes`, whatever becomes of the functions
pub kept-push_two : (c : Inside) (t : TypeTable) (items : List Entry) (p r : Entry) (funcs : List TypeFunc) → table c ≡ t →
    items ≡ c.entries.items ++ p ∷ [] ++ r ∷ [] → EntriesFit (table c) c.entries.items →
    IsEntry t (defined_shape (all_shapes t) (definition_of p.item)) p → IsEntry t (defined_shape (all_shapes t) (definition_of r.item)) r →
    EntriesFit (record { definitions = definitions_of items; funcs = funcs; resources = c.resources.items }) items
kept-push_two c t items p r funcs view same fit first second =
    let all = c.entries.items ++ p ∷ [] ++ r ∷ [] in
    let Is : Entry → TypeTable → Type 0 = λ e x. IsEntry x (defined_shape (all_shapes x) (definition_of e.item)) e in
    let pushed = entries_fit-push_two (table c) c.entries.items p r refl fit (subst (Is p) (sym view) first) (subst (Is r) (sym view) second) in
    let ds : definitions_of c.entries.items ++ definition_of p.item ∷ [] ++ definition_of r.item ∷ [] ≡ definitions_of all = simp map-append in
    let Fit : List Definition → Type 0 = λ xs. EntriesFit (record { definitions = xs; funcs = c.funcs.items; resources = c.resources.items }) all in
    subst (λ (xs : List Entry). EntriesFit (record { definitions = definitions_of xs; funcs = funcs; resources = c.resources.items }) xs) (sym same)
    (entries_fit-funcs (definitions_of all) c.funcs.items funcs c.resources.items all (subst Fit ds pushed))

-- the same entries, whatever becomes of the functions
pub kept-same : (c : Inside) (items : List Entry) (funcs : List TypeFunc) → items ≡ c.entries.items → EntriesFit (table c) c.entries.items
    → EntriesFit (record { definitions = definitions_of items; funcs = funcs; resources = c.resources.items }) items
kept-same c items funcs same fit =
    subst (λ (xs : List Entry). EntriesFit (record { definitions = definitions_of xs; funcs = funcs; resources = c.resources.items }) xs) (sym same)
    (entries_fit-funcs (definitions_of c.entries.items) c.funcs.items funcs c.resources.items c.entries.items fit)

-- ---- functions

-- a tuple that was there is there among more definitions
pub has_more : (test : Definition → Bool) (t new : TypeTable) (more : List Definition) (i : ℕ) → new.definitions ≡ t.definitions ++ more → has test t i ≡ true → has test new i ≡ true
has_more test t new more i grown h = go (slice_get t.definitions i) refl
  where
    go : (o : Option Definition) → slice_get t.definitions i ≡ o → has test new i ≡ true
    go None e = grind (arith, e)
    go (Some x) e =
        let at : slice_get new.definitions i ≡ Some x = ap (λ (ds : List Definition). slice_get ds i) grown ∙ slice_get-append t.definitions more i x e in
        let is : test x ≡ true = sym (ap (λ (o : Option Definition). option_map_or test o false) e) ∙ h in
        ap (λ (o : Option Definition). option_map_or test o false) at ∙ is

over_more : (t new : TypeTable) (more : List Definition) (f : TypeFunc) → new.definitions ≡ t.definitions ++ more → IsOver t f → IsOver new f
over_more t new more f grown h = record {
  params = has_more is_tuple t new more f.params grown h.params;
  results = has_more is_tuple t new more f.results grown h.results;
}

-- the shapes of further definitions
abbrev further : List Shape → List Definition → List Shape
further known [] = []
further known (d ∷ ds) = defined_shape known d ∷ further (known ++ defined_shape known d ∷ []) ds

shapes_after-further : (known : List Shape) (ds : List Definition) → shapes_after known ds ≡ known ++ further known ds
unfolding shapes_after
shapes_after-further known [] = sym (append-nil known)
shapes_after-further known (d ∷ ds) =
    shapes_after-further (known ++ defined_shape known d ∷ []) ds
    ∙ append_assoc known (defined_shape known d ∷ []) (further (known ++ defined_shape known d ∷ []) ds)

shapes_after-append : (known : List Shape) (ds more : List Definition) → shapes_after known (ds ++ more) ≡ shapes_after (shapes_after known ds) more
unfolding shapes_after
shapes_after-append known [] more = refl
shapes_after-append known (d ∷ ds) more = shapes_after-append (known ++ defined_shape known d ∷ []) ds more

-- the shape of a known type stays where definitions follow
pub shape_more : (t new : TypeTable) (more : List Definition) (type : InterfaceType) → new.definitions ≡ t.definitions ++ more → Knows t type → shape_of new type ≡ shape_of t type
unfolding all_shapes
shape_more t new more type grown h =
    ap (λ (ds : List Definition). shape_in (shapes_after [] ds) type) grown
    ∙ ap (λ (known : List Shape). shape_in known type) (shapes_after-append [] t.definitions more ∙ shapes_after-further (all_shapes t) more)
    ∙ shape_in-append (all_shapes t) (further (all_shapes t) more) type (subst (λ (n : ℕ). IsWithin n type) (sym (length-all_shapes t)) (known_within t type h))

pub func_more : (t new : TypeTable) (more : List Definition) (f : TypeFunc) → new.definitions ≡ t.definitions ++ more → IsFunc t f → IsFunc new f
func_more t new more f grown h = record {
  over = over_more t new more f grown h.over;
  results = ap has_borrow (shape_more t new more (ty.Tuple f.results) grown h.over.results) ∙ h.results;
}

pub all_funcs_more : (t new : TypeTable) (more : List Definition) (fs : List TypeFunc) → new.definitions ≡ t.definitions ++ more → All (IsFunc t) fs → All (IsFunc new) fs
all_funcs_more t new more fs grown h = λ k f lt. func_more t new more _ grown (h k f lt)

-- the functions stay over tuples of the table where an entry is added
pub funcs-push : (c : Inside) (items : List Entry) (e : Entry) → items ≡ c.entries.items ++ e ∷ [] → All (IsFunc (table c)) c.funcs.items
    → All (IsFunc (record { definitions = definitions_of items; funcs = c.funcs.items; resources = c.resources.items })) c.funcs.items
funcs-push c items e same h =
    let grown : definitions_of items ≡ (table c).definitions ++ definition_of e.item ∷ [] = ap definitions_of same ∙ map-append (λ (x : Entry). definition_of x.item) c.entries.items (e ∷ []) in
    all_funcs_more (table c) (record { definitions = definitions_of items; funcs = c.funcs.items; resources = c.resources.items }) (definition_of e.item ∷ []) c.funcs.items grown h
