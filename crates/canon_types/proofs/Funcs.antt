-- What adding a function, and a resource table, leaves of the rest.
use Rattle.std.proofs.Common.{◌≡◌, ℕ, ◌+◌, ◌≤◌, Some, false, true, List, [], ◌∷◌, ◌++◌, length, All, nat_lt, refl, sym, ap, ◌∙◌, subst, arith}
use Rattle.std.proofs.lemmas.List.{append-nil, append_assoc, length-append, map-append}
use Rattle.std.proofs.lemmas.List.Elements.{All-push}
use Rattle.std.proofs.lemmas.Bool.Decides.{nat_tests}
use Rattle.canon_types.specs.declared.types.InterfaceType.{InterfaceType}
use Rattle.canon_types.specs.declared.types.InterfaceType.TheVariants as ty
use Rattle.canon_types.specs.declared.types.TypeFunc.{TypeFunc}
use Rattle.canon_types.specs.declared.types.TypeResourceTable.{TypeResourceTable}
use Rattle.canon_types.specs.declared.table.Entry.{Entry}
use Rattle.canon_types.specs.declared.table.ComponentTypes.TheInside.{Inside}
use Rattle.canon_types.specs.Keeps.{EntriesFit, IsEntry, IsFunc, definition_of, table}
use Rattle.canon_types.specs.Depth.{has_borrow}
use Rattle.canon_types.specs.Refusal.{with_definition, with_func_of}
use Rattle.canon_types.specs.Table.{Definition, IsOver, Knows, TypeTable, all_shapes, defined_shape, is_tuple, parts, shape_of}
use Rattle.canon_types.proofs.Adding.{has_new, new_shape}
use Rattle.canon_types.proofs.Growth.{all_funcs_more, defined_shape-with, definitions_of, has_more, shape_more}

func_at : (f : TypeFunc) (n : ℕ) → f.params ≡ n → f.results ≡ n + 1 → f ≡ record { params = n; results = n + 1; async_ = f.async_ }
func_at f n at after =
    ap (λ (x : ℕ). let r : TypeFunc = record { params = x; results = f.results; async_ = f.async_ } in r) at
    ∙ ap (λ (x : ℕ). let r : TypeFunc = record { params = n; results = x; async_ = f.async_ } in r) after

func_table : (c : Inside) (items : List Entry) (p r : Entry) (funcs : List TypeFunc) (f : TypeFunc) → items ≡ c.entries.items ++ p ∷ [] ++ r ∷ [] →
    funcs ≡ c.funcs.items ++ f ∷ [] → f.params ≡ length (table c).definitions → f.results ≡ length (table c).definitions + 1 →
    record { definitions = definitions_of items; funcs = funcs; resources = c.resources.items } ≡ with_func_of (table c) (definition_of p.item)
    (definition_of r.item) f.async_
func_table c items p r funcs f same added at after =
    let ds : definitions_of items ≡ (table c).definitions ++ definition_of p.item ∷ [] ++ definition_of r.item ∷ [] = ap definitions_of same ∙ simp map-append in
    let fs = added ∙ ap (λ (x : TypeFunc). c.funcs.items ++ x ∷ []) (func_at f (length (table c).definitions) at after) in
    ap (λ (xs : List Definition). let t : TypeTable = record { definitions = xs; funcs = funcs; resources = c.resources.items } in t) ds
    ∙ ap (λ (xs : List TypeFunc). let t : TypeTable = record { definitions = (table c).definitions ++ definition_of p.item ∷ [] ++ definition_of r.item ∷ []; funcs = xs; resources = c.resources.items } in t) fs

pub func_table_along : (c : Inside) (t : TypeTable) (items : List Entry) (p r : Entry) (funcs : List TypeFunc) (f : TypeFunc) → table c ≡ t →
    items ≡ c.entries.items ++ p ∷ [] ++ r ∷ [] → funcs ≡ c.funcs.items ++ f ∷ [] → f.params ≡ length t.definitions →
    f.results ≡ length t.definitions + 1 → record { definitions = definitions_of items; funcs = funcs; resources = c.resources.items } ≡ with_func_of
    t (definition_of p.item) (definition_of r.item) f.async_
func_table_along c t items p r funcs f view same added =
    let P : TypeTable → Type 0 = λ x. f.params ≡ length x.definitions → f.results ≡ length x.definitions + 1
    → record { definitions = definitions_of items; funcs = funcs; resources = c.resources.items } ≡ with_func_of x (definition_of p.item) (definition_of r.item) f.async_ in
    subst P view (func_table c items p r funcs f same added)

-- ---- the functions

over_new : (t new : TypeTable) (p r : Definition) (f : TypeFunc) → new.definitions ≡ t.definitions ++ p ∷ [] ++ r ∷ [] → f.params ≡ length t.definitions → f.results ≡ length t.definitions + 1
    → is_tuple p ≡ true → is_tuple r ≡ true → IsOver new f
over_new t new p r f grown at after hp hr =
    let one = with_definition t p in
    let two = with_definition one r in
    let second : f.results ≡ length one.definitions = omega (arith, after, length-append t.definitions (p ∷ [])) in
    record {
      params = has_more is_tuple one new (r ∷ []) f.params grown (has_new is_tuple t p f.params at hp);
      results = has_more is_tuple two new [] f.results (grown ∙ sym (append-nil (t.definitions ++ p ∷ [] ++ r ∷ []))) (has_new is_tuple one r f.results second hr);
    }

-- no borrowed handle occurs in the second tuple, so none in the function's results
plain_new : (t new : TypeTable) (p r : Definition) (f : TypeFunc) → new.definitions ≡ t.definitions ++ p ∷ [] ++ r ∷ [] → f.results ≡ length t.definitions + 1 → is_tuple r ≡ true
    → All (Knows t) (parts r) → has_borrow (defined_shape (all_shapes t) r) ≡ false
    → has_borrow (shape_of new (ty.Tuple f.results)) ≡ false
plain_new t new p r f grown after hr known plain =
    let one = with_definition t p in
    let second : f.results ≡ length one.definitions = omega (arith, after, length-append t.definitions (p ∷ [])) in
    let type = ty.Tuple f.results in
    let same : shape_of new type ≡ shape_of (with_definition one r) type =
    shape_more (with_definition one r) new [] type (grown ∙ sym (append-nil (t.definitions ++ p ∷ [] ++ r ∷ []))) (has_new is_tuple one r f.results second hr) in
    ap has_borrow (same ∙ new_shape one r type (ap Some second) ∙ defined_shape-with t p r known) ∙ plain

pub funcs-func : (c : Inside) (t : TypeTable) (items : List Entry) (p r : Entry) (funcs : List TypeFunc) (f : TypeFunc) → table c ≡ t → items ≡ c.entries.items ++ p ∷ [] ++ r ∷ []
    → funcs ≡ c.funcs.items ++ f ∷ [] → f.params ≡ length t.definitions → f.results ≡ length t.definitions + 1
    → is_tuple (definition_of p.item) ≡ true → is_tuple (definition_of r.item) ≡ true → IsEntry t (defined_shape (all_shapes t) (definition_of r.item)) r → r.has_borrow ≡ false
    → All (IsFunc (table c)) c.funcs.items → All (IsFunc (record { definitions = definitions_of items; funcs = funcs; resources = c.resources.items })) funcs
funcs-func c t items p r funcs f view same added at after hp hr entry plain h =
    let new : TypeTable = record { definitions = definitions_of items; funcs = funcs; resources = c.resources.items } in
    let grown : new.definitions ≡ (table c).definitions ++ definition_of p.item ∷ [] ++ definition_of r.item ∷ [] = ap definitions_of same ∙ simp map-append in
    let grown2 : new.definitions ≡ (table c).definitions ++ (definition_of p.item ∷ definition_of r.item ∷ []) = grown ∙ append_assoc (table c).definitions (definition_of p.item ∷ []) (definition_of r.item ∷ []) in
    let n : length t.definitions ≡ length (table c).definitions = ap (λ (x : TypeTable). length x.definitions) (sym view) in
    let IsEntryIn : TypeTable → Type 0 = λ x. IsEntry x (defined_shape (all_shapes x) (definition_of r.item)) r in
    let here : IsEntryIn (table c) = subst IsEntryIn (sym view) entry in
    let last : IsFunc new f = record {
      over = over_new (table c) new (definition_of p.item) (definition_of r.item) f grown (at ∙ n) (after ∙ ap (λ (k : ℕ). k + 1) n) hp hr;
      results = plain_new (table c) new (definition_of p.item) (definition_of r.item) f grown (after ∙ ap (λ (k : ℕ). k + 1) n) hr here.known (sym here.borrows ∙ plain);
    } in
    subst (λ (fs : List TypeFunc). All (IsFunc new) fs) (sym added) (All-push (IsFunc new) c.funcs.items f (all_funcs_more (table c) new (definition_of p.item ∷ definition_of r.item ∷ []) c.funcs.items grown2 h) last)

-- the functions don't depend on what functions and resources there are
pub funcs-same : (c : Inside) (items : List Entry) (gs : List TypeFunc) (rs : List TypeResourceTable) → items ≡ c.entries.items → All (IsFunc (table c)) c.funcs.items
    → All (IsFunc (record { definitions = definitions_of items; funcs = gs; resources = rs })) c.funcs.items
funcs-same c items gs rs same h =
    all_funcs_more (table c) (record { definitions = definitions_of items; funcs = gs; resources = rs }) [] c.funcs.items (ap definitions_of same ∙ sym (append-nil (definitions_of c.entries.items))) h

-- ---- resource tables

resource_more : (r m n : ℕ) → m ≤ n → nat_lt r m ≡ true → nat_lt r n ≡ true
resource_more r m n h e = grind (arith, nat_tests)

knows-resources : (t : TypeTable) (rs : List TypeResourceTable) (type : InterfaceType) → length t.resources ≤ length rs → Knows t type → Knows (record t { resources = rs }) type
knows-resources t rs (ty.Own r) more h = resource_more r (length t.resources) (length rs) more h
knows-resources t rs (ty.Borrow r) more h = resource_more r (length t.resources) (length rs) more h
knows-resources t rs (ty.List i) more h = h
knows-resources t rs (ty.Map i) more h = h
knows-resources t rs (ty.Record i) more h = h
knows-resources t rs (ty.Tuple i) more h = h
knows-resources t rs (ty.Variant i) more h = h
knows-resources t rs (ty.Enum i) more h = h
knows-resources t rs (ty.Option i) more h = h
knows-resources t rs (ty.Result i) more h = h
knows-resources t rs (ty.Flags i) more h = h
knows-resources t rs (ty.FixedLengthList i) more h = h
knows-resources t rs _ more h = refl

pub entries_fit-resources : (c : Inside) (rs : List TypeResourceTable) → length c.resources.items ≤ length rs → EntriesFit (table c) c.entries.items
    → EntriesFit (record { definitions = definitions_of c.entries.items; funcs = c.funcs.items; resources = rs }) c.entries.items
unfolding all_shapes
entries_fit-resources c rs more fit = λ i e lt. record {
  known = λ k x below. knows-resources (table c) rs _ more ((fit i e lt).known k x below);
  shape = (fit i e lt).shape;
  depth = (fit i e lt).depth;
  borrows = (fit i e lt).borrows;
  names = (fit i e lt).names;
  layout = (fit i e lt).layout;
}
