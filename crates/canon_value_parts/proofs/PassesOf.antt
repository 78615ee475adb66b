-- What a value passes where its type is wanted, by its view; a row, one member after the other; and that nothing passes where no
-- handle is reached.
use Rattle.std.proofs.Common.{◌≡◌, ◌≤◌, ◌++◌, ◌+◌, ◌∙◌, ◌||◌, ◌==◌, Bool, Err, List, None, Ok, Some, String, Vec, [], ◌∷◌, ap, ap₂, arith, drop, length, map, refl, rules, string_bytes, subst, suc, sym, true, false, if◌then◌else◌, zero, ℕ}
use Rattle.std.specs.Prelude.{nat_eq}
use Rattle.std.specs.Borrow.{Bor}
use Rattle.std.specs.Cmp.Lexicographic.{pointwise}
use Rattle.std.specs.declared.alloc.Global.{Global}
use Rattle.std.proofs.lemmas.Bool.{eq-eqb}
use Rattle.std.proofs.lemmas.Option.{slice_get_within}
use Rattle.std.proofs.lemmas.List.{drop_all, length-map}
use Rattle.std.proofs.lemmas.Bool.Decides.{Decides-eqb}
use Rattle.std.proofs.lemmas.Slice.Eq.{slice_eq-Decides}
use Rattle.canon_context.specs.Quiet.{cases_have_handle, has_handle, have_handle}
use Rattle.canon_resources.specs.Parts.{PassedResource, passed}
use Rattle.canon_lowering.specs.Copies.{case_members, copies, pairs_of}
use Rattle.canon_model.specs.Layout.{member_shape}
use Rattle.canon_model.specs.Shape as shape
use Rattle.canon_model.specs.Shape.{Cases, Name, Scalar, Shape, VariantKind, bare, borrow, fixed, flags, list, member, member_count, no_cases, no_members, of_cases, of_fields, of_items, of_names, of_option, of_pairs, of_places, of_result, own, payload, product, scalar, string, variant}
use Rattle.canon_plan.proofs.ScalarTypes.{scalar_shape}
use Rattle.canon_plan.specs.Element.{IsKnown, first_of, list_shape, row_of, second_of}
use Rattle.canon_plan.specs.Plan.{LiesAs, members_from, typed_handle}
use Rattle.canon_plan.specs.declared.plan.HandleType.{HandleType}
use Rattle.canon_resources.specs.Held.{Any}
use Rattle.canon_types.specs.Depth.{product_members}
use Rattle.canon_types.specs.Table.{TypeTable, shape_of}
use Rattle.canon_types.specs.declared.types.InterfaceType.{InterfaceType}
use Rattle.canon_value_parts.specs.Elements.{by_turns, element_in, list_length, list_value, values_listed}
use Rattle.canon_value_parts.specs.Resources.{all_passes, full_passes, passes, passes_step, place_in, row_passes, turns_of}
use Rattle.canon_val.specs.Value.{IsCase, IsFirst, case_names, values_in}
use Rattle.canon_value_parts.specs.View.{IsMember, viewed_names, viewed_shapes, viewed_values}
use Rattle.canon_value_parts.specs.Viewed.{HasMembers, Views}
use Rattle.canon_value_parts.specs.declared.case_view.Case.{Case}
use Rattle.canon_value_parts.specs.declared.elements.Elements.{Elements}
use Rattle.canon_value_parts.specs.declared.elements.Elements.TheVariants as elements
use Rattle.canon_value_parts.specs.declared.members.Member.{Member}
use Rattle.canon_value_parts.specs.declared.members.Members.{Members}
use Rattle.canon_val.specs.declared.val.Val.{Val, the_lemmas}
use Rattle.canon_val.specs.declared.val.Val.TheFolds.{fold-roll-Val, ind-Val, map-Val}
use Rattle.canon_val.specs.declared.val.Val.TheOpen.{Val-F, Val-F as F}
use Rattle.canon_val.specs.declared.val.Val.TheShapes.{former-Val-Map-0-at-2, former-Val-Record-0-at-2}
use Rattle.canon_val.specs.declared.val.Val.TheVariants as val
use Rattle.canon_value_parts.specs.declared.view.View.TheVariants as view
use Rattle.canon_passing.proofs.Shapes.{no_first, no_later}

-- what a value passes, by the shape that is wanted
abbrev Passing : Type 0
Passing = Shape → List PassedResource

-- ---- where no handle is reached

copies_handles : (n : ℕ) (s : Shape) → has_handle s ≡ false → have_handle (copies n s) ≡ false
copies_handles zero s e = refl
copies_handles (suc n) s e = rw e (copies_handles n s e)

pairs_handles : (n : ℕ) (s u : Shape) → has_handle s ≡ false → has_handle u ≡ false → have_handle (pairs_of n s u) ≡ false
pairs_handles zero s u e f = refl
pairs_handles (suc n) s u e f = rw e (rw f (pairs_handles n s u e f))

member_handle : (ms : shape.Members) (i : ℕ) → have_handle ms ≡ false → has_handle (member_shape ms i) ≡ false
member_handle no_members i e = refl
member_handle (member name s ms) zero e = no_first (has_handle s) (have_handle ms) e
member_handle (member name s ms) (suc i) e = member_handle ms i (no_later (has_handle s) (have_handle ms) e)

product_handles : (s : Shape) → has_handle s ≡ false → have_handle (product_members s) ≡ false
product_handles (product k ms) e = e
product_handles (scalar k) e = refl
product_handles string e = refl
product_handles (own r) e = refl
product_handles (borrow r) e = refl
product_handles (list k s) e = refl
product_handles (fixed n s) e = refl
product_handles (variant k cs) e = refl
product_handles (flags names) e = refl

case_handles : (cs : Cases) (i : ℕ) → cases_have_handle cs ≡ false → have_handle (case_members cs i) ≡ false
case_handles no_cases i e = refl
case_handles (bare name cs) zero e = refl
case_handles (bare name cs) (suc i) e = case_handles cs i e
case_handles (payload name s cs) zero e = rw (no_first (has_handle s) (cases_have_handle cs) e) refl
case_handles (payload name s cs) (suc i) e = case_handles cs i (no_later (has_handle s) (cases_have_handle cs) e)

row_handles : (s : Shape) (n : ℕ) → has_handle s ≡ false → have_handle (row_of (list of_pairs s) n) ≡ false
row_handles s n e = pairs_handles n (first_of s) (second_of s) (member_handle (product_members s) 0 (product_handles s e)) (member_handle (product_members s) 1 (product_handles s e))

full_none : (ms : shape.Members) (fs : List Passing) → row_passes ms fs ≡ [] → full_passes ms fs ≡ []
full_none ms fs e = elim (length fs == member_count ms) as (λ b. (if b then row_passes ms fs else []) ≡ []) [ true ↦ e | false ↦ refl ]

-- one level of a value, of whose parts it is known
module _ {E : Type 0} (f : E → Val) (h : (e : E) (s : Shape) → has_handle s ≡ false → passes (f e) s ≡ []) where
  row_none : (ms : shape.Members) (es : List E) → have_handle ms ≡ false → row_passes ms (map passes (map f es)) ≡ []
  row_none no_members es e = refl
  row_none (member name s ms) [] e = refl
  row_none (member name s ms) (x ∷ es) e = ap₂ (λ (ps qs : List PassedResource). ps ++ qs) (h x s (no_first (has_handle s) (have_handle ms) e)) (row_none ms es (no_later (has_handle s) (have_handle ms) e))

  fields_none : (ms : shape.Members) (es : List (String Global × E)) → have_handle ms ≡ false
      → row_passes ms (map (λ g. g.1) (map (former-Val-Record-0-at-2.map Val Passing passes) (map (former-Val-Record-0-at-2.map E Val f) es))) ≡ []
  fields_none no_members es e = refl
  fields_none (member name s ms) [] e = refl
  fields_none (member name s ms) (x ∷ es) e = ap₂ (λ (ps qs : List PassedResource). ps ++ qs) (h x.1 s (no_first (has_handle s) (have_handle ms) e)) (fields_none ms es (no_later (has_handle s) (have_handle ms) e))

  turns_none : (ms : shape.Members) (es : List (E × E)) → have_handle ms ≡ false
      → row_passes ms (turns_of (map (former-Val-Map-0-at-2.map Val Passing passes) (map (former-Val-Map-0-at-2.map E Val f) es))) ≡ []
  turns_none no_members es e = refl
  turns_none (member name s ms) [] e = refl
  turns_none (member name s no_members) (x ∷ es) e = ap (λ (ps : List PassedResource). ps ++ []) (h x.0 s (no_first (has_handle s) false e))
  turns_none (member name s (member other u ms)) (x ∷ es) e =
      let more = no_later (has_handle s) (has_handle u || have_handle ms) e in
      ap₂ (λ (ps qs : List PassedResource). ps ++ qs) (h x.0 s (no_first (has_handle s) (has_handle u || have_handle ms) e))
      (ap₂ (λ (ps qs : List PassedResource). ps ++ qs) (h x.1 u (no_first (has_handle u) (have_handle ms) more)) (turns_none ms es (no_later (has_handle u) (have_handle ms) more)))

  level : (y : Val-F E) (s : Shape) → has_handle s ≡ false → passes_step (map-Val Val Passing passes (map-Val E Val f y)) s ≡ []
  level (F.Resource x) (own r) e = cc
  level (F.Resource x) (borrow r) e = cc
  level (F.Record fields) (product of_fields ms) e = full_none ms _ (fields_none ms fields.items e)
  level (F.Tuple members) (product of_places ms) e = full_none ms _ (row_none ms members.items e)
  level (F.FixedLengthList members) (fixed n s) e = full_none (copies n s) _ (row_none (copies n s) members.items (copies_handles n s e))
  level (F.List members) (list of_items s) e = row_none (copies _ s) members.items (copies_handles _ s e)
  level (F.Map pairs) (list of_pairs s) e = turns_none (row_of (list of_pairs s) _) pairs.items (row_handles s _ e)
  level (F.Variant name None) s e = refl
  level (F.Variant name (Some b)) (variant of_cases cs) e = row_none (case_members cs (place_in (string_bytes name) (case_names cs))) (b.value ∷ []) (case_handles cs _ e)
  level (F.Option None) s e = refl
  level (F.Option (Some b)) (variant of_option cs) e = row_none (case_members cs 1) (b.value ∷ []) (case_handles cs 1 e)
  level (F.Result (Ok None)) s e = refl
  level (F.Result (Err None)) s e = refl
  level (F.Result (Ok (Some b))) (variant of_result cs) e = row_none (case_members cs 0) (b.value ∷ []) (case_handles cs 0 e)
  level (F.Result (Err (Some b))) (variant of_result cs) e = row_none (case_members cs 1) (b.value ∷ []) (case_handles cs 1 e)
  level y s e = refl

none_passed : (v : Val) (s : Shape) → has_handle s ≡ false → passes v s ≡ []
none_passed = ind-Val (λ v. (s : Shape) → has_handle s ≡ false → passes v s ≡ []) (λ x y is s e.
    ap (λ (g : Passing). g s) (fold-roll-Val Passing passes_step x)
    ∙ subst (λ z. passes_step (map-Val Val Passing passes z) s ≡ []) is (level (λ w. w.0) (λ w. w.1) y s e))

pub no_passes : (s : Shape) (v : Val) → has_handle s ≡ false → passes v s ≡ []
no_passes s v e = none_passed v s e

pub no_row_passes : (ms : shape.Members) (vs : List Val) → have_handle ms ≡ false → all_passes ms vs ≡ []
no_row_passes no_members vs e = refl
no_row_passes (member name s ms) [] e = refl
no_row_passes (member name s ms) (v ∷ vs) e = ap₂ (λ (ps qs : List PassedResource). ps ++ qs) (no_passes s v (no_first (has_handle s) (have_handle ms) e)) (no_row_passes ms vs (no_later (has_handle s) (have_handle ms) e))

pub text_none : (s : String Global) → passes (val.String s) string ≡ []
text_none s = no_passes string (val.String s) refl

-- ---- by the view of the value

pub scalar_passes : (t : TypeTable) (type : InterfaceType) (v : Val) (word : ℕ) → Views t type v (view.Scalar word) → passes v (shape_of t type) ≡ []
scalar_passes t type v word (k, tree, is, has, word_is, least) = no_passes (shape_of t type) v (ap has_handle (scalar_shape t type k is))

pub text_passes : (t : TypeTable) (type : InterfaceType) (v : Val) (s : Bor (String Global)) → Views t type v (view.Text s) → passes v (shape_of t type) ≡ []
text_passes t type v s (is, e) = no_passes (shape_of t type) v (ap has_handle is)

flags_value : (names : Vec (String Global) Global) (s : Shape) → passes (val.Flags names) s ≡ []
flags_value names s = search (rules, the_lemmas)

pub flags_passes : (t : TypeTable) (type : InterfaceType) (v : Val) (names : Bor (Vec (String Global) Global)) → Views t type v (view.Flags names) → passes v (shape_of t type) ≡ []
flags_passes t type v names (is, e) = ap (λ (w : Val). passes w (shape_of t type)) e ∙ flags_value names.now (shape_of t type)

own_passes : (x : Any) (r : ℕ) → passes (val.Resource x) (own r) ≡ passed true r x ∷ []
own_passes x r = search (rules, the_lemmas)

borrow_passes : (x : Any) (r : ℕ) → passes (val.Resource x) (borrow r) ≡ passed false r x ∷ []
borrow_passes x r = search (rules, the_lemmas)

typed_passes : (t : TypeTable) (owned : Bool) (r : ℕ) (x : Any) → passes (val.Resource x) (shape_of t (typed_handle owned r)) ≡ passed owned r x ∷ []
typed_passes t true r x = own_passes x r
typed_passes t false r x = borrow_passes x r

pub handle_passes : (t : TypeTable) (type : InterfaceType) (v : Val) (h : HandleType) (x : Any) → Views t type v (view.Handle h x) → passes v (shape_of t type) ≡ passed h.owned h.resource x ∷ []
handle_passes t type v h x (is, e) = ap₂ (λ (w : Val) (y : InterfaceType). passes w (shape_of t y)) e is ∙ typed_passes t h.owned h.resource x

-- ---- members

full_row : (ms : shape.Members) (fs : List Passing) → length fs ≡ member_count ms → full_passes ms fs ≡ row_passes ms fs
full_row ms fs e = rw (eq-eqb (length fs) (member_count ms) e) refl

field_values : (fields : List (String Global × Val)) → map (λ g. g.1) (map (former-Val-Record-0-at-2.map Val Passing passes) fields) ≡ map passes (values_in fields)
field_values [] = refl
field_values (f ∷ fields) = ap (λ (fs : List Passing). passes f.1 ∷ fs) (field_values fields)

record_passes : (ms : shape.Members) (fields : Vec (String Global × Val) Global) → length (values_in fields.items) ≡ member_count ms → passes (val.Record fields) (product of_fields ms) ≡ all_passes ms (values_in fields.items)
record_passes ms fields e =
    let opened : passes (val.Record fields) (product of_fields ms) ≡ full_passes ms (map (λ g. g.1) (map (former-Val-Record-0-at-2.map Val Passing passes) fields.items)) = search (rules, the_lemmas) in
    opened ∙ (ap (full_passes ms) (field_values fields.items) ∙ full_row ms _ (length-map (values_in fields.items) passes ∙ e))

tuple_passes : (ms : shape.Members) (members : Vec Val Global) → length members.items ≡ member_count ms → passes (val.Tuple members) (product of_places ms) ≡ all_passes ms members.items
tuple_passes ms members e =
    let opened : passes (val.Tuple members) (product of_places ms) ≡ full_passes ms (map passes members.items) = search (rules, the_lemmas) in
    opened ∙ full_row ms _ (length-map members.items passes ∙ e)

fixed_passes : (n : ℕ) (s : Shape) (members : Vec Val Global) → length members.items ≡ member_count (copies n s) → passes (val.FixedLengthList members) (fixed n s) ≡ all_passes (copies n s) members.items
fixed_passes n s members e =
    let opened : passes (val.FixedLengthList members) (fixed n s) ≡ full_passes (copies n s) (map passes members.items) = search (rules, the_lemmas) in
    opened ∙ full_row (copies n s) _ (length-map members.items passes ∙ e)

has_passes : (s : Shape) (ms : shape.Members) (names : List Name) (vs : List Val) (v : Val) → LiesAs s ms → HasMembers s names vs v → length vs ≡ member_count ms → passes v s ≡ all_passes ms vs
has_passes (product of_fields ns) ms names vs v e (fields, is, en, ev) count =
    ap (λ (w : Val). passes w (product of_fields ns)) is
    ∙ (record_passes ns fields (sym (ap length ev) ∙ (count ∙ ap member_count e)) ∙ ap₂ (λ (os : shape.Members) (ws : List Val). all_passes os ws) (sym e) (sym ev))
has_passes (product of_places ns) ms names vs v e (members, is, en, ev) count =
    ap (λ (w : Val). passes w (product of_places ns)) is
    ∙ (tuple_passes ns members (sym (ap length ev) ∙ (count ∙ ap member_count e)) ∙ ap₂ (λ (os : shape.Members) (ws : List Val). all_passes os ws) (sym e) (sym ev))
has_passes (fixed n s) ms names vs v e (en, (members, is, ev)) count =
    ap (λ (w : Val). passes w (fixed n s)) is
    ∙ (fixed_passes n s members (sym (ap length ev) ∙ (count ∙ ap member_count e)) ∙ ap₂ (λ (os : shape.Members) (ws : List Val). all_passes os ws) (sym e) (sym ev))
has_passes (scalar k) ms names vs v e h count = absurd e
has_passes string ms names vs v e h count = absurd e
has_passes (own r) ms names vs v e h count = absurd e
has_passes (borrow r) ms names vs v e h count = absurd e
has_passes (list k s) ms names vs v e h count = absurd e
has_passes (variant k cs) ms names vs v e h count = absurd e
has_passes (flags names) ms them vs v e h count = absurd e

pub members_passes : (t : TypeTable) (type : InterfaceType) (v : Val) (ms : Members) → Views t type v (view.Members ms) → passes v (shape_of t type) ≡ all_passes (viewed_shapes t ms) (viewed_values ms)
members_passes t type v ms (known, lies, has, count) = has_passes (shape_of t type) (viewed_shapes t ms) (viewed_names ms) (viewed_values ms) v lies has count

-- ---- lists and maps

list_items : (s : Shape) (xs : Vec Val Global) → passes (val.List xs) (list of_items s) ≡ all_passes (copies (length xs.items) s) xs.items
list_items s xs =
    let opened : passes (val.List xs) (list of_items s) ≡ row_passes (copies (length (map passes xs.items)) s) (map passes xs.items) = search (rules, the_lemmas) in
    opened ∙ ap (λ n. row_passes (copies n s) (map passes xs.items)) (length-map xs.items passes)

turned : (ps : List (Val × Val)) → turns_of (map (former-Val-Map-0-at-2.map Val Passing passes) ps) ≡ map passes (by_turns ps)
turned [] = refl
turned (p ∷ ps) = ap (λ (fs : List Passing). passes p.0 ∷ passes p.1 ∷ fs) (turned ps)

map_pairs : (s : Shape) (xs : Vec (Val × Val) Global) → passes (val.Map xs) (list of_pairs s) ≡ all_passes (row_of (list of_pairs s) (length xs.items)) (by_turns xs.items)
map_pairs s xs =
    let opened : passes (val.Map xs) (list of_pairs s)
    ≡ row_passes (row_of (list of_pairs s) (length (map (former-Val-Map-0-at-2.map Val Passing passes) xs.items))) (turns_of (map (former-Val-Map-0-at-2.map Val Passing passes) xs.items)) = search (rules, the_lemmas) in
    opened ∙ ap₂ (λ n fs. row_passes (row_of (list of_pairs s) n) fs) (length-map xs.items (former-Val-Map-0-at-2.map Val Passing passes)) (turned xs.items)

pub listed_passes : (t : TypeTable) (xs : Elements) → IsKnown t (element_in xs) → passes (list_value xs) (list_shape t (element_in xs)) ≡ all_passes (row_of (list_shape t (element_in xs)) (list_length xs)) (values_listed xs)
listed_passes t (elements.Items type xs) known = list_items (shape_of t type) xs.now
listed_passes t (elements.Pairs i xs) (known, is) = subst (λ (s : Shape). passes (val.Map xs.now) s ≡ all_passes (row_of s (length xs.now.items)) (by_turns xs.now.items)) (sym is) (map_pairs _ xs.now)

-- of a list or a map, as the members that `members_in` gives
pub list_passes : (t : TypeTable) (type : InterfaceType) (v : Val) (xs : Elements) → Views t type v (view.List xs)
    → passes v (shape_of t type) ≡ all_passes (row_of (list_shape t (element_in xs)) (list_length xs)) (values_listed xs)
list_passes t type v xs (known, is, e) = ap₂ (λ (w : Val) (s : Shape). passes w s) e is ∙ listed_passes t xs known

-- ---- cases

unless : (b : Bool) (k : ℕ) → (b ≡ true → ⊥) → (if b then 0 else k) ≡ k
unless true k h = absurd (h refl)
unless false k h = refl

-- the first of them is the place
pub first_place : (name : Name) (names : List Name) (i : ℕ) → IsFirst name names i → place_in name names ≡ i
first_place name [] i (e, h) = absurd (omega (arith, slice_get_within [] i name e))
first_place name (n ∷ names) zero (e, h) =
    let same : name ≡ n = cc in rw ((slice_eq-Decides Decides-eqb name n _ refl).1 same) refl
first_place name (n ∷ names) (suc i) (e, h) =
    unless (pointwise nat_eq name n) _ (λ same. h 0 (omega arith) (ap Some (sym ((slice_eq-Decides Decides-eqb name n _ refl).0 same))))
    ∙ ap suc (first_place name names i (e, λ j lt f. h (suc j) (omega (arith, lt)) f))

none_left : (ms : shape.Members) → all_passes ms [] ≡ []
none_left no_members = refl
none_left (member name s ms) = refl

bare_passes : (s : Shape) (ms : shape.Members) (vs : List Val) (v w : Val) → v ≡ w → vs ≡ [] → passes w s ≡ [] → passes v s ≡ all_passes ms vs
bare_passes s ms vs v w is ev none = ap (λ (x : Val). passes x s) is ∙ (none ∙ sym (ap (all_passes ms) ev ∙ none_left ms))

payload_passes : (s : Shape) (cs : Cases) (i d : ℕ) (vs : List Val) (v w x : Val) → v ≡ w → vs ≡ x ∷ [] → i ≡ d → passes w s ≡ row_passes (case_members cs i) (passes x ∷ []) → passes v s ≡ all_passes (case_members cs d) vs
payload_passes s cs i d vs v w x is ev place opened =
    ap (λ (y : Val). passes y s) is ∙ (opened ∙ (ap (λ j. row_passes (case_members cs j) (passes x ∷ [])) place ∙ ap (all_passes (case_members cs d)) (sym ev)))

case_of : (k : VariantKind) (cs : Cases) (d : ℕ) (vs : List Val) (v : Val) → IsCase k cs d vs v → passes v (variant k cs) ≡ all_passes (case_members cs d) vs
case_of of_cases cs d vs v (name, None, is, ev, first) = bare_passes (variant of_cases cs) (case_members cs d) vs v (val.Variant name None) is ev (search (rules, the_lemmas))
case_of of_cases cs d vs v (name, Some b, is, ev, first) =
    payload_passes (variant of_cases cs) cs (place_in (string_bytes name) (case_names cs)) d vs v (val.Variant name (Some b)) b.value is ev (first_place (string_bytes name) (case_names cs) d first) (search (rules, the_lemmas))
case_of of_names cs d vs v (name, is, ev, first) = bare_passes (variant of_names cs) (case_members cs d) vs v (val.Enum name) is ev (search (rules, the_lemmas))
case_of of_option cs d vs v (None, is, ev, ed, inside) = bare_passes (variant of_option cs) (case_members cs d) vs v (val.Option None) is ev (search (rules, the_lemmas))
case_of of_option cs d vs v (Some b, is, ev, ed, inside) = payload_passes (variant of_option cs) cs 1 d vs v (val.Option (Some b)) b.value is ev (sym (ed ∙ ap length ev)) (search (rules, the_lemmas))
case_of of_result cs d vs v (Ok None, is, ev, ed, inside) = bare_passes (variant of_result cs) (case_members cs d) vs v (val.Result (Ok None)) is ev (search (rules, the_lemmas))
case_of of_result cs d vs v (Ok (Some b), is, ev, ed, inside) = payload_passes (variant of_result cs) cs 0 d vs v (val.Result (Ok (Some b))) b.value is ev (sym ed) (search (rules, the_lemmas))
case_of of_result cs d vs v (Err None, is, ev, ed, inside) = bare_passes (variant of_result cs) (case_members cs d) vs v (val.Result (Err None)) is ev (search (rules, the_lemmas))
case_of of_result cs d vs v (Err (Some b), is, ev, ed, inside) = payload_passes (variant of_result cs) cs 1 d vs v (val.Result (Err (Some b))) b.value is ev (sym ed) (search (rules, the_lemmas))

pub case_passes : (t : TypeTable) (type : InterfaceType) (v : Val) (c : Case) → Views t type v (view.Case c) → passes v (shape_of t type) ≡ all_passes (viewed_shapes t c.payload) (viewed_values c.payload)
case_passes t type v c seen = ap (passes v) seen.shape ∙ (case_of seen.kind seen.cases c.tag (viewed_values c.payload) v seen.is ∙ ap (λ (ms : shape.Members). all_passes ms (viewed_values c.payload)) (sym seen.shapes))

-- ---- rows

-- member k, and then those from k + 1 on
pub member_passes : (t : TypeTable) (ms : shape.Members) (names : List Name) (vs : List Val) (k : ℕ) (m : Member) → IsMember t ms names vs k m
    → all_passes (members_from k ms) (drop k vs) ≡ passes m.value.now (shape_of t m.ty) ++ all_passes (members_from (k + 1) ms) (drop (k + 1) vs)
member_passes t ms names vs k m is = ap₂ (λ (ns : shape.Members) (ws : List Val). all_passes ns ws) is.shapes is.values

-- none is left
pub no_more_passes : (ms : shape.Members) (vs : List Val) (k : ℕ) → length vs ≤ k → all_passes (members_from k ms) (drop k vs) ≡ []
no_more_passes ms vs k h = ap (all_passes (members_from k ms)) (drop_all k vs h) ∙ none_left (members_from k ms)
