-- Values are read member by member.
use Rattle.std.proofs.Common.{◌≡◌, ◌<◌, ◌≤◌, ◌+◌, ◌++◌, ℕ, zero, suc, List, [], ◌∷◌, length, drop, map, None, Some, Option, Err, slice_get, option_map, option_and_then, Result, Ok, MatchResult, IsOkAnd, Vec, Global, refl, sym, ap, subst, ◌∙◌, arith, append_assoc, append-nil}
use Rattle.std.proofs.Math.ListN.{drop_of_length-le, get_or}
use Rattle.std.proofs.lemmas.List.{at_drop_more, map-append}
use Rattle.serde_json.specs.Data.{Data, null, boolean, number, string, array, object, Items, no_items, item, no_members, member, depth, items_depth}
use Rattle.serde_json.specs.Find.{as_array, as_str}
use Rattle.serde_json.specs.View.{items_view, view}
use Rattle.serde_json.specs.declared.value.Value.{Value}
use Rattle.canon_json.specs.Json.{ReadsAs, each_of, onward, two}
use Rattle.canon_json.specs.declared.error.ScriptError.{ScriptError}
use Rattle.canon_json.specs.declared.error.ScriptError.TheVariants as refused
use Rattle.canon_model.specs.Shape.{Name}
use Rattle.canon_val.specs.declared.val.Val.{Val}
use Rattle.canon_literals.specs.Literals.{Literal, enum, fields, fields_of, fixed, flags, list, literal_view, literals_of, literals_view, pairs, literal_pairs, text, tuple}
use Rattle.canon_script.specs.Typed.{each_literal}
use Rattle.canon_script.specs.Values.{field_of, named_literals, kind_and_form, pairs_in, value_kind_named, only_char, scalar_by, value_by, value_of, values_of}
use Rattle.canon_script.specs.declared.kinds.ValueKind.{ValueKind}
use Rattle.canon_script.specs.declared.kinds.ValueKind.TheVariants as kind

-- ---- characters

pub more_chars : (cs : List ℕ) (c d : ℕ) → Some d ≡ slice_get cs 0 → None ≡ only_char (c ∷ cs)
more_chars [] c d h = absurd (cc)
more_chars (e ∷ cs) c d h = refl

-- ---- depths

within : (vs : List Value) (k : ℕ) (x : Value) → k < length vs → x ≡ get_or vs k x → depth (view x) ≤ items_depth (items_view vs)
within [] k x lt is = absurd (omega arith)
within (v ∷ vs) zero x lt is = omega (arith, ap (λ (y : Value). depth (view y)) is)
within (v ∷ vs) (suc k) x lt is = omega (arith, within vs k x (omega arith) is)

items_are : (a b : Items) → Some a ≡ Some b → a ≡ b
items_are a b h = cc

array_depth : (d : Data) (ds : Items) → Some ds ≡ as_array d → depth d ≡ suc (items_depth ds)
array_depth null ds e = absurd (cc)
array_depth (boolean b) ds e = absurd (cc)
array_depth (number n) ds e = absurd (cc)
array_depth (string s) ds e = absurd (cc)
array_depth (array es) ds e = ap (λ xs. suc (items_depth xs)) (sym (items_are ds es e))
array_depth (object ms) ds e = absurd (cc)

-- an item of an array is less deep
pub in_array : (d : Data) (vs us : List Value) (k : ℕ) (x : Value) → Some (items_view vs) ≡ as_array d → us ≡ vs → k < length us → x ≡ get_or us k x → depth (view x) < depth d
in_array d vs us k x e same lt is =
    omega (arith, within us k x lt is, ap (λ ws. items_depth (items_view ws)) same, array_depth d (items_view vs) e)

pair_is : (p q : Data × Data) → Some p ≡ Some q → p ≡ q
pair_is p q e = cc

-- and so is the second of two
pub in_two : (d a b : Data) → Some (a, b) ≡ two d → depth b < depth d
in_two null a b e = absurd (cc)
in_two (boolean y) a b e = absurd (cc)
in_two (number n) a b e = absurd (cc)
in_two (string s) a b e = absurd (cc)
in_two (array no_items) a b e = absurd (cc)
in_two (array (item f no_items)) a b e = absurd (cc)
in_two (array (item f (item g no_items))) a b e = let same : (a, b) ≡ (f, g) = pair_is (a, b) (f, g) e in omega (arith, ap (λ (p : Data × Data). depth p.1) same)
in_two (array (item f (item g (item h ds)))) a b e = absurd (cc)
in_two (object ms) a b e = absurd (cc)

form_are : (p q : ValueKind × Data) → Some p ≡ Some q → p ≡ q
form_are p q e = cc

abbrev kind_with : Data → ValueKind → ValueKind × Data
kind_with d k = (k, d)

form_is : (o : Option ValueKind) (d f : Data) (k : ValueKind) → Some (k, f) ≡ option_map (λ j. kind_with d j) o → f ≡ d
form_is None d f k e = absurd (cc)
form_is (Some j) d f k e = ap (λ (p : ValueKind × Data). p.1) (form_are (k, f) (j, d) e)

-- what the value of the only member is read from is less deep
pub in_form : (d f : Data) (k : ValueKind) → Some (k, f) ≡ kind_and_form d → depth f < depth d
in_form null f k e = absurd (cc)
in_form (boolean b) f k e = absurd (cc)
in_form (number n) f k e = absurd (cc)
in_form (string s) f k e = absurd (cc)
in_form (array ds) f k e = absurd (cc)
in_form (object no_members) f k e = absurd (cc)
in_form (object (member name d no_members)) f k e = omega (arith, ap depth (form_is (value_kind_named name) d f k e))
in_form (object (member name d (member l x ms))) f k e = absurd (cc)

-- ---- rows that are read item by item

-- a row has what its first item has, before what the rest has
abbrev Rows : {A V : Type 0} → (List V → Option (List A)) → (V → Option A) → Type 0
Rows {A} {V} F f = (v : V) (vs : List V) → F (v ∷ vs) ≡ option_and_then (λ x. option_map (λ xs. x ∷ xs) (F vs)) (f v)

row_end : {A V : Type 0} (F : List V → Option (List A)) (us : List V) (k : ℕ) (done : List A) → F [] ≡ Some [] → length us ≤ k → option_map (λ xs. done ++ xs) (F (drop k us)) ≡ F us → F us ≡ Some done
row_end F us k done nil past inv =
    sym inv ∙ (ap (option_map (λ xs. done ++ xs)) (ap F (drop_of_length-le us past) ∙ nil) ∙ ap (λ xs. Some xs) (append-nil done))

-- the next item has nothing, so the row has nothing
row_none : {A V : Type 0} (F : List V → Option (List A)) (f : V → Option A) (us : List V) (k : ℕ) (x : V) (done : List A) → Rows F f → k < length us → x ≡ get_or us k x → f x ≡ None
    → option_map (λ xs. done ++ xs) (F (drop k us)) ≡ F us → F us ≡ None
row_none F f us k x done rows lt at none inv =
    let rest = F (drop (k + 1) us) in
    let first : F (drop k us) ≡ None =
    at_drop_more F us k x lt ∙ (rows _ _ ∙ ap (option_and_then (λ y. option_map (λ ys. y ∷ ys) rest)) (ap f (sym at) ∙ none)) in
    sym inv ∙ ap (option_map (λ xs. done ++ xs)) first

one_more : {A : Type 0} (done new : List A) (x : A) (o : Option (List A)) → new ≡ done ++ x ∷ [] → option_map (λ xs. new ++ xs) o ≡ option_map (λ xs. done ++ xs) (option_map (λ xs. x ∷ xs) o)
one_more done new x None e = refl
one_more done new x (Some xs) e = ap (λ ys. Some ys) (ap (λ ys. ys ++ xs) e ∙ append_assoc done (x ∷ []) xs)

row_step : {A V : Type 0} (F : List V → Option (List A)) (f : V → Option A) (us : List V) (k : ℕ) (x : V) (done new : List A) (a : A) → Rows F f → k < length us → x ≡ get_or us k x → f x ≡ Some a → new ≡ done ++ a ∷ []
    → option_map (λ xs. done ++ xs) (F (drop k us)) ≡ F us → option_map (λ xs. new ++ xs) (F (drop (k + 1) us)) ≡ F us
row_step F f us k x done new a rows lt at is grown inv =
    let rest = F (drop (k + 1) us) in
    let first : F (drop k us) ≡ option_map (λ xs. a ∷ xs) rest =
    at_drop_more F us k x lt ∙ (rows _ _ ∙ ap (option_and_then (λ y. option_map (λ ys. y ∷ ys) rest)) (ap f (sym at) ∙ is)) in
    one_more done new a rest grown ∙ (ap (option_map (λ xs. done ++ xs)) (sym first) ∙ inv)

pub map_grown : {A B : Type 0} (f : A → B) (xs ys : List A) (x : A) → ys ≡ xs ++ x ∷ [] → map f ys ≡ map f xs ++ f x ∷ []
map_grown f xs ys x e = ap (map f) e ∙ map-append f xs (x ∷ [])

-- ---- literals

pub literals_end : {A : Type 0} (read : Literal → Option A) (us : List Val) (k : ℕ) (done : List A) → length us ≤ k
    → option_map (λ xs. done ++ xs) (each_literal read (literals_of (literals_view (drop k us)))) ≡ each_literal read (literals_of (literals_view us)) → each_literal read (literals_of (literals_view us)) ≡ Some done
literals_end read us k done past inv = row_end (λ ws. each_literal read (literals_of (literals_view ws))) us k done refl past inv

pub literals_none : {A : Type 0} (read : Literal → Option A) (us : List Val) (k : ℕ) (x : Val) (done : List A) → k < length us → x ≡ get_or us k x → read (literal_view x) ≡ None
    → option_map (λ xs. done ++ xs) (each_literal read (literals_of (literals_view (drop k us)))) ≡ each_literal read (literals_of (literals_view us)) → each_literal read (literals_of (literals_view us)) ≡ None
literals_none read us k x done lt at none inv =
    row_none (λ ws. each_literal read (literals_of (literals_view ws))) (λ w. read (literal_view w)) us k x done (λ w ws. refl) lt at none inv

pub literals_step : {A : Type 0} (read : Literal → Option A) (us : List Val) (k : ℕ) (x : Val) (done new : List A) (a : A) → k < length us → x ≡ get_or us k x → read (literal_view x) ≡ Some a → new ≡ done ++ a ∷ []
    → option_map (λ xs. done ++ xs) (each_literal read (literals_of (literals_view (drop k us)))) ≡ each_literal read (literals_of (literals_view us))
    → option_map (λ xs. new ++ xs) (each_literal read (literals_of (literals_view (drop (k + 1) us)))) ≡ each_literal read (literals_of (literals_view us))
literals_step read us k x done new a lt at is grown inv =
    row_step (λ ws. each_literal read (literals_of (literals_view ws))) (λ w. read (literal_view w)) us k x done new a (λ w ws. refl) lt at is grown inv

-- ---- items that each take what is there further

pub onward_step : {A : Type 0} (step : A → Data → Option A) (a b : A) (all : Option A) (us : List Value) (k : ℕ) (x : Value) → k < length us → x ≡ get_or us k x → step a (view x) ≡ Some b
    → onward step a (items_view (drop k us)) ≡ all → onward step b (items_view (drop (k + 1) us)) ≡ all
onward_step step a b all us k x lt at is inv =
    let rest = items_view (drop (k + 1) us) in
    let first : onward step a (items_view (drop k us)) ≡ onward step b rest =
    at_drop_more (λ ws. onward step a (items_view ws)) us k x lt ∙ ap (option_and_then (λ y. onward step y rest)) (ap (λ (w : Value). step a (view w)) (sym at) ∙ is) in
    sym first ∙ inv

-- ---- arrays of values

-- a list that is read item by item
abbrev Lists : {A : Type 0} → (Items → Option (List A)) → (Data → Option A) → Type 0
Lists F f = (d : Data) (ds : Items) → F (item d ds) ≡ option_and_then (λ x. option_map (λ xs. x ∷ xs) (F ds)) (f d)

array_by : {A : Type 0} (F : Items → Option (List A)) (d : Data) (ds : Items) (o : Option (List A)) → Some ds ≡ as_array d → F ds ≡ o → option_and_then F (as_array d) ≡ o
array_by F d ds o e is = ap (option_and_then F) (sym e) ∙ is

pub array_end : {A : Type 0} (F : Items → Option (List A)) (d : Data) (vs us : List Value) (k : ℕ) (done : List A) → F no_items ≡ Some [] → Some (items_view vs) ≡ as_array d → us ≡ vs → length us ≤ k
    → option_map (λ xs. done ++ xs) (F (items_view (drop k us))) ≡ F (items_view us) → option_and_then F (as_array d) ≡ Some done
array_end F d vs us k done nil e same past inv =
    array_by F d (items_view vs) (Some done) e (ap (λ ws. F (items_view ws)) (sym same) ∙ row_end (λ ws. F (items_view ws)) us k done nil past inv)

-- the next item has no value, so the array has none
no_list : {A : Type 0} (F : Items → Option (List A)) (f : Data → Option A) (us : List Value) (k : ℕ) (x : Value) (done : List A) → Lists F f → k < length us → x ≡ get_or us k x → f (view x) ≡ None
    → option_map (λ xs. done ++ xs) (F (items_view (drop k us))) ≡ F (items_view us) → F (items_view us) ≡ None
no_list F f us k x done lists lt at none inv = row_none (λ ws. F (items_view ws)) (λ w. f (view w)) us k x done (λ w ws. lists (view w) (items_view ws)) lt at none inv

pub array_refused : {A X : Type 0} (F : Items → Option (List A)) (f : Data → Option A) (seen : X → A) (e : ScriptError) (d : Data) (vs us : List Value) (k : ℕ) (x : Value) (done : List A) → Lists F f
    → Some (items_view vs) ≡ as_array d → us ≡ vs → k < length us → x ≡ get_or us k x → option_map (λ xs. done ++ xs) (F (items_view (drop k us))) ≡ F (items_view us)
    → ReadsAs {X = X} seen (Err e) (f (view x)) → ReadsAs {X = Vec X Global} (λ xs. map seen xs.items) (Err e) (option_and_then F (as_array d))
array_refused F f seen refused.BadScript d vs us k x done lists is same lt at inv h =
    array_by F d (items_view vs) None is (ap (λ ws. F (items_view ws)) (sym same) ∙ no_list F f us k x done lists lt at h inv)
array_refused F f seen refused.OutOfMemory d vs us k x done lists is same lt at inv h = tt

pub array_step : {A : Type 0} (F : Items → Option (List A)) (f : Data → Option A) (us : List Value) (k : ℕ) (x : Value) (done new : List A) (a : A) → Lists F f → k < length us → x ≡ get_or us k x → f (view x) ≡ Some a → new ≡ done ++ a ∷ []
    → option_map (λ xs. done ++ xs) (F (items_view (drop k us))) ≡ F (items_view us) → option_map (λ xs. new ++ xs) (F (items_view (drop (k + 1) us))) ≡ F (items_view us)
array_step F f us k x done new a lists lt at is grown inv =
    row_step (λ ws. F (items_view ws)) (λ w. f (view w)) us k x done new a (λ w ws. lists (view w) (items_view ws)) lt at is grown inv

-- ---- values made of what was read

same_refusal : {A X : Type 0} (seen : X → A) (wrap : A → Literal) (o : Option A) (p : Option Literal) (e : ScriptError) → p ≡ option_map wrap o
    → ReadsAs {X = X} seen (Err e) o → ReadsAs {X = Val} literal_view (Err e) p
same_refusal seen wrap o p refused.BadScript is given = is ∙ ap (option_map wrap) given
same_refusal seen wrap o p refused.OutOfMemory is given = tt

-- a value is made of what was read, where that was there
pub made_of : {A X : Type 0} (make : X → Val) (seen : X → A) (wrap : A → Literal) (o : Option A) (p : Option Literal) (r : Result X ScriptError) (v : Result Val ScriptError)
    → p ≡ option_map wrap o → ((x : X) → literal_view (make x) ≡ wrap (seen x))
    → ReadsAs seen r o → MatchResult r (λ x. IsOkAnd v (λ y. y ≡ make x)) (λ e. v ≡ Err e) → ReadsAs literal_view v p
made_of make seen wrap o p (Ok x) (Ok y) is shown given made =
    is ∙ (ap (option_map wrap) given ∙ ap (λ z. Some z) (sym (ap literal_view made ∙ shown x)))
made_of make seen wrap o p (Ok x) (Err e) is shown given made = absurd made
made_of make seen wrap o p (Err e) v is shown given made = subst (λ (w : Result Val ScriptError). ReadsAs literal_view w p) (sym made) (same_refusal seen wrap o p e is given)

pub text_by : (d : Data) → value_by d kind.String ≡ option_map text (as_str d)
text_by (string s) = refl
text_by d = refl

pub enum_by : (d : Data) → value_by d kind.Enum ≡ option_map enum (as_str d)
enum_by (string s) = refl
enum_by d = refl

pub flags_by : (d : Data) → value_by d kind.Flags ≡ option_map flags (each_of as_str d)
flags_by (array ds) = refl
flags_by d = refl

pub map_by : (d : Data) → value_by d kind.Map ≡ option_map (λ ps. pairs (literal_pairs ps)) (option_and_then pairs_in (as_array d))
map_by (array ds) = refl
map_by d = refl

pub list_by : (d : Data) → value_by d kind.List ≡ option_map (λ xs. list (literals_of xs)) (option_and_then values_of (as_array d))
list_by (array ds) = refl
list_by d = refl

pub tuple_by : (d : Data) → value_by d kind.Tuple ≡ option_map (λ xs. tuple (literals_of xs)) (option_and_then values_of (as_array d))
tuple_by (array ds) = refl
tuple_by d = refl

pub fixed_by : (d : Data) → value_by d kind.FixedLengthList ≡ option_map (λ xs. fixed (literals_of xs)) (option_and_then values_of (as_array d))
fixed_by (array ds) = refl
fixed_by d = refl

-- ---- records

pub field_is : (d n f : Data) (name : Name) (v : Literal) → Some (n, f) ≡ two d → Some name ≡ as_str n → value_of f ≡ Some v → field_of d ≡ Some (name, v)
field_is null n f name v e s is = absurd (cc)
field_is (boolean y) n f name v e s is = absurd (cc)
field_is (number m) n f name v e s is = absurd (cc)
field_is (string t) n f name v e s is = absurd (cc)
field_is (array no_items) n f name v e s is = absurd (cc)
field_is (array (item a no_items)) n f name v e s is = absurd (cc)
field_is (array (item a (item b no_items))) n f name v e s is =
    let p : (n, f) ≡ (a, b) = pair_is (n, f) (a, b) e in
    let sa : as_str a ≡ Some name = sym (ap (λ (q : Data × Data). as_str q.0) p) ∙ sym s in
    let vb : value_of b ≡ Some v = sym (ap (λ (q : Data × Data). value_of q.1) p) ∙ is in
    rw (sa, vb) refl
field_is (array (item a (item b (item c ds)))) n f name v e s is = absurd (cc)
field_is (object ms) n f name v e s is = absurd (cc)

pub field_step : (done new : List (Name × Literal)) (us : List Value) (k : ℕ) (x : Value) (n f : Data) (name : Name) (v : Literal) → k < length us → x ≡ get_or us k x
    → Some (n, f) ≡ two (view x) → Some name ≡ as_str n → value_of f ≡ Some v → new ≡ done ++ (name, v) ∷ []
    → option_map (λ fs. done ++ fs) (named_literals (items_view (drop k us))) ≡ named_literals (items_view us)
    → option_map (λ fs. new ++ fs) (named_literals (items_view (drop (k + 1) us))) ≡ named_literals (items_view us)
field_step done new us k x n f name v lt at pair named is grown inv =
    array_step named_literals field_of us k x done new (name, v) (λ d ds. refl) lt at (field_is (view x) n f name v pair named is) grown inv

-- the value of a field is none, so the field isn't one
no_field : (d n f : Data) (name : Name) → Some (n, f) ≡ two d → Some name ≡ as_str n → value_of f ≡ None → field_of d ≡ None
no_field null n f name e s is = refl
no_field (boolean y) n f name e s is = refl
no_field (number m) n f name e s is = refl
no_field (string t) n f name e s is = refl
no_field (array no_items) n f name e s is = refl
no_field (array (item a no_items)) n f name e s is = absurd (cc)
no_field (array (item a (item b no_items))) n f name e s is =
    let p : (n, f) ≡ (a, b) = pair_is (n, f) (a, b) e in
    let sa : as_str a ≡ Some name = sym (ap (λ (q : Data × Data). as_str q.0) p) ∙ sym s in
    let vb : value_of b ≡ None = sym (ap (λ (q : Data × Data). value_of q.1) p) ∙ is in
    rw (sa, vb) refl
no_field (array (item a (item b (item c ds)))) n f name e s is = absurd (cc)
no_field (object ms) n f name e s is = refl

record_by : (d : Data) (ds : Items) (o : Option (List (Name × Literal))) → Some ds ≡ as_array d → named_literals ds ≡ o → value_by d kind.Record ≡ option_map (λ fs. fields (fields_of fs)) o
record_by null ds o e is = absurd (cc)
record_by (boolean b) ds o e is = absurd (cc)
record_by (number n) ds o e is = absurd (cc)
record_by (string s) ds o e is = absurd (cc)
record_by (array es) ds o e is = ap (option_map (λ fs. fields (fields_of fs))) (ap named_literals (sym (items_are ds es e)) ∙ is)
record_by (object ms) ds o e is = absurd (cc)

pub record_refused : (e : ScriptError) (d : Data) (vs us : List Value) (k : ℕ) (x : Value) (n f : Data) (name : Name) (done : List (Name × Literal)) → Some (items_view vs) ≡ as_array d → us ≡ vs → k < length us → x ≡ get_or us k x
    → Some (n, f) ≡ two (view x) → Some name ≡ as_str n → option_map (λ fs. done ++ fs) (named_literals (items_view (drop k us))) ≡ named_literals (items_view us)
    → ReadsAs {X = Val} literal_view (Err e) (value_of f) → ReadsAs {X = Val} literal_view (Err e) (value_by d kind.Record)
record_refused refused.BadScript d vs us k x n f name done is same lt at pair named inv h =
    record_by d (items_view vs) None is (ap (λ ws. named_literals (items_view ws)) (sym same) ∙ no_list named_literals field_of us k x done (λ d ds. refl) lt at (no_field (view x) n f name pair named h) inv)
record_refused refused.OutOfMemory d vs us k x n f name done is same lt at pair named inv h = tt

pub record_end : (d : Data) (vs us : List Value) (k : ℕ) (done : List (Name × Literal)) → Some (items_view vs) ≡ as_array d → us ≡ vs → length us ≤ k
    → option_map (λ fs. done ++ fs) (named_literals (items_view (drop k us))) ≡ named_literals (items_view us) → value_by d kind.Record ≡ Some (fields (fields_of done))
record_end d vs us k done e same past inv =
    record_by d (items_view vs) (Some done) e (ap (λ ws. named_literals (items_view ws)) (sym same) ∙ row_end (λ ws. named_literals (items_view ws)) us k done refl past inv)

-- ---- scalars

-- neither a text nor made of other values or names
pub record IsOther (k : ValueKind) : Type 0 where
  pub no_text : ¬ (k ≡ kind.String)
  pub no_list : ¬ (k ≡ kind.List)
  pub no_map : ¬ (k ≡ kind.Map)
  pub no_record : ¬ (k ≡ kind.Record)
  pub no_tuple : ¬ (k ≡ kind.Tuple)
  pub no_variant : ¬ (k ≡ kind.Variant)
  pub no_enum : ¬ (k ≡ kind.Enum)
  pub no_option : ¬ (k ≡ kind.Option)
  pub no_result : ¬ (k ≡ kind.Result)
  pub no_flags : ¬ (k ≡ kind.Flags)
  pub no_fixed : ¬ (k ≡ kind.FixedLengthList)

by_scalar : (d : Data) (k : ValueKind) → IsOther k → value_by d k ≡ scalar_by k d
by_scalar (string s) kind.String other = absurd (other.no_text refl)
by_scalar (array ds) kind.List other = absurd (other.no_list refl)
by_scalar (array ds) kind.Map other = absurd (other.no_map refl)
by_scalar (array ds) kind.Record other = absurd (other.no_record refl)
by_scalar (array ds) kind.Tuple other = absurd (other.no_tuple refl)
by_scalar (array ds) kind.Variant other = absurd (other.no_variant refl)
by_scalar (string s) kind.Enum other = absurd (other.no_enum refl)
by_scalar null kind.Option other = absurd (other.no_option refl)
by_scalar (object ms) kind.Option other = absurd (other.no_option refl)
by_scalar (array ds) kind.Result other = absurd (other.no_result refl)
by_scalar (array ds) kind.Flags other = absurd (other.no_flags refl)
by_scalar (array ds) kind.FixedLengthList other = absurd (other.no_fixed refl)
by_scalar d k other = refl

formed : (o : Option ValueKind) (d f : Data) (k : ValueKind) → Some (k, f) ≡ option_map (λ j. kind_with d j) o → option_and_then (value_by d) o ≡ value_by f k
formed None d f k e = absurd (cc)
formed (Some j) d f k e = ap (λ (p : ValueKind × Data). value_by p.1 p.0) (sym (form_are (k, f) (j, d) e))

pub value_is : (d f : Data) (k : ValueKind) → Some (k, f) ≡ kind_and_form d → value_of d ≡ value_by f k
value_is null f k e = absurd (cc)
value_is (boolean b) f k e = absurd (cc)
value_is (number n) f k e = absurd (cc)
value_is (string s) f k e = absurd (cc)
value_is (array ds) f k e = absurd (cc)
value_is (object no_members) f k e = absurd (cc)
value_is (object (member name d no_members)) f k e = formed (value_kind_named name) d f k e
value_is (object (member name d (member l x ms))) f k e = absurd (cc)

unformed : (o : Option ValueKind) (d : Data) → None ≡ option_map (λ j. kind_with d j) o → option_and_then (value_by d) o ≡ None
unformed None d e = refl
unformed (Some j) d e = absurd (cc)

-- there is no only member, or no kind has its name
pub no_value : (d : Data) → None ≡ kind_and_form d → value_of d ≡ None
no_value null e = refl
no_value (boolean b) e = refl
no_value (number n) e = refl
no_value (string s) e = refl
no_value (array ds) e = refl
no_value (object no_members) e = refl
no_value (object (member name d no_members)) e = unformed (value_kind_named name) d e
no_value (object (member name d (member l x ms))) e = refl

pub scalar_is : (d : Data) (k : ValueKind) → IsOther k → scalar_by k d ≡ value_by d k
scalar_is d k other = sym (by_scalar d k other)
