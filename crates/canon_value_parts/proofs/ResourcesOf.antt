-- The resources of values that are put together.
use Rattle.std.proofs.Common.{Err, List, None, Ok, Option, Result, Some, String, Vec, [], ap, append-nil, refl, rules, sym, ◌++◌, ◌∙◌, ◌∷◌, ◌≡◌, ℕ, append_assoc, map, Box}
use Rattle.std.specs.declared.alloc.Global.{Global}
use Rattle.canon_model.specs.Shape as shape
use Rattle.canon_model.specs.Shape.{Cases, Name, ProductKind, Scalar, VariantKind, of_cases, of_fields, of_names, of_option, of_places, of_result}
use Rattle.canon_model.specs.Tree.{Tree}
use Rattle.canon_resources.specs.Held.{Any}
use Rattle.canon_value_parts.specs.Elements.{by_turns}
use Rattle.canon_value_parts.specs.Resources.{all_resources, joined, resources}
use Rattle.canon_val.specs.Value.{HasScalar, IsCase, IsFlags, IsPairs, IsProduct, IsTextValue, result_payload, unboxed, values_in}
use Rattle.canon_val.specs.declared.val.Val.{Val, the_lemmas}
use Rattle.canon_val.specs.declared.val.Val.TheShapes.{former-Val-Map-0-at-2, former-Val-Record-0-at-2}
use Rattle.canon_val.specs.declared.val.Val.TheVariants as val

-- ---- without any

pub scalar_has_none : (k : Scalar) (v : Val) (t : Tree) → HasScalar k v t → resources v ≡ []
scalar_has_none shape.bool v t (b, e, is) = let none : resources (val.Bool b) ≡ [] = search (rules, the_lemmas) in ap resources e ∙ none
scalar_has_none shape.s8 v t (n, e, is) = let none : resources (val.S8 n) ≡ [] = search (rules, the_lemmas) in ap resources e ∙ none
scalar_has_none shape.u8 v t (n, e, is) = let none : resources (val.U8 n) ≡ [] = search (rules, the_lemmas) in ap resources e ∙ none
scalar_has_none shape.s16 v t (n, e, is) = let none : resources (val.S16 n) ≡ [] = search (rules, the_lemmas) in ap resources e ∙ none
scalar_has_none shape.u16 v t (n, e, is) = let none : resources (val.U16 n) ≡ [] = search (rules, the_lemmas) in ap resources e ∙ none
scalar_has_none shape.s32 v t (n, e, is) = let none : resources (val.S32 n) ≡ [] = search (rules, the_lemmas) in ap resources e ∙ none
scalar_has_none shape.u32 v t (n, e, is) = let none : resources (val.U32 n) ≡ [] = search (rules, the_lemmas) in ap resources e ∙ none
scalar_has_none shape.s64 v t (n, e, is) = let none : resources (val.S64 n) ≡ [] = search (rules, the_lemmas) in ap resources e ∙ none
scalar_has_none shape.u64 v t (n, e, is) = let none : resources (val.U64 n) ≡ [] = search (rules, the_lemmas) in ap resources e ∙ none
scalar_has_none shape.f32 v t (n, e, is) = let none : resources (val.Float32 n) ≡ [] = search (rules, the_lemmas) in ap resources e ∙ none
scalar_has_none shape.f64 v t (n, e, is) = let none : resources (val.Float64 n) ≡ [] = search (rules, the_lemmas) in ap resources e ∙ none
scalar_has_none shape.char v t (n, e, is) = let none : resources (val.Char n) ≡ [] = search (rules, the_lemmas) in ap resources e ∙ none

string_has_none : (s : String Global) → resources (val.String s) ≡ []
string_has_none s = search (rules, the_lemmas)

pub text_has_none : (cs : List ℕ) (v : Val) → IsTextValue cs v → resources v ≡ []
text_has_none cs v (s, e, spells) = ap resources e ∙ string_has_none s

pub set_has_none : (names : Vec (String Global) Global) → resources (val.Flags names) ≡ []
set_has_none names = search (rules, the_lemmas)

pub flags_have_none : (set : List Name) (v : Val) → IsFlags set v → resources v ≡ []
flags_have_none set v (names, e, is) = ap resources e ∙ set_has_none names

-- ---- its own

pub resources_resource : (x : Any) → resources (val.Resource x) ≡ x ∷ []
resources_resource x = search (rules, the_lemmas)

-- ---- of members

pub resources_tuple : (xs : Vec Val Global) → resources (val.Tuple xs) ≡ all_resources xs.items
resources_tuple xs = search (rules, the_lemmas)

pub resources_list : (xs : Vec Val Global) → resources (val.List xs) ≡ all_resources xs.items
resources_list xs = search (rules, the_lemmas)

pub resources_fixed : (xs : Vec Val Global) → resources (val.FixedLengthList xs) ≡ all_resources xs.items
resources_fixed xs = search (rules, the_lemmas)

pub field_resources : (fs : List (String Global × Val)) → joined (map (λ f. f.1) (map (former-Val-Record-0-at-2.map Val (List Any) resources) fs)) ≡ all_resources (values_in fs)
field_resources [] = refl
field_resources (f ∷ fs) = ap (λ (xs : List Any). resources f.1 ++ xs) (field_resources fs)

pub resources_record : (fs : Vec (String Global × Val) Global) → resources (val.Record fs) ≡ all_resources (values_in fs.items)
resources_record fs = search (rules, the_lemmas, field_resources fs.items)

pub product_resources : (k : ProductKind) (names : List Name) (vs : List Val) (v : Val) → IsProduct k names vs v → resources v ≡ all_resources vs
product_resources of_fields names vs v (fs, e, en, ev) = ap resources e ∙ (resources_record fs ∙ ap all_resources (sym ev))
product_resources of_places names vs v (xs, e, en, ev) = ap resources e ∙ (resources_tuple xs ∙ ap all_resources (sym ev))

turn_resources : (ps : List (Val × Val)) → joined (map (λ p. p.0 ++ p.1) (map (former-Val-Map-0-at-2.map Val (List Any) resources) ps)) ≡ all_resources (by_turns ps)
turn_resources [] = refl
turn_resources (p ∷ ps) = ap (λ (xs : List Any). (resources p.0 ++ resources p.1) ++ xs) (turn_resources ps) ∙ append_assoc (resources p.0) (resources p.1) (all_resources (by_turns ps))

resources_map : (ps : Vec (Val × Val) Global) → resources (val.Map ps) ≡ all_resources (by_turns ps.items)
resources_map ps = search (rules, the_lemmas, turn_resources ps.items)

pub pair_resources : (ps : List (Val × Val)) (v : Val) → IsPairs ps v → resources v ≡ all_resources (by_turns ps)
pair_resources ps v (entries, e, is) = ap resources e ∙ (resources_map entries ∙ ap (λ (qs : List (Val × Val)). all_resources (by_turns qs)) (sym is))

-- ---- of a payload

one_has : (v : Val) → resources v ≡ all_resources (v ∷ [])
one_has v = sym (append-nil (resources v))

abbrev Payload : Type 0
Payload = Option (Box Val Global)

abbrev Both : Type 0
Both = Result Payload Payload

resources_variant : (n : String Global) (p : Payload) → resources (val.Variant n p) ≡ all_resources (unboxed p)
resources_variant n None = search (rules, the_lemmas)
resources_variant n (Some b) = let own : resources (val.Variant n (Some b)) ≡ resources b.value = search (rules, the_lemmas) in own ∙ one_has b.value

resources_option : (p : Payload) → resources (val.Option p) ≡ all_resources (unboxed p)
resources_option None = search (rules, the_lemmas)
resources_option (Some b) = let own : resources (val.Option (Some b)) ≡ resources b.value = search (rules, the_lemmas) in own ∙ one_has b.value

resources_result : (r : Both) → resources (val.Result r) ≡ all_resources (result_payload r)
resources_result (Ok None) = search (rules, the_lemmas)
resources_result (Ok (Some b)) = let own : resources (val.Result (Ok (Some b))) ≡ resources b.value = search (rules, the_lemmas) in own ∙ one_has b.value
resources_result (Err None) = search (rules, the_lemmas)
resources_result (Err (Some b)) = let own : resources (val.Result (Err (Some b))) ≡ resources b.value = search (rules, the_lemmas) in own ∙ one_has b.value

resources_enum : (n : String Global) → resources (val.Enum n) ≡ []
resources_enum n = search (rules, the_lemmas)

pub case_resources : (k : VariantKind) (cs : Cases) (d : ℕ) (vs : List Val) (v : Val) → IsCase k cs d vs v → resources v ≡ all_resources vs
case_resources of_cases cs d vs v (n, p, e, ev, is) = ap resources e ∙ (resources_variant n p ∙ ap all_resources (sym ev))
case_resources of_names cs d vs v (n, e, ev, is) = ap resources e ∙ (resources_enum n ∙ ap all_resources (sym ev))
case_resources of_option cs d vs v (p, e, ev, is, lt) = ap resources e ∙ (resources_option p ∙ ap all_resources (sym ev))
case_resources of_result cs d vs v (r, e, ev, is, lt) = ap resources e ∙ (resources_result r ∙ ap all_resources (sym ev))
