-- What a type's values are lifted as, by what a look-up gives, and what members make up.
use Rattle.std.proofs.Common.{◌≡◌, ◌+◌, ◌++◌, ◌/◌, ◌%◌, ◌∙◌, List, Vec, [], ◌∷◌, ap, append-nil, append_assoc, arith, length, refl, subst, sym, ℕ, true}
use Rattle.std.specs.declared.alloc.Global.{Global}
use Rattle.canon_model.specs.Cost.{names_length}
use Rattle.canon_lowering.specs.Copies.{paired, pairs_of}
use Rattle.canon_model.specs.Shape.{Members, Name, Shape, fixed, list, map_of, member, member_count, no_members, of_fields, of_items, of_places, product}
use Rattle.canon_types.specs.Depth.{element_shape, product_members}
use Rattle.canon_plan.specs.Element.{IsMap, first_of, second_of}
use Rattle.canon_value_parts.specs.Elements.{by_turns}
use Rattle.canon_value_parts.specs.Plan.{IsRebuilt, parts_of}
use Rattle.canon_val.specs.Value.{IsPairs, IsProduct, member_names, no_names, AreLiftedFrom}
use Rattle.canon_plan.specs.Plan.{members_from}
use Rattle.canon_val.specs.declared.val.Val.{Val}
use Rattle.canon_val.specs.declared.val.Val.TheVariants as val
use Rattle.canon_plan.proofs.Pairs.{count_pairs}
use Rattle.canon_value_parts.proofs.PairRows.{count_turns, pairs_have}
use Rattle.canon_value_parts.proofs.Values.{have_count}
use Rattle.canon_value_parts.proofs.Walks.{copies_have}

-- ---- members of a tuple

pub empty_names : (ms : Members) (vs : List Val) → names_length ms ≡ 0 → length vs ≡ member_count ms → member_names ms ≡ no_names vs
empty_names no_members [] e n = refl
empty_names no_members (v ∷ vs) e n = absurd (omega (arith, n))
empty_names (member name s ms) [] e n = absurd (omega (arith, n))
empty_names (member [] s ms) (v ∷ vs) e n = ap (λ (ns : List Name). [] ∷ ns) (empty_names ms vs (omega (arith, e)) (omega (arith, n)))
empty_names (member (b ∷ name) s ms) (v ∷ vs) e n = absurd (omega (arith, e))

-- ---- kinds

-- ---- what is put together

pub record_count : (s : Shape) (n : ℕ) → s ≡ product of_fields (product_members s) → n ≡ member_count (parts_of s n) → n ≡ member_count (product_members s)
record_count s n e h = h ∙ ap (λ (x : Shape). member_count (parts_of x n)) e

pub record_rebuilt : (s : Shape) (ms : Members) (vs : List Val) (v : Val) → s ≡ product of_fields ms → IsProduct of_fields (member_names ms) vs v → IsRebuilt s vs v
record_rebuilt s ms vs v e p = subst (λ (y : Shape). IsRebuilt y vs v) (sym e) (λ ts have. (vs, ts, p, refl, have))

pub tuple_rebuilt : (s : Shape) (ms : Members) (w : Vec Val Global) → s ≡ product of_places ms → names_length ms ≡ 0 → IsRebuilt s w.items (val.Tuple w)
tuple_rebuilt s ms w e none = subst (λ (y : Shape). IsRebuilt y w.items (val.Tuple w)) (sym e) (λ ts have. (w.items, ts, (w, refl, empty_names ms w.items none (have_count true ms w.items ts have), refl), refl, have))

pub fixed_rebuilt : (s part : Shape) (n : ℕ) (w : Vec Val Global) → s ≡ fixed n part → IsRebuilt s w.items (val.FixedLengthList w)
fixed_rebuilt s part n w e = subst (λ (y : Shape). IsRebuilt y w.items (val.FixedLengthList w)) (sym e) (λ ts have. let (count, each) = copies_have true n part w.items ts have in (w.items, ts, (w, refl, refl), count, refl, each))

pub list_rebuilt : (s part : Shape) (w : Vec Val Global) → s ≡ list of_items part → IsRebuilt s w.items (val.List w)
list_rebuilt s part w e = subst (λ (y : Shape). IsRebuilt y w.items (val.List w)) (sym e) (λ ts have. let (count, each) = copies_have true (length w.items) part w.items ts have in (w.items, ts, (w, refl, refl), refl, each))

pub map_even : (s : Shape) (n : ℕ) → IsMap s → n ≡ member_count (parts_of s n) → n % 2 ≡ 0
map_even s n is e =
    let two : member_count (parts_of s n) ≡ n / 2 + n / 2 = ap (λ (y : Shape). member_count (parts_of y n)) is ∙ count_pairs (n / 2) (first_of (element_shape s)) (second_of (element_shape s)) in
    omega (arith, e, two)

pub map_rebuilt : (s : Shape) (vs : List Val) (v : Val) → IsMap s → (ps : List (Val × Val)) × IsPairs ps v × (by_turns ps ≡ vs) → IsRebuilt s vs v
map_rebuilt s vs v is (ps, p, e) =
    let a : Shape = first_of (element_shape s) in
    let b : Shape = second_of (element_shape s) in
    subst (λ (y : Shape). IsRebuilt y vs v) (sym is) (subst (λ (ws : List Val). IsRebuilt (map_of a b) ws v) e (λ ts have.
    let half : length (by_turns ps) / 2 ≡ length ps = omega (arith, count_turns ps) in
    let (each, count) = pairs_have true a b ps ts (subst (λ (j : ℕ). AreLiftedFrom (pairs_of j a b) (by_turns ps) ts) half have) in
    (refl, (ps, paired ts, p, refl, each))))

-- names so far, and those of the members from a number on
pub name_next : (ms : Members) (k : ℕ) (name : Name) (s : Shape) (done now : List Name) → members_from k ms ≡ member name s (members_from (k + 1) ms) → now ≡ done ++ name ∷ []
    → done ++ member_names (members_from k ms) ≡ member_names ms → now ++ member_names (members_from (k + 1) ms) ≡ member_names ms
name_next ms k name s done now split e h =
    ap (λ (xs : List Name). xs ++ member_names (members_from (k + 1) ms)) e ∙ (append_assoc done (name ∷ []) (member_names (members_from (k + 1) ms)) ∙ (ap (λ (r : Members). done ++ member_names r) (sym split) ∙ h))

pub name_end : (rest : Members) (done all : List Name) → rest ≡ no_members → done ++ member_names rest ≡ all → done ≡ all
name_end rest done all none h = sym (append-nil done) ∙ (ap (λ (r : Members). done ++ member_names r) (sym none) ∙ h)

pub value_nothing_left : {X : Type 0} (xs : List X) → length xs ≡ 0 → xs ≡ []
value_nothing_left [] h = refl
value_nothing_left (x ∷ xs) h = absurd (omega arith)
