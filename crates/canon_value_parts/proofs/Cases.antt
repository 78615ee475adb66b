-- Variants, enums, options and results: of which case a value is, its payload as no member or one, and its places.
use Rattle.std.proofs.Common.{◌≡◌, ◌≤◌, ◌<◌, ◌+◌, ◌∙◌, ◌&&◌, Bool, Err, IsTrue, List, None, Ok, Option, Result, Some, String, [], ◌∷◌, ap, arith, false, inl, inr, length, refl, rules, slice_get, string_bytes, subst, suc, sym, true, zero, ℕ}
use Rattle.std.specs.Prelude.{◌⊎◌, Box}
use Rattle.std.proofs.lemmas.Bool.{cases_order}
use Rattle.std.specs.declared.alloc.Global.{Global}
use Rattle.canon_lowering.proofs.AimedCases.{CaseIs}
use Rattle.canon_lowering.specs.Copies.{case_members, case_tree, payload_trees}
use Rattle.canon_model.specs.Homes.{host_texts}
use Rattle.canon_model.specs.Shape.{Cases, Name, VariantKind, bare, case_count, no_cases, of_cases, of_names, of_option, of_result, payload}
use Rattle.canon_model.specs.Same.{Carried, CarriedTrees}
use Rattle.canon_model.specs.Text.{Encoding}
use Rattle.canon_model.specs.Tree.{Trees, no_trees, tree}
use Rattle.canon_types.specs.Depth.{deepest, deepest_case}
use Rattle.canon_plan.specs.NoHandle.{HaveNoHandle, cases_have_no_handle, has_no_handle}
use Rattle.canon_value_parts.specs.Fails.{CaseFails, Failure, IsOtherCase, MemberFails}
use Rattle.canon_val.specs.Value.{CaseHas, IsCase, IsFirst, all_places, case_names, places, result_case, result_payload, unboxed, HaveTreesAs}
use Rattle.canon_val.specs.declared.val.Val.{Val, out-Val, the_lemmas}
use Rattle.canon_val.specs.declared.val.Val.TheOpen.{Val-F as F}
use Rattle.canon_val.specs.declared.val.Val.TheVariants as val
use Rattle.canon_plan.proofs.Lookups.{both}

-- ---- the payload of a case, as members

pub case_has : (lifted : Bool) (cs : Cases) (i : ℕ) (vs : List Val) (ts : Trees) → i < case_count cs → HaveTreesAs lifted (case_members cs i) vs ts → CaseHas lifted cs i vs ts
case_has lifted no_cases i vs ts lt h = absurd (omega (arith, lt))
case_has lifted (bare name cs) zero vs ts lt h = h
case_has lifted (bare name cs) (suc i) vs ts lt h = case_has lifted cs i vs ts (omega (arith, lt)) h
case_has lifted (payload name s cs) zero vs ts lt (v, others, t, rest, ev, et, has, (eo, er)) = (v, t, ev ∙ ap (λ xs. v ∷ xs) eo, et ∙ ap (λ us. tree t us) er, has)
case_has lifted (payload name s cs) (suc i) vs ts lt h = case_has lifted cs i vs ts (omega (arith, lt)) h

pub has_case : (lifted : Bool) (cs : Cases) (i : ℕ) (vs : List Val) (ts : Trees) → CaseHas lifted cs i vs ts → HaveTreesAs lifted (case_members cs i) vs ts
has_case lifted no_cases i vs ts h = absurd h
has_case lifted (bare name cs) zero vs ts h = h
has_case lifted (bare name cs) (suc i) vs ts h = has_case lifted cs i vs ts h
has_case lifted (payload name s cs) zero vs ts (v, t, ev, et, has) = (v, [], t, no_trees, ev, et, has, (refl, refl))
has_case lifted (payload name s cs) (suc i) vs ts h = has_case lifted cs i vs ts h

pub case_back : (lifted : Bool) (cs : Cases) (i d : ℕ) (vs : List Val) (ts : Trees) → CaseHas lifted cs i vs ts → payload_trees (case_tree d ts) ≡ ts
case_back lifted no_cases i d vs ts h = absurd h
case_back lifted (bare name cs) zero d vs ts (ev, et) = ap (λ us. payload_trees (case_tree d us)) et ∙ sym et
case_back lifted (bare name cs) (suc i) d vs ts h = case_back lifted cs i d vs ts h
case_back lifted (payload name s cs) zero d vs ts (v, t, ev, et, has) = ap (λ us. payload_trees (case_tree d us)) et ∙ sym et
case_back lifted (payload name s cs) (suc i) d vs ts h = case_back lifted cs i d vs ts h

-- its tree has a payload where the case has one
pub case_is : (lifted wide : Bool) (enc : Encoding) (cs : Cases) (i d : ℕ) (vs : List Val) (ts : Trees) → CaseHas lifted cs i vs ts → CaseIs wide (host_texts enc) (case_members cs i) d (case_tree d ts)
case_is lifted wide enc no_cases i d vs ts h = absurd h
case_is lifted wide enc (bare name cs) zero d vs ts (ev, et) = ap (λ us. case_tree d us) et
case_is lifted wide enc (bare name cs) (suc i) d vs ts h = case_is lifted wide enc cs i d vs ts h
case_is lifted wide enc (payload name s cs) zero d vs ts (v, t, ev, et, has) = (t, ap (λ us. case_tree d us) et)
case_is lifted wide enc (payload name s cs) (suc i) d vs ts h = case_is lifted wide enc cs i d vs ts h

pub case_carried : (d : ℕ) (ts us : Trees) → CarriedTrees ts us → Carried (case_tree d ts) (case_tree d us)
case_carried d no_trees us e = ap (λ xs. case_tree d xs) e
case_carried d (tree t ts) us (u, rest, e, same, have) = (u, ap (λ xs. case_tree d xs) e, same)

pub case_fails : (how : Failure) (cs : Cases) (i : ℕ) (vs : List Val) (k : ℕ) → MemberFails how (case_members cs i) vs k → CaseFails how cs i vs k
case_fails how no_cases i vs k f = absurd f
case_fails how (bare name cs) zero vs k f = absurd f
case_fails how (bare name cs) (suc i) vs k f = case_fails how cs i vs k f
case_fails how (payload name s cs) zero [] k f = absurd f
case_fails how (payload name s cs) zero (v ∷ vs) k (inl f) = f
case_fails how (payload name s cs) zero (v ∷ vs) k (inr (j, e, f)) = absurd f
case_fails how (payload name s cs) (suc i) vs k f = case_fails how cs i vs k f

alone : (a : Bool) → IsTrue a → IsTrue (a && true)
alone true h = refl
alone false h = cc

pub case_no_handle : (cs : Cases) (i : ℕ) → IsTrue (cases_have_no_handle cs) → HaveNoHandle (case_members cs i)
case_no_handle no_cases i h = refl
case_no_handle (bare name cs) zero h = refl
case_no_handle (bare name cs) (suc i) h = case_no_handle cs i h
case_no_handle (payload name s cs) zero h = alone (has_no_handle s) (both (has_no_handle s) (cases_have_no_handle cs) h).0
case_no_handle (payload name s cs) (suc i) h = case_no_handle cs i (both (has_no_handle s) (cases_have_no_handle cs) h).1

pub case_shallow : (cs : Cases) (i : ℕ) → deepest (case_members cs i) ≤ deepest_case cs
case_shallow no_cases i = omega arith
case_shallow (bare name cs) zero = omega arith
case_shallow (bare name cs) (suc i) = case_shallow cs i
case_shallow (payload name s cs) zero = omega arith
case_shallow (payload name s cs) (suc i) = omega (arith, case_shallow cs i)

-- ---- values of the four kinds

abbrev pub Payload : Type 0
Payload = Option (Box Val Global)

abbrev pub Both : Type 0
Both = Result Payload Payload

pub same_variant : (n m : String Global) (p q : Payload) → val.Variant n p ≡ val.Variant m q → (n ≡ m) × (p ≡ q)
same_variant n m p q e =
    let f : out-Val (val.Variant n p) ≡ F.Variant n p = search (rules, the_lemmas) in
    let g : out-Val (val.Variant m q) ≡ F.Variant m q = search (rules, the_lemmas) in
    let h : F.Variant n p ≡ F.Variant m q = sym f ∙ (ap out-Val e ∙ g) in
    let names : n ≡ m = cc in
    let payloads : p ≡ q = cc in (names, payloads)

pub same_enum : (n m : String Global) → val.Enum n ≡ val.Enum m → n ≡ m
same_enum n m e = cc

pub same_option : (p q : Payload) → val.Option p ≡ val.Option q → p ≡ q
same_option p q e =
    let f : out-Val (val.Option p) ≡ F.Option p = search (rules, the_lemmas) in
    let g : out-Val (val.Option q) ≡ F.Option q = search (rules, the_lemmas) in
    let h : F.Option p ≡ F.Option q = sym f ∙ (ap out-Val e ∙ g) in cc

pub same_result : (p q : Both) → val.Result p ≡ val.Result q → p ≡ q
same_result p q e =
    let f : out-Val (val.Result p) ≡ F.Result p = search (rules, the_lemmas) in
    let g : out-Val (val.Result q) ≡ F.Result q = search (rules, the_lemmas) in
    let h : F.Result p ≡ F.Result q = sym f ∙ (ap out-Val e ∙ g) in cc

pub same_some : (n m : Name) (o : Option Name) → o ≡ Some n → o ≡ Some m → n ≡ m
same_some n m o e f = cc

-- a name has one first place
pub first_once : (name : Name) (names : List Name) (i j : ℕ) → IsFirst name names i → IsFirst name names j → j ≡ i
first_once name names i j f g = by_order (cases_order i j)
  where
    by_order : (i ≡ j) ⊎ ((i < j) ⊎ (j < i)) → j ≡ i
    by_order (inl e) = sym e
    by_order (inr (inl lt)) = absurd (g.1 i lt f.0)
    by_order (inr (inr lt)) = absurd (f.1 j lt g.0)

-- a value is of one case, with one payload
pub one_case : (k : VariantKind) (cs : Cases) (i j : ℕ) (vs ws : List Val) (v : Val) → IsCase k cs i vs v → IsCase k cs j ws v → (j ≡ i) × (ws ≡ vs)
one_case of_cases cs i j vs ws v (n, p, ev, es, f) (m, q, ew, et, g) =
    let same = same_variant m n q p (sym ew ∙ ev) in
    (first_once (string_bytes n) (case_names cs) i j f (subst (λ (x : String Global). IsFirst (string_bytes x) (case_names cs) j) same.0 g), et ∙ (ap unboxed same.1 ∙ sym es))
one_case of_names cs i j vs ws v (n, ev, es, f) (m, ew, et, g) =
    (first_once (string_bytes n) (case_names cs) i j f (subst (λ (x : String Global). IsFirst (string_bytes x) (case_names cs) j) (same_enum m n (sym ew ∙ ev)) g), et ∙ sym es)
one_case of_option cs i j vs ws v (p, ev, es, ei, li) (q, ew, et, ej, lj) =
    let same : ws ≡ vs = et ∙ (ap unboxed (same_option q p (sym ew ∙ ev)) ∙ sym es) in
    (ej ∙ (ap length same ∙ sym ei), same)
one_case of_result cs i j vs ws v (p, ev, es, ei, li) (q, ew, et, ej, lj) =
    let same : q ≡ p = same_result q p (sym ew ∙ ev) in
    (ej ∙ (ap result_case same ∙ sym ei), et ∙ (ap result_payload same ∙ sym es))

-- it is a case of the type
names_count : (cs : Cases) → length (case_names cs) ≡ case_count cs
names_count no_cases = refl
names_count (bare name cs) = ap suc (names_count cs)
names_count (payload name s cs) = ap suc (names_count cs)

found_below : (names : List Name) (i : ℕ) (name : Name) → slice_get names i ≡ Some name → i < length names
found_below [] i name e = cc
found_below (n ∷ names) zero name e = omega arith
found_below (n ∷ names) (suc i) name e = omega (arith, found_below names i name e)

pub first_below : (cs : Cases) (name : Name) (i : ℕ) → IsFirst name (case_names cs) i → i < case_count cs
first_below cs name i f = omega (arith, found_below (case_names cs) i name f.0, names_count cs)

pub case_below : (k : VariantKind) (cs : Cases) (i : ℕ) (vs : List Val) (v : Val) → IsCase k cs i vs v → i < case_count cs
case_below of_cases cs i vs v (n, p, ev, es, f) = first_below cs (string_bytes n) i f
case_below of_names cs i vs v (n, ev, es, f) = first_below cs (string_bytes n) i f
case_below of_option cs i vs v (p, ev, es, ei, li) = li
case_below of_result cs i vs v (p, ev, es, ei, li) = li

-- its payload is no value or one
unboxed_few : (p : Payload) → length (unboxed p) ≤ 1
unboxed_few None = omega arith
unboxed_few (Some b) = omega arith

result_few : (r : Both) → length (result_payload r) ≤ 1
result_few (Ok p) = unboxed_few p
result_few (Err p) = unboxed_few p

pub payload_few : (k : VariantKind) (cs : Cases) (i : ℕ) (vs : List Val) (v : Val) → IsCase k cs i vs v → length vs ≤ 1
payload_few of_cases cs i vs v (n, p, ev, es, f) = omega (arith, unboxed_few p, ap length es)
payload_few of_names cs i vs v (n, ev, es, f) = omega (arith, ap length es)
payload_few of_option cs i vs v (p, ev, es, ei, li) = omega (arith, unboxed_few p, ap length es)
payload_few of_result cs i vs v (r, ev, es, ei, li) = omega (arith, result_few r, ap length es)

-- it isn't of another kind
pub other_case : (l : VariantKind) (cs : Cases) (d : ℕ) (v : Val) (vs : List Val) → IsOtherCase l v → IsCase l cs d vs v → ⊥
other_case of_cases cs d v vs f p = f p.0 p.1 p.2
other_case of_names cs d v vs f p = f p.0 p.1
other_case of_option cs d v vs f p = f p.0 p.1
other_case of_result cs d v vs f p = f p.0 p.1

-- ---- places

places_variant : (n : String Global) (p : Payload) → places (val.Variant n p) ≡ 1 + all_places (unboxed p)
places_variant n None = search (rules, the_lemmas)
places_variant n (Some b) = search (rules, the_lemmas)

places_enum : (n : String Global) → places (val.Enum n) ≡ 1
places_enum n = search (rules, the_lemmas)

places_option : (p : Payload) → places (val.Option p) ≡ 1 + all_places (unboxed p)
places_option None = search (rules, the_lemmas)
places_option (Some b) = search (rules, the_lemmas)

places_result : (r : Both) → places (val.Result r) ≡ 1 + all_places (result_payload r)
places_result (Ok None) = search (rules, the_lemmas)
places_result (Ok (Some b)) = search (rules, the_lemmas)
places_result (Err None) = search (rules, the_lemmas)
places_result (Err (Some b)) = search (rules, the_lemmas)

pub case_places : (k : VariantKind) (cs : Cases) (i : ℕ) (vs : List Val) (v : Val) → IsCase k cs i vs v → places v ≡ 1 + all_places vs
case_places of_cases cs i vs v (n, p, ev, es, f) = omega (arith, ap places ev, places_variant n p, ap all_places es)
case_places of_names cs i vs v (n, ev, es, f) = omega (arith, ap places ev, places_enum n, ap all_places es)
case_places of_option cs i vs v (p, ev, es, ei, li) = omega (arith, ap places ev, places_option p, ap all_places es)
case_places of_result cs i vs v (r, ev, es, ei, li) = omega (arith, ap places ev, places_result r, ap all_places es)
