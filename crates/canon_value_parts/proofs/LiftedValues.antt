-- Lifted values are values, and have one list of data for their trees.
use Rattle.std.proofs.Common.{◌≡◌, ◌∙◌, ◌++◌, append-nil, append_assoc, Err, List, None, Ok, Some, String, Vec, [], ◌∷◌, ap, ap₂, false, map, pos, refl, rules, string_bytes, subst, subst₂, suc, sym, true, zero, ℕ}
use Rattle.std.specs.declared.alloc.Global.{Global}
use Rattle.canon_lowering.proofs.AimedCases.{number_of}
use Rattle.canon_lowering.specs.Copies.{case_tree, payload_trees}
use Rattle.canon_model.specs.Shape.{Cases, Members, Name, ProductKind, Shape, VariantKind, bare, borrow, fixed, flags, list, member, no_cases, no_members}
use Rattle.canon_model.specs.Shape.{of_cases, of_fields, of_items, of_names, of_option, of_pairs, of_places, of_result, own, payload, product, scalar, string, variant}
use Rattle.canon_model.specs.Tree.{Tree, Trees, bits, case_number, items, no_trees, parts, text, tree}
use Rattle.canon_resources.specs.Held.{Any}
use Rattle.canon_value_parts.specs.Elements.{by_turns}
use Rattle.canon_val.specs.Equal as equal
use Rattle.canon_val.specs.Equal.{Data, data_of, no_data, pair_data, row, value}
use Rattle.canon_value_parts.specs.Laws.{OneValue}
use Rattle.canon_value_parts.specs.Resources.{all_resources, joined, resources}
use Rattle.canon_val.specs.Value.{AreLiftedFrom, CaseHas, EachHas, HasTree, HaveTrees, IsCase, IsFixedListValue, IsFlags, IsItems, IsLiftedFrom}
use Rattle.canon_val.specs.Value.{IsPairs, IsProduct, IsTextValue, PairHas, chosen, member_names, result_case, result_payload, unboxed}
use Rattle.canon_val.specs.declared.val.Val.{Val, the_lemmas}
use Rattle.canon_val.specs.declared.val.Val.TheVariants as val
use Rattle.canon_value_parts.proofs.Cases.{Both, Payload, case_back, same_some}
use Rattle.canon_val.proofs.Copied.{flags_copied, map_copied, record_copied}
use Rattle.canon_value_parts.proofs.MapsAndFlags.{any_order}
use Rattle.canon_value_parts.proofs.OneValue.{scalar_value, trees_one, values_one}
use Rattle.canon_value_parts.proofs.ResourcesOf.{case_resources, flags_have_none, pair_resources, product_resources, resources_fixed, resources_list, resources_resource, scalar_has_none, text_has_none}

-- ---- they are values

each_so : {A : Type 0} → (Has Had : A → Tree → Type 0) → ((v : A) (t : Tree) → Has v t → Had v t) → (vs : List A) (ts : Trees) → EachHas Has vs ts → EachHas Had vs ts
each_so Has Had so [] ts h = h
each_so Has Had so (v ∷ vs) ts (t, rest, et, has, have) = (t, rest, et, so v t has, each_so Has Had so vs rest have)

mutual
  pub unlifted : (s : Shape) (v : Val) (t : Tree) → IsLiftedFrom s v t → HasTree s v t
  unlifted (scalar k) v t h = h
  unlifted string v t h = h
  unlifted (own r) v t h = h
  unlifted (borrow r) v t h = h
  unlifted (list of_items s) v t (vs, ts, p, et, have) = (vs, ts, p, et, each_so (IsLiftedFrom s) (HasTree s) (λ w u h. unlifted s w u h) vs ts have)
  unlifted (list of_pairs s) v t (is, (ps, ts, p, et, have)) = (is, (ps, ts, p, et, each_so (PairHas true s) (PairHas false s) (λ w u h. pair_unlifted s w u h) ps ts have))
  unlifted (fixed n s) v t (vs, ts, p, l, et, have) = (vs, ts, p, l, et, each_so (IsLiftedFrom s) (HasTree s) (λ w u h. unlifted s w u h) vs ts have)
  unlifted (product k ms) v t (vs, ts, p, et, have) = (vs, ts, p, et, all_unlifted ms vs ts have)
  unlifted (variant k cs) v t (d, vs, ts, is, et, have) = (d, vs, ts, is, et, case_unlifted cs d vs ts have)
  unlifted (flags names) v t (set, bs, is, all, et, marked, order) = (set, bs, is, all, et, marked, λ h. any_order h)

  pub all_unlifted : (ms : Members) (vs : List Val) (ts : Trees) → AreLiftedFrom ms vs ts → HaveTrees ms vs ts
  all_unlifted no_members vs ts h = h
  all_unlifted (member name s ms) vs ts (v, others, t, rest, ev, et, has, have) = (v, others, t, rest, ev, et, unlifted s v t has, all_unlifted ms others rest have)

  pair_unlifted : (s : Shape) (p : Val × Val) (t : Tree) → PairHas true s p t → PairHas false s p t
  pair_unlifted (product l ms) p t (ts, et, have) = (ts, et, all_unlifted ms (p.0 ∷ p.1 ∷ []) ts have)
  pair_unlifted (scalar c) p t h = absurd h
  pair_unlifted string p t h = absurd h
  pair_unlifted (own r) p t h = absurd h
  pair_unlifted (borrow r) p t h = absurd h
  pair_unlifted (list l z) p t h = absurd h
  pair_unlifted (fixed n z) p t h = absurd h
  pair_unlifted (variant l cs) p t h = absurd h
  pair_unlifted (flags names) p t h = absurd h

  case_unlifted : (cs : Cases) (d : ℕ) (vs : List Val) (ts : Trees) → CaseHas true cs d vs ts → CaseHas false cs d vs ts
  case_unlifted no_cases d vs ts h = absurd h
  case_unlifted (bare name cs) zero vs ts h = h
  case_unlifted (bare name cs) (suc d) vs ts h = case_unlifted cs d vs ts h
  case_unlifted (payload name s cs) zero vs ts (v, t, ev, et, has) = (v, t, ev, et, unlifted s v t has)
  case_unlifted (payload name s cs) (suc d) vs ts h = case_unlifted cs d vs ts h

-- ---- the data of a value, from that of its parts

abbrev datas : List Val → List Data
datas vs = map data_of vs

data_text : (s : String Global) → data_of (val.String s) ≡ value equal.string (pos 0) (string_bytes s ∷ []) no_data
data_text s = search (rules, the_lemmas)

text_data : (cs : List ℕ) (v w : Val) → IsTextValue cs v → IsTextValue cs w → data_of v ≡ data_of w
text_data cs v w (s, ev, h) (r, ew, g) =
    ap data_of ev ∙ (data_text s ∙ (ap (λ (bs : Name). value equal.string (pos 0) (bs ∷ []) no_data) (sym h.is ∙ g.is) ∙ (sym (data_text r) ∙ sym (ap data_of ew))))

data_list : (xs : Vec Val Global) → data_of (val.List xs) ≡ value equal.list (pos 0) [] (row (datas xs.items))
data_list xs = search (rules, the_lemmas)

list_data : (vs ws : List Val) (v w : Val) → IsItems vs v → IsItems ws w → datas vs ≡ datas ws → data_of v ≡ data_of w
list_data vs ws v w (xs, ev, es) (ys, ew, et) e =
    ap data_of ev ∙ (data_list xs ∙ (ap (λ (ds : List Data). value equal.list (pos 0) [] (row ds)) (sym (ap datas es) ∙ (e ∙ ap datas et)) ∙ (sym (data_list ys) ∙ sym (ap data_of ew))))

data_fixed : (xs : Vec Val Global) → data_of (val.FixedLengthList xs) ≡ value equal.fixed (pos 0) [] (row (datas xs.items))
data_fixed xs = search (rules, the_lemmas)

fixed_data : (vs ws : List Val) (v w : Val) → IsFixedListValue vs v → IsFixedListValue ws w → datas vs ≡ datas ws → data_of v ≡ data_of w
fixed_data vs ws v w (xs, ev, es) (ys, ew, et) e =
    ap data_of ev ∙ (data_fixed xs ∙ (ap (λ (ds : List Data). value equal.fixed (pos 0) [] (row ds)) (sym (ap datas es) ∙ (e ∙ ap datas et)) ∙ (sym (data_fixed ys) ∙ sym (ap data_of ew))))

data_tuple : (xs : Vec Val Global) → data_of (val.Tuple xs) ≡ value equal.tuple (pos 0) [] (row (datas xs.items))
data_tuple xs = search (rules, the_lemmas)

product_data : (k : ProductKind) (names : List Name) (vs ws : List Val) (v w : Val) → IsProduct k names vs v → IsProduct k names ws w → datas vs ≡ datas ws → data_of v ≡ data_of w
product_data of_fields names vs ws v w (fs, ev, en, es) (gs, ew, em, et) e =
    ap data_of ev ∙ record_copied w fs gs gs.items ew refl (sym en ∙ em) (sym (ap datas es) ∙ (e ∙ ap datas et))
product_data of_places names vs ws v w (xs, ev, en, es) (ys, ew, em, et) e =
    ap data_of ev ∙ (data_tuple xs ∙ (ap (λ (ds : List Data). value equal.tuple (pos 0) [] (row ds)) (sym (ap datas es) ∙ (e ∙ ap datas et)) ∙ (sym (data_tuple ys) ∙ sym (ap data_of ew))))

pairs_data : (ps qs : List (Val × Val)) (v w : Val) → IsPairs ps v → IsPairs qs w → map pair_data ps ≡ map pair_data qs → data_of v ≡ data_of w
pairs_data ps qs v w (xs, ev, es) (ys, ew, et) e =
    ap data_of ev ∙ map_copied w xs ys ys.items ew refl (sym (ap (λ (zs : List (Val × Val)). map pair_data zs) es) ∙ (e ∙ ap (λ (zs : List (Val × Val)). map pair_data zs) et))

flags_data : (set : List Name) (v w : Val) → IsFlags set v → IsFlags set w → data_of v ≡ data_of w
flags_data set v w (xs, ev, es) (ys, ew, et) = ap data_of ev ∙ flags_copied w xs ys ys.items ew refl (sym es ∙ et)

data_variant : (n : String Global) (p : Payload) → data_of (val.Variant n p) ≡ value equal.variant (pos 0) (string_bytes n ∷ []) (row (datas (unboxed p)))
data_variant n None = search (rules, the_lemmas)
data_variant n (Some b) = search (rules, the_lemmas)

data_enum : (n : String Global) → data_of (val.Enum n) ≡ value equal.enum (pos 0) (string_bytes n ∷ []) no_data
data_enum n = search (rules, the_lemmas)

data_option : (p : Payload) → data_of (val.Option p) ≡ value equal.option (pos 0) [] (row (datas (unboxed p)))
data_option None = search (rules, the_lemmas)
data_option (Some b) = search (rules, the_lemmas)

data_result : (r : Both) → data_of (val.Result r) ≡ value equal.result (pos (result_case r)) [] (row (datas (result_payload r)))
data_result (Ok None) = search (rules, the_lemmas)
data_result (Ok (Some b)) = search (rules, the_lemmas)
data_result (Err None) = search (rules, the_lemmas)
data_result (Err (Some b)) = search (rules, the_lemmas)

-- of one case, with equal payloads
case_data : (k : VariantKind) (cs : Cases) (d : ℕ) (vs ws : List Val) (v w : Val) → IsCase k cs d vs v → IsCase k cs d ws w → datas vs ≡ datas ws → data_of v ≡ data_of w
case_data of_cases cs d vs ws v w (n, p, ev, es, f) (m, q, ew, et, g) e =
    ap data_of ev ∙ (data_variant n p ∙ (ap₂ (λ (name : Name) (ds : List Data). value equal.variant (pos 0) (name ∷ []) (row ds)) (same_some _ _ _ f.0 g.0)
    (sym (ap datas es) ∙ (e ∙ ap datas et)) ∙ (sym (data_variant m q) ∙ sym (ap data_of ew))))
case_data of_names cs d vs ws v w (n, ev, es, f) (m, ew, et, g) e =
    ap data_of ev ∙ (data_enum n ∙ (ap (λ (name : Name). value equal.enum (pos 0) (name ∷ []) no_data) (same_some _ _ _ f.0 g.0) ∙ (sym (data_enum m) ∙ sym (ap data_of ew))))
case_data of_option cs d vs ws v w (p, ev, es, ei, li) (q, ew, et, ej, lj) e =
    ap data_of ev ∙ (data_option p ∙ (ap (λ (ds : List Data). value equal.option (pos 0) [] (row ds)) (sym (ap datas es) ∙ (e ∙ ap datas et)) ∙ (sym (data_option q) ∙ sym (ap data_of ew))))
case_data of_result cs d vs ws v w (r, ev, es, ei, li) (q, ew, et, ej, lj) e =
    ap data_of ev ∙ (data_result r ∙ (ap₂ (λ (n : ℕ) (ds : List Data). value equal.result (pos n) [] (row ds)) (sym ei ∙ ej) (sym (ap datas es) ∙ (e ∙ ap datas et)) ∙ (sym (data_result q) ∙ sym (ap data_of ew))))

-- ---- they have one list of data

-- without resources of its own
without : (v w : Val) (xs ys : List Any) → resources v ≡ [] → resources w ≡ [] → resources v ++ xs ≡ resources w ++ ys → xs ≡ ys
without v w xs ys none nor e = sym (ap (λ zs. zs ++ xs) none) ∙ (e ∙ ap (λ zs. zs ++ ys) nor)

-- with those of others
instead : (os bs cs ds xs ys : List Any) → os ≡ bs → cs ≡ ds → os ++ xs ≡ cs ++ ys → bs ++ xs ≡ ds ++ ys
instead os bs cs ds xs ys e f h = sym (ap (λ zs. zs ++ xs) e) ∙ (h ∙ ap (λ zs. zs ++ ys) f)

-- in two steps
in_turn : (os bs cs ds xs ys : List Any) → (os ++ bs) ++ xs ≡ (cs ++ ds) ++ ys → os ++ (bs ++ xs) ≡ cs ++ (ds ++ ys)
in_turn os bs cs ds xs ys e = sym (append_assoc os bs xs) ∙ (e ∙ append_assoc cs ds ys)

-- the data are the same, and so are the resources behind
abbrev Alike : {D : Type 0} → D → D → List Any → List Any → Type 0
Alike d e xs ys = (d ≡ e) × (xs ≡ ys)

each_data : {A D : Type 0} → (Has : A → Tree → Type 0) (data_in : A → D) (its : A → List Any)
    → ((v w : A) (t : Tree) (xs ys : List Any) → Has v t → Has w t → its v ++ xs ≡ its w ++ ys → Alike (data_in v) (data_in w) xs ys)
    → (vs ws : List A) (ts : Trees) (xs ys : List Any) → EachHas Has vs ts → EachHas Has ws ts → joined (map its vs) ++ xs ≡ joined (map its ws) ++ ys → Alike (map data_in vs) (map data_in ws) xs ys
each_data Has data_in its one [] [] ts xs ys h g r = (refl, r)
each_data Has data_in its one [] (w ∷ ws) ts xs ys h (u, last, eu, has2, have2) r = let wrong : no_trees ≡ tree u last = sym h ∙ eu in cc
each_data Has data_in its one (v ∷ vs) [] ts xs ys (t, rest, et, has, have) g r = let wrong : no_trees ≡ tree t rest = sym g ∙ et in cc
each_data Has data_in its one (v ∷ vs) (w ∷ ws) ts xs ys (t, rest, et, has, have) (u, last, eu, has2, have2) r =
    let same : tree t rest ≡ tree u last = sym et ∙ eu in
    let first : u ≡ t = cc in
    let tail : last ≡ rest = cc in
    let here = one v w t (joined (map its vs) ++ xs) (joined (map its ws) ++ ys) has (subst (Has w) first has2) (in_turn (its v) _ (its w) _ xs ys r) in
    let there = each_data Has data_in its one vs ws rest xs ys have (subst (EachHas Has ws) tail have2) here.1 in
    (ap₂ (λ d ds. d ∷ ds) here.0 there.0, there.1)

-- of a key and its value
abbrev pub both_resources : Val × Val → List Any
both_resources p = resources p.0 ++ resources p.1

pub turned : (ps : List (Val × Val)) → all_resources (by_turns ps) ≡ joined (map both_resources ps)
turned [] = refl
turned (p ∷ ps) = sym (append_assoc (resources p.0) (resources p.1) (all_resources (by_turns ps))) ∙ ap (λ zs. both_resources p ++ zs) (turned ps)

pub items_resources : (vs : List Val) (v : Val) → IsItems vs v → resources v ≡ all_resources vs
items_resources vs v (xs, e, ev) = ap resources e ∙ (resources_list xs ∙ ap all_resources (sym ev))

pub fixed_resources : (vs : List Val) (v : Val) → IsFixedListValue vs v → resources v ≡ all_resources vs
fixed_resources vs v (xs, e, ev) = ap resources e ∙ (resources_fixed xs ∙ ap all_resources (sym ev))

-- of one handle
handle_data : (v w : Val) (x y : Any) (xs ys : List Any) → v ≡ val.Resource x → w ≡ val.Resource y → resources v ++ xs ≡ resources w ++ ys → Alike (data_of v) (data_of w) xs ys
handle_data v w x y xs ys e f r =
    let both : x ∷ xs ≡ y ∷ ys = instead (resources v) (x ∷ []) (resources w) (y ∷ []) xs ys (ap resources e ∙ resources_resource x) (ap resources f ∙ resources_resource y) r in
    let same : x ≡ y = cc in
    let rest : xs ≡ ys = cc in
    (ap data_of e ∙ (ap (λ (z : Any). data_of (val.Resource z)) same ∙ sym (ap data_of f)), rest)

mutual
  one_data : (s : Shape) (v w : Val) (t : Tree) (xs ys : List Any) → IsLiftedFrom s v t → IsLiftedFrom s w t → resources v ++ xs ≡ resources w ++ ys → Alike (data_of v) (data_of w) xs ys
  one_data (scalar k) v w t xs ys h g r = (ap data_of (scalar_value k v w t h g), without v w xs ys (scalar_has_none k v t h) (scalar_has_none k w t g) r)
  one_data string v w t xs ys (cs, n, h, et) (ds, m, g, eu) r =
      let same : text cs n ≡ text ds m = sym et ∙ eu in
      let scalars : ds ≡ cs = cc in
      (text_data cs v w h (subst (λ zs. IsTextValue zs w) scalars g), without v w xs ys (text_has_none cs v h) (text_has_none ds w g) r)
  one_data (own i) v w t xs ys (x, h, e, et) (y, k, f, eu) r = handle_data v w x y xs ys e f r
  one_data (borrow i) v w t xs ys (x, h, e, et) (y, k, f, eu) r = handle_data v w x y xs ys e f r
  one_data (list of_pairs s) v w t xs ys (is, (ps, ts, p, et, have)) (js, (qs, us, q, eu, have2)) r =
      let same : items ts ≡ items us = sym et ∙ eu in
      let trees : us ≡ ts = cc in
      let those = instead (resources v) (joined (map both_resources ps)) (resources w) (joined (map both_resources qs)) xs ys (pair_resources ps v p ∙ turned ps) (pair_resources qs w q ∙ turned qs) r in
      let each = each_data (PairHas true s) pair_data both_resources (λ x y u os bs h g z. one_pair s x y u os bs h g z) ps qs ts xs ys have (subst (EachHas (PairHas true s) qs) trees have2) those in
      (pairs_data ps qs v w p q each.0, each.1)
  one_data (list of_items s) v w t xs ys (vs, ts, p, et, have) (ws, us, q, eu, have2) r =
      let same : items ts ≡ items us = sym et ∙ eu in
      let trees : us ≡ ts = cc in
      let those = instead (resources v) (all_resources vs) (resources w) (all_resources ws) xs ys (items_resources vs v p) (items_resources ws w q) r in
      let each = each_data (IsLiftedFrom s) data_of resources (λ x y u os bs h g z. one_data s x y u os bs h g z) vs ws ts xs ys have (subst (EachHas (IsLiftedFrom s) ws) trees have2) those in
      (list_data vs ws v w p q each.0, each.1)
  one_data (fixed n s) v w t xs ys (vs, ts, p, l, et, have) (ws, us, q, l2, eu, have2) r =
      let same : parts ts ≡ parts us = sym et ∙ eu in
      let trees : us ≡ ts = cc in
      let those = instead (resources v) (all_resources vs) (resources w) (all_resources ws) xs ys (fixed_resources vs v p) (fixed_resources ws w q) r in
      let each = each_data (IsLiftedFrom s) data_of resources (λ x y u os bs h g z. one_data s x y u os bs h g z) vs ws ts xs ys have (subst (EachHas (IsLiftedFrom s) ws) trees have2) those in
      (fixed_data vs ws v w p q each.0, each.1)
  one_data (product k ms) v w t xs ys (vs, ts, p, et, have) (ws, us, q, eu, have2) r =
      let same : parts ts ≡ parts us = sym et ∙ eu in
      let trees : us ≡ ts = cc in
      let those = instead (resources v) (all_resources vs) (resources w) (all_resources ws) xs ys (product_resources k (member_names ms) vs v p) (product_resources k (member_names ms) ws w q) r in
      let all = all_data ms vs ws ts xs ys have (subst (λ zs. AreLiftedFrom ms ws zs) trees have2) those in
      (product_data k (member_names ms) vs ws v w p q all.0, all.1)
  one_data (variant k cs) v w t xs ys (d, vs, ts, is, et, have) (e, ws, us, js, eu, have2) r =
      let same : case_tree d ts ≡ case_tree e us = sym et ∙ eu in
      let number : e ≡ d = sym (number_of e us) ∙ (ap case_number (sym same) ∙ number_of d ts) in
      let trees : us ≡ ts = sym (case_back true cs e e ws us have2) ∙ (ap payload_trees (sym same) ∙ case_back true cs d d vs ts have) in
      let have3 : CaseHas true cs d ws ts = subst₂ (λ n zs. CaseHas true cs n ws zs) number trees have2 in
      let those = instead (resources v) (all_resources vs) (resources w) (all_resources ws) xs ys (case_resources k cs d vs v is) (case_resources k cs e ws w js) r in
      let all = payload_data cs d vs ws ts xs ys have have3 those in
      (case_data k cs d vs ws v w is (subst (λ n. IsCase k cs n ws w) number js) all.0, all.1)
  one_data (flags names) v w t xs ys (set, bs, is, all, et, marked, order) (other, cs, js, all2, eu, marked2, order2) r =
      let same : bits bs ≡ bits cs = sym et ∙ eu in
      let flags_same : bs ≡ cs = cc in
      let names_same : other ≡ set = order2 refl ∙ (ap (chosen names) (sym flags_same) ∙ sym (order refl)) in
      (flags_data set v w is (subst (λ zs. IsFlags zs w) names_same js), without v w xs ys (flags_have_none set v is) (flags_have_none other w js) r)

  all_data : (ms : Members) (vs ws : List Val) (ts : Trees) (xs ys : List Any) → AreLiftedFrom ms vs ts → AreLiftedFrom ms ws ts → all_resources vs ++ xs ≡ all_resources ws ++ ys → Alike (datas vs) (datas ws) xs ys
  all_data no_members vs ws ts xs ys h g r = (ap datas (h.0 ∙ sym g.0), instead (all_resources vs) [] (all_resources ws) [] xs ys (ap all_resources h.0) (ap all_resources g.0) r)
  all_data (member name s ms) vs ws ts xs ys (v, others, t, rest, ev, et, has, have) (w, those, u, last, ew, eu, has2, have2) r =
      let same : tree t rest ≡ tree u last = sym et ∙ eu in
      let first : u ≡ t = cc in
      let tail : last ≡ rest = cc in
      let has3 : IsLiftedFrom s w t = subst (λ x. IsLiftedFrom s w x) first has2 in
      let have3 : AreLiftedFrom ms those rest = subst (λ zs. AreLiftedFrom ms those zs) tail have2 in
      let theirs = instead (all_resources vs) (resources v ++ all_resources others) (all_resources ws) (resources w ++ all_resources those) xs ys (ap all_resources ev) (ap all_resources ew) r in
      let here = one_data s v w t (all_resources others ++ xs) (all_resources those ++ ys) has has3 (in_turn (resources v) (all_resources others) (resources w) (all_resources those) xs ys theirs) in
      let there = all_data ms others those rest xs ys have have3 here.1 in
      (ap datas ev ∙ (ap₂ (λ d ds. d ∷ ds) here.0 there.0 ∙ sym (ap datas ew)), there.1)

  one_pair : (s : Shape) (p q : Val × Val) (t : Tree) (xs ys : List Any) → PairHas true s p t → PairHas true s q t → both_resources p ++ xs ≡ both_resources q ++ ys → Alike (pair_data p) (pair_data q) xs ys
  one_pair (product l ms) p q t xs ys (ts, et, have) (us, eu, have2) r =
      let same : parts ts ≡ parts us = sym et ∙ eu in
      let trees : us ≡ ts = cc in
      let alone : (z : Val × Val) → both_resources z ≡ all_resources (z.0 ∷ z.1 ∷ []) = λ z. ap (λ zs. resources z.0 ++ zs) (sym (append-nil (resources z.1))) in
      let all = all_data ms (p.0 ∷ p.1 ∷ []) (q.0 ∷ q.1 ∷ []) ts xs ys have (subst (λ zs. AreLiftedFrom ms (q.0 ∷ q.1 ∷ []) zs) trees have2)
      (instead (both_resources p) (all_resources (p.0 ∷ p.1 ∷ [])) (both_resources q) (all_resources (q.0 ∷ q.1 ∷ [])) xs ys (alone p) (alone q) r) in
      let both : data_of p.0 ∷ data_of p.1 ∷ [] ≡ data_of q.0 ∷ data_of q.1 ∷ [] = all.0 in
      let key : data_of p.0 ≡ data_of q.0 = cc in
      let value_of : data_of p.1 ≡ data_of q.1 = cc in
      (ap₂ (λ (d e : Data). (d, e)) key value_of, all.1)
  one_pair (scalar c) p q t xs ys h g r = absurd h
  one_pair string p q t xs ys h g r = absurd h
  one_pair (own i) p q t xs ys h g r = absurd h
  one_pair (borrow i) p q t xs ys h g r = absurd h
  one_pair (list l z) p q t xs ys h g r = absurd h
  one_pair (fixed n z) p q t xs ys h g r = absurd h
  one_pair (variant l cs) p q t xs ys h g r = absurd h
  one_pair (flags names) p q t xs ys h g r = absurd h

  payload_data : (cs : Cases) (d : ℕ) (vs ws : List Val) (ts : Trees) (xs ys : List Any) → CaseHas true cs d vs ts → CaseHas true cs d ws ts → all_resources vs ++ xs ≡ all_resources ws ++ ys → Alike (datas vs) (datas ws) xs ys
  payload_data no_cases d vs ws ts xs ys h g r = absurd h
  payload_data (bare name cs) zero vs ws ts xs ys h g r = (ap datas (h.0 ∙ sym g.0), instead (all_resources vs) [] (all_resources ws) [] xs ys (ap all_resources h.0) (ap all_resources g.0) r)
  payload_data (bare name cs) (suc d) vs ws ts xs ys h g r = payload_data cs d vs ws ts xs ys h g r
  payload_data (payload name s cs) zero vs ws ts xs ys (v, t, ev, et, has) (w, u, ew, eu, has2) r =
      let same : tree t no_trees ≡ tree u no_trees = sym et ∙ eu in
      let first : u ≡ t = cc in
      let theirs = instead (all_resources vs) (resources v) (all_resources ws) (resources w) xs ys (ap all_resources ev ∙ append-nil (resources v)) (ap all_resources ew ∙ append-nil (resources w)) r in
      let here = one_data s v w t xs ys has (subst (λ x. IsLiftedFrom s w x) first has2) theirs in
      (ap datas ev ∙ (ap (λ d. d ∷ []) here.0 ∙ sym (ap datas ew)), here.1)
  payload_data (payload name s cs) (suc d) vs ws ts xs ys h g r = payload_data cs d vs ws ts xs ys h g r

same_data : (ms : Members) (vs ws : List Val) (ts : Trees) → AreLiftedFrom ms vs ts → AreLiftedFrom ms ws ts → all_resources vs ≡ all_resources ws → datas vs ≡ datas ws
same_data ms vs ws ts h g e = (all_data ms vs ws ts [] [] h g (ap (λ zs. zs ++ []) e)).0

pub one_value : OneValue
one_value = record { trees = trees_one; values = values_one; lifted = all_unlifted; one_lifted = same_data }
