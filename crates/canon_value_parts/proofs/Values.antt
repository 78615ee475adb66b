-- Values and their trees: what a value's parts are, and where one fails its type.
use Rattle.std.proofs.Common.{◌≡◌, ◌≤◌, ◌<◌, ◌+◌, ◌∙◌, All, Bool, List, [], ◌∷◌, false, inl, inr, map, refl, subst, subst₂, sym, ℕ, String, Vec, ap, arith, chars, length, pos, rules, string_bytes, suc, zero}
use Rattle.std.specs.Prelude.{Any}
use Rattle.canon_lowering.specs.Copies.{case_members, case_tree}
use Rattle.canon_model.specs.Tree.{Tree, Trees, bits, handle, no_trees, tree, code_point, items, number, parts, text, truth}
use Rattle.canon_value_parts.specs.Fails.{CaseFails, Failure, IsTypeFailure, PairFails, SomeFails, Fails, FailsAt, IsOther, IsOtherScalar}
use Rattle.canon_value_parts.specs.Fails.{field_name, mismatch, overflow, payload_expected, payload_not_expected, too_long, unknown_case, unknown_flag, wrong_length}
use Rattle.canon_val.specs.Value.{CaseHas, EachHas, HasScalar, HasTree, HaveTrees, HaveTreesAs, IsCase, IsFixedListValue, IsFlags, IsItems, IsPairShape}
use Rattle.canon_val.specs.Value.{IsPairs, IsProduct, IsTextValue, Occurs, PairHas, member_names, names_in, no_names, pair_places, places, values_in}
use Rattle.canon_val.specs.declared.val.Val.{Val, out-Val, the_lemmas}
use Rattle.std.proofs.lemmas.Str.{IsUtf8-string_bytes}
use Rattle.std.specs.declared.alloc.Global.{Global}
use Rattle.canon_model.proofs.Texts.{spells_chars, spells_same}
use Rattle.canon_model.specs.Shape.{Cases, Members, Name, ProductKind, Scalar, Shape, VariantKind, bare, bool, borrow, case_count, char, f32, f64, fixed, flags, list, member, member_count}
use Rattle.canon_model.specs.Shape.{no_cases, no_members, of_fields, of_items, of_pairs, of_places, own, payload, product, s16, s32, s64, s8, scalar, string, u16, u32, u64, u8, variant}
use Rattle.canon_model.specs.Text.{Spells, in_utf8}
use Rattle.canon_value_parts.specs.Laws.{FailureExcludes, FailuresAreAll}
use Rattle.canon_val.specs.declared.val.Val.TheOpen.{Val-F as F}
use Rattle.canon_val.specs.declared.val.Val.TheVariants as val
use Rattle.canon_value_parts.proofs.Cases.{case_below, has_case, one_case, other_case, payload_few}
use Rattle.canon_value_parts.proofs.MapsAndFlags.{any_order, all_or_any, all_or_none, are_marked, one_flags, one_pairs}
use Rattle.canon_value_parts.proofs.HandleFails.{borrow_fails, own_fails}

-- ---- values in a row: where one fails

-- where one that fails has no tree, values in a row of which one fails have none
pub some_fails : {A : Type 0} → (count : A → ℕ) (F : A → ℕ → Type 0) (Has : A → Tree → Type 0) → ((v : A) (k : ℕ) (t : Tree) → F v k → Has v t → ⊥)
    → (vs : List A) (k : ℕ) (ts : Trees) → SomeFails count F vs k → EachHas Has vs ts → ⊥
some_fails count F Has one [] k ts f h = f
some_fails count F Has one (v ∷ vs) k ts (inl f) (t, rest, et, has, have) = one v k t f has
some_fails count F Has one (v ∷ vs) k ts (inr (j, e, f)) (t, rest, et, has, have) = some_fails count F Has one vs j rest f have

-- where it isn't so that one that fails nowhere has no tree, the same goes for values in a row
pub none_fail : {A : Type 0} → (count : A → ℕ) (F : Failure → A → ℕ → Type 0) (Has : A → Tree → Type 0)
    → ((v : A) → ((how : Failure) (k : ℕ) → IsTypeFailure how → F how v k → ⊥) → ((t : Tree) → Has v t → ⊥) → ⊥)
    → (vs : List A) → ((how : Failure) (k : ℕ) → IsTypeFailure how → SomeFails count (F how) vs k → ⊥) → ((ts : Trees) → EachHas Has vs ts → ⊥) → ⊥
none_fail count F Has one [] f h = h no_trees refl
none_fail count F Has one (v ∷ vs) f h =
    none_fail count F Has one vs (λ how k is g. f how (count v + k) is (inr (k, refl, g)))
    (λ rest have. one v (λ how k is g. f how k is (inl g)) (λ t has. h (tree t rest) (t, rest, refl, has, have)))

-- there are as many values as members
pub have_count : (lifted : Bool) (ms : Members) (vs : List Val) (ts : Trees) → HaveTreesAs lifted ms vs ts → length vs ≡ member_count ms
have_count lifted no_members vs ts h = ap length h.0
have_count lifted (member name s ms) vs ts (v, others, t, rest, ev, et, has, have) = ap length ev ∙ ap suc (have_count lifted ms others rest have)

-- ---- records and tuples

same_fields : (fs gs : Vec (String Global × Val) Global) → val.Record fs ≡ val.Record gs → fs ≡ gs
same_fields fs gs e =
    let f : out-Val (val.Record fs) ≡ F.Record fs = search (rules, the_lemmas) in
    let g : out-Val (val.Record gs) ≡ F.Record gs = search (rules, the_lemmas) in
    let h : F.Record fs ≡ F.Record gs = sym f ∙ (ap out-Val e ∙ g) in cc

same_members : (xs ys : Vec Val Global) → val.Tuple xs ≡ val.Tuple ys → xs ≡ ys
same_members xs ys e =
    let f : out-Val (val.Tuple xs) ≡ F.Tuple xs = search (rules, the_lemmas) in
    let g : out-Val (val.Tuple ys) ≡ F.Tuple ys = search (rules, the_lemmas) in
    let h : F.Tuple xs ≡ F.Tuple ys = sym f ∙ (ap out-Val e ∙ g) in cc

pub product_names : (k : ProductKind) (names others : List Name) (vs ws : List Val) (v : Val) → IsProduct k names vs v → IsProduct k others ws v → names ≡ others
product_names of_fields names others vs ws v (fs, e, en, ev) (gs, e2, en2, ev2) = en ∙ (ap (λ (xs : Vec (String Global × Val) Global). names_in xs.items) (same_fields fs gs (sym e ∙ e2)) ∙ sym en2)
product_names of_places names others vs ws v (xs, e, en, ev) (ys, e2, en2, ev2) = en ∙ (ap (λ (zs : Vec Val Global). no_names zs.items) (same_members xs ys (sym e ∙ e2)) ∙ sym en2)

pub product_values : (k : ProductKind) (names others : List Name) (vs ws : List Val) (v : Val) → IsProduct k names vs v → IsProduct k others ws v → vs ≡ ws
product_values of_fields names others vs ws v (fs, e, en, ev) (gs, e2, en2, ev2) = ev ∙ (ap (λ (xs : Vec (String Global × Val) Global). values_in xs.items) (same_fields fs gs (sym e ∙ e2)) ∙ sym ev2)
product_values of_places names others vs ws v (xs, e, en, ev) (ys, e2, en2, ev2) = ev ∙ (ap (λ (zs : Vec Val Global). zs.items) (same_members xs ys (sym e ∙ e2)) ∙ sym ev2)

-- ---- texts and lists

same_items : (xs ys : Vec Val Global) → val.List xs ≡ val.List ys → xs ≡ ys
same_items xs ys e =
    let f : out-Val (val.List xs) ≡ F.List xs = search (rules, the_lemmas) in
    let g : out-Val (val.List ys) ≡ F.List ys = search (rules, the_lemmas) in
    let h : F.List xs ≡ F.List ys = sym f ∙ (ap out-Val e ∙ g) in cc

same_fixed : (xs ys : Vec Val Global) → val.FixedLengthList xs ≡ val.FixedLengthList ys → xs ≡ ys
same_fixed xs ys e =
    let f : out-Val (val.FixedLengthList xs) ≡ F.FixedLengthList xs = search (rules, the_lemmas) in
    let g : out-Val (val.FixedLengthList ys) ≡ F.FixedLengthList ys = search (rules, the_lemmas) in
    let h : F.FixedLengthList xs ≡ F.FixedLengthList ys = sym f ∙ (ap out-Val e ∙ g) in cc

pub list_values : (vs ws : List Val) (v : Val) → IsItems vs v → IsItems ws v → vs ≡ ws
list_values vs ws v (xs, e, ev) (ys, e2, ev2) = ev ∙ (ap (λ (zs : Vec Val Global). zs.items) (same_items xs ys (sym e ∙ e2)) ∙ sym ev2)

pub fixed_values : (vs ws : List Val) (v : Val) → IsFixedListValue vs v → IsFixedListValue ws v → vs ≡ ws
fixed_values vs ws v (xs, e, ev) (ys, e2, ev2) = ev ∙ (ap (λ (zs : Vec Val Global). zs.items) (same_fixed xs ys (sym e ∙ e2)) ∙ sym ev2)

-- a value is one text
pub text_scalars : (cs ds : List ℕ) (v : Val) → IsTextValue cs v → IsTextValue ds v → cs ≡ ds
text_scalars cs ds v (s, e, h) (r, f, g) =
    let same : val.String s ≡ val.String r = sym e ∙ f in
    let d : r ≡ s = cc in
    spells_same in_utf8 (string_bytes s) cs ds h (subst (λ (x : String Global). Spells in_utf8 (string_bytes x) ds) d g)

-- ---- failures

other_scalar : (k : Scalar) (v : Val) (t : Tree) → IsOtherScalar k v → HasScalar k v t → ⊥
other_scalar bool v t o h = o h.0 h.1
other_scalar s8 v t o h = o h.0 h.1
other_scalar u8 v t o h = o h.0 h.1
other_scalar s16 v t o h = o h.0 h.1
other_scalar u16 v t o h = o h.0 h.1
other_scalar s32 v t o h = o h.0 h.1
other_scalar u32 v t o h = o h.0 h.1
other_scalar s64 v t o h = o h.0 h.1
other_scalar u64 v t o h = o h.0 h.1
other_scalar f32 v t o h = o h.0 h.1
other_scalar f64 v t o h = o h.0 h.1
other_scalar char v t o h = o h.0 h.1

product_fails : (how : Failure) (k : ProductKind) (ms : Members) (v : Val) (vs : List Val) → Fails how (product k ms) v → IsProduct k (member_names ms) vs v → length vs ≡ member_count ms → ⊥
product_fails mismatch k ms v vs f p e = f (member_names ms) vs p
product_fails wrong_length k ms v vs (names, ws, q, ne) p e = ne (ap length (product_values k names (member_names ms) ws vs v q p) ∙ e)
product_fails field_name k ms v vs (names, ws, q, e2, ne) p e = ne (product_names k names (member_names ms) ws vs v q p)
product_fails unknown_case k ms v vs f p e = f
product_fails unknown_flag k ms v vs f p e = f
product_fails payload_expected k ms v vs f p e = f
product_fails payload_not_expected k ms v vs f p e = f
product_fails (too_long enc n) k ms v vs f p e = f
product_fails (overflow n) k ms v vs f p e = f

scalar_fails : (how : Failure) (k : Scalar) (v : Val) (t : Tree) → Fails how (scalar k) v → HasScalar k v t → ⊥
scalar_fails mismatch k v t f h = other_scalar k v t f h
scalar_fails wrong_length k v t f h = f
scalar_fails field_name k v t f h = f
scalar_fails unknown_case k v t f h = f
scalar_fails unknown_flag k v t f h = f
scalar_fails payload_expected k v t f h = f
scalar_fails payload_not_expected k v t f h = f
scalar_fails (too_long enc n) k v t f h = f
scalar_fails (overflow n) k v t f h = f

text_fails : (how : Failure) (cs : List ℕ) (v : Val) → IsTypeFailure how → Fails how string v → IsTextValue cs v → ⊥
text_fails mismatch cs v is f h = f h.0 h.1
text_fails wrong_length cs v is f h = f
text_fails field_name cs v is f h = f
text_fails unknown_case cs v is f h = f
text_fails unknown_flag cs v is f h = f
text_fails payload_expected cs v is f h = f
text_fails payload_not_expected cs v is f h = f
text_fails (too_long enc n) cs v is f h = is
text_fails (overflow n) cs v is f h = f

list_fails : (how : Failure) (s : Shape) (v : Val) (vs : List Val) → IsTypeFailure how → Fails how (list of_items s) v → IsItems vs v → ⊥
list_fails mismatch s v vs is f p = f p.0 p.1
list_fails wrong_length s v vs is f p = f
list_fails field_name s v vs is f p = f
list_fails unknown_case s v vs is f p = f
list_fails unknown_flag s v vs is f p = f
list_fails payload_expected s v vs is f p = f
list_fails payload_not_expected s v vs is f p = f
list_fails (too_long enc n) s v vs is f p = f
list_fails (overflow n) s v vs is f p = is

fixed_fails : (how : Failure) (n : ℕ) (s : Shape) (v : Val) (vs : List Val) → Fails how (fixed n s) v → IsFixedListValue vs v → length vs ≡ n → ⊥
fixed_fails mismatch n s v vs f p e = f p.0 p.1
fixed_fails wrong_length n s v vs (ws, q, ne) p e = ne (ap length (fixed_values ws vs v q p) ∙ e)
fixed_fails field_name n s v vs f p e = f
fixed_fails unknown_case n s v vs f p e = f
fixed_fails unknown_flag n s v vs f p e = f
fixed_fails payload_expected n s v vs f p e = f
fixed_fails payload_not_expected n s v vs f p e = f
fixed_fails (too_long enc k) n s v vs f p e = f
fixed_fails (overflow k) n s v vs f p e = f

pairs_fail : (how : Failure) (s : Shape) (v : Val) (ps : List (Val × Val)) → IsTypeFailure how → Fails how (list of_pairs s) v → IsPairShape s → IsPairs ps v → ⊥
pairs_fail mismatch s v ps is (inl f) shape p = f p.0 p.1
pairs_fail mismatch s v ps is (inr f) shape p = f shape
pairs_fail wrong_length s v ps is f shape p = f
pairs_fail field_name s v ps is f shape p = f
pairs_fail unknown_case s v ps is f shape p = f
pairs_fail unknown_flag s v ps is f shape p = f
pairs_fail payload_expected s v ps is f shape p = f
pairs_fail payload_not_expected s v ps is f shape p = f
pairs_fail (too_long enc n) s v ps is f shape p = f
pairs_fail (overflow n) s v ps is f shape p = is

-- where a value is case d, it has one payload or none as its case
payload_count : (l : VariantKind) (cs : Cases) (d e : ℕ) (v : Val) (vs ws : List Val) (ts : Trees) → IsCase l cs d vs v → IsCase l cs e ws v → CaseHas false cs d vs ts → length ws ≡ member_count (case_members cs e)
payload_count l cs d e v vs ws ts p q have =
    let same = one_case l cs e d ws vs v q p in
    ap length (sym same.1) ∙ (have_count false (case_members cs d) vs ts (has_case false cs d vs ts have) ∙ ap (λ n. member_count (case_members cs n)) same.0)

variant_fails : (how : Failure) (l : VariantKind) (cs : Cases) (d : ℕ) (v : Val) (vs : List Val) (ts : Trees) → Fails how (variant l cs) v → IsCase l cs d vs v → CaseHas false cs d vs ts → ⊥
variant_fails mismatch l cs d v vs ts f p have = other_case l cs d v vs f p
variant_fails wrong_length l cs d v vs ts f p have = f
variant_fails field_name l cs d v vs ts f p have = f
variant_fails unknown_case l cs d v vs ts (not, none) p have = none d vs p
variant_fails unknown_flag l cs d v vs ts f p have = f
variant_fails payload_expected l cs d v vs ts (e, q, one) p have = let none : 0 ≡ member_count (case_members cs e) = payload_count l cs d e v vs [] ts p q have in absurd (omega (arith, none, one))
variant_fails payload_not_expected l cs d v vs ts (e, w, q, none) p have = let one : 1 ≡ member_count (case_members cs e) = payload_count l cs d e v vs (w ∷ []) ts p q have in absurd (omega (arith, none, one))
variant_fails (too_long enc n) l cs d v vs ts f p have = f
variant_fails (overflow n) l cs d v vs ts f p have = f

flags_fail : (how : Failure) (names set : List Name) (v : Val) → Fails how (flags names) v → IsFlags set v → All (λ n. Occurs n names) set → ⊥
flags_fail mismatch names set v f p all = f p.0 p.1
flags_fail wrong_length names set v f p all = f
flags_fail field_name names set v f p all = f
flags_fail unknown_case names set v f p all = f
flags_fail unknown_flag names set v (other, q, any) p all = all_or_none (λ n. Occurs n names) set all (subst (λ xs. Any (λ n. ¬ Occurs n names) xs) (one_flags set other v p q) any)
flags_fail payload_expected names set v f p all = f
flags_fail payload_not_expected names set v f p all = f
flags_fail (too_long enc n) names set v f p all = f
flags_fail (overflow n) names set v f p all = f

mutual
  value_fails : (how : Failure) (s : Shape) (v : Val) (k : ℕ) (t : Tree) → IsTypeFailure how → FailsAt how s v k → HasTree s v t → ⊥
  value_fails how (scalar c) v k t is f h = scalar_fails how c v t f.1 h
  value_fails how (product l ms) v k t is (inl f) (vs, ts, p, et, have) = product_fails how l ms v vs f.1 p (have_count false ms vs ts have)
  value_fails how (product l ms) v k t is (inr (names, ws, j, q, e, ek, f)) (vs, ts, p, et, have) =
      failure_excludes how ms ws j ts is f (subst (λ xs. HaveTrees ms xs ts) (product_values l (member_names ms) names vs ws v p q) have)
  value_fails how string v k t is f h = text_fails how h.0 v is f.1 h.2
  value_fails how (own r) v k t is f (x, h, e, et) = own_fails how r v x f.1 e
  value_fails how (borrow r) v k t is f (x, h, e, et) = borrow_fails how r v x f.1 e
  value_fails how (list of_pairs s) v k t is (inl f) (shape, (ps, ts, p, et, have)) = pairs_fail how s v ps is f.1 shape p
  value_fails how (list of_pairs s) v k t is (inr (qs, j, q, ek, f)) (shape, (ps, ts, p, et, have)) =
      let have2 : EachHas (PairHas false s) qs ts = subst (λ xs. EachHas (PairHas false s) xs ts) (sym (one_pairs ps qs v p q)) have in
      some_fails pair_places (PairFails how s) (PairHas false s) (λ w i u g h. pair_fails how s w i u is g h) qs j ts f have2
  value_fails how (list of_items s) v k t is (inl f) (vs, ts, p, et, have) = list_fails how s v vs is f.1 p
  value_fails how (list of_items s) v k t is (inr (ws, j, q, ek, f)) (vs, ts, p, et, have) =
      let have2 : EachHas (HasTree s) ws ts = subst (λ xs. EachHas (HasTree s) xs ts) (list_values vs ws v p q) have in
      some_fails places (FailsAt how s) (HasTree s) (λ w i u g h. value_fails how s w i u is g h) ws j ts f have2
  value_fails how (fixed n s) v k t is (inl f) (vs, ts, p, l, et, have) = fixed_fails how n s v vs f.1 p l
  value_fails how (fixed n s) v k t is (inr (ws, j, q, l2, ek, f)) (vs, ts, p, l, et, have) =
      let have2 : EachHas (HasTree s) ws ts = subst (λ xs. EachHas (HasTree s) xs ts) (fixed_values vs ws v p q) have in
      some_fails places (FailsAt how s) (HasTree s) (λ w i u g h. value_fails how s w i u is g h) ws j ts f have2
  value_fails how (variant l cs) v k t is (inl f) (d, vs, ts, p, et, have) = variant_fails how l cs d v vs ts f.1 p have
  value_fails how (variant l cs) v k t is (inr (e, ws, j, q, ek, f)) (d, vs, ts, p, et, have) =
      let same = one_case l cs e d ws vs v q p in
      case_excludes how cs e ws j ts is f (subst₂ (λ n xs. CaseHas false cs n xs ts) same.0 same.1 have)
  value_fails how (flags names) v k t is f (set, bs, p, all, et, marked, order) = flags_fail how names set v f.1 p all

  pub failure_excludes : FailureExcludes
  failure_excludes how no_members vs k ts is f h = f
  failure_excludes how (member name s ms) [] k ts is f h = f
  failure_excludes how (member name s ms) (v ∷ vs) k ts is (inl f) (w, those, u, last, ew, eu, has, have) =
      let first : w ≡ v = cc in
      value_fails how s v k u is f (subst (λ x. HasTree s x u) first has)
  failure_excludes how (member name s ms) (v ∷ vs) k ts is (inr (j, e, f)) (w, those, u, last, ew, eu, has, have) =
      let tail : those ≡ vs = cc in
      failure_excludes how ms vs j last is f (subst (λ xs. HaveTrees ms xs last) tail have)

  pair_fails : (how : Failure) (s : Shape) (p : Val × Val) (k : ℕ) (t : Tree) → IsTypeFailure how → PairFails how s p k → PairHas false s p t → ⊥
  pair_fails how (product l ms) p k t is f (ts, et, have) = failure_excludes how ms (p.0 ∷ p.1 ∷ []) k ts is f have
  pair_fails how (scalar c) p k t is f h = h
  pair_fails how string p k t is f h = h
  pair_fails how (own r) p k t is f h = h
  pair_fails how (borrow r) p k t is f h = h
  pair_fails how (list l z) p k t is f h = h
  pair_fails how (fixed n z) p k t is f h = h
  pair_fails how (variant l cs) p k t is f h = h
  pair_fails how (flags names) p k t is f h = h

  case_excludes : (how : Failure) (cs : Cases) (d : ℕ) (vs : List Val) (k : ℕ) (ts : Trees) → IsTypeFailure how → CaseFails how cs d vs k → CaseHas false cs d vs ts → ⊥
  case_excludes how no_cases d vs k ts is f h = f
  case_excludes how (bare name cs) zero vs k ts is f h = f
  case_excludes how (bare name cs) (suc d) vs k ts is f h = case_excludes how cs d vs k ts is f h
  case_excludes how (payload name s cs) zero [] k ts is f h = f
  case_excludes how (payload name s cs) zero (v ∷ vs) k ts is f (w, u, ew, eu, has) =
      let first : w ≡ v = cc in
      value_fails how s v k u is f (subst (λ x. HasTree s x u) first has)
  case_excludes how (payload name s cs) (suc d) vs k ts is f h = case_excludes how cs d vs k ts is f h

none_scalar : (k : Scalar) (v : Val) → ((t : Tree) → HasScalar k v t → ⊥) → IsOtherScalar k v
none_scalar bool v h = λ x e. h (truth x) (x, e, refl)
none_scalar s8 v h = λ x e. h (number x) (x, e, refl)
none_scalar u8 v h = λ x e. h (number (pos x)) (x, e, refl)
none_scalar s16 v h = λ x e. h (number x) (x, e, refl)
none_scalar u16 v h = λ x e. h (number (pos x)) (x, e, refl)
none_scalar s32 v h = λ x e. h (number x) (x, e, refl)
none_scalar u32 v h = λ x e. h (number (pos x)) (x, e, refl)
none_scalar s64 v h = λ x e. h (number x) (x, e, refl)
none_scalar u64 v h = λ x e. h (number (pos x)) (x, e, refl)
none_scalar f32 v h = λ x e. h (number (pos x)) (x, e, refl)
none_scalar f64 v h = λ x e. h (number (pos x)) (x, e, refl)
none_scalar char v h = λ x e. h (code_point x) (x, e, refl)

none_text : (v : Val) → ((t : Tree) → HasTree string v t → ⊥) → IsOther string v
none_text v h = λ s e.
    let cs : List ℕ = chars (string_bytes s) in
    h (text cs 0) (cs, 0, (s, e, spells_chars (string_bytes s) (IsUtf8-string_bytes s)), refl)

mutual
  none_fails : (s : Shape) (v : Val) → ((how : Failure) (k : ℕ) → IsTypeFailure how → FailsAt how s v k → ⊥) → ((t : Tree) → HasTree s v t → ⊥) → ⊥
  none_fails (scalar c) v f h = f mismatch 0 tt (refl, none_scalar c v h)
  none_fails (product l ms) v f h = f mismatch 0 tt (inl (
    refl,
    λ names vs p.
        f wrong_length 0 tt (inl (
          refl,
          (
            names,
            vs,
            p,
            λ (e : length vs ≡ member_count ms).
                f field_name 0 tt (inl (
                  refl,
                  (
                    names,
                    vs,
                    p,
                    e,
                    λ (en : names ≡ member_names ms).
                        failures_are_all ms vs e (λ how j is g. f how (1 + j) is (inr (names, vs, j, p, e, refl, g)))
                        (λ ts have. h (parts ts) (vs, ts, subst (λ (xs : List Name). IsProduct l xs vs v) en p, refl, have)),
                  ),
                )),
          ),
        )),
  ))
  none_fails string v f h = f mismatch 0 tt (refl, none_text v h)
  none_fails (own r) v f h = f mismatch 0 tt (refl, λ x e. h (handle 0) (x, 0, e, refl))
  none_fails (borrow r) v f h = f mismatch 0 tt (refl, λ x e. h (handle 0) (x, 0, e, refl))
  none_fails (list of_pairs s) v f h = f mismatch 0 tt (inl (
    refl,
    inr (λ shape.
        f mismatch 0 tt (inl (
          refl,
          inl (λ entries e.
              let ps : List (Val × Val) = entries.items in
              none_fail pair_places (λ how p k. PairFails how s p k) (PairHas false s) (λ p g k. pair_none s p shape g k) ps
              (λ how j is g. f how (1 + j) is (inr (ps, j, (entries, e, refl), refl, g)))
              (λ ts have. h (items ts) (shape, (ps, ts, (entries, e, refl), refl, have)))),
        ))),
  ))
  none_fails (list of_items s) v f h = f mismatch 0 tt (inl (
    refl,
    λ members e.
        let vs : List Val = members.items in
        none_fail places (λ how w k. FailsAt how s w k) (HasTree s) (λ w g k. none_fails s w g k) vs
        (λ how j is g. f how (1 + j) is (inr (vs, j, (members, e, refl), refl, g)))
        (λ ts have. h (items ts) (vs, ts, (members, e, refl), refl, have)),
  ))
  none_fails (fixed n s) v f h = f mismatch 0 tt (inl (
    refl,
    λ members e.
        let vs : List Val = members.items in
        f wrong_length 0 tt (inl (
          refl,
          (
            vs,
            (members, e, refl),
            λ (l : length vs ≡ n).
                none_fail places (λ how w k. FailsAt how s w k) (HasTree s) (λ w g k. none_fails s w g k) vs
                (λ how j is g. f how (1 + j) is (inr (vs, j, (members, e, refl), l, refl, g)))
                (λ ts have. h (parts ts) (vs, ts, (members, e, refl), l, refl, have)),
          ),
        )),
  ))
  none_fails (variant l cs) v f h = f unknown_case 0 tt (inl (
    refl,
    (
      λ other. f mismatch 0 tt (inl (refl, other)),
      λ d vs p.
          case_none cs d vs (case_below l cs d vs v p) (payload_few l cs d vs v p)
          (λ none one. f payload_expected 0 tt (inl (refl, (d, subst (λ xs. IsCase l cs d xs v) none p, one))))
          (λ w one none. f payload_not_expected 0 tt (inl (refl, (d, w, subst (λ xs. IsCase l cs d xs v) one p, none))))
          (λ how j is g. f how (1 + j) is (inr (d, vs, j, p, refl, g)))
          (λ ts have. h (case_tree d ts) (d, vs, ts, p, refl, have)),
    ),
  ))
  none_fails (flags names) v f h = f mismatch 0 tt (
    refl,
    λ given e.
        let set : List Name = map (λ x. string_bytes x) given.items in
        all_or_any (λ n. Occurs n names) set (λ any. f unknown_flag 0 tt (refl, (set, (given, e, refl), any)))
        (λ all. are_marked set names (λ bs marked. h (bits bs) (set, bs, (given, e, refl), all, refl, marked, λ lifted. any_order lifted))),
  )

  pub failures_are_all : FailuresAreAll
  failures_are_all no_members [] e f h = h no_trees (refl, refl)
  failures_are_all no_members (v ∷ vs) e f h = cc
  failures_are_all (member name s ms) [] e f h = cc
  failures_are_all (member name s ms) (v ∷ vs) e f h =
      failures_are_all ms vs (omega (arith, e)) (λ how k is g. f how (places v + k) is (inr (k, refl, g)))
      (λ rest have. none_fails s v (λ how k is g. f how k is (inl g)) (λ t has. h (tree t rest) (v, vs, t, rest, refl, refl, has, have)))

  pair_none : (s : Shape) (p : Val × Val) → IsPairShape s → ((how : Failure) (k : ℕ) → IsTypeFailure how → PairFails how s p k → ⊥) → ((t : Tree) → PairHas false s p t → ⊥) → ⊥
  pair_none (product l ms) p two f h = failures_are_all ms (p.0 ∷ p.1 ∷ []) (sym two) f (λ ts have. h (parts ts) (ts, refl, have))
  pair_none (scalar c) p shape f h = shape
  pair_none string p shape f h = shape
  pair_none (own r) p shape f h = shape
  pair_none (borrow r) p shape f h = shape
  pair_none (list l z) p shape f h = shape
  pair_none (fixed n z) p shape f h = shape
  pair_none (variant l cs) p shape f h = shape
  pair_none (flags names) p shape f h = shape

  case_none : (cs : Cases) (d : ℕ) (vs : List Val) → d < case_count cs → length vs ≤ 1 → (vs ≡ [] → member_count (case_members cs d) ≡ 1 → ⊥)
      → ((w : Val) → vs ≡ w ∷ [] → member_count (case_members cs d) ≡ 0 → ⊥) → ((how : Failure) (k : ℕ) → IsTypeFailure how → CaseFails how cs d vs k → ⊥) → ((ts : Trees) → CaseHas false cs d vs ts → ⊥) → ⊥
  case_none no_cases d vs lt few a b f h = omega (arith, lt)
  case_none (bare name cs) zero [] lt few a b f h = h no_trees (refl, refl)
  case_none (bare name cs) zero (w ∷ []) lt few a b f h = b w refl refl
  case_none (bare name cs) zero (w ∷ x ∷ vs) lt few a b f h = omega (arith, few)
  case_none (bare name cs) (suc d) vs lt few a b f h = case_none cs d vs (omega (arith, lt)) few a b f h
  case_none (payload name s cs) zero [] lt few a b f h = a refl refl
  case_none (payload name s cs) zero (w ∷ []) lt few a b f h = none_fails s w f (λ t has. h (tree t no_trees) (w, t, refl, refl, has))
  case_none (payload name s cs) zero (w ∷ x ∷ vs) lt few a b f h = omega (arith, few)
  case_none (payload name s cs) (suc d) vs lt few a b f h = case_none cs d vs (omega (arith, lt)) few a b f h
