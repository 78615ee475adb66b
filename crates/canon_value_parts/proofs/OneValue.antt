-- Values have one list of trees, but for spelled lengths, and trees are those of one list of values.
use Rattle.std.proofs.Common.{◌≡◌, ◌∙◌, List, [], ◌∷◌, ap, false, pos, refl, subst, subst₂, suc, sym, zero, ℕ}
use Rattle.canon_lowering.proofs.AimedCases.{number_of}
use Rattle.canon_lowering.specs.Copies.{case_tree, payload_trees}
use Rattle.canon_model.proofs.Images.{carried_itself}
use Rattle.canon_model.specs.Same.{Carried, CarriedTrees}
use Rattle.canon_model.specs.Shape.{Cases, Members, Scalar, Shape, bare, bool, borrow, char, f32, f64, fixed, flags, list, member, no_cases, no_members}
use Rattle.canon_model.specs.Shape.{of_items, of_pairs, own, payload, product, s16, s32, s64, s8, scalar, string, u16, u32, u64, u8, variant}
use Rattle.canon_model.specs.Tree.{Tree, Trees, bits, case_number, code_point, items, no_trees, number, parts, text, tree, truth}
use Rattle.canon_val.specs.Value.{AreMarked, AreSame, CaseHas, CaseSame, EachHas, EachSame, HasScalar, HasTree, HaveTrees, IsCase, IsSame, IsTextValue, PairHas, PairSame, member_names}
use Rattle.canon_val.specs.declared.val.Val.{Val}
use Rattle.canon_val.specs.declared.val.Val.TheVariants as val
use Rattle.canon_value_parts.proofs.Cases.{case_back, case_carried, one_case}
use Rattle.canon_value_parts.proofs.MapsAndFlags.{marked_once, marked_too, one_flags, one_pairs}
use Rattle.canon_value_parts.proofs.Values.{fixed_values, list_values, product_values, text_scalars}

-- ---- values in a row

-- where a value has one tree, but for spelled lengths, values in a row have one list of them
pub each_carried : {A : Type 0} → (Has : A → Tree → Type 0) → ((v : A) (t u : Tree) → Has v t → Has v u → Carried t u)
    → (vs : List A) (ts us : Trees) → EachHas Has vs ts → EachHas Has vs us → CarriedTrees ts us
each_carried Has one [] ts us h g = subst₂ CarriedTrees (sym h) (sym g) refl
each_carried Has one (v ∷ vs) ts us (t, rest, et, has, have) (u, last, eu, has2, have2) =
    subst₂ CarriedTrees (sym et) (sym eu) (u, last, refl, one v t u has has2, each_carried Has one vs rest last have have2)

-- where a tree is that of one value, trees are those of one list of values
pub each_same : {A : Type 0} → (Has : A → Tree → Type 0) (Same : A → A → Type 0) → ((v w : A) (t : Tree) → Has v t → Has w t → Same v w)
    → (vs ws : List A) (ts : Trees) → EachHas Has vs ts → EachHas Has ws ts → EachSame Same vs ws
each_same Has Same one [] [] ts h g = refl
each_same Has Same one [] (w ∷ ws) ts h (u, last, eu, has2, have2) = let wrong : no_trees ≡ tree u last = sym h ∙ eu in cc
each_same Has Same one (v ∷ vs) [] ts (t, rest, et, has, have) g = let wrong : no_trees ≡ tree t rest = sym g ∙ et in cc
each_same Has Same one (v ∷ vs) (w ∷ ws) ts (t, rest, et, has, have) (u, last, eu, has2, have2) =
    let same : tree t rest ≡ tree u last = sym et ∙ eu in
    let first : u ≡ t = cc in
    let tail : last ≡ rest = cc in
    (w, ws, refl, one v w t has (subst (Has w) first has2), each_same Has Same one vs ws rest have (subst (EachHas Has ws) tail have2))

-- ---- one tree, one value

scalar_tree : (k : Scalar) (v : Val) (t u : Tree) → HasScalar k v t → HasScalar k v u → t ≡ u
scalar_tree bool v t u (b, e, f) (c, g, h) = let same : val.Bool b ≡ val.Bool c = sym e ∙ g in let d : b ≡ c = cc in f ∙ (ap truth d ∙ sym h)
scalar_tree s8 v t u (b, e, f) (c, g, h) = let same : val.S8 b ≡ val.S8 c = sym e ∙ g in let d : b ≡ c = cc in f ∙ (ap number d ∙ sym h)
scalar_tree u8 v t u (b, e, f) (c, g, h) = let same : val.U8 b ≡ val.U8 c = sym e ∙ g in let d : b ≡ c = cc in f ∙ (ap (λ n. number (pos n)) d ∙ sym h)
scalar_tree s16 v t u (b, e, f) (c, g, h) = let same : val.S16 b ≡ val.S16 c = sym e ∙ g in let d : b ≡ c = cc in f ∙ (ap number d ∙ sym h)
scalar_tree u16 v t u (b, e, f) (c, g, h) = let same : val.U16 b ≡ val.U16 c = sym e ∙ g in let d : b ≡ c = cc in f ∙ (ap (λ n. number (pos n)) d ∙ sym h)
scalar_tree s32 v t u (b, e, f) (c, g, h) = let same : val.S32 b ≡ val.S32 c = sym e ∙ g in let d : b ≡ c = cc in f ∙ (ap number d ∙ sym h)
scalar_tree u32 v t u (b, e, f) (c, g, h) = let same : val.U32 b ≡ val.U32 c = sym e ∙ g in let d : b ≡ c = cc in f ∙ (ap (λ n. number (pos n)) d ∙ sym h)
scalar_tree s64 v t u (b, e, f) (c, g, h) = let same : val.S64 b ≡ val.S64 c = sym e ∙ g in let d : b ≡ c = cc in f ∙ (ap number d ∙ sym h)
scalar_tree u64 v t u (b, e, f) (c, g, h) = let same : val.U64 b ≡ val.U64 c = sym e ∙ g in let d : b ≡ c = cc in f ∙ (ap (λ n. number (pos n)) d ∙ sym h)
scalar_tree f32 v t u (b, e, f) (c, g, h) = let same : val.Float32 b ≡ val.Float32 c = sym e ∙ g in let d : b ≡ c = cc in f ∙ (ap (λ n. number (pos n)) d ∙ sym h)
scalar_tree f64 v t u (b, e, f) (c, g, h) = let same : val.Float64 b ≡ val.Float64 c = sym e ∙ g in let d : b ≡ c = cc in f ∙ (ap (λ n. number (pos n)) d ∙ sym h)
scalar_tree char v t u (b, e, f) (c, g, h) = let same : val.Char b ≡ val.Char c = sym e ∙ g in let d : b ≡ c = cc in f ∙ (ap code_point d ∙ sym h)

pub scalar_value : (k : Scalar) (v w : Val) (t : Tree) → HasScalar k v t → HasScalar k w t → v ≡ w
scalar_value bool v w t (b, e, f) (c, g, h) = let same : truth b ≡ truth c = sym f ∙ h in let d : b ≡ c = cc in e ∙ (ap val.Bool d ∙ sym g)
scalar_value s8 v w t (b, e, f) (c, g, h) = let same : number b ≡ number c = sym f ∙ h in let d : b ≡ c = cc in e ∙ (ap val.S8 d ∙ sym g)
scalar_value u8 v w t (b, e, f) (c, g, h) = let same : number (pos b) ≡ number (pos c) = sym f ∙ h in let d : b ≡ c = cc in e ∙ (ap val.U8 d ∙ sym g)
scalar_value s16 v w t (b, e, f) (c, g, h) = let same : number b ≡ number c = sym f ∙ h in let d : b ≡ c = cc in e ∙ (ap val.S16 d ∙ sym g)
scalar_value u16 v w t (b, e, f) (c, g, h) = let same : number (pos b) ≡ number (pos c) = sym f ∙ h in let d : b ≡ c = cc in e ∙ (ap val.U16 d ∙ sym g)
scalar_value s32 v w t (b, e, f) (c, g, h) = let same : number b ≡ number c = sym f ∙ h in let d : b ≡ c = cc in e ∙ (ap val.S32 d ∙ sym g)
scalar_value u32 v w t (b, e, f) (c, g, h) = let same : number (pos b) ≡ number (pos c) = sym f ∙ h in let d : b ≡ c = cc in e ∙ (ap val.U32 d ∙ sym g)
scalar_value s64 v w t (b, e, f) (c, g, h) = let same : number b ≡ number c = sym f ∙ h in let d : b ≡ c = cc in e ∙ (ap val.S64 d ∙ sym g)
scalar_value u64 v w t (b, e, f) (c, g, h) = let same : number (pos b) ≡ number (pos c) = sym f ∙ h in let d : b ≡ c = cc in e ∙ (ap val.U64 d ∙ sym g)
scalar_value f32 v w t (b, e, f) (c, g, h) = let same : number (pos b) ≡ number (pos c) = sym f ∙ h in let d : b ≡ c = cc in e ∙ (ap val.Float32 d ∙ sym g)
scalar_value f64 v w t (b, e, f) (c, g, h) = let same : number (pos b) ≡ number (pos c) = sym f ∙ h in let d : b ≡ c = cc in e ∙ (ap val.Float64 d ∙ sym g)
scalar_value char v w t (b, e, f) (c, g, h) = let same : code_point b ≡ code_point c = sym f ∙ h in let d : b ≡ c = cc in e ∙ (ap val.Char d ∙ sym g)

mutual
  pub tree_one : (s : Shape) (v : Val) (t u : Tree) → HasTree s v t → HasTree s v u → Carried t u
  tree_one (scalar k) v t u h g = subst (Carried t) (scalar_tree k v t u h g) (carried_itself t)
  tree_one (product k ms) v t u (vs, ts, p, et, have) (ws, us, q, eu, have2) =
      let have3 : HaveTrees ms vs us = subst (λ xs. HaveTrees ms xs us) (product_values k (member_names ms) (member_names ms) ws vs v q p) have2 in
      subst₂ Carried (sym et) (sym eu) (us, refl, trees_one ms vs ts us have have3)
  tree_one string v t u (cs, n, h, et) (ds, m, g, eu) =
      subst₂ Carried (sym et) (sym eu) (m, ap (λ xs. text xs m) (text_scalars ds cs v g h))
  tree_one (own r) v t u (x, h, e, et) (y, k, f, eu) = subst₂ Carried (sym et) (sym eu) (k, refl)
  tree_one (borrow r) v t u (x, h, e, et) (y, k, f, eu) = subst₂ Carried (sym et) (sym eu) (k, refl)
  tree_one (list of_pairs s) v t u (is, (ps, ts, p, et, have)) (js, (qs, us, q, eu, have2)) =
      let have3 : EachHas (PairHas false s) ps us = subst (λ xs. EachHas (PairHas false s) xs us) (one_pairs ps qs v p q) have2 in
      subst₂ Carried (sym et) (sym eu) (us, refl, each_carried (PairHas false s) (λ w x y h g. pair_one s w x y h g) ps ts us have have3)
  tree_one (list of_items s) v t u (vs, ts, p, et, have) (ws, us, q, eu, have2) =
      let have3 : EachHas (HasTree s) vs us = subst (λ xs. EachHas (HasTree s) xs us) (list_values ws vs v q p) have2 in
      subst₂ Carried (sym et) (sym eu) (us, refl, each_carried (HasTree s) (λ w x y h g. tree_one s w x y h g) vs ts us have have3)
  tree_one (fixed n s) v t u (vs, ts, p, l, et, have) (ws, us, q, l2, eu, have2) =
      let have3 : EachHas (HasTree s) vs us = subst (λ xs. EachHas (HasTree s) xs us) (fixed_values ws vs v q p) have2 in
      subst₂ Carried (sym et) (sym eu) (us, refl, each_carried (HasTree s) (λ w x y h g. tree_one s w x y h g) vs ts us have have3)
  tree_one (variant k cs) v t u (d, vs, ts, is, et, have) (e, ws, us, js, eu, have2) =
      let same = one_case k cs d e vs ws v is js in
      let have3 : CaseHas false cs d vs us = subst₂ (λ n xs. CaseHas false cs n xs us) same.0 same.1 have2 in
      let same_tree : u ≡ case_tree d us = eu ∙ ap (λ n. case_tree n us) same.0 in
      subst₂ Carried (sym et) (sym same_tree) (case_carried d ts us (case_one cs d vs ts us have have3))
  tree_one (flags names) v t u (set, bs, is, all, et, marked, any) (other, cs, js, all2, eu, marked2, any2) =
      let marked3 : AreMarked set names cs = subst (λ xs. AreMarked xs names cs) (one_flags set other v is js) marked2 in
      subst₂ Carried (sym et) (sym eu) (ap bits (marked_once set names cs bs marked3 marked))

  pub trees_one : (ms : Members) (vs : List Val) (ts us : Trees) → HaveTrees ms vs ts → HaveTrees ms vs us → CarriedTrees ts us
  trees_one no_members vs ts us h g = subst₂ CarriedTrees (sym h.1) (sym g.1) refl
  trees_one (member name s ms) vs ts us (v, others, t, rest, ev, et, has, have) (w, those, u, last, ew, eu, has2, have2) =
      let same : v ∷ others ≡ w ∷ those = sym ev ∙ ew in
      let first : w ≡ v = cc in
      let tail : those ≡ others = cc in
      let has3 : HasTree s v u = subst (λ x. HasTree s x u) first has2 in
      let have3 : HaveTrees ms others last = subst (λ xs. HaveTrees ms xs last) tail have2 in
      subst₂ CarriedTrees (sym et) (sym eu) (u, last, refl, tree_one s v t u has has3, trees_one ms others rest last have have3)

  pair_one : (s : Shape) (p : Val × Val) (t u : Tree) → PairHas false s p t → PairHas false s p u → Carried t u
  pair_one (product l ms) p t u (ts, et, have) (us, eu, have2) = subst₂ Carried (sym et) (sym eu) (us, refl, trees_one ms (p.0 ∷ p.1 ∷ []) ts us have have2)
  pair_one (scalar c) p t u h g = absurd h
  pair_one string p t u h g = absurd h
  pair_one (own r) p t u h g = absurd h
  pair_one (borrow r) p t u h g = absurd h
  pair_one (list l z) p t u h g = absurd h
  pair_one (fixed n z) p t u h g = absurd h
  pair_one (variant l cs) p t u h g = absurd h
  pair_one (flags names) p t u h g = absurd h

  case_one : (cs : Cases) (d : ℕ) (vs : List Val) (ts us : Trees) → CaseHas false cs d vs ts → CaseHas false cs d vs us → CarriedTrees ts us
  case_one no_cases d vs ts us h g = absurd h
  case_one (bare name cs) zero vs ts us h g = subst₂ CarriedTrees (sym h.1) (sym g.1) refl
  case_one (bare name cs) (suc d) vs ts us h g = case_one cs d vs ts us h g
  case_one (payload name s cs) zero vs ts us (v, t, ev, et, has) (w, u, ew, eu, has2) =
      let same : v ∷ [] ≡ w ∷ [] = sym ev ∙ ew in
      let first : w ≡ v = cc in
      subst₂ CarriedTrees (sym et) (sym eu) (u, no_trees, refl, tree_one s v t u has (subst (λ x. HasTree s x u) first has2), refl)
  case_one (payload name s cs) (suc d) vs ts us h g = case_one cs d vs ts us h g

mutual
  pub value_one : (s : Shape) (v w : Val) (t : Tree) → HasTree s v t → HasTree s w t → IsSame s v w
  value_one (scalar k) v w t h g = scalar_value k v w t h g
  value_one (product k ms) v w t (vs, ts, p, et, have) (ws, us, q, eu, have2) =
      let same : parts ts ≡ parts us = sym et ∙ eu in
      let trees : us ≡ ts = cc in
      (member_names ms, vs, ws, p, q, values_one ms vs ws ts have (subst (λ xs. HaveTrees ms ws xs) trees have2))
  value_one string v w t (cs, n, h, et) (ds, m, g, eu) =
      let same : text cs n ≡ text ds m = sym et ∙ eu in
      let scalars : ds ≡ cs = cc in
      (cs, h, subst (λ xs. IsTextValue xs w) scalars g)
  value_one (own r) v w t (x, h, e, et) (y, k, f, eu) = (x, y, e, f)
  value_one (borrow r) v w t (x, h, e, et) (y, k, f, eu) = (x, y, e, f)
  value_one (list of_pairs s) v w t (is, (ps, ts, p, et, have)) (js, (qs, us, q, eu, have2)) =
      let same : items ts ≡ items us = sym et ∙ eu in
      let trees : us ≡ ts = cc in
      (ps, qs, p, q, each_same (PairHas false s) (PairSame s) (λ x y u h g. pair_same s x y u h g) ps qs ts have (subst (EachHas (PairHas false s) qs) trees have2))
  value_one (list of_items s) v w t (vs, ts, p, et, have) (ws, us, q, eu, have2) =
      let same : items ts ≡ items us = sym et ∙ eu in
      let trees : us ≡ ts = cc in
      (vs, ws, p, q, each_same (HasTree s) (IsSame s) (λ x y u h g. value_one s x y u h g) vs ws ts have (subst (EachHas (HasTree s) ws) trees have2))
  value_one (fixed n s) v w t (vs, ts, p, l, et, have) (ws, us, q, l2, eu, have2) =
      let same : parts ts ≡ parts us = sym et ∙ eu in
      let trees : us ≡ ts = cc in
      (vs, ws, p, q, each_same (HasTree s) (IsSame s) (λ x y u h g. value_one s x y u h g) vs ws ts have (subst (EachHas (HasTree s) ws) trees have2))
  value_one (variant k cs) v w t (d, vs, ts, is, et, have) (e, ws, us, js, eu, have2) =
      let same : case_tree d ts ≡ case_tree e us = sym et ∙ eu in
      let number : e ≡ d = sym (number_of e us) ∙ (ap case_number (sym same) ∙ number_of d ts) in
      let trees : us ≡ ts = sym (case_back false cs e e ws us have2) ∙ (ap payload_trees (sym same) ∙ case_back false cs d d vs ts have) in
      let have3 : CaseHas false cs d ws ts = subst₂ (λ n xs. CaseHas false cs n ws xs) number trees have2 in
      (d, vs, ws, is, subst (λ n. IsCase k cs n ws w) number js, case_same cs d vs ws ts have have3)
  value_one (flags names) v w t (set, bs, is, all, et, marked, any) (other, cs, js, all2, eu, marked2, any2) =
      let same : bits bs ≡ bits cs = sym et ∙ eu in
      let flags_same : cs ≡ bs = cc in
      let marked3 : AreMarked other names bs = subst (AreMarked other names) flags_same marked2 in
      (set, other, is, js, λ n. (marked_too set other names bs all marked marked3 n, marked_too other set names bs all2 marked3 marked n))

  pub values_one : (ms : Members) (vs ws : List Val) (ts : Trees) → HaveTrees ms vs ts → HaveTrees ms ws ts → AreSame ms vs ws
  values_one no_members vs ws ts h g = (h.0, g.0)
  values_one (member name s ms) vs ws ts (v, others, t, rest, ev, et, has, have) (w, those, u, last, ew, eu, has2, have2) =
      let same : tree t rest ≡ tree u last = sym et ∙ eu in
      let first : u ≡ t = cc in
      let tail : last ≡ rest = cc in
      let has3 : HasTree s w t = subst (λ x. HasTree s w x) first has2 in
      let have3 : HaveTrees ms those rest = subst (λ xs. HaveTrees ms those xs) tail have2 in
      (v, w, others, those, ev, ew, value_one s v w t has has3, values_one ms others those rest have have3)

  pair_same : (s : Shape) (p q : Val × Val) (t : Tree) → PairHas false s p t → PairHas false s q t → PairSame s p q
  pair_same (product l ms) p q t (ts, et, have) (us, eu, have2) =
      let same : parts ts ≡ parts us = sym et ∙ eu in
      let trees : us ≡ ts = cc in
      values_one ms (p.0 ∷ p.1 ∷ []) (q.0 ∷ q.1 ∷ []) ts have (subst (λ xs. HaveTrees ms (q.0 ∷ q.1 ∷ []) xs) trees have2)
  pair_same (scalar c) p q t h g = absurd h
  pair_same string p q t h g = absurd h
  pair_same (own r) p q t h g = absurd h
  pair_same (borrow r) p q t h g = absurd h
  pair_same (list l z) p q t h g = absurd h
  pair_same (fixed n z) p q t h g = absurd h
  pair_same (variant l cs) p q t h g = absurd h
  pair_same (flags names) p q t h g = absurd h

  case_same : (cs : Cases) (d : ℕ) (vs ws : List Val) (ts : Trees) → CaseHas false cs d vs ts → CaseHas false cs d ws ts → CaseSame cs d vs ws
  case_same no_cases d vs ws ts h g = absurd h
  case_same (bare name cs) zero vs ws ts h g = (h.0, g.0)
  case_same (bare name cs) (suc d) vs ws ts h g = case_same cs d vs ws ts h g
  case_same (payload name s cs) zero vs ws ts (v, t, ev, et, has) (w, u, ew, eu, has2) =
      let same : tree t no_trees ≡ tree u no_trees = sym et ∙ eu in
      let first : u ≡ t = cc in
      (v, w, ev, ew, value_one s v w t has (subst (λ x. HasTree s w x) first has2))
  case_same (payload name s cs) (suc d) vs ws ts h g = case_same cs d vs ws ts h g
