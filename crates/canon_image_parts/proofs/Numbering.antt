-- Types and trees with numbers in the place of their handles.
use Rattle.std.proofs.Common.{Bool, List, [], append-nil, append_assoc, ap, ap₂, arith, length, length-append, map, refl, suc, sym, true, zero, ℕ, ◌+◌, ◌++◌, ◌<◌, ◌∙◌, ◌∷◌, ◌≡◌}
use Rattle.std.proofs.lemmas.List.{map-append}
use Rattle.canon_lowering.specs.Copies.{case_members, case_tree, copies, payload_trees}
use Rattle.canon_model.specs.Shape as shape
use Rattle.canon_model.specs.Shape.{Cases, Members, Scalar, Shape, bare, borrow, case_count, fixed, flags, list, member, no_cases, no_members, of_items, of_pairs, own, payload, product, scalar, string, variant}
use Rattle.canon_model.specs.Tree.{Tree, Trees, items, no_trees, parts, tree, tree_count}
use Rattle.canon_plan.specs.NoHandle.{HasNoHandle, HaveNoHandle, cases_have_no_handle, has_no_handle, have_no_handle}
use Rattle.canon_plan.proofs.Lookups.{both}
use Rattle.canon_resources.specs.Held.{Any}
use Rattle.canon_val.specs.Value.{CaseHas, EachHas, HasScalar, HasTreeAs, HaveTreesAs, PairHas}
use Rattle.canon_val.specs.declared.val.Val.{Val}
use Rattle.canon_value_parts.proofs.Cases.{case_back, case_has}
use Rattle.canon_value_parts.specs.Resources.{all_resources, resources}
use Rattle.canon_image_parts.specs.Numbered.{AreAdded, StandFor, all_handles, handles_in, numbered_cases, numbered_members, numbered_shape, numbered_tree, numbered_trees, numbers_after, stand_in}

-- ---- types

pub numbered_copies : (n : ℕ) (s : Shape) → numbered_members (copies n s) ≡ copies n (numbered_shape s)
numbered_copies zero s = refl
numbered_copies (suc n) s = ap (λ (ms : Members). member [] (numbered_shape s) ms) (numbered_copies n s)

pub numbered_count : (cs : Cases) → case_count (numbered_cases cs) ≡ case_count cs
numbered_count no_cases = refl
numbered_count (bare name cs) = ap suc (numbered_count cs)
numbered_count (payload name s cs) = ap suc (numbered_count cs)

pub numbered_payload : (cs : Cases) (d : ℕ) → case_members (numbered_cases cs) d ≡ numbered_members (case_members cs d)
numbered_payload no_cases d = refl
numbered_payload (bare name cs) zero = refl
numbered_payload (bare name cs) (suc d) = numbered_payload cs d
numbered_payload (payload name s cs) zero = refl
numbered_payload (payload name s cs) (suc d) = numbered_payload cs d

-- a type that reaches no handle is as it was
mutual
  pub numbered_same : (s : Shape) → HasNoHandle s → numbered_shape s ≡ s
  numbered_same (scalar k) h = refl
  numbered_same string h = refl
  numbered_same (own r) h = cc
  numbered_same (borrow r) h = cc
  numbered_same (list k s) h = ap (λ (u : Shape). list k u) (numbered_same s h)
  numbered_same (fixed n s) h = ap (λ (u : Shape). fixed n u) (numbered_same s h)
  numbered_same (product k ms) h = ap (λ (us : Members). product k us) (members_same ms h)
  numbered_same (variant k cs) h = ap (λ (us : Cases). variant k us) (cases_same cs h)
  numbered_same (flags names) h = refl

  members_same : (ms : Members) → HaveNoHandle ms → numbered_members ms ≡ ms
  members_same no_members h = refl
  members_same (member name s ms) h = let parts = both (has_no_handle s) (have_no_handle ms) h in ap₂ (λ (u : Shape) (us : Members). member name u us) (numbered_same s parts.0) (members_same ms parts.1)

  cases_same : (cs : Cases) → cases_have_no_handle cs ≡ true → numbered_cases cs ≡ cs
  cases_same no_cases h = refl
  cases_same (bare name cs) h = ap (λ (us : Cases). bare name us) (cases_same cs h)
  cases_same (payload name s cs) h = let parts = both (has_no_handle s) (cases_have_no_handle cs) h in ap₂ (λ (u : Shape) (us : Cases). payload name u us) (numbered_same s parts.0) (cases_same cs parts.1)

-- ---- trees

pub numbered_many : (ts : Trees) → tree_count (numbered_trees ts) ≡ tree_count ts
numbered_many no_trees = refl
numbered_many (tree t ts) = ap suc (numbered_many ts)

pub numbered_case : (d : ℕ) (ts : Trees) → numbered_tree (case_tree d ts) ≡ case_tree d (numbered_trees ts)
numbered_case d no_trees = refl
numbered_case d (tree t ts) = refl

case_handles : (d : ℕ) (ts : Trees) → all_handles (payload_trees (case_tree d ts)) ≡ handles_in (case_tree d ts)
case_handles d no_trees = refl
case_handles d (tree t ts) = append-nil (handles_in t)

-- of a payload, no tree or one
pub payload_handles : (lifted : Bool) (cs : Cases) (d : ℕ) (vs : List Val) (ts : Trees) → d < case_count cs → HaveTreesAs lifted (case_members cs d) vs ts → handles_in (case_tree d ts) ≡ all_handles ts
payload_handles lifted cs d vs ts lt have = sym (case_handles d ts) ∙ ap all_handles (case_back lifted cs d d vs ts (case_has lifted cs d vs ts lt have))

-- a scalar is as it was, and has no handle
pub scalar_plain : (k : Scalar) (v : Val) (t : Tree) → HasScalar k v t → (numbered_tree t ≡ t) × (handles_in t ≡ [])
scalar_plain shape.bool v t (x, e, is) = (ap numbered_tree is ∙ sym is, ap handles_in is)
scalar_plain shape.s8 v t (x, e, is) = (ap numbered_tree is ∙ sym is, ap handles_in is)
scalar_plain shape.u8 v t (x, e, is) = (ap numbered_tree is ∙ sym is, ap handles_in is)
scalar_plain shape.s16 v t (x, e, is) = (ap numbered_tree is ∙ sym is, ap handles_in is)
scalar_plain shape.u16 v t (x, e, is) = (ap numbered_tree is ∙ sym is, ap handles_in is)
scalar_plain shape.s32 v t (x, e, is) = (ap numbered_tree is ∙ sym is, ap handles_in is)
scalar_plain shape.u32 v t (x, e, is) = (ap numbered_tree is ∙ sym is, ap handles_in is)
scalar_plain shape.s64 v t (x, e, is) = (ap numbered_tree is ∙ sym is, ap handles_in is)
scalar_plain shape.u64 v t (x, e, is) = (ap numbered_tree is ∙ sym is, ap handles_in is)
scalar_plain shape.f32 v t (x, e, is) = (ap numbered_tree is ∙ sym is, ap handles_in is)
scalar_plain shape.f64 v t (x, e, is) = (ap numbered_tree is ∙ sym is, ap handles_in is)
scalar_plain shape.char v t (x, e, is) = (ap numbered_tree is ∙ sym is, ap handles_in is)

each_plain : {A : Type 0} → (Has : A → Tree → Type 0) → ((v : A) (t : Tree) → Has v t → numbered_tree t ≡ t) → (vs : List A) (ts : Trees) → EachHas Has vs ts → numbered_trees ts ≡ ts
each_plain Has one [] ts h = ap numbered_trees h ∙ sym h
each_plain Has one (v ∷ vs) ts (t, rest, et, has, have) = ap numbered_trees et ∙ (ap₂ (λ (u : Tree) (us : Trees). tree u us) (one v t has) (each_plain Has one vs rest have) ∙ sym et)

-- so is the tree of a value whose type reaches no handle
module _ (lifted : Bool) where
  mutual
    pub plain_tree : (s : Shape) (v : Val) (t : Tree) → HasNoHandle s → HasTreeAs lifted s v t → numbered_tree t ≡ t
    plain_tree (scalar k) v t e h = (scalar_plain k v t h).0
    plain_tree string v t e (cs, n, h, et) = ap numbered_tree et ∙ sym et
    plain_tree (own r) v t e h = cc
    plain_tree (borrow r) v t e h = cc
    plain_tree (list of_pairs s) v t e (is, (ps, ts, p, et, have)) =
        ap numbered_tree et ∙ (ap items (each_plain (PairHas lifted s) (λ q u h. plain_pair s q u e h) ps ts have) ∙ sym et)
    plain_tree (list of_items s) v t e (vs, ts, p, et, have) = ap numbered_tree et ∙ (ap items (each_plain (HasTreeAs lifted s) (λ w u h. plain_tree s w u e h) vs ts have) ∙ sym et)
    plain_tree (fixed n s) v t e (vs, ts, p, l, et, have) = ap numbered_tree et ∙ (ap parts (each_plain (HasTreeAs lifted s) (λ w u h. plain_tree s w u e h) vs ts have) ∙ sym et)
    plain_tree (product k ms) v t e (vs, ts, p, et, have) = ap numbered_tree et ∙ (ap parts (plain_members ms vs ts e have) ∙ sym et)
    plain_tree (variant k cs) v t e (d, vs, ts, is, et, have) = ap numbered_tree et ∙ (numbered_case d ts ∙ (ap (case_tree d) (plain_case cs d vs ts e have) ∙ sym et))
    plain_tree (flags names) v t e (set, bs, is, all, et, marked, order) = ap numbered_tree et ∙ sym et

    plain_members : (ms : Members) (vs : List Val) (ts : Trees) → HaveNoHandle ms → HaveTreesAs lifted ms vs ts → numbered_trees ts ≡ ts
    plain_members no_members vs ts e h = ap numbered_trees h.1 ∙ sym h.1
    plain_members (member name s ms) vs ts e (v, others, t, rest, ev, et, has, have) =
        let both_plain = both (has_no_handle s) (have_no_handle ms) e in
        ap numbered_trees et ∙ (ap₂ (λ (u : Tree) (us : Trees). tree u us) (plain_tree s v t both_plain.0 has) (plain_members ms others rest both_plain.1 have) ∙ sym et)

    plain_pair : (s : Shape) (p : Val × Val) (t : Tree) → HasNoHandle s → PairHas lifted s p t → numbered_tree t ≡ t
    plain_pair (product k ms) p t e (ts, et, have) = ap numbered_tree et ∙ (ap parts (plain_members ms (p.0 ∷ p.1 ∷ []) ts e have) ∙ sym et)
    plain_pair (scalar k) p t e h = absurd h
    plain_pair string p t e h = absurd h
    plain_pair (own r) p t e h = absurd h
    plain_pair (borrow r) p t e h = absurd h
    plain_pair (list k s) p t e h = absurd h
    plain_pair (fixed n s) p t e h = absurd h
    plain_pair (variant k cs) p t e h = absurd h
    plain_pair (flags names) p t e h = absurd h

    plain_case : (cs : Cases) (d : ℕ) (vs : List Val) (ts : Trees) → cases_have_no_handle cs ≡ true → CaseHas lifted cs d vs ts → numbered_trees ts ≡ ts
    plain_case no_cases d vs ts e h = absurd h
    plain_case (bare name cs) zero vs ts e h = ap numbered_trees h.1 ∙ sym h.1
    plain_case (bare name cs) (suc d) vs ts e h = plain_case cs d vs ts e h
    plain_case (payload name s cs) zero vs ts e (v, t, ev, et, has) =
        ap numbered_trees et ∙ (ap (λ (u : Tree). tree u no_trees) (plain_tree s v t (both (has_no_handle s) (cases_have_no_handle cs) e).0 has) ∙ sym et)
    plain_case (payload name s cs) (suc d) vs ts e h = plain_case cs d vs ts (both (has_no_handle s) (cases_have_no_handle cs) e).1 h

-- ---- resources

pub stand_both : (ns ms : List ℕ) (xs ys : List Any) → StandFor ns xs → StandFor ms ys → StandFor (ns ++ ms) (xs ++ ys)
stand_both ns ms xs ys h g = ap₂ (λ (os ps : List Any). os ++ ps) h g ∙ sym (map-append stand_in ns ms)

-- of one and those after it
pub stand_more : (v : Val) (vs : List Val) (t : Tree) (ts : Trees) → StandFor (handles_in t) (resources v) → StandFor (all_handles ts) (all_resources vs) → StandFor (all_handles (tree t ts)) (all_resources (v ∷ vs))
stand_more v vs t ts h g = stand_both (handles_in t) (all_handles ts) (resources v) (all_resources vs) h g

-- none of a value that has none
pub stand_none : (v : Val) (t : Tree) → resources v ≡ [] → handles_in t ≡ [] → StandFor (handles_in t) (resources v)
stand_none v t h g = h ∙ sym (ap (λ (ns : List ℕ). map stand_in ns) g)

-- ---- resources that are added

numbers_both : (first n m : ℕ) → numbers_after first (n + m) ≡ numbers_after first n ++ numbers_after (first + n) m
numbers_both first zero m = let same : first + 0 ≡ first = omega arith in let zeros : 0 + m ≡ m = omega arith in ap (numbers_after first) zeros ∙ ap (λ k. numbers_after k m) (sym same)
numbers_both first (suc n) m =
    let more : suc n + m ≡ suc (n + m) = omega arith in
    let later : first + 1 + n ≡ first + suc n = omega arith in
    ap (numbers_after first) more ∙ ap (λ (ns : List ℕ). first ∷ ns) (numbers_both (first + 1) n m ∙ ap (λ k. numbers_after (first + 1) n ++ numbers_after k m) later)

pub added_none : (a : List Any) → AreAdded a a [] []
added_none a = record { list = sym (append-nil a); numbers = refl }

pub added_both : (a b c xs ys : List Any) (ns ms : List ℕ) → AreAdded a b xs ns → AreAdded b c ys ms → AreAdded a c (xs ++ ys) (ns ++ ms)
added_both a b c xs ys ns ms h g =
    let long : length b ≡ length a + length xs = ap length h.list ∙ length-append a xs in
    record {
      list = g.list ∙ (ap (λ l. l ++ ys) h.list ∙ append_assoc a xs ys);
      numbers = ap₂ (λ (is js : List ℕ). is ++ js) h.numbers (g.numbers ∙ ap (λ k. numbers_after k (length ys)) long)
          ∙ (sym (numbers_both (length a) (length xs) (length ys)) ∙ ap (numbers_after (length a)) (sym (length-append xs ys)));
    }

pub added_one : (a b : List Any) (x : Any) → b ≡ a ++ x ∷ [] → AreAdded a b (x ∷ []) (length a ∷ [])
added_one a b x e = record { list = e; numbers = refl }
