-- Values of a type that reaches no handle have no resources.
use Rattle.std.proofs.Common.{◌≡◌, ◌++◌, ◌∙◌, Bool, List, [], ◌∷◌, ap, ap₂, append-nil, false, map, refl, sym, true, suc, zero, ℕ}
use Rattle.canon_context.specs.Quiet.{cases_have_handle, has_handle, have_handle}
use Rattle.canon_model.specs.Shape.{Cases, Members, Shape, bare, borrow, fixed, flags, list, member, no_cases, no_members, of_items, of_pairs, own, payload, product, scalar, string, variant}
use Rattle.canon_model.specs.Tree.{Tree, Trees}
use Rattle.canon_plan.specs.NoHandle.{HaveNoHandle, HasNoHandle, have_no_handle, cases_have_no_handle, has_no_handle}
use Rattle.canon_resources.specs.Held.{Any}
use Rattle.canon_value_parts.specs.Resources.{all_resources, joined, resources}
use Rattle.canon_val.specs.Value.{CaseHas, EachHas, HasTreeAs, HaveTreesAs, PairHas, member_names}
use Rattle.canon_val.specs.declared.val.Val.{Val}
use Rattle.canon_plan.proofs.Lookups.{both}
use Rattle.canon_value_parts.proofs.LiftedValues.{both_resources, fixed_resources, items_resources, turned}
use Rattle.canon_value_parts.proofs.ResourcesOf.{case_resources, flags_have_none, pair_resources, product_resources, scalar_has_none, text_has_none}
use Rattle.canon_passing.proofs.Shapes.{no_first, no_later}

-- ---- types that reach no handle

mutual
  pub handleless : (s : Shape) → HasNoHandle s → has_handle s ≡ false
  handleless (scalar k) h = refl
  handleless string h = refl
  handleless (own r) h = cc
  handleless (borrow r) h = cc
  handleless (list k s) h = handleless s h
  handleless (fixed n s) h = handleless s h
  handleless (product k ms) h = members_handles ms h
  handleless (variant k cs) h = cases_handles cs h
  handleless (flags names) h = refl

  pub members_handles : (ms : Members) → HaveNoHandle ms → have_handle ms ≡ false
  members_handles no_members h = refl
  members_handles (member name s ms) h = let parts = both (has_no_handle s) (have_no_handle ms) h in rw (handleless s parts.0) (members_handles ms parts.1)

  cases_handles : (cs : Cases) → cases_have_no_handle cs ≡ true → cases_have_handle cs ≡ false
  cases_handles no_cases h = refl
  cases_handles (bare name cs) h = cases_handles cs h
  cases_handles (payload name s cs) h = let parts = both (has_no_handle s) (cases_have_no_handle cs) h in rw (handleless s parts.0) (cases_handles cs parts.1)

-- ---- and values of types that reach none have none

each_none : {A : Type 0} → (Has : A → Tree → Type 0) (its : A → List Any) → ((v : A) (t : Tree) → Has v t → its v ≡ []) → (vs : List A) (ts : Trees) → EachHas Has vs ts → joined (map its vs) ≡ []
each_none Has its one [] ts h = refl
each_none Has its one (v ∷ vs) ts (t, rest, et, has, have) = ap₂ (λ (xs ys : List Any). xs ++ ys) (one v t has) (each_none Has its one vs rest have)

module _ (lifted : Bool) where
  mutual
    pub no_resources : (s : Shape) (v : Val) (t : Tree) → has_handle s ≡ false → HasTreeAs lifted s v t → resources v ≡ []
    no_resources (scalar k) v t e h = scalar_has_none k v t h
    no_resources string v t e (cs, n, h, et) = text_has_none cs v h
    no_resources (own r) v t e h = cc
    no_resources (borrow r) v t e h = cc
    no_resources (list of_pairs s) v t e (is, (ps, ts, p, et, have)) =
        pair_resources ps v p ∙ (turned ps ∙ each_none (PairHas lifted s) both_resources (λ q u h. no_pair_resources s q u e h) ps ts have)
    no_resources (list of_items s) v t e (vs, ts, p, et, have) = items_resources vs v p ∙ each_none (HasTreeAs lifted s) resources (λ w u h. no_resources s w u e h) vs ts have
    no_resources (fixed n s) v t e (vs, ts, p, l, et, have) = fixed_resources vs v p ∙ each_none (HasTreeAs lifted s) resources (λ w u h. no_resources s w u e h) vs ts have
    no_resources (product k ms) v t e (vs, ts, p, et, have) = product_resources k (member_names ms) vs v p ∙ no_member_resources ms vs ts e have
    no_resources (variant k cs) v t e (d, vs, ts, is, et, have) = case_resources k cs d vs v is ∙ no_case_resources cs d vs ts e have
    no_resources (flags names) v t e (set, bs, is, all, et, marked, order) = flags_have_none set v is

    pub no_member_resources : (ms : Members) (vs : List Val) (ts : Trees) → have_handle ms ≡ false → HaveTreesAs lifted ms vs ts → all_resources vs ≡ []
    no_member_resources no_members vs ts e h = ap all_resources h.0
    no_member_resources (member name s ms) vs ts e (v, others, t, rest, ev, et, has, have) =
        ap all_resources ev ∙ ap₂ (λ (xs ys : List Any). xs ++ ys) (no_resources s v t (no_first (has_handle s) (have_handle ms) e) has) (no_member_resources ms others rest (no_later (has_handle s) (have_handle ms) e) have)

    no_pair_resources : (s : Shape) (p : Val × Val) (t : Tree) → has_handle s ≡ false → PairHas lifted s p t → both_resources p ≡ []
    no_pair_resources (product k ms) p t e (ts, et, have) = ap (λ (xs : List Any). resources p.0 ++ xs) (sym (append-nil (resources p.1))) ∙ no_member_resources ms (p.0 ∷ p.1 ∷ []) ts e have
    no_pair_resources (scalar k) p t e h = absurd h
    no_pair_resources string p t e h = absurd h
    no_pair_resources (own r) p t e h = absurd h
    no_pair_resources (borrow r) p t e h = absurd h
    no_pair_resources (list k s) p t e h = absurd h
    no_pair_resources (fixed n s) p t e h = absurd h
    no_pair_resources (variant k cs) p t e h = absurd h
    no_pair_resources (flags names) p t e h = absurd h

    no_case_resources : (cs : Cases) (d : ℕ) (vs : List Val) (ts : Trees) → cases_have_handle cs ≡ false → CaseHas lifted cs d vs ts → all_resources vs ≡ []
    no_case_resources no_cases d vs ts e h = absurd h
    no_case_resources (bare name cs) zero vs ts e h = ap all_resources h.0
    no_case_resources (bare name cs) (suc d) vs ts e h = no_case_resources cs d vs ts e h
    no_case_resources (payload name s cs) zero vs ts e (v, t, ev, et, has) = ap all_resources ev ∙ ap (λ (xs : List Any). xs ++ []) (no_resources s v t (no_first (has_handle s) (cases_have_handle cs) e) has)
    no_case_resources (payload name s cs) (suc d) vs ts e h = no_case_resources cs d vs ts (no_later (has_handle s) (cases_have_handle cs) e) h
