-- What was lowered comes back: what it strictly represents it represents, that is one tree, and a tree is of one value.
use Rattle.std.proofs.Common.{◌≡◌, ◌+◌, ◌++◌, Bool, List, [], ◌∷◌, arith, false, inl, inr, subst, sym, true, ℕ}
use Rattle.canon_model.proofs.Frames.{blocks_are_read, strict_is_rep}
use Rattle.canon_model.proofs.Unique.{one_tree}
use Rattle.canon_model.specs.Flat.{RepResults, RepValues, max_params}
use Rattle.canon_model.specs.Cost.{cost, members_cost}
use Rattle.canon_model.specs.Memory.{Memory}
use Rattle.canon_model.specs.Shape.{Members, Shape}
use Rattle.canon_model.specs.Text.{Encoding}
use Rattle.canon_model.specs.Tree.{Tree, Trees}
use Rattle.canon_lowering.specs.Attempt.{value_place}
use Rattle.canon_lowering.specs.Storing.{narrow}
use Rattle.canon_value_parts.specs.RoundTrip.{ComeBack, ComesBack, IsOneForm, RoundTrip}
use Rattle.canon_val.specs.Value.{AreLiftedFrom, HasTree, HaveTrees, IsLiftedFrom}
use Rattle.canon_val.specs.declared.val.Val.{Val}
use Rattle.canon_value_parts.proofs.LiftedValues.{all_unlifted, unlifted}
use Rattle.canon_value_parts.proofs.OneValue.{value_one, values_one}

module _ (s : Shape) (v w : Val) (t : Tree) (had : HasTree s v t) where
  comes_back : (u : Tree) (fuel left : ℕ) → u ≡ t → IsLiftedFrom s w u → fuel ≡ left + cost s u → ComesBack s v w fuel left
  comes_back u fuel left e has spent =
      let lifted : IsLiftedFrom s w t = subst (IsLiftedFrom s w) e has in
      record { its_tree = t; had = had; has = lifted; same = value_one s v w t had (unlifted s w t lifted); spent = subst (λ x. fuel ≡ left + cost s x) e spent }

come_back : (ms : Members) (vs ws : List Val) (ts us : Trees) (fuel left : ℕ) → HaveTrees ms vs ts → us ≡ ts → AreLiftedFrom ms ws us → fuel ≡ left + members_cost ms us → ComeBack ms vs ws fuel left
come_back ms vs ws ts us fuel left had e have spent =
    let lifted : AreLiftedFrom ms ws ts = subst (AreLiftedFrom ms ws) e have in
    record { their_trees = ts; had = had; have = lifted; same = values_one ms vs ws ts had (all_unlifted ms ws ts lifted); spent = subst (λ x. fuel ≡ left + members_cost ms x) e spent }

-- parameters that have the form of results are results
as_results : (strict : Bool) (enc : Encoding) (m : Memory) (words : List ℕ) (ms : Members) (ts : Trees) → IsOneForm ms → RepValues max_params strict enc m words ms ts → RepResults strict enc m words ms ts
as_results strict enc m words ms ts (inl few) rep = record { near = λ _. rep.near (omega (arith, few)); far = λ many. absurd (omega (arith, few, many)) }
as_results strict enc m words ms ts (inr many) rep = record { near = λ few. absurd (omega (arith, few, many)); far = λ _. rep.far many }

pub round_trip : RoundTrip
round_trip = record {
  memory = λ before after enc s at v w hs fuel left stored lawful held (u, rep, has, spent).
      let it = stored.shown in
      let strict = blocks_are_read.memory ((value_place false s at ∷ []) ++ stored.fresh) true enc (narrow after.bytes) at s it.it (it.rep lawful held) in
      comes_back s v w it.it it.is u fuel left (one_tree.memory false enc (narrow after.bytes) at s u it.it rep (strict_is_rep.memory enc (narrow after.bytes) at s it.it strict)) has spent;
  words = λ before after enc s words i v w hs fuel left lowered lawful held (u, rep, has, spent).
      let it = lowered.shown in
      let strict = blocks_are_read.flat ([] ++ lowered.fresh) true enc (narrow after.bytes) words i s it.it (it.rep lawful held) in
      comes_back s v w it.it it.is u fuel left (one_tree.flat false enc (narrow after.bytes) words i s u it.it rep (strict_is_rep.flat enc (narrow after.bytes) words i s it.it strict)) has spent;
  values = λ before after enc ms words vs ws hs fuel left form lowered lawful held results.
      let it = lowered.shown in
      let strict = blocks_are_read.values ([] ++ lowered.fresh) max_params true enc (narrow after.bytes) words ms it.it (it.rep lawful held) in
      let rep = as_results false enc (narrow after.bytes) words ms it.it form (strict_is_rep.values max_params enc (narrow after.bytes) words ms it.it strict) in
      come_back ms vs ws it.it results.its_trees fuel left it.is (sym (results.no_other it.it rep)) results.have results.spent;
}
