-- Members in words, as a value of each shape has them.
use Rattle.std.proofs.Common.{◌≡◌, ◌<◌, ◌+◌, ◌*◌, Err, IfErr, IfOk, List, Ok, Result, Vec, ap, arith, false, inl, inr, length, refl, subst, suc, sym, true, zero, ℕ, suc-mul}
use Rattle.std.specs.declared.alloc.Global.{Global}
use Rattle.canon_lowering.proofs.Copying.{copies_flat, copies_in_words}
use Rattle.canon_lowering.specs.Copies.{copies}
use Rattle.canon_model.specs.Cost.{cost, names_length, val_cost}
use Rattle.canon_model.specs.Layout.{flat, members_flat}
use Rattle.canon_model.specs.Leaves.{flat_leaves, members_flat_leaves}
use Rattle.canon_model.specs.Memory.{Inside, Memory}
use Rattle.canon_model.specs.Reach.{At, FlatFault, Kind, MemberFlatFault, SomeElement, flat_reach, members_flat_reach, sum_at}
use Rattle.canon_model.specs.Shape.{Members, Shape, borrow, fixed, flags, list, member_count, of_fields, of_places, own, product, scalar, string, variant}
use Rattle.canon_model.specs.Text.{Encoding}
use Rattle.canon_types.specs.Table.{TypeTable, members_of}
use Rattle.canon_types.specs.declared.types.InterfaceType.{InterfaceType}
use Rattle.canon_value_parts.specs.Lifts.{ArePartsLifted, AreValuesTaken, LiftsTo, MembersLiftTo, PartsLiftTo}
use Rattle.canon_context.specs.Told.{LiftBlames, ToldAt}
use Rattle.canon_value_parts.specs.Plan.{IsRebuilt, parts_of, whole_tree}
use Rattle.canon_plan.specs.Plan.{Unnamed, LiesAs}
use Rattle.canon_context.specs.declared.fault.Fault.{Fault}
use Rattle.canon_context.specs.declared.fault.Fault.TheVariants as fault
use Rattle.canon_val.specs.declared.val.Val.{Val}
use Rattle.canon_value_parts.proofs.LeavesAt.{fixed_flat_leaves}
use Rattle.canon_context.proofs.Told.{core_told_by}
use Rattle.canon_value_parts.proofs.LoadingParts.{copies_cost, copies_nameless}
use Rattle.canon_plan.proofs.TypeKinds.{no_length}
use Rattle.canon_plan.proofs.Lookups.{copies_count}
use Rattle.canon_value_parts.proofs.Values.{have_count}

module _ (enc : Encoding) (m : Memory) (ws : List ℕ) where
  copies_flat_reach : (n i : ℕ) (s : Shape) → members_flat_reach enc m ws (copies n s) i ≡ sum_at (λ j. flat_reach enc m ws s j) (flat s) i n
  unfolding flat_reach
  copies_flat_reach zero i s = refl
  copies_flat_reach (suc n) i s = ap (λ k. flat_reach enc m ws s i + k) (copies_flat_reach n (i + flat s) s)

  copies_flat_blame : (n i : ℕ) (s : Shape) (k : Kind) (x : At) → MemberFlatFault enc m ws (copies n s) i k x → SomeElement (λ j l y. FlatFault enc m ws s j l y) (flat s) i n k x
  copies_flat_blame zero i s k x f = absurd f
  copies_flat_blame (suc n) i s k x (inl f) = let here : i ≡ i + 0 * flat s = omega arith in (0, omega arith, subst (λ p. FlatFault enc m ws s p k x) here f)
  copies_flat_blame (suc n) i s k x (inr f) =
      let (j, lt, g) = copies_flat_blame n (i + flat s) s k x f in
      let there : i + flat s + j * flat s ≡ i + suc j * flat s = omega (arith, suc-mul j (flat s)) in
      (suc j, omega (arith, lt), subst (λ p. FlatFault enc m ws s p k x) there g)

  -- Of a value of the shape from a word on, these members: their faults, their charges and their words are its own.
  pub record WeighsWords (s : Shape) (these : Members) (i : ℕ) : Type 0 where
    pub low : (now : ℕ) → now < member_count these * val_cost + (names_length these + members_flat_reach enc m ws these i) → now < flat_reach enc m ws s i
    pub blames : (k : Kind) (x : At) → MemberFlatFault enc m ws these i k x → FlatFault enc m ws s i k x
    pub words : members_flat these ≡ flat s
    pub leaves : flat_leaves m ws s i ≡ members_flat_leaves m ws these i
    pub lifted : (before mid to after : ℕ) (vs : List Val) → before ≡ mid + member_count these * val_cost → AreValuesTaken enc m ws i to mid after these vs → ArePartsLifted enc m ws i to before after s vs

  pub weighs_words : (s : Shape) (these : Members) (i : ℕ) → LiesAs s these → Unnamed s → WeighsWords s these i
  unfolding flat_reach cost flat flat_leaves
  weighs_words (product of_fields ms) these i e none = subst (λ (x : Members). WeighsWords (product of_fields ms) x i) (sym e) (record {
    low = λ now h. omega (arith, h);
    blames = λ k x f. f;
    words = refl;
    leaves = refl;
    lifted = λ before mid to after vs charged (ts, reps, have, spent, moved). (ts, (ts, refl, reps), have, omega (arith, charged, spent), moved);
  })
  weighs_words (product of_places ms) these i e none = subst (λ (x : Members). WeighsWords (product of_places ms) x i) (sym e) (record {
    low = λ now h. omega (arith, h, none);
    blames = λ k x f. f;
    words = refl;
    leaves = refl;
    lifted = λ before mid to after vs charged (ts, reps, have, spent, moved). (ts, (ts, refl, reps), have, omega (arith, charged, spent, none), moved);
  })
  weighs_words (fixed n s) these i e none = subst (λ (x : Members). WeighsWords (fixed n s) x i) (sym e) (record {
    low = λ now h. omega (arith, h, copies_flat_reach n i s, copies_nameless n s, copies_count n s);
    blames = λ k x f. copies_flat_blame n i s k x f;
    words = copies_flat n s;
    leaves = fixed_flat_leaves m ws n i s;
    lifted = λ before mid to after vs charged (ts, reps, have, spent, moved).
        let (each, count) = copies_in_words (Inside m) false enc m ws n s i ts reps in
        (ts, record { trees = ts; is = refl; count = count; each = each }, have, omega (arith, charged, spent, copies_nameless n s, copies_cost n s ts count, copies_count n s), omega (arith, moved, copies_flat n s));
  })
  weighs_words (scalar k) these i e none = absurd e
  weighs_words string these i e none = absurd e
  weighs_words (own r) these i e none = absurd e
  weighs_words (borrow r) these i e none = absurd e
  weighs_words (list k s) these i e none = absurd e
  weighs_words (variant k cs) these i e none = absurd e
  weighs_words (flags names) these i e none = absurd e

  module _ (s : Shape) (from to before after : ℕ) where
    pub lifted_count : (vs : List Val) → ArePartsLifted enc m ws from to before after s vs → length vs ≡ member_count (parts_of s (length vs))
    lifted_count vs (ts, rep, have, spent, moved) = have_count true (parts_of s (length vs)) vs ts have

    -- what is rebuilt of them
    pub whole_lifted : (vs : List Val) (r : Result Val Fault) → ArePartsLifted enc m ws from to before after s vs → IfOk r (IsRebuilt s vs) → IfErr r (λ e. e ≡ fault.OutOfMemory) → LiftsTo enc m ws from to before after s r
    whole_lifted vs (Ok v) (ts, rep, have, spent, moved) made only = ((whole_tree s ts, rep, made ts have, spent), moved)
    whole_lifted vs (Err e) h made only = subst (λ x. LiftsTo enc m ws from to before after s (Err x)) (sym only) tt

  pub parts_told : (s : Shape) (these : Members) (i before mid : ℕ) → WeighsWords s these i → before ≡ mid + member_count these * val_cost → (e : Fault)
      → LiftBlames (ToldAt (MemberFlatFault enc m ws these i)) (mid < names_length these + members_flat_reach enc m ws these i) e → LiftBlames (ToldAt (FlatFault enc m ws s i)) (before < flat_reach enc m ws s i) e
  parts_told s these i before mid w charged e h =
      core_told_by (MemberFlatFault enc m ws these i) (FlatFault enc m ws s i) _ _ w.blames (λ (low : mid < names_length these + members_flat_reach enc m ws these i). w.low before (omega (arith, low, charged))) e h

  -- a tuple's members, as results
  pub unnamed_lifted : (t : TypeTable) (types : List InterfaceType) (from to before after : ℕ) (r : Result (Vec Val Global) Fault)
      → PartsLiftTo enc m ws from to before after (members_of t types) r → MembersLiftTo enc m ws from to before after (members_of t types) r
  unnamed_lifted t types from to before after (Ok values) (ts, reps, have, spent, moved) = (ts, reps, have, omega (arith, spent, no_length t types), moved)
  unnamed_lifted t types from to before after (Err e) h =
      core_told_by (MemberFlatFault enc m ws (members_of t types) from) (MemberFlatFault enc m ws (members_of t types) from) _ _ (λ k x f. f)
      (λ (low : before < names_length (members_of t types) + members_flat_reach enc m ws (members_of t types) from). omega (arith, low, no_length t types)) e h
