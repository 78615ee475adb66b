-- Steps of lifting from words, over plain variables.
use Rattle.std.proofs.Common.{◌≡◌, ◌≤◌, ◌<◌, ◌%◌, ◌*◌, ◌+◌, ◌^◌, ◌∙◌, Err, List, Ok, String, Vec, [], ◌∷◌, ap, arith, false, inl, inr, length, refl, subst, sym, ℕ, IfErr, IfOk, Result, le-leb, nat_le}
use Rattle.std.proofs.lemmas.Bool.{cond-true}
use Rattle.std.proofs.lemmas.List.{get_or_default}
use Rattle.std.specs.Prelude.{get_or, slice_index}
use Rattle.std.specs.declared.alloc.Global.{Global}
use Rattle.canon_model.proofs.Reached.{reach_is_the_cost}
use Rattle.canon_model.proofs.Unique.{one_tree}
use Rattle.canon_model.specs.Cost.{cost}
use Rattle.canon_model.specs.Flat.{MembersFlat, RepValues, flat_bits}
use Rattle.canon_model.specs.Layout.{flat, members_flat}
use Rattle.canon_model.specs.Memory.{Inside, Memory, ptr}
use Rattle.canon_model.specs.Reach.{FlatFault, MemberFlatFault, TextFault, ValuesFault, flat_reach, members_flat_reach, text_reach, values_reach, word}
use Rattle.canon_model.specs.Rep.{IsText, ScalarIs}
use Rattle.canon_model.specs.Shape.{Members, Name, Scalar, Shape, fixed, member, no_members, scalar, string}
use Rattle.canon_model.specs.Text.{Encoding}
use Rattle.canon_model.specs.Tree.{no_trees, text, tree}
use Rattle.canon_types.specs.declared.types.InterfaceType.{InterfaceType}
use Rattle.canon_types.specs.Table.{plain_shape}
use Rattle.canon_value_parts.specs.Lifts.{AreLifted, AreValuesTaken, AreValues, PartsLiftTo, IsOfWord, IsOfWords, LiftsTo, MembersLiftTo}
use Rattle.canon_string.specs.Loading.{IsTextLoaded}
use Rattle.canon_context.specs.Told.{Exactly, IsPlace, LiftBlames, ToldAt, place_of}
use Rattle.canon_context.specs.declared.fault.At.{At}
use Rattle.canon_context.specs.declared.fault.At.TheVariants as place
use Rattle.canon_context.specs.declared.fault.Fault.{Fault}
use Rattle.canon_context.specs.declared.fault.Fault.TheVariants as fault
use Rattle.canon_val.specs.declared.val.Val.{Val}
use Rattle.canon_val.specs.declared.val.Val.TheVariants as val
use Rattle.canon_context.proofs.Told.{blamed_by, text_told, core_told_by}
use Rattle.canon_plan.proofs.ScalarTypes.{plain_scalar}
use Rattle.canon_value_parts.proofs.ResourcesOf.{scalar_has_none, text_has_none}
use Rattle.canon_value_parts.specs.Resources.{resources}

-- the word at an index
pub word_found : (ws : List ℕ) (i w : ℕ) → w ≡ get_or ws i w → i < length ws → w ≡ slice_index ws i
word_found ws i w e room = e ∙ get_or_default ws i w 0 room

-- the place of a word whose index a `u32` has
pub word_placed : (x : At) (i : ℕ) → IsPlace x (word i) → i < 2 ^ 32 → x ≡ place.Word i
word_placed (place.Word k) i (inl e) small = ap place.Word e
word_placed (place.Word k) i (inr far) small = absurd (omega (arith, far.1, small))
word_placed (place.Address a) i is small = absurd is

pub text_words : (s : Shape) → s ≡ string → flat s ≡ 2
unfolding flat
text_words s e = ap flat e

pub value_fixed_words : (s element : Shape) (n : ℕ) → s ≡ fixed n element → flat s ≡ n * flat element
unfolding flat
value_fixed_words s element n e = ap flat e

module _ (enc : Encoding) (m : Memory) (ws : List ℕ) where
  -- ---- scalars

  pub scalar_lifted : (type : InterfaceType) (i w fuel : ℕ) (v : Val) → w ≡ get_or ws i w → i < length ws → IsOfWord type w v → LiftsTo enc m ws i (i + 1) fuel fuel (plain_shape type) (Ok v)
  unfolding flat cost
  scalar_lifted type i w fuel v ew room (k, t, e, has, is) =
      subst (λ s. LiftsTo enc m ws i (i + 1) fuel fuel s (Ok v)) (sym (plain_scalar type k e))
      ((t, (subst (λ (x : ℕ). ScalarIs k (x % 2 ^ flat_bits k) t) (word_found ws i w ew room) is, λ strict. cc), has, omega arith), refl)

  -- ---- texts, by their pointer and their length

  module _ (i p n : ℕ) (pointer : p ≡ ptr m (slice_index ws i)) (count : n ≡ ptr m (slice_index ws (i + 1))) where
    pub string_lifted : (before after : ℕ) (s : String Global) → IsTextLoaded enc m p n before after s → LiftsTo enc m ws i (i + 2) before after string (Ok (val.String s))
    unfolding flat cost
    string_lifted before after s (cs, k, is, spelled, spent) =
        let here : IsText (Inside m) false enc m p (ptr m (slice_index ws (i + 1))) (text cs k) = subst (λ (l : ℕ). IsText (Inside m) false enc m p l (text cs k)) count is in
        let there : IsText (Inside m) false enc m (ptr m (slice_index ws i)) (ptr m (slice_index ws (i + 1))) (text cs k) =
        subst (λ (q : ℕ). IsText (Inside m) false enc m q (ptr m (slice_index ws (i + 1))) (text cs k)) pointer here in
        ((text cs k, (there, λ strict. cc), (cs, k, (s, refl, spelled), refl), spent), refl)

    pub string_refused : (before : ℕ) (at : At) (e : Fault) → IsPlace at (word i) → LiftBlames (Exactly (TextFault enc m (place_of at) p n)) (before < text_reach enc m p n) e
        → LiftBlames (ToldAt (FlatFault enc m ws string i)) (before < flat_reach enc m ws string i) e
    unfolding flat_reach
    string_refused before at e is h =
        let told : LiftBlames (ToldAt (TextFault enc m (word i) p n)) (before < text_reach enc m p n) e = blamed_by _ _ _ _ (text_told at (word i) is enc m p n) (λ low. low) e h in
        let here : LiftBlames (ToldAt (TextFault enc m (word i) p (ptr m (slice_index ws (i + 1))))) (before < text_reach enc m p (ptr m (slice_index ws (i + 1)))) e =
        subst (λ (l : ℕ). LiftBlames (ToldAt (TextFault enc m (word i) p l)) (before < text_reach enc m p l) e) count told in
        subst (λ (q : ℕ). LiftBlames (ToldAt (TextFault enc m (word i) q (ptr m (slice_index ws (i + 1))))) (before < text_reach enc m q (ptr m (slice_index ws (i + 1)))) e) pointer here

  -- ---- values in a row

  -- a value that was lifted cost all that was reached
  reach_spent : (s : Shape) (from to before left : ℕ) (v : Val) → LiftsTo enc m ws from to before left s (Ok v) → before ≡ left + flat_reach enc m ws s from
  reach_spent s from to before left v ((t, rep, has, spent), words) = omega (arith, spent, reach_is_the_cost.flat false enc m ws from s t rep)

  pub parts_none : (from fuel : ℕ) → AreValuesTaken enc m ws from from fuel fuel no_members []
  unfolding flat cost
  parts_none from fuel = (no_trees, refl, (refl, refl), omega arith, omega arith)

  -- The first one was lifted, up to word `mid`, and `left` is the fuel that is left.
  module _ (s : Shape) (from mid before left : ℕ) (v : Val) (one : LiftsTo enc m ws from mid before left s (Ok v)) where
    pub part_before : (name : Name) (ms : Members) (to less after : ℕ) (vs : List Val) → left ≡ less + length name → AreValuesTaken enc m ws mid to less after ms vs → AreValuesTaken enc m ws from to before after (member name s ms) (v ∷ vs)
    unfolding flat cost
    part_before name ms to less after vs charged (ts, reps, have, spent, words) =
        let ((t, rep, has, taken), moved) = one in (
          tree t ts,
          (t, ts, refl, rep, subst (λ i. MembersFlat (Inside m) false enc m ws ms i ts) moved reps),
          (v, vs, t, ts, refl, refl, has, have),
          omega (arith, taken, charged, spent),
          omega (arith, moved, words),
        )

    -- a fault of those after it

    pub part_later : (name : Name) (ms : Members) (less : ℕ) (e : Fault) → left ≡ less + length name → PartsLiftTo enc m ws mid mid less less ms (Err e)
        → PartsLiftTo enc m ws from from before before (member name s ms) (Err e)
    unfolding flat_reach
    part_later name ms less e charged h =
        let reach : members_flat_reach enc m ws ms mid ≡ members_flat_reach enc m ws ms (from + flat s) = ap (members_flat_reach enc m ws ms) one.1 in
        core_told_by (MemberFlatFault enc m ws ms mid) (MemberFlatFault enc m ws (member name s ms) from) _ _ (λ k x f. inr (subst (λ i. MemberFlatFault enc m ws ms i k x) one.1 f))
        (λ low. omega (arith, low, charged, reach, reach_spent s from mid before left v one)) e h

    pub name_unpaid : (name : Name) (ms : Members) → left < length name → PartsLiftTo enc m ws from from before before (member name s ms) (Err fault.HostcallFuelExhausted)
    unfolding flat_reach
    name_unpaid name ms low = omega (arith, low, reach_spent s from mid before left v one)

  -- a fault of the first one

  pub part_first : (name : Name) (s : Shape) (ms : Members) (from before : ℕ) (e : Fault) → LiftsTo enc m ws from from before before s (Err e) → PartsLiftTo enc m ws from from before before (member name s ms) (Err e)
  unfolding flat_reach
  part_first name s ms from before e h = core_told_by (FlatFault enc m ws s from) (MemberFlatFault enc m ws (member name s ms) from) _ _ (λ k x f. inl f) (λ low. omega (arith, low)) e h

  -- ---- parameters or results in a row

  results_lifted : (most : ℕ) (ms : Members) (to before after : ℕ) (vs : List Val) → members_flat ms ≤ most → length ws ≡ members_flat ms → AreLifted enc m ws 0 to before after ms vs
      → AreValues most enc m ms ws before after vs
  results_lifted most ms to before after vs near count (ts, rep, have, spent, words) =
      let all : RepValues most false enc m ws ms ts = record { near = λ _. (count, rep); far = λ far. absurd (omega (arith, near, far)) } in
      record { its_trees = ts; represented = all; no_other = λ others other. one_tree.values most false enc m ws ms others ts other all; have = have; spent = spent }

  results_refused : (most : ℕ) (ms : Members) (before : ℕ) (e : Fault) → members_flat ms ≤ most → MembersLiftTo enc m ws 0 0 before before ms (Err e)
      → LiftBlames (ToldAt (ValuesFault enc m ws most ms)) (before < values_reach enc m ws most ms) e
  results_refused most ms before e near h =
      let reach : values_reach enc m ws most ms ≡ members_flat_reach enc m ws ms 0 = cond-true (nat_le (members_flat ms) most) _ _ (le-leb _ _ near) in
      core_told_by (MemberFlatFault enc m ws ms 0) (ValuesFault enc m ws most ms) _ _ (λ k x f. inl (near, f)) (λ low. omega (arith, low, reach)) e h

  pub results_ok : (most : ℕ) (ms : Members) (to before after : ℕ) (r : Result (Vec Val Global) Fault) → members_flat ms ≤ most → length ws ≡ members_flat ms → MembersLiftTo enc m ws 0 to before after ms r
      → IfOk r (λ values. AreValues most enc m ms ws before after values.items)
  results_ok most ms to before after (Ok values) near count h = results_lifted most ms to before after values.items near count h
  results_ok most ms to before after (Err e) near count h = tt

  pub results_err : (most : ℕ) (ms : Members) (to before after : ℕ) (r : Result (Vec Val Global) Fault) → members_flat ms ≤ most → MembersLiftTo enc m ws 0 to before after ms r
      → IfErr r (LiftBlames (ToldAt (ValuesFault enc m ws most ms)) (before < values_reach enc m ws most ms))
  results_err most ms to before after (Ok values) near h = tt
  results_err most ms to before after (Err e) near h = results_refused most ms before e near h

  -- ---- the answer

  pub lift_ok : (s : Shape) (from to before after : ℕ) (r : Result Val Fault) → LiftsTo enc m ws from to before after s r → IfOk r (IsOfWords enc m s ws from before after)
  lift_ok s from to before after (Ok v) h = h.0
  lift_ok s from to before after (Err e) h = tt

  pub lift_err : (s : Shape) (from to before after : ℕ) (r : Result Val Fault) → LiftsTo enc m ws from to before after s r → IfErr r (LiftBlames (ToldAt (FlatFault enc m ws s from)) (before < flat_reach enc m ws s from))
  lift_err s from to before after (Ok v) h = tt
  lift_err s from to before after (Err e) h = h

  -- ---- values without handles

  pub lifted_scalar_none : (from to fuel : ℕ) (k : Scalar) (s : Shape) → s ≡ scalar k → (r : Result Val Fault) → LiftsTo enc m ws from to fuel fuel s r → IfOk r (λ v. resources v ≡ [])
  lifted_scalar_none from to fuel k s is (Ok v) h = let (t, rep, has, spent) = subst (λ (x : Shape). IsOfWords enc m x ws from fuel fuel v) is h.0 in scalar_has_none k v t has
  lifted_scalar_none from to fuel k s is (Err e) h = tt

  pub lifted_text_none : (from to before after : ℕ) (r : Result Val Fault) → LiftsTo enc m ws from to before after string r → IfOk r (λ v. resources v ≡ [])
  lifted_text_none from to before after (Ok v) ((t, rep, (cs, n, is, et), spent), moved) = text_has_none cs v is
  lifted_text_none from to before after (Err e) h = tt
