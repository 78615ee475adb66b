-- A case in words: its faults, its charges and its tree, by its payload as no member or one.
use Rattle.std.proofs.Common.{◌≡◌, ◌≤◌, ◌<◌, ◌+◌, ◌*◌, ◌-◌, ◌∙◌, Err, IfErr, IfOk, List, Ok, Result, ap, arith, false, inl, inr, length, refl, subst, suc, sym, true, zero, ℕ}
use Rattle.canon_lowering.specs.Copies.{case_members, case_tree}
use Rattle.canon_model.proofs.Reached.{reach_is_the_cost}
use Rattle.canon_model.specs.Cost.{names_length, val_cost}
use Rattle.canon_model.specs.Flat.{CaseFlat, MembersFlat, RepFlatAt}
use Rattle.canon_model.specs.Layout.{cases_flat, flat, members_flat}
use Rattle.canon_model.specs.Leaves.{flat_leaves, members_flat_leaves}
use Rattle.canon_model.specs.Memory.{Inside, Memory, low}
use Rattle.canon_model.specs.Reach.{At, CaseFlatFault, FlatFault, Kind, MemberFlatFault, case_flat_reach, flat_reach, members_flat_reach, no_case, word}
use Rattle.canon_model.specs.Shape.{Cases, Members, Shape, VariantKind, bare, case_count, member_count, no_cases, payload}
use Rattle.canon_model.specs.Text.{Encoding}
use Rattle.canon_model.specs.Tree.{Trees}
use Rattle.canon_types.specs.Depth.{deepest, depth, variant_cases}
use Rattle.canon_types.specs.Table.{TypeTable}
use Rattle.std.specs.Prelude.{slice_index}
use Rattle.canon_plan.specs.CasePlan.{IsCaseSlots, case_name_cost, name_charge}
use Rattle.canon_value_parts.specs.Lifts.{AreValuesTaken, LiftsTo}
use Rattle.canon_context.specs.Told.{LiftBlames, ToldAt}
use Rattle.canon_value_parts.specs.Plan.{IsCaseRebuilt}
use Rattle.canon_plan.specs.Plan.{IsVariant, shapes_of}
use Rattle.canon_plan.specs.declared.case_plan.CaseSlots.{CaseSlots}
use Rattle.canon_context.specs.declared.fault.Fault.{Fault}
use Rattle.canon_context.specs.declared.fault.Fault.TheVariants as fault
use Rattle.canon_val.specs.declared.val.Val.{Val}
use Rattle.canon_value_parts.proofs.LoadCases.{payload_nameless, variant_charges, variant_depth}
use Rattle.canon_value_parts.proofs.LeavesAt.{payload_flat_leaves}
use Rattle.canon_context.proofs.Told.{core_told_by}
use Rattle.canon_value_parts.proofs.Values.{have_count}

case_words : (cs : Cases) (i : ℕ) → members_flat (case_members cs i) ≤ cases_flat cs
unfolding flat
case_words no_cases i = omega arith
case_words (bare name cs) zero = omega arith
case_words (bare name cs) (suc i) = case_words cs i
case_words (payload name s cs) zero = omega arith
case_words (payload name s cs) (suc i) = omega (arith, case_words cs i)

pub value_variant_words : (s : Shape) (tag : ℕ) → IsVariant s → 1 + members_flat (case_members (variant_cases s) tag) ≤ flat s
unfolding flat
value_variant_words s tag is = omega (arith, ap flat is.1, case_words (variant_cases s) tag)

pub variant_word : (s : Shape) → IsVariant s → 1 ≤ flat s
unfolding flat
variant_word s is = omega (arith, ap flat is.1)

module _ (enc : Encoding) (m : Memory) (ws : List ℕ) where
  case_reached : (k : VariantKind) (cs : Cases) (i j : ℕ) → case_flat_reach enc m ws k cs i j ≡ case_name_cost k cs i + (member_count (case_members cs i) * val_cost + members_flat_reach enc m ws (case_members cs i) j)
  unfolding flat_reach
  case_reached k no_cases i j = refl
  case_reached k (bare name cs) zero j = omega arith
  case_reached k (bare name cs) (suc i) j = case_reached k cs i j
  case_reached k (payload name s cs) zero j = omega arith
  case_reached k (payload name s cs) (suc i) j = case_reached k cs i j

  case_blame : (cs : Cases) (i j : ℕ) (k : Kind) (x : At) → MemberFlatFault enc m ws (case_members cs i) j k x → CaseFlatFault enc m ws cs i j k x
  case_blame no_cases i j k x f = absurd f
  case_blame (bare name cs) zero j k x f = absurd f
  case_blame (bare name cs) (suc i) j k x f = case_blame cs i j k x f
  case_blame (payload name s cs) zero j k x (inl f) = f
  case_blame (payload name s cs) zero j k x (inr f) = absurd f
  case_blame (payload name s cs) (suc i) j k x f = case_blame cs i j k x f

  -- the words past the payload aren't read
  case_in_words : (cs : Cases) (i d j e : ℕ) (ts : Trees) → i < case_count cs → MembersFlat (Inside m) false enc m ws (case_members cs i) j ts → CaseFlat (Inside m) false enc m ws cs i d j e (case_tree d ts)
  case_in_words no_cases i d j e ts lt h = absurd (omega (arith, lt))
  case_in_words (bare name cs) zero d j e ts lt h = (ap (λ us. case_tree d us) h, λ strict. cc)
  case_in_words (bare name cs) (suc i) d j e ts lt h = case_in_words cs i d j e ts (omega (arith, lt)) h
  case_in_words (payload name s cs) zero d j e ts lt (t, rest, is, h, hs) = (t, ap (λ us. case_tree d us) is, h, λ strict. cc)
  case_in_words (payload name s cs) (suc i) d j e ts lt h = case_in_words cs i d j e ts (omega (arith, lt)) h

  module _ (s : Shape) (i tag : ℕ) (is : IsVariant s) (read : tag ≡ low (slice_index ws i)) where
    abbrev these : Members
    these = case_members (variant_cases s) tag

    -- the type has no such case
    pub flat_case_missing : case_count (variant_cases s) ≤ tag → FlatFault enc m ws s i (no_case tag) (word i)
    flat_case_missing h = subst (λ (x : Shape). FlatFault enc m ws x i (no_case tag) (word i)) (sym is.1) (inl (record { kind_is = ap no_case read; at_is = refl }, omega (arith, h, read)))

    case_low : (now : ℕ) → now < name_charge s tag + (member_count these * val_cost + members_flat_reach enc m ws these (i + 1)) → now < flat_reach enc m ws s i
    unfolding flat_reach
    case_low now h =
        let cs = variant_cases s in
        let named : name_charge s tag ≡ case_name_cost is.0 cs tag = ap (λ (x : Shape). name_charge x tag) is.1 in
        let whole : flat_reach enc m ws s i ≡ case_flat_reach enc m ws is.0 cs tag (i + 1) =
        ap (λ (x : Shape). flat_reach enc m ws x i) is.1 ∙ ap (λ (d : ℕ). case_flat_reach enc m ws is.0 cs d (i + 1)) (sym read) in
        omega (arith, h, named, whole, case_reached is.0 cs tag (i + 1))

    case_blames : (k : Kind) (x : At) → MemberFlatFault enc m ws these (i + 1) k x → FlatFault enc m ws s i k x
    case_blames k x f = subst (λ (y : Shape). FlatFault enc m ws y i k x) (sym is.1) (inr (subst (λ (d : ℕ). CaseFlatFault enc m ws (variant_cases s) d (i + 1) k x) read (case_blame (variant_cases s) tag (i + 1) k x f)))

    pub flat_case_unpaid : (now : ℕ) → now < member_count these * val_cost → now < flat_reach enc m ws s i
    flat_case_unpaid now h = case_low now (omega (arith, h))

    pub payload_told : (before mid : ℕ) → before ≡ mid + member_count these * val_cost → (e : Fault)
        → LiftBlames (ToldAt (MemberFlatFault enc m ws these (i + 1))) (mid < names_length these + members_flat_reach enc m ws these (i + 1)) e → LiftBlames (ToldAt (FlatFault enc m ws s i)) (before < flat_reach enc m ws s i) e
    payload_told before mid charged e h =
        core_told_by (MemberFlatFault enc m ws these (i + 1)) (FlatFault enc m ws s i) _ _ case_blames
        (λ (less : mid < names_length these + members_flat_reach enc m ws these (i + 1)). case_low before (omega (arith, less, charged, payload_nameless (variant_cases s) tag))) e h

    module _ (there : tag < case_count (variant_cases s)) where
      case_represented : (ts : Trees) → MembersFlat (Inside m) false enc m ws these (i + 1) ts → RepFlatAt false enc m ws i s (case_tree tag ts)
      case_represented ts reps =
          let cs = variant_cases s in
          subst (λ (x : Shape). RepFlatAt false enc m ws i x (case_tree tag ts)) (sym is.1)
          (subst (λ (d : ℕ). CaseFlat (Inside m) false enc m ws cs d d (i + 1) (i + 1 + cases_flat cs) (case_tree tag ts)) read (case_in_words cs tag tag (i + 1) (i + 1 + cases_flat cs) ts there reps), λ strict. cc)

      module _ (to before mid late : ℕ) (vs : List Val) (charged : before ≡ mid + member_count these * val_cost) (lifted : AreValuesTaken enc m ws (i + 1) to mid late these vs) where
        -- the name isn't paid
        pub flat_name_unpaid : late < name_charge s tag → before < flat_reach enc m ws s i
        flat_name_unpaid less =
            let (ts, reps, have, spent, moved) = lifted in
            omega (arith, less, charged, spent, payload_nameless (variant_cases s) tag, variant_charges s tag vs ts is have, reach_is_the_cost.flat false enc m ws i s (case_tree tag ts) (case_represented ts reps))

        pub case_lifted : (end after : ℕ) → late ≡ after + name_charge s tag → end ≡ i + flat s → (r : Result Val Fault) → IfOk r (IsCaseRebuilt s tag vs) → IfErr r (λ e. e ≡ fault.OutOfMemory) → LiftsTo enc m ws i end before after s r
        case_lifted end after named moves (Ok v) made only =
            let (ts, reps, have, spent, moved) = lifted in
            ((case_tree tag ts, case_represented ts reps, made ts have, omega (arith, named, charged, spent, payload_nameless (variant_cases s) tag, variant_charges s tag vs ts is have)), moves)
        case_lifted end after named moves (Err e) made only = subst (λ x. LiftsTo enc m ws i end before after s (Err x)) (sym only) tt

-- Of a value of the shape from word i on, whose discriminant is this number, this is the payload, from the next word on: its faults and
-- its charges are the value's own, and its words among them.
pub record WeighsCaseWords (enc : Encoding) (m : Memory) (ws : List ℕ) (s : Shape) (i tag : ℕ) (ms : Members) : Type 0 where
  pub unpaid : (now : ℕ) → now < member_count ms * val_cost → now < flat_reach enc m ws s i
  pub refused : (before mid : ℕ) → before ≡ mid + member_count ms * val_cost → (e : Fault) → LiftBlames (ToldAt (MemberFlatFault enc m ws ms (i + 1))) (mid < names_length ms + members_flat_reach enc m ws ms (i + 1)) e
      → LiftBlames (ToldAt (FlatFault enc m ws s i)) (before < flat_reach enc m ws s i) e
  pub shallow : 4 * deepest ms + 1 < 4 * depth s - 1
  pub leaves : flat_leaves m ws s i ≡ members_flat_leaves m ws ms (i + 1)
  pub room : 1 + members_flat ms ≤ flat s
  pub count : (to mid late : ℕ) (vs : List Val) → AreValuesTaken enc m ws (i + 1) to mid late ms vs → length vs ≡ member_count (case_members (variant_cases s) tag)
  pub nameless : (to before mid late : ℕ) (vs : List Val) → before ≡ mid + member_count ms * val_cost → AreValuesTaken enc m ws (i + 1) to mid late ms vs → late < name_charge s tag → before < flat_reach enc m ws s i
  pub lifted : (to before mid late end after : ℕ) (vs : List Val) → before ≡ mid + member_count ms * val_cost → AreValuesTaken enc m ws (i + 1) to mid late ms vs → late ≡ after + name_charge s tag → end ≡ i + flat s
      → (r : Result Val Fault) → IfOk r (IsCaseRebuilt s tag vs) → IfErr r (λ e. e ≡ fault.OutOfMemory) → LiftsTo enc m ws i end before after s r

pub case_weighs_words : (enc : Encoding) (m : Memory) (ws : List ℕ) (s : Shape) (i tag : ℕ) → IsVariant s → tag ≡ low (slice_index ws i) → (t : TypeTable) (c : CaseSlots) → IsCaseSlots t s tag c
    → WeighsCaseWords enc m ws s i tag (shapes_of t c.payload)
case_weighs_words enc m ws s i tag is read t c h =
    subst (λ (ms : Members). WeighsCaseWords enc m ws s i tag ms) (sym h.shapes) (record {
      unpaid = flat_case_unpaid enc m ws s i tag is read;
      refused = payload_told enc m ws s i tag is read;
      shallow = variant_depth s tag is;
      leaves = payload_flat_leaves m ws s i tag is read;
      room = value_variant_words s tag is;
      count = λ to mid late vs (ts, reps, have, spent, moved). have_count true (case_members (variant_cases s) tag) vs ts have;
      nameless = λ to before mid late vs charged lifted. flat_name_unpaid enc m ws s i tag is read h.there to before mid late vs charged lifted;
      lifted = λ to before mid late end after vs charged lifted. case_lifted enc m ws s i tag is read h.there to before mid late vs charged lifted end after;
    })
