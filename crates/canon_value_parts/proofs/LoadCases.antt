-- A case in memory: its faults, its charges and its tree, by its payload as no member or one.
use Rattle.std.proofs.Common.{◌≡◌, ◌≤◌, ◌<◌, ◌+◌, ◌*◌, ◌%◌, ◌-◌, ◌∙◌, List, None, Option, Some, ap, arith, false, inl, inr, length, refl, subst, subst₂, suc, sym, true, zero, ℕ}
use Rattle.std.proofs.Math.Nat.{zero-mod}
use Rattle.std.proofs.lemmas.Nat.Gcd.{dvd_of_mod-eq-zero}
use Rattle.canon_abi.specs.Abi.{HasInfo}
use Rattle.canon_abi.specs.Sizes.{tag_bytes}
use Rattle.canon_abi.specs.declared.abi.VariantInfo.{VariantInfo}
use Rattle.canon_lowering.proofs.AimedCases.{case_room, number_of}
use Rattle.canon_lowering.proofs.Copying.{begins-same}
use Rattle.canon_lowering.specs.Copies.{case_members, case_tree}
use Rattle.canon_lowering.specs.Storing.{narrow}
use Rattle.canon_model.proofs.Layouts.{alignment, payloads_fit, tag-le-size}
use Rattle.canon_model.proofs.Reached.{reach_is_the_cost}
use Rattle.canon_model.specs.Homes.{host_texts}
use Rattle.canon_model.specs.Cost.{case_cost, cost, members_cost, names_length, val_cost}
use Rattle.canon_model.specs.Layout.{align, begins, members_align, members_end, payload_offset, payload_shape, size}
use Rattle.canon_model.specs.Leaves.{members_reach_leaves, reach_leaves}
use Rattle.canon_model.specs.Memory.{Inside, num, tag_at}
use Rattle.canon_model.specs.Reach.{At, CaseFault, Kind, MemberFault, StoredFault, address, case_reach, members_reach, no_case, reach_cost}
use Rattle.canon_model.specs.Rep.{CaseStored, MembersStored, RepMem, Stored}
use Rattle.canon_model.specs.Shape.{Cases, Members, Shape, VariantKind, bare, case_count, member_count, no_cases, payload, variant}
use Rattle.canon_model.specs.Text.{Encoding}
use Rattle.canon_model.specs.Tree.{Trees, no_trees, payload_of, tree}
use Rattle.canon_types.specs.Depth.{deepest, depth, variant_cases}
use Rattle.canon_plan.specs.CasePlan.{IsCaseSlots, TellsCase, case_name_cost, name_charge}
use Rattle.canon_context.specs.Told.{Exactly, LiftBlames, place_of}
use Rattle.canon_value_parts.specs.Loads.{AreCharged, IsLoaded, charged_reach}
use Rattle.canon_value_parts.specs.Plan.{IsCaseRebuilt}
use Rattle.canon_plan.specs.Plan.{IsVariant, shapes_of}
use Rattle.canon_types.specs.Table.{TypeTable}
use Rattle.canon_val.specs.Value.{AreLiftedFrom}
use Rattle.canon_plan.specs.declared.case_plan.CaseSlots.{CaseSlots}
use Rattle.canon_context.specs.declared.fault.Fault.{Fault}
use Rattle.canon_val.specs.declared.val.Val.{Val}
use Rattle.canon_value_parts.proofs.LeavesAt.{payload_leaves}
use Rattle.canon_value_parts.proofs.Cases.{case_shallow}
use Rattle.canon_context.proofs.Told.{blamed_by}
use Rattle.canon_value_parts.proofs.Values.{have_count}

-- ---- a payload

begins-zero : (s : Shape) → begins false 0 s ≡ 0
begins-zero s = begins-same false 0 s (dvd_of_mod-eq-zero (align false s) (zero-mod _))

pub payload_nameless : (cs : Cases) (i : ℕ) → names_length (case_members cs i) ≡ 0
payload_nameless no_cases i = refl
payload_nameless (bare name cs) zero = refl
payload_nameless (bare name cs) (suc i) = payload_nameless cs i
payload_nameless (payload name s cs) zero = refl
payload_nameless (payload name s cs) (suc i) = payload_nameless cs i

payload_align : (cs : Cases) (i : ℕ) → members_align false (case_members cs i) ≡ align false (payload_shape cs i)
unfolding align
payload_align no_cases i = refl
payload_align (bare name cs) zero = refl
payload_align (bare name cs) (suc i) = payload_align cs i
payload_align (payload name s cs) zero = omega (arith, (alignment false s))
payload_align (payload name s cs) (suc i) = payload_align cs i

-- the charges of a case: those of its name and of its payload
pub case_charges : (k : VariantKind) (cs : Cases) (i d : ℕ) (vs : List Val) (ts : Trees) → AreLiftedFrom (case_members cs i) vs ts
    → case_cost k cs i (payload_of (case_tree d ts)) ≡ case_name_cost k cs i + (member_count (case_members cs i) * val_cost + members_cost (case_members cs i) ts)
unfolding cost
case_charges k no_cases i d vs ts h = refl
case_charges k (bare name cs) zero d vs ts h = omega arith
case_charges k (bare name cs) (suc i) d vs ts h = case_charges k cs i d vs ts h
case_charges k (payload name s cs) zero d vs no_trees (v, others, t, rest, ev, et, h, hs) = cc
case_charges k (payload name s cs) zero d vs (tree t ts) h = omega arith
case_charges k (payload name s cs) (suc i) d vs ts h = case_charges k cs i d vs ts h

pub variant_charges : (s : Shape) (i : ℕ) (vs : List Val) (ts : Trees) → IsVariant s → AreLiftedFrom (case_members (variant_cases s) i) vs ts
    → cost s (case_tree i ts) ≡ name_charge s i + (member_count (case_members (variant_cases s) i) * val_cost + members_cost (case_members (variant_cases s) i) ts)
unfolding cost
variant_charges s i vs ts (k, e) h =
    let cs = variant_cases s in
    ap (λ (x : Shape). cost x (case_tree i ts)) e ∙ (ap (λ (d : ℕ). case_cost k cs d (payload_of (case_tree i ts))) (number_of i ts)
    ∙ (case_charges k cs i i vs ts h ∙ ap (λ (x : Shape). name_charge x i + (member_count (case_members cs i) * val_cost + members_cost (case_members cs i) ts)) (sym e)))

pub variant_depth : (s : Shape) (i : ℕ) → IsVariant s → 4 * deepest (case_members (variant_cases s) i) + 1 < 4 * depth s - 1
variant_depth s i (k, e) = omega (arith, case_shallow (variant_cases s) i, ap depth e)

-- ---- in memory

module _ (enc : Encoding) (bytes : List ℕ) where
  case_reached : (k : VariantKind) (cs : Cases) (i a : ℕ) → case_reach enc (narrow bytes) k cs i a ≡ case_name_cost k cs i + (member_count (case_members cs i) * val_cost + members_reach enc (narrow bytes) (case_members cs i) 0 a)
  unfolding reach_cost
  case_reached k no_cases i a = refl
  case_reached k (bare name cs) zero a = omega arith
  case_reached k (bare name cs) (suc i) a = case_reached k cs i a
  case_reached k (payload name s cs) zero a =
      let here : a + begins false 0 s ≡ a = omega (arith, begins-zero s) in
      omega (arith, ap (λ (b : ℕ). reach_cost enc (narrow bytes) s b) here)
  case_reached k (payload name s cs) (suc i) a = case_reached k cs i a

  case_blame : (cs : Cases) (i a : ℕ) (k : Kind) (x : At) → MemberFault enc (narrow bytes) (case_members cs i) 0 a k x → CaseFault enc (narrow bytes) cs i a k x
  case_blame no_cases i a k x f = absurd f
  case_blame (bare name cs) zero a k x f = absurd f
  case_blame (bare name cs) (suc i) a k x f = case_blame cs i a k x f
  case_blame (payload name s cs) zero a k x (inl f) =
      let here : a + begins false 0 s ≡ a = omega (arith, begins-zero s) in subst (λ (b : ℕ). StoredFault enc (narrow bytes) s b k x) here f
  case_blame (payload name s cs) zero a k x (inr f) = absurd f
  case_blame (payload name s cs) (suc i) a k x f = case_blame cs i a k x f

  case_stored : (cs : Cases) (i d a : ℕ) (ts : Trees) → i < case_count cs → MembersStored (Inside (narrow bytes)) false enc (narrow bytes) (case_members cs i) 0 a ts
      → CaseStored (Inside (narrow bytes)) false enc (narrow bytes) cs i d a (case_tree d ts)
  case_stored no_cases i d a ts lt h = absurd (omega (arith, lt))
  case_stored (bare name cs) zero d a ts lt h = ap (λ us. case_tree d us) h
  case_stored (bare name cs) (suc i) d a ts lt h = case_stored cs i d a ts (omega (arith, lt)) h
  case_stored (payload name s cs) zero d a ts lt (t, rest, e, h, hs) =
      let here : a + begins false 0 s ≡ a = omega (arith, begins-zero s) in
      (t, ap (λ us. case_tree d us) e, subst (λ (b : ℕ). Stored (Inside (narrow bytes)) false enc (narrow bytes) s b t) here h)
  case_stored (payload name s cs) (suc i) d a ts lt h = case_stored cs i d a ts (omega (arith, lt)) h

  module _ (s : Shape) (a tag : ℕ) (is : IsVariant s) (read : tag ≡ tag_at (narrow bytes) a (variant_cases s)) where
    abbrev these : Members
    these = case_members (variant_cases s) tag

    abbrev place : ℕ
    place = a + payload_offset false (variant_cases s)

    -- the type has no such case
    pub case_missing : case_count (variant_cases s) ≤ tag → StoredFault enc (narrow bytes) s a (no_case tag) (address a)
    case_missing h = subst (λ (x : Shape). StoredFault enc (narrow bytes) x a (no_case tag) (address a)) (sym is.1) (inl (record { kind_is = ap no_case read; at_is = refl }, omega (arith, h, read)))

    case_low : (now : ℕ) → now < name_charge s tag + (member_count these * val_cost + charged_reach enc (narrow bytes) these 0 place) → now < reach_cost enc (narrow bytes) s a
    unfolding reach_cost
    case_low now h =
        let cs = variant_cases s in
        let named : name_charge s tag ≡ case_name_cost is.0 cs tag = ap (λ (x : Shape). name_charge x tag) is.1 in
        let whole : reach_cost enc (narrow bytes) s a ≡ case_reach enc (narrow bytes) is.0 cs tag place =
        ap (λ (x : Shape). reach_cost enc (narrow bytes) x a) is.1 ∙ ap (λ (i : ℕ). case_reach enc (narrow bytes) is.0 cs i place) (sym read) in
        omega (arith, h, named, whole, case_reached is.0 cs tag place, payload_nameless cs tag)

    case_blames : (k : Kind) (x : At) → MemberFault enc (narrow bytes) these 0 place k x → StoredFault enc (narrow bytes) s a k x
    case_blames k x f = subst (λ (y : Shape). StoredFault enc (narrow bytes) y a k x) (sym is.1) (inr (subst (λ (i : ℕ). CaseFault enc (narrow bytes) (variant_cases s) i place k x) read (case_blame (variant_cases s) tag place k x f)))

    pub case_unpaid : (now : ℕ) → now < member_count these * val_cost → now < reach_cost enc (narrow bytes) s a
    case_unpaid now h = case_low now (omega (arith, h))

    pub payload_refused : (before mid : ℕ) → before ≡ mid + member_count these * val_cost → (e : Fault) → LiftBlames (Exactly (MemberFault enc (narrow bytes) these 0 place)) (mid < charged_reach enc (narrow bytes) these 0 place) e
        → LiftBlames (Exactly (StoredFault enc (narrow bytes) s a)) (before < reach_cost enc (narrow bytes) s a) e
    payload_refused before mid charged e h =
        blamed_by (Exactly (MemberFault enc (narrow bytes) these 0 place)) (Exactly (StoredFault enc (narrow bytes) s a)) (mid < charged_reach enc (narrow bytes) these 0 place) (before < reach_cost enc (narrow bytes) s a)
        (λ k x f. case_blames k (place_of x) f) (λ (low : mid < charged_reach enc (narrow bytes) these 0 place). case_low before (omega (arith, low, charged))) e h

    module _ (there : tag < case_count (variant_cases s)) where
      pub case_aligned : a % align false s ≡ 0 → place % members_align false these ≡ 0
      case_aligned h =
          let whole : a % align false (variant is.0 (variant_cases s)) ≡ 0 = subst (λ (x : Shape). a % align false x ≡ 0) is.1 h in
          subst (λ (n : ℕ). place % n ≡ 0) (sym (payload_align (variant_cases s) tag)) ((payloads_fit false is.0 (variant_cases s)).aligned a tag there whole)

      module _ (inside : a + size false s ≤ length bytes) where
        pub case_inside : place + members_end false 0 these ≤ length bytes
        case_inside = omega (arith, inside, ap (size false) is.1, case_room false (host_texts enc) is.0 (variant_cases s) tag there)

        case_represented : (ts : Trees) → MembersStored (Inside (narrow bytes)) false enc (narrow bytes) these 0 place ts → RepMem false enc (narrow bytes) a s (case_tree tag ts)
        case_represented ts stored =
            let cs = variant_cases s in
            let room : a + size false (variant is.0 cs) ≤ length bytes = omega (arith, inside, ap (size false) is.1) in
            subst (λ (x : Shape). RepMem false enc (narrow bytes) a x (case_tree tag ts)) (sym is.1)
            (room, subst (λ (i : ℕ). CaseStored (Inside (narrow bytes)) false enc (narrow bytes) cs i i place (case_tree tag ts)) read (case_stored cs tag tag place ts there stored))

        module _ (before mid late : ℕ) (vs : List Val) (charged : before ≡ mid + member_count these * val_cost) (loaded : AreCharged enc (narrow bytes) these 0 place mid late vs) where
          -- the name isn't paid
          pub name_unpaid : late < name_charge s tag → before < reach_cost enc (narrow bytes) s a
          name_unpaid low =
              let (ts, stored, have, spent) = loaded in
              omega (arith, low, charged, spent, payload_nameless (variant_cases s) tag, variant_charges s tag vs ts is have, reach_is_the_cost.memory false enc (narrow bytes) a s (case_tree tag ts) (case_represented ts stored))

          pub case_loaded : (after : ℕ) → late ≡ after + name_charge s tag → (v : Val) → IsCaseRebuilt s tag vs v → IsLoaded enc (narrow bytes) s a before after v
          case_loaded after named v made =
              let (ts, stored, have, spent) = loaded in
              (case_tree tag ts, case_represented ts stored, made ts have, omega (arith, named, charged, spent, payload_nameless (variant_cases s) tag, variant_charges s tag vs ts is have))

payload_count : (cs : Cases) (tag : ℕ) (vs : List Val) (ts : Trees) → AreLiftedFrom (case_members cs tag) vs ts → length vs ≡ member_count (case_members cs tag)
payload_count cs tag vs ts h = have_count true (case_members cs tag) vs ts h

-- the discriminant is inside memory
pub tag_inside : (s : Shape) (info : VariantInfo) (a n : ℕ) → IsVariant s → HasInfo info (variant_cases s) → a + size false s ≤ n → a + tag_bytes info.size ≤ n
tag_inside s info a n (k, e) h room = omega (arith, room, h.size, ap (size false) e, tag-le-size false k (variant_cases s))

pub none_past : (t : TypeTable) (s : Shape) (tag : ℕ) (r : Option CaseSlots) → TellsCase t s tag r → ((c : CaseSlots) → r ≡ Some c → ⊥) → case_count (variant_cases s) ≤ tag
none_past t s tag None h never = h
none_past t s tag (Some c) h never = absurd (never c refl)

-- Of a value of the shape at a, whose discriminant is this number, this is the payload, from b on: its faults and its charges are the
-- value's own.
pub record WeighsCase (enc : Encoding) (bytes : List ℕ) (s : Shape) (a tag : ℕ) (ms : Members) (b : ℕ) : Type 0 where
  pub unpaid : (now : ℕ) → now < member_count ms * val_cost → now < reach_cost enc (narrow bytes) s a
  pub refused : (before mid : ℕ) → before ≡ mid + member_count ms * val_cost → (e : Fault) → LiftBlames (Exactly (MemberFault enc (narrow bytes) ms 0 b)) (mid < charged_reach enc (narrow bytes) ms 0 b) e
      → LiftBlames (Exactly (StoredFault enc (narrow bytes) s a)) (before < reach_cost enc (narrow bytes) s a) e
  pub shallow : 4 * deepest ms + 1 < 4 * depth s - 1
  pub leaves : reach_leaves (narrow bytes) s a ≡ members_reach_leaves (narrow bytes) ms 0 b
  pub aligned : b % members_align false ms ≡ 0
  pub inside : b + members_end false 0 ms ≤ length bytes
  pub count : (mid late : ℕ) (vs : List Val) → AreCharged enc (narrow bytes) ms 0 b mid late vs → length vs ≡ member_count (case_members (variant_cases s) tag)
  pub nameless : (before mid late : ℕ) (vs : List Val) → before ≡ mid + member_count ms * val_cost → AreCharged enc (narrow bytes) ms 0 b mid late vs → late < name_charge s tag → before < reach_cost enc (narrow bytes) s a
  pub loaded : (before mid late after : ℕ) (vs : List Val) → before ≡ mid + member_count ms * val_cost → AreCharged enc (narrow bytes) ms 0 b mid late vs → late ≡ after + name_charge s tag
      → (v : Val) → IsCaseRebuilt s tag vs v → IsLoaded enc (narrow bytes) s a before after v

module _ (enc : Encoding) (bytes : List ℕ) (s : Shape) (a tag : ℕ) (is : IsVariant s) (info : VariantInfo) (has : HasInfo info (variant_cases s)) (told : tag ≡ num (narrow bytes) a (tag_bytes info.size)) where
  pub case_read : tag ≡ tag_at (narrow bytes) a (variant_cases s)
  case_read = told ∙ ap (num (narrow bytes) a) has.size

  pub case_weighs : a % align false s ≡ 0 → a + size false s ≤ length bytes → (t : TypeTable) (c : CaseSlots) → IsCaseSlots t s tag c → (n : ℕ) → n ≡ info.payload_offset32
      → WeighsCase enc bytes s a tag (shapes_of t c.payload) (a + n)
  case_weighs aligned inside t c h n start =
      let at : a + n ≡ a + payload_offset false (variant_cases s) = ap (λ (o : ℕ). a + o) (start ∙ (has.offset false)) in
      subst₂ (λ (ms : Members) (b : ℕ). WeighsCase enc bytes s a tag ms b) (sym h.shapes) (sym at) (record {
        unpaid = case_unpaid enc bytes s a tag is case_read;
        refused = payload_refused enc bytes s a tag is case_read;
        shallow = variant_depth s tag is;
        leaves = payload_leaves bytes s a tag is case_read;
        aligned = case_aligned enc bytes s a tag is case_read h.there aligned;
        inside = case_inside enc bytes s a tag is case_read h.there inside;
        count = λ mid late vs (ts, stored, have, spent). payload_count (variant_cases s) tag vs ts have;
        nameless = λ before mid late vs charged loaded. name_unpaid enc bytes s a tag is case_read h.there inside before mid late vs charged loaded;
        loaded = λ before mid late after vs charged loaded. case_loaded enc bytes s a tag is case_read h.there inside before mid late vs charged loaded after;
      })
