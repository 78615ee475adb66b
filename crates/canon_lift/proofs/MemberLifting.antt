-- A member of a tuple is lifted, and then those behind it.
use Rattle.std.proofs.Common.{◌≡◌, ◌≤◌, ◌+◌, ◌%◌, Err, List, Ok, Result, [], ◌∷◌, drop, false, length, subst, sym, ℕ}
use Rattle.std.specs.Prelude.{slice_index_or}
use Rattle.canon_abi.specs.Abi.{HasLayout}
use Rattle.canon_abi.specs.declared.abi.CanonicalAbiInfo.{CanonicalAbiInfo}
use Rattle.canon_context.specs.Core.{Parts, component_types}
use Rattle.canon_context.specs.declared.fault.Fault.{Fault}
use Rattle.canon_ledger.specs.Ledger.{LedgerState}
use Rattle.canon_lowering.specs.Storing.{narrow}
use Rattle.canon_model.specs.Layout.{align, align_to, begins, ends, members_align, members_end, size}
use Rattle.canon_model.specs.Shape.{Members, Shape, member, of_places, product}
use Rattle.canon_types.specs.Instance.{Instance}
use Rattle.canon_types.specs.Table as table
use Rattle.canon_types.specs.Table.{TypeTable, members_of, shape_of}
use Rattle.canon_types.specs.declared.types.InterfaceType.{InterfaceType}
use Rattle.canon_typed.specs.Types.{AreOf}
use Rattle.canon_lift.specs.Firsts.{first_and, first_in, rest_in}
use Rattle.canon_lift.specs.declared.members.First.{First}
use Rattle.canon_reading.specs.Reading.{AreTaken, Lifts, Reading, Refused, Setting, setting_in}
use Rattle.canon_reading.specs.Readings.{RestReading, first_reading}
use Rattle.canon_reading.specs.Rests.{rest_reading}
use Rattle.canon_reading.specs.Spots.{Rest, Spot, first_spot, others, stored}
use Rattle.canon_lift_parts.proofs.MemberSteps.{member_refused, members_read, lift_next_aligned, next_end, next_inside, next_of_tuple, others_refused, place_is, rest_aligned, rest_inside, spot_of}

-- the members of tuple i from k on
abbrev pub members_from : {D G : Type 0} → ℕ → ℕ → Parts D G → Members
members_from i k core = members_of (component_types core) (drop k (table.types_of (component_types core) i))

-- ---- their types

-- of members from k on, the first has the type, and each fits
pub record IsNextMember {D G : Type 0} (core : Parts D G) (i k : ℕ) (Fit : Instance → InterfaceType → Type 0) (Fits : List (Instance → InterfaceType → Type 0)) (type : InterfaceType) : Type 0 where
  pub split : drop k (table.types_of (component_types core) i) ≡ type ∷ drop (k + 1) (table.types_of (component_types core) i)
  pub first : Fit core.component.types type
  pub others : AreOf Fits core.component.types (drop (k + 1) (table.types_of (component_types core) i))

pub next : {D G : Type 0} (core : Parts D G) (i k : ℕ) (Fit : Instance → InterfaceType → Type 0) (Fits : List (Instance → InterfaceType → Type 0)) (t2 : TypeTable) (items : List InterfaceType)
    (type : InterfaceType)
    → t2 ≡ component_types core → items ≡ table.types_of t2 i → type ≡ slice_index_or items k type → AreOf (Fit ∷ Fits) core.component.types (drop k (table.types_of (component_types core) i))
    → IsNextMember core i k Fit Fits type
next core i k Fit Fits t2 items type same are is fits =
    let split = next_of_tuple (component_types core) t2 i k items type Fit Fits core.component.types same are is fits in
    let (first, others) = subst (λ types. AreOf (Fit ∷ Fits) core.component.types types) split fits in
    record { split = split; first = first; others = others }

-- ---- where they stand in memory

-- a member at a start behind an end, and those behind it
pub record IsPlacedMember (s : Shape) (more : Members) (memory : List ℕ) (at end start after : ℕ) : Type 0 where
  pub place : stored (at + start) ≡ stored (at + begins false end s)
  pub aligned : (at + start) % align false s ≡ 0
  pub inside : at + start + size false s ≤ length memory
  pub behind : after ≡ ends false end s
  pub more_aligned : at % members_align false more ≡ 0
  pub more_inside : at + members_end false after more ≤ length memory

module _ (t t2 : TypeTable) (types more : List InterfaceType) (type : InterfaceType) (split : types ≡ type ∷ more) (memory : List ℕ) (at end start after : ℕ) (abi : CanonicalAbiInfo) where
  pub lift_placed : at % members_align false (members_of t types) ≡ 0 → at + members_end false end (members_of t types) ≤ length memory → t2 ≡ t → HasLayout abi (shape_of t2 type)
      → start ≡ align_to end abi.align32 → after ≡ align_to end abi.align32 + abi.size32 → IsPlacedMember (shape_of t type) (members_of t more) memory at end start after
  lift_placed aligned inside same layout starts stops =
      let behind = next_end t types more type split at end memory inside aligned t2 abi same layout after stops in
      record {
        place = place_is t types more type split at end memory inside aligned t2 abi same layout start starts;
        aligned = lift_next_aligned t types more type split at end memory inside aligned t2 abi same layout start starts;
        inside = next_inside t types more type split at end memory inside aligned t2 abi same layout start starts;
        behind = behind;
        more_aligned = rest_aligned t types more type split at end memory inside aligned;
        more_inside = subst (λ n. at + members_end false n (members_of t more) ≤ length memory) (sym behind) (rest_inside t types more type split at end memory inside aligned);
      }

-- ---- what comes of them, in memory and in words

-- member k, of a shape, stands at a spot, and the others from another one on
pub record IsMember {D G : Type 0} (core : Parts D G) (i k : ℕ) (s : Shape) (from next : Rest) (first : Spot) : Type 0 where
  pub are : members_from i k core ≡ member [] s (members_from i (k + 1) core)
  pub place : first ≡ first_spot (narrow core.memory) s from
  pub behind : next ≡ others (narrow core.memory) s from

abbrev pub and_first : {A B : Type 0} → A → Result B Fault → Result (First A B) Fault
and_first x (Ok y) = Ok (first_and x y)
and_first x (Err e) = Err e

module _ {A B : Type 0} (R : Reading A) (S : RestReading B) (w : Setting) (from : Rest) (s : Shape) (more ms : Members) (before mid after : LedgerState) (fuel now left : ℕ) where
  -- the members, of which the first is known
  abbrev whole : Members → Reading (First A B)
  whole = rest_reading (first_reading first_in rest_in R S) from

  both : ms ≡ member [] s more → AreTaken R → (x : A) → Lifts R w (first_spot w.memory s from) s before fuel (Ok x) mid now → (r : Result B Fault)
      → Lifts (rest_reading S (others w.memory s from) more) w (spot_of (others w.memory s from)) (product of_places more) mid now r after left
      → Lifts (whole ms) w (spot_of from) (product of_places ms) before fuel (and_first x r) after left
  both are taken x (read, spent) (Ok y) (members, cost) =
      subst (λ xs. Lifts (whole xs) w (spot_of from) (product of_places ms) before fuel (Ok (first_and x y)) after left) (sym are)
      (members_read first_in rest_in R S w from [] s more (product of_places ms) before fuel (first_and x y) mid after now left read spent members cost)
  both are taken x (read, spent) (Err e) r =
      subst (λ xs. Refused (whole xs) w (spot_of from) (product of_places ms) before fuel e after left) (sym are)
      (others_refused first_in rest_in R S w from [] s more (product of_places ms) before fuel taken x mid now read spent e after left (product of_places more) r)

module _ {D G A B : Type 0} (R : Reading A) (S : RestReading B) (core : Parts D G) (o i k : ℕ) {s : Shape} {from next : Rest} {first : Spot} (h : IsMember core i k s from next first) (fuel : ℕ) where
  abbrev members : Reading (First A B)
  members = rest_reading (first_reading first_in rest_in R S) from (members_from i k core)

  -- the member is lifted where it stands
  there : (r : Result A Fault) (mid : LedgerState) (now : ℕ) → Lifts R (setting_in core o) first s core.ledger fuel r mid now
      → Lifts R (setting_in core o) (first_spot (narrow core.memory) s from) s core.ledger fuel r mid now
  there r mid now lifts = subst (λ (p : Spot). Lifts R (setting_in core o) p s core.ledger fuel r mid now) h.place lifts

  pub first_refused : (e : Fault) (mid : LedgerState) (now : ℕ) → Lifts R (setting_in core o) first s core.ledger fuel (Err e) mid now
      → Lifts members (setting_in core o) (spot_of from) (product of_places (members_from i k core)) core.ledger fuel (Err e) mid now
  first_refused e mid now lifts =
      let z = product of_places (members_from i k core) in
      subst (λ xs. Refused (rest_reading (first_reading first_in rest_in R S) from xs) (setting_in core o) (spot_of from) z core.ledger fuel e mid now) (sym h.are)
      (member_refused first_in rest_in R S (setting_in core o) from [] s (members_from i (k + 1) core) z core.ledger fuel e mid now (there (Err e) mid now lifts))

  -- then only the ledger had changed
  module _ (taken : AreTaken R) (mid : Parts D G) (same : mid ≡ record core { ledger = mid.ledger }) (o2 : ℕ) (eo : o2 ≡ o) (after : LedgerState) (now left : ℕ) where
    others_lift : (r : Result B Fault)
        → Lifts (rest_reading S next (members_from i (k + 1) mid)) (setting_in mid o2) (spot_of next) (product of_places (members_from i (k + 1) mid)) mid.ledger now r after left
        → Lifts (rest_reading S (others (narrow core.memory) s from) (members_from i (k + 1) core)) (setting_in core o) (spot_of (others (narrow core.memory) s from))
        (product of_places (members_from i (k + 1) core)) mid.ledger now r after left
    others_lift r lifts =
        let more = members_from i (k + 1) core in
        let before = mid.ledger in
        subst (λ (x : Rest). Lifts (rest_reading S x more) (setting_in core o) (spot_of x) (product of_places more) before now r after left) h.behind
        (subst (λ n. Lifts (rest_reading S next more) (setting_in core n) (spot_of next) (product of_places more) before now r after left) eo
        (subst (λ (z : Parts D G). Lifts (rest_reading S next (members_from i (k + 1) z)) (setting_in z o2) (spot_of next) (product of_places (members_from i (k + 1) z)) before now r after left) same
        lifts))

    pub rest_lifts : (x : A) → Lifts R (setting_in core o) first s core.ledger fuel (Ok x) mid.ledger now → (r : Result B Fault)
        → Lifts (rest_reading S next (members_from i (k + 1) mid)) (setting_in mid o2) (spot_of next) (product of_places (members_from i (k + 1) mid)) mid.ledger now r after left
        → Lifts members (setting_in core o) (spot_of from) (product of_places (members_from i k core)) core.ledger fuel (and_first x r) after left
    rest_lifts x lifts r more =
        both R S (setting_in core o) from s (members_from i (k + 1) core) (members_from i k core) core.ledger mid.ledger after fuel now left h.are taken x (there (Ok x) mid.ledger now lifts) r
        (others_lift r more)
