-- The members of a tuple, lifted one after another.
use Rattle.std.proofs.Common.{◌≡◌, ◌≤◌, ◌<◌, ◌+◌, ◌%◌, ◌^◌, ◌∙◌, List, Ok, Result, [], ◌∷◌, ap, arith, drop, false, inl, inr, length, subst, suc, sym, zero, ℕ}
use Rattle.std.proofs.Math.Nat.{dvd-add}
use Rattle.std.proofs.lemmas.Nat.Gcd.{dvd_of_mod-eq-zero, dvd_trans, mod-eq-zero_of_dvd}
use Rattle.std.specs.Prelude.{slice_index_or}
use Rattle.canon_abi.specs.Abi.{HasLayout}
use Rattle.canon_abi.specs.declared.abi.CanonicalAbiInfo.{CanonicalAbiInfo}
use Rattle.canon_context.specs.Core.{Parts, component_types}
use Rattle.canon_context.specs.declared.fault.At.{At as Place}
use Rattle.canon_context.specs.declared.fault.Fault.{Fault}
use Rattle.canon_ledger.specs.Ledger.{LedgerState}
use Rattle.canon_model.proofs.Layouts.{align-dvd-align, align_to-dvd, alignment, members_alignment, members_end-le, members_end-le-size}
use Rattle.canon_model.specs.Laws.{IsAlignment}
use Rattle.canon_model.specs.Layout.{align, align_to, begins, ends, flat, members_align, members_end, members_flat, size}
use Rattle.canon_model.specs.Reach as reach
use Rattle.canon_model.specs.Reach.{Kind}
use Rattle.canon_model.specs.Shape.{Members, Name, Shape, member, of_places, product}
use Rattle.canon_types.specs.Instance.{Instance}
use Rattle.canon_types.specs.Table as table
use Rattle.canon_types.specs.Table.{TypeTable, members_of, shape_of}
use Rattle.canon_types.specs.declared.types.InterfaceType.{InterfaceType}
use Rattle.canon_types.specs.declared.types.InterfaceType.TheVariants as ty
use Rattle.std.specs.Option.{option_map_or}
use Rattle.canon_typed.specs.Types.{AreOf, IsTupleOf}
use Rattle.canon_reading.specs.Reading.{AreTaken, Lifts, NamedBy, Reading, Refused, Setting, setting_in}
use Rattle.canon_context.specs.Faults.{stop_of}
use Rattle.canon_reading.specs.Readings.{RestReading, first_reading}
use Rattle.canon_reading.specs.Rests.{rest_reading}
use Rattle.canon_reading.specs.Spots.{Rest, Spot, first_spot, flat_from, flat_in, others, stored, stored_from}
use Rattle.canon_lift_parts.proofs.CaseLifting.{or_left, or_right}
use Rattle.canon_lift_parts.proofs.Refusals.{lift_named_by, refused_by, stops_first, stops_second}

-- ---- the next type

pub next_type : {A : Type 0} (xs : List A) (k : ℕ) (x : A) → x ≡ slice_index_or xs k x → k < length xs → drop k xs ≡ x ∷ drop (k + 1) xs
next_type [] k x e h = absurd (omega (arith, h))
next_type (y ∷ ys) zero x e h = ap (λ z. z ∷ ys) (sym e)
next_type (y ∷ ys) (suc k) x e h =
    let one : suc k + 1 ≡ suc (k + 1) = omega arith in
    let there : drop (suc k + 1) (y ∷ ys) ≡ drop (k + 1) ys = ap (λ n. drop n (y ∷ ys)) one in
    next_type ys k x e (omega (arith, h)) ∙ ap (λ zs. x ∷ zs) (sym there)

some_left : (F : Instance → InterfaceType → Type 0) (fs : List (Instance → InterfaceType → Type 0)) (i : Instance) (xs : List InterfaceType) (k : ℕ) → AreOf (F ∷ fs) i (drop k xs) → k < length xs
some_left F fs i [] zero h = absurd h
some_left F fs i [] (suc k) h = absurd h
some_left F fs i (x ∷ xs) zero h = omega arith
some_left F fs i (x ∷ xs) (suc k) h = omega (arith, some_left F fs i xs k h)

-- of a tuple, by its look-up
pub next_of_tuple : (t t2 : TypeTable) (i k : ℕ) (items : List InterfaceType) (x : InterfaceType) (F : Instance → InterfaceType → Type 0) (fs : List (Instance → InterfaceType → Type 0))
    (j : Instance) → t2 ≡ t → items ≡ table.types_of t2 i → x ≡ slice_index_or items k x
    → AreOf (F ∷ fs) j (drop k (table.types_of t i)) → drop k (table.types_of t i) ≡ x ∷ drop (k + 1) (table.types_of t i)
next_of_tuple t t2 i k items x F fs j same are is h =
    let all : items ≡ table.types_of t i = are ∙ ap (λ z. table.types_of z i) same in
    next_type (table.types_of t i) k x (is ∙ ap (λ zs. slice_index_or zs k x) all) (some_left F fs j (table.types_of t i) k h)

-- ---- where it stands

-- an alignment that is at most another one: what the larger divides it divides
aligned_part : (a x y : ℕ) → IsAlignment x → IsAlignment y → x ≤ y → a % y ≡ 0 → a % x ≡ 0
aligned_part a x y p q h e = mod-eq-zero_of_dvd x (dvd_trans x (align-dvd-align x y p q h) (dvd_of_mod-eq-zero y e))

module _ (t : TypeTable) (types more : List InterfaceType) (type : InterfaceType) (split : types ≡ type ∷ more) (at end : ℕ) where
  abbrev s : Shape
  s = shape_of t type

  abbrev rest : Members
  rest = members_of t more

  pub members_are : members_of t types ≡ member [] s rest
  members_are = ap (members_of t) split

  ends_rest : members_end false (ends false end s) rest ≡ members_end false end (members_of t types)
  unfolding size
  ends_rest = sym (ap (λ ms. members_end false end ms) members_are)

  module _ (memory : List ℕ) (inside : at + members_end false end (members_of t types) ≤ length memory) (aligned : at % members_align false (members_of t types) ≡ 0) where
    whole_aligned : at % members_align false (member [] s rest) ≡ 0
    whole_aligned = subst (λ ms. at % members_align false ms ≡ 0) members_are aligned

    pub rest_aligned : at % members_align false rest ≡ 0
    unfolding align
    rest_aligned = aligned_part at (members_align false rest) (members_align false (member [] s rest)) (members_alignment false rest) (members_alignment false (member [] s rest)) (omega arith) whole_aligned

    pub rest_inside : at + members_end false (ends false end s) rest ≤ length memory
    rest_inside = omega (arith, inside, ends_rest)

    ends_inside : at + ends false end s ≤ length memory
    ends_inside = omega (arith, rest_inside, members_end-le false (ends false end s) rest)

    -- the first of them
    pub lift_first_inside : at + begins false end s + size false s ≤ length memory
    lift_first_inside = omega (arith, ends_inside)

    pub first_aligned : (at + begins false end s) % align false s ≡ 0
    unfolding align
    first_aligned =
        let one : at % align false s ≡ 0 = aligned_part at (align false s) (members_align false (member [] s rest)) (alignment false s) (members_alignment false (member [] s rest)) (omega arith) whole_aligned in
        mod-eq-zero_of_dvd (align false s) (dvd-add (align false s) (dvd_of_mod-eq-zero (align false s) one) (align_to-dvd end (align false s)))

    module _ (t2 : TypeTable) (abi : CanonicalAbiInfo) (same : t2 ≡ t) (layout : HasLayout abi (shape_of t2 type)) where
      here : HasLayout abi s
      here = subst (λ (x : TypeTable). HasLayout abi (shape_of x type)) same layout

      starts_so : align_to end abi.align32 ≡ begins false end s
      starts_so = ap (align_to end) (here.align false)

      ends_so : align_to end abi.align32 + abi.size32 ≡ ends false end s
      ends_so = ap (λ n. n + abi.size32) starts_so ∙ ap (λ n. begins false end s + n) (here.size false)

      pub lift_next_fits : length memory ≤ 2 ^ 32 → align_to end abi.align32 + abi.size32 < 2 ^ 64
      lift_next_fits few = omega (arith, few, ends_so, ends_inside)

      module _ (start : ℕ) (start_is : start ≡ align_to end abi.align32) where
        pub place_is : stored (at + start) ≡ stored (at + begins false end s)
        place_is = ap (λ n. stored (at + n)) (start_is ∙ starts_so)

        pub next_inside : at + start + size false s ≤ length memory
        next_inside = omega (arith, start_is, starts_so, lift_first_inside)

        pub lift_next_aligned : (at + start) % align false s ≡ 0
        lift_next_aligned = subst (λ n. (at + n) % align false s ≡ 0) (sym (start_is ∙ starts_so)) first_aligned

      pub next_end : (after : ℕ) → after ≡ align_to end abi.align32 + abi.size32 → after ≡ ends false end s
      next_end after is = is ∙ ends_so

-- ---- what comes of it

abbrev pub spot_of : Rest → Spot
spot_of (stored_from a o) = stored a
spot_of (flat_from ws i) = flat_in ws i

module _ {A B C : Type 0} (first : C → A) (others_of : C → B) (R : Reading A) (S : RestReading B) (w : Setting) (from : Rest) (name : Name) (s : Shape) (ms : Members) (z : Shape) (before : LedgerState) (fuel : ℕ) where
  abbrev lift_whole : Reading C
  lift_whole = rest_reading (first_reading first others_of R S) from (member name s ms)

  first_named : (F : Kind → reach.At → Type 0) (r : Rest) (k : Kind) (x : Place) → NamedBy (first_spot w.memory s r) F k x → NamedBy (spot_of r) F k x
  first_named F (stored_from a o) k x h = h
  first_named F (flat_from ws i) k x h = h

  others_named : (F : Kind → reach.At → Type 0) (r : Rest) (k : Kind) (x : Place) → NamedBy (spot_of (others w.memory s r)) F k x → NamedBy (spot_of r) F k x
  others_named F (stored_from a o) k x h = h
  others_named F (flat_from ws i) k x h = h

  pub member_refused : (e : Fault) (after : LedgerState) (left : ℕ) → Refused R w (first_spot w.memory s from) s before fuel e after left → Refused lift_whole w (spot_of from) z before fuel e after left
  member_refused e after left r =
      refused_by R lift_whole w (first_spot w.memory s from) (spot_of from) s z before before after fuel fuel left e
      (λ k x h. first_named (lift_whole.faults w (spot_of from) z) from k x (lift_named_by (first_spot w.memory s from) (R.faults w (first_spot w.memory s from) s) (lift_whole.faults w (spot_of from) z) (λ j y f. inl f) k x h))
      (λ low. omega (arith, low)) (λ all. or_left R.allocates S.allocates all) (λ stops. stops_first (stop_of e) before after _ _ stops) (omega arith) r

  pub others_refused : AreTaken R → (x : A) (mid : LedgerState) (now : ℕ) → R.reads w (first_spot w.memory s from) s before x mid → fuel ≡ now + R.reach w (first_spot w.memory s from) s
      → (e : Fault) (after : LedgerState) (left : ℕ) (y : Shape) → Refused (rest_reading S (others w.memory s from) ms) w (spot_of (others w.memory s from)) y mid now e after left
      → Refused lift_whole w (spot_of from) z before fuel e after left
  others_refused taken x mid now read spent e after left y r =
      refused_by (rest_reading S (others w.memory s from) ms) lift_whole w (spot_of (others w.memory s from)) (spot_of from) y z mid before after now fuel left e
      (λ k p h. others_named (lift_whole.faults w (spot_of from) z) from k p (lift_named_by (spot_of (others w.memory s from)) (S.faults w (others w.memory s from) ms) (lift_whole.faults w (spot_of from) z) (λ j q f. inr f) k p h))
      (λ low. omega (arith, low, spent)) (λ all. or_right R.allocates S.allocates all)
      (λ stops. stops_second (stop_of e) before mid after _ _ (taken w (first_spot w.memory s from) s before mid x read) stops) (omega (arith, spent)) r

  pub members_read : (v : C) (mid after : LedgerState) (now left : ℕ) → R.reads w (first_spot w.memory s from) s before (first v) mid → fuel ≡ now + R.reach w (first_spot w.memory s from) s
      → S.reads w (others w.memory s from) ms mid (others_of v) after → now ≡ left + S.reach w (others w.memory s from) ms → Lifts lift_whole w (spot_of from) z before fuel (Ok v) after left
  members_read v mid after now left read spent more cost = ((mid, read, more), omega (arith, spent, cost))

-- ---- the members behind it, where only the ledger changed

module _ {D G B : Type 0} (S : RestReading B) (core now : Parts D G) (same : now ≡ record core { ledger = now.ledger }) (o o2 : ℕ) (eo : o2 ≡ o) (i j at end : ℕ) where
  abbrev left_of : Parts D G → Members
  left_of z = members_of (component_types z) (drop j (table.types_of (component_types z) i))

  pub others_here : (before after : LedgerState) (fuel left : ℕ) (r : Result B Fault) → Lifts (rest_reading S (stored_from at end) (left_of now)) (setting_in now o2) (stored at) (product of_places (left_of now)) before fuel r after left
      → Lifts (rest_reading S (stored_from at end) (left_of core)) (setting_in core o) (stored at) (product of_places (left_of core)) before fuel r after left
  others_here before after fuel left r h =
      subst (λ n. Lifts (rest_reading S (stored_from at end) (left_of core)) (setting_in core n) (stored at) (product of_places (left_of core)) before fuel r after left) eo
      (subst (λ (z : Parts D G). Lifts (rest_reading S (stored_from at end) (left_of z)) (setting_in z o2) (stored at) (product of_places (left_of z)) before fuel r after left) same h)

module _ {D G B : Type 0} (S : RestReading B) (core now : Parts D G) (same : now ≡ record core { ledger = now.ledger }) (o o2 : ℕ) (eo : o2 ≡ o) (i j at : ℕ) (ws : List ℕ) where
  abbrev words_of : Parts D G → Members
  words_of z = members_of (component_types z) (drop j (table.types_of (component_types z) i))

  pub others_in_words : (before after : LedgerState) (fuel left : ℕ) (r : Result B Fault)
      → Lifts (rest_reading S (flat_from ws at) (words_of now)) (setting_in now o2) (flat_in ws at) (product of_places (words_of now)) before fuel r after left
      → Lifts (rest_reading S (flat_from ws at) (words_of core)) (setting_in core o) (flat_in ws at) (product of_places (words_of core)) before fuel r after left
  others_in_words before after fuel left r h =
      subst (λ n. Lifts (rest_reading S (flat_from ws at) (words_of core)) (setting_in core n) (flat_in ws at) (product of_places (words_of core)) before fuel r after left) eo
      (subst (λ (z : Parts D G). Lifts (rest_reading S (flat_from ws at) (words_of z)) (setting_in z o2) (flat_in ws at) (product of_places (words_of z)) before fuel r after left) same h)

-- ---- the whole tuple

tuple_shape : (all : List (Instance → InterfaceType → Type 0)) (j : Instance) (i : ℕ) (type : InterfaceType) → type ≡ ty.Tuple i → IsTupleOf all j type
    → shape_of j.types type ≡ product of_places (members_of j.types (table.types_of j.types i))
tuple_shape all j i type is f =
    let (types, d, fits) = subst (λ x. IsTupleOf all j x) is f in
    let these : table.types_of j.types i ≡ types = ap (λ x. option_map_or table.tuple_types x []) d.definition in
    ap (shape_of j.types) is ∙ d.shape ∙ ap (λ xs. product of_places (members_of j.types xs)) (sym these)

module _ (all : List (Instance → InterfaceType → Type 0)) (j : Instance) (i : ℕ) (type : InterfaceType) (is : type ≡ ty.Tuple i) (f : IsTupleOf all j type) (at : ℕ) where
  pub tuple_aligned : at % align false (shape_of j.types type) ≡ 0 → at % members_align false (members_of j.types (table.types_of j.types i)) ≡ 0
  unfolding align
  tuple_aligned h = subst (λ (z : Shape). at % align false z ≡ 0) (tuple_shape all j i type is f) h

  pub tuple_inside : (memory : List ℕ) → at + size false (shape_of j.types type) ≤ length memory → at + members_end false 0 (members_of j.types (table.types_of j.types i)) ≤ length memory
  tuple_inside memory h =
      let lift_whole : at + size false (product of_places (members_of j.types (table.types_of j.types i))) ≤ length memory = subst (λ (z : Shape). at + size false z ≤ length memory) (tuple_shape all j i type is f) h in
      omega (arith, lift_whole, members_end-le-size false of_places (members_of j.types (table.types_of j.types i)))

  pub tuple_words : (n : ℕ) → at + flat (shape_of j.types type) ≤ n → at + members_flat (members_of j.types (table.types_of j.types i)) ≤ n
  unfolding flat
  tuple_words n h = subst (λ (z : Shape). at + flat z ≤ n) (tuple_shape all j i type is f) h
