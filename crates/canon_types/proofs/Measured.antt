-- What was measured of a definition decides whether it is refused.
use Rattle.std.proofs.Common.{◌≡◌, ℕ, ◌+◌, ◌<◌, ◌≤◌, ◌^◌, ◌==◌, length, Bool, true, false, nat_lt, Option, Some, None, List, [], ◌∷◌, All, refl, sym, ap, ◌∙◌, subst, arith}
use Rattle.std.proofs.lemmas.Bool.Decides.{nat_tests}
use Rattle.std.proofs.lemmas.List.Elements.{All-nil}
use Rattle.canon_abi.specs.Abi.{wider_size}
use Rattle.canon_model.specs.Shape.{Name}
use Rattle.canon_types.specs.declared.error.TypeError.{TypeError}
use Rattle.canon_types.specs.declared.error.TypeError.TheVariants as error
use Rattle.canon_types.specs.declared.types.InterfaceType.{InterfaceType}
use Rattle.canon_types.specs.declared.table.Entry.{Entry}
use Rattle.canon_types.specs.Depth.{deepest, member_borrows}
use Rattle.canon_types.specs.Keeps.{IsEntry, KeepsLayout, definition_of}
use Rattle.canon_types.specs.Measured.{FitsWithRoom, IsMeasured, measure_refusal}
use Rattle.canon_types.specs.Refusal.{first_error, has_repeats, is_empty, is_full_for, laid_shape, most_names, names, names_refusal, or_else, parts_refusal, refusal}
use Rattle.canon_types.specs.Table.{Definition, Knows, TypeTable, all_shapes, defined_shape, members_of, parts}
use Rattle.canon_types.proofs.Adding.{Before, before, deep_refused, fits_with_room, passed_parts, refused_by_parts}
use Rattle.canon_types.proofs.Made.{is_entry, names_many, names_pass, names_refused, names_repeat, some_names}

-- the test of the depth
abbrev deep_error : TypeTable → List InterfaceType → Option TypeError
deep_error t types = first_error ((nat_lt 100 (1 + deepest (members_of t types)), error.TooDeep) ∷ [])

both_pass : (first later : Option TypeError) → None ≡ or_else first later → (None ≡ first) × (None ≡ later)
both_pass None later h = (refl, h)
both_pass (Some e) later h = cc

shallow_by : (n : ℕ) → None ≡ first_error ((nat_lt 100 n, error.TooDeep) ∷ []) → n ≤ 100
shallow_by n h = grind (arith, nat_tests)

deep_by : (n : ℕ) (e : TypeError) → Some e ≡ first_error ((nat_lt 100 n, error.TooDeep) ∷ []) → (100 < n) × (Some error.TooDeep ≡ Some e)
deep_by n e h = grind (arith, nat_tests)

pub measured_parts : (t : TypeTable) (types : List InterfaceType) (empty : Bool) → None ≡ measure_refusal t types empty → All (Knows t) types
measured_parts t types empty h = passed_parts t types empty (sym (both_pass (parts_refusal t types empty) (deep_error t types) h).0)

module _ (t : TypeTable) (d : Definition) (types : List InterfaceType) (empty : Bool) (same_types : types ≡ parts d) (same_empty : empty ≡ is_empty d) (named : names_refusal (names d) (most_names d) ≡ None) where
  measure_refused_by : (first : Option TypeError) (e : TypeError) → parts_refusal t types empty ≡ first → Some e ≡ or_else first (deep_error t types) → refusal t d ≡ Some e
  measure_refused_by None e is h =
      let deep = deep_by (1 + deepest (members_of t types)) e h in
      deep_refused t d types types empty same_types same_types same_empty (sym is) named deep.0 ∙ deep.1
  measure_refused_by (Some x) e is h = refused_by_parts t d types empty x same_types same_empty (sym is) ∙ sym h

  pub measure_refused : (e : TypeError) → Some e ≡ measure_refusal t types empty → refusal t d ≡ Some e
  measure_refused e h = measure_refused_by (parts_refusal t types empty) e refl h

  pub before_measured : (m : ℕ) → None ≡ measure_refusal t types empty → m ≡ 1 + deepest (members_of t types) → Before t d
  before_measured m h deep =
      let pass = both_pass (parts_refusal t types empty) (deep_error t types) h in
      let few : 1 + deepest (members_of t types) ≤ 100 = shallow_by (1 + deepest (members_of t types)) pass.1 in
      before t d types types empty m same_types same_types same_empty pass.0 named deep (omega (arith, deep, few))

-- a definition that fits
pub measured_by : (t : TypeTable) (d : Definition) (types : List InterfaceType) (m : ℕ) (b : Bool) → Before t d → types ≡ parts d → All (Knows t) types → m ≡ 1 + deepest (members_of t types) → b ≡ member_borrows (members_of t types)
    → has_repeats (names d) ≡ false → wider_size (laid_shape (all_shapes t) d) < 2 ^ 32 → IsMeasured t d m b
measured_by t d types m b so_far same known deep borrows apart small = record {
  fits = fits_with_room t d so_far small;
  known = subst (λ (ts : List InterfaceType). All (Knows t) ts) same known;
  depth = deep ∙ ap (λ (ts : List InterfaceType). 1 + deepest (members_of t ts)) same;
  borrows = borrows ∙ ap (λ (ts : List InterfaceType). member_borrows (members_of t ts)) same;
  names = apart;
}

-- ---- definitions that have names alone

many_by : (most n : ℕ) (e : TypeError) → Some e ≡ first_error ((nat_lt most n, error.TooManyNames) ∷ []) → (most < n) × (Some error.TooManyNames ≡ Some e)
many_by most n e h = grind (arith, nat_tests)

some_by : (n : ℕ) → (n == 0) ≡ false → 0 < n
some_by n h = grind (arith, nat_tests)

count_by : (most n : ℕ) → None ≡ first_error ((n == 0, error.Empty) ∷ (nat_lt most n, error.TooManyNames) ∷ []) → (0 < n) × (n ≤ most)
count_by most n h = grind (arith, nat_tests)

module _ (t : TypeTable) (d : Definition) (n : ℕ) (no_parts : [] ≡ parts d) (count : n ≡ length (names d)) (same_empty : (n == 0) ≡ is_empty d) where
  count_refused_by : (zero : Bool) (e : TypeError) → (n == 0) ≡ zero → Some e ≡ first_error ((zero, error.Empty) ∷ (nat_lt (most_names d) n, error.TooManyNames) ∷ []) → refusal t d ≡ Some e
  count_refused_by true e is h = refused_by_parts t d [] true error.Empty no_parts (sym is ∙ same_empty) refl ∙ sym h
  count_refused_by false e is h =
      let many = many_by (most_names d) n e h in
      let more : most_names d < length (names d) = omega (arith, count, many.0) in
      names_refused t d [] (n == 0) error.TooManyNames no_parts same_empty (some_names t n (some_by n is)) (names_many (names d) (most_names d) more) ∙ many.1

  pub count_refused : (e : TypeError) → Some e ≡ first_error ((n == 0, error.Empty) ∷ (nat_lt (most_names d) n, error.TooManyNames) ∷ []) → refusal t d ≡ Some e
  count_refused e h = count_refused_by (n == 0) e refl h

  pub repeat_refused : None ≡ first_error ((n == 0, error.Empty) ∷ (nat_lt (most_names d) n, error.TooManyNames) ∷ []) → has_repeats (names d) ≡ true → refusal t d ≡ Some error.RepeatedName
  repeat_refused h twice =
      let pass = count_by (most_names d) n h in
      let few : length (names d) ≤ most_names d = omega (arith, count, pass.1) in
      names_refused t d [] (n == 0) error.RepeatedName no_parts same_empty (some_names t n pass.0) (names_repeat (names d) (most_names d) few twice)

  pub measured_names : None ≡ first_error ((n == 0, error.Empty) ∷ (nat_lt (most_names d) n, error.TooManyNames) ∷ []) → has_repeats (names d) ≡ false → wider_size (laid_shape (all_shapes t) d) < 2 ^ 32 → IsMeasured t d 1 false
  measured_names h apart small =
      let pass = count_by (most_names d) n h in
      let few : length (names d) ≤ most_names d = omega (arith, count, pass.1) in
      let so_far = before t d [] [] (n == 0) 1 no_parts no_parts same_empty (some_names t n pass.0) (names_pass (names d) (most_names d) few apart) refl (omega arith) in
      measured_by t d [] 1 false so_far no_parts (All-nil (Knows t)) refl refl apart small

-- ---- definitions without names

pub measured : (t : TypeTable) (d : Definition) (types : List InterfaceType) (empty : Bool) (m : ℕ) (b : Bool) → types ≡ parts d → empty ≡ is_empty d → names d ≡ [] → None ≡ measure_refusal t types empty
    → m ≡ 1 + deepest (members_of t types) → b ≡ member_borrows (members_of t types) → wider_size (laid_shape (all_shapes t) d) < 2 ^ 32 → IsMeasured t d m b
measured t d types empty m b same_types same_empty unnamed h deep borrows small =
    let pass : names_refusal (names d) (most_names d) ≡ None = ap (λ (ns : List Name). names_refusal ns (most_names d)) unnamed ∙ names_pass [] (most_names d) (omega arith) refl in
    measured_by t d types m b (before_measured t d types empty same_types same_empty pass m h deep) same_types (measured_parts t types empty h) deep borrows (ap has_repeats unnamed) small

-- an entry of what was measured
pub entry_measured : (t : TypeTable) (e : Entry) → IsMeasured t (definition_of e.item) e.depth e.has_borrow → KeepsLayout e.item (defined_shape (all_shapes t) (definition_of e.item))
    → IsEntry t (defined_shape (all_shapes t) (definition_of e.item)) e
entry_measured t e m laid = is_entry t (definition_of e.item) e refl m.known m.depth m.borrows m.names laid

pub full_refused : (t : TypeTable) (d : Definition) → FitsWithRoom t d → is_full_for 1 t ≡ true → refusal t d ≡ Some error.TooManyTypes
full_refused t d fits full = fits ∙ ap (λ (b : Bool). first_error ((b, error.TooManyTypes) ∷ [])) full

pub room_accepted : (t : TypeTable) (d : Definition) → FitsWithRoom t d → is_full_for 1 t ≡ false → refusal t d ≡ None
room_accepted t d fits room = fits ∙ ap (λ (b : Bool). first_error ((b, error.TooManyTypes) ∷ [])) room
