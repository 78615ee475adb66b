-- A value without borrowed handles leaves the scopes of the ledger as they are, since its handles do.
use Rattle.std.proofs.Common.{Bool, List, None, Option, Some, [], ap, false, if◌then◌else◌, refl, subst, suc, sym, true, zero, ℕ, ◌++◌, ◌∙◌, ◌∷◌, ◌≡◌, ◌||◌}
use Rattle.std.specs.Prelude.{⊤}
use Rattle.canon_resources.specs.Parts.{LeafTakes, LeavesTake, Part}
use Rattle.canon_ledger.specs.Ledger.{LedgerState}
use Rattle.canon_model.specs.Layout.{payload_shape}
use Rattle.canon_model.specs.Shape.{Cases, ListKind, Shape, case_for, list, no_cases, of_items, of_pairs, tuple}
use Rattle.canon_types.specs.Depth.{case_borrows, has_borrow, member_borrows}
use Rattle.canon_types.specs.Instance.{Instance}
use Rattle.canon_types.specs.Table.{all_shapes, members_of, payload_in, shape_of}
use Rattle.canon_types.specs.declared.types.InterfaceType.{InterfaceType}
use Rattle.canon_types.specs.declared.types.InterfaceType.TheVariants as ty
use Rattle.canon_typed.specs.Types.{AreOf, IsFixedOf, IsListOf, IsMapOf, IsOptionOf, IsPayloadOf, IsResultOf, IsTupleOf}
use Rattle.canon_reading.specs.MapsOfTrees.{map_reading, pair_reading}
use Rattle.canon_reading.specs.Reading.{Reading, Setting}
use Rattle.canon_reading.specs.Readings.{RestReading, boxed_reading, each_steps, first_reading, fixed_reading, list_reading, none_reading, option_reading, payload_reading, product_reading, read_as, result_reading}
use Rattle.canon_reading.specs.Spots.{Rest, Spot, behind, first_spot, length_in, others, payload_spot, pointer_in, spot_members, stored}

-- what a handle does leaves the open scopes as they are
abbrev pub KeepsScopes : List Part → Type 0
KeepsScopes ps = (l n : LedgerState) (h : ℕ) → LeafTakes l ps h n → n.handles.scopes ≡ l.handles.scopes

unfoldable pub AllKeep : List (List Part) → Type 0
AllKeep [] = ⊤
AllKeep (ps ∷ steps) = KeepsScopes ps × AllKeep steps

pub none_kept : AllKeep []
unfolding AllKeep
none_kept = tt

pub one_kept : (ps : List Part) → KeepsScopes ps → AllKeep (ps ∷ [])
unfolding AllKeep
one_kept ps h = (h, tt)

-- so does each handle of a type that fits and reaches no borrow
pub record IsKept {A : Type 0} (Fit : Instance → InterfaceType → Type 0) (R : Reading A) : Type 0 where
  pub kept : (w : Setting) (at : Spot) (type : InterfaceType) → Fit w.types type → has_borrow (shape_of w.types.types type) ≡ false → AllKeep (R.steps w at (shape_of w.types.types type))

-- of a type without handles
pub plain_kept : {A : Type 0} {Fit : Instance → InterfaceType → Type 0} {R : Reading A} → ((w : Setting) (at : Spot) (s : Shape) → R.steps w at s ≡ []) → IsKept Fit R
plain_kept none = record { kept = λ w at type f no. subst AllKeep (sym (none w at (shape_of w.types.types type))) none_kept }

-- and all of them
pub keep_scopes : (l n : LedgerState) (steps : List (List Part)) (hs : List ℕ) → AllKeep steps → LeavesTake l steps hs n → n.handles.scopes ≡ l.handles.scopes
unfolding AllKeep
keep_scopes l n [] hs kept h = ap (λ (m : LedgerState). m.handles.scopes) h.1
keep_scopes l n (ps ∷ steps) hs (one, more) (h, rest, mid, is, takes, later) = keep_scopes mid n steps rest more later ∙ one l mid h takes

-- ---- lists of steps

pub all_if : (b : Bool) (xs ys : List (List Part)) → AllKeep xs → AllKeep ys → AllKeep (if b then xs else ys)
all_if true xs ys h k = h
all_if false xs ys h k = k

all_then : (xs ys : List (List Part)) → AllKeep xs → AllKeep ys → AllKeep (xs ++ ys)
unfolding AllKeep
all_then [] ys h k = k
all_then (x ∷ xs) ys (one, more) k = (one, all_then xs ys more k)

or_first : (a b : Bool) → (a || b) ≡ false → a ≡ false
or_first true b e = e
or_first false b e = cc

or_second : (a b : Bool) → (a || b) ≡ false → b ≡ false
or_second true b e = absurd (true_false e)
  where
    true_false : true ≡ false → ⊥
    true_false h = cc
or_second false b e = e

-- ---- values in a row

module _ {A : Type 0} (R : Reading A) (w : Setting) (s : Shape) (law : (at : Spot) → AllKeep (R.steps w at s)) where
  each_kept : (n : ℕ) (at : Spot) → AllKeep (each_steps R w s at n)
  each_kept zero at = none_kept
  each_kept (suc n) at = all_then (R.steps w at s) (each_steps R w s (behind w.memory s at) n) (law at) (each_kept n (behind w.memory s at))

  items_kept : (bytes : ℕ) (k : ListKind) (at : Spot) → AllKeep ((list_reading bytes R).steps w at (list k s))
  items_kept bytes k at = all_if _ _ _ (each_kept (length_in w.memory at) (stored (pointer_in w.memory at))) none_kept

module _ {A : Type 0} (Fit : Instance → InterfaceType → Type 0) (R : Reading A) (law : IsKept Fit R) where
  list_keeps : (bytes : ℕ) (w : Setting) (at : Spot) (type : InterfaceType) → IsListOf Fit w.types type → has_borrow (shape_of w.types.types type) ≡ false → AllKeep ((list_reading bytes R).steps w at (shape_of w.types.types type))
  list_keeps bytes w at (ty.List x) (element, d, f) none =
      subst (λ (z : Shape). AllKeep ((list_reading bytes R).steps w at z)) (sym d.shape)
      (items_kept R w (shape_of w.types.types element) (λ p. law.kept w p element f (sym (ap has_borrow d.shape) ∙ none)) bytes of_items at)
  list_keeps bytes w at _ f none = absurd f

  pub list_kept : {B : Type 0} (f : B → List A) (bytes : ℕ) → IsKept (IsListOf Fit) (read_as f (list_reading bytes R))
  list_kept f bytes = record { kept = list_keeps bytes }

  fixed_keeps : (n : ℕ) (w : Setting) (at : Spot) (type : InterfaceType) → IsFixedOf n Fit w.types type → has_borrow (shape_of w.types.types type) ≡ false → AllKeep ((fixed_reading n R).steps w at (shape_of w.types.types type))
  fixed_keeps n w at (ty.FixedLengthList x) (some, (element, d, f)) none =
      subst (λ (z : Shape). AllKeep ((fixed_reading n R).steps w at z)) (sym d.shape)
      (each_kept R w (shape_of w.types.types element) (λ p. law.kept w p element f (sym (ap has_borrow d.shape) ∙ none)) n at)
  fixed_keeps n w at _ f none = absurd f

  pub fixed_kept : {B : Type 0} (f : B → List A) (n : ℕ) → IsKept (IsFixedOf n Fit) (read_as f (fixed_reading n R))
  fixed_kept f n = record { kept = fixed_keeps n }

  -- ---- cases

  option_keeps : (w : Setting) (at : Spot) (type : InterfaceType) → IsOptionOf Fit w.types type → has_borrow (shape_of w.types.types type) ≡ false → AllKeep ((option_reading R).steps w at (shape_of w.types.types type))
  option_keeps w at (ty.Option x) (some, d, f) none =
      subst (λ (z : Shape). AllKeep ((option_reading R).steps w at z)) (sym d.shape)
      (all_if _ _ _ none_kept (all_if _ _ _ (law.kept w _ some f (or_first (has_borrow (shape_of w.types.types some)) false (sym (ap has_borrow d.shape) ∙ none))) none_kept))
  option_keeps w at _ f none = absurd f

  pub option_kept : IsKept (IsOptionOf Fit) (option_reading R)
  option_kept = record { kept = option_keeps }

  -- the same value in a block of the host's memory
  pub boxed_kept : {B : Type 0} (f : B → A) → IsKept Fit (boxed_reading f R)
  boxed_kept f = record { kept = law.kept }

  -- the payload of the first of the cases
  payload_kept : (unit : Bool) (w : Setting) (p : Spot) (cs : Cases) (type : Option InterfaceType) → IsPayloadOf unit Fit w.types type → case_borrows (case_for (payload_in (all_shapes w.types.types) type) cs) ≡ false
      → AllKeep ((payload_reading unit R).steps w p (payload_shape (case_for (payload_in (all_shapes w.types.types) type) cs) 0))
  payload_kept true w p cs None f none = none_kept
  payload_kept false w p cs (Some type) f none = law.kept w p type f (or_first (has_borrow (shape_of w.types.types type)) (case_borrows cs) none)
  payload_kept true w p cs (Some type) f none = absurd f
  payload_kept false w p cs None f none = absurd f

-- behind another case
later_shape : (first : Option Shape) (cs : Cases) → payload_shape (case_for first cs) 1 ≡ payload_shape cs 0
later_shape None cs = refl
later_shape (Some s) cs = refl

later_borrows : (first : Option Shape) (cs : Cases) → case_borrows (case_for first cs) ≡ false → case_borrows cs ≡ false
later_borrows None cs e = e
later_borrows (Some s) cs e = or_second (has_borrow s) (case_borrows cs) e

result_keeps : {A B : Type 0} (unit : Bool) (Fit : Instance → InterfaceType → Type 0) (R : Reading A) (unit2 : Bool) (Fit2 : Instance → InterfaceType → Type 0) (S : Reading B) → IsKept Fit R → IsKept Fit2 S
    → (w : Setting) (at : Spot) (type : InterfaceType) → IsResultOf unit Fit unit2 Fit2 w.types type → has_borrow (shape_of w.types.types type) ≡ false → AllKeep ((result_reading unit R unit2 S).steps w at (shape_of w.types.types type))
result_keeps unit Fit R unit2 Fit2 S law law2 w at (ty.Result x) (ok, error, d, f, g) none =
    let first : Option Shape = payload_in (all_shapes w.types.types) ok in
    let second : Cases = case_for (payload_in (all_shapes w.types.types) error) no_cases in
    let borrows : case_borrows (case_for first second) ≡ false = sym (ap has_borrow d.shape) ∙ none in
    subst (λ (z : Shape). AllKeep ((result_reading unit R unit2 S).steps w at z)) (sym d.shape)
    (all_if _ _ _ (payload_kept Fit R law unit w (payload_spot w.memory at (case_for first second)) second ok f borrows)
    (all_if _ _ _ (subst (λ (z : Shape). AllKeep ((payload_reading unit2 S).steps w (payload_spot w.memory at (case_for first second)) z)) (sym (later_shape first second))
    (payload_kept Fit2 S law2 unit2 w (payload_spot w.memory at (case_for first second)) no_cases error g (later_borrows first second borrows))) none_kept))
result_keeps unit Fit R unit2 Fit2 S law law2 w at _ f none = absurd f

pub result_kept : {A B : Type 0} (unit unit2 : Bool) {Fit : Instance → InterfaceType → Type 0} {R : Reading A} {Fit2 : Instance → InterfaceType → Type 0} {S : Reading B} → IsKept Fit R → IsKept Fit2 S
    → IsKept (IsResultOf unit Fit unit2 Fit2) (result_reading unit R unit2 S)
result_kept unit unit2 {Fit = Fit} {R = R} {Fit2 = Fit2} {S = S} law law2 = record { kept = result_keeps unit Fit R unit2 Fit2 S law law2 }

-- ---- tuples

-- of each row of types that fit
pub record AreKept {A : Type 0} (all : List (Instance → InterfaceType → Type 0)) (S : RestReading A) : Type 0 where
  pub kept : (w : Setting) (at : Rest) (types : List InterfaceType) → AreOf all w.types types → member_borrows (members_of w.types.types types) ≡ false → AllKeep (S.steps w at (members_of w.types.types types))

pub end_kept : {A : Type 0} → AreKept [] (none_reading {A = A})
end_kept = record { kept = λ w at types f none. none_kept }

more_keeps : {A B C : Type 0} (first : C → A) (others_of : C → B) (Fit : Instance → InterfaceType → Type 0) (R : Reading A) (rest : List (Instance → InterfaceType → Type 0)) (S : RestReading B) → IsKept Fit R → AreKept rest S
    → (w : Setting) (at : Rest) (types : List InterfaceType) → AreOf (Fit ∷ rest) w.types types → member_borrows (members_of w.types.types types) ≡ false
    → AllKeep ((first_reading first others_of R S).steps w at (members_of w.types.types types))
more_keeps first others_of Fit R rest S law more w at [] f none = absurd f
more_keeps first others_of Fit R rest S law more w at (type ∷ types) (f, fs) none =
    let t = w.types.types in
    all_then _ _ (law.kept w _ type f (or_first (has_borrow (shape_of t type)) (member_borrows (members_of t types)) none)) (more.kept w _ types fs (or_second (has_borrow (shape_of t type)) (member_borrows (members_of t types)) none))

pub more_kept : {A B C : Type 0} {first : C → A} {others_of : C → B} {Fit : Instance → InterfaceType → Type 0} {R : Reading A} {rest : List (Instance → InterfaceType → Type 0)} {S : RestReading B} → IsKept Fit R → AreKept rest S
    → AreKept (Fit ∷ rest) (first_reading first others_of R S)
more_kept {first = first} {others_of = others_of} {Fit = Fit} {R = R} {rest = rest} {S = S} law more = record { kept = more_keeps first others_of Fit R rest S law more }

tuple_keeps : {A B : Type 0} (f : B → A) (all : List (Instance → InterfaceType → Type 0)) (S : RestReading A) → AreKept all S
    → (w : Setting) (at : Spot) (type : InterfaceType) → IsTupleOf all w.types type → has_borrow (shape_of w.types.types type) ≡ false → AllKeep ((product_reading f S).steps w at (shape_of w.types.types type))
tuple_keeps f all S law w at (ty.Tuple x) (types, d, fs) none =
    subst (λ (z : Shape). AllKeep ((product_reading f S).steps w at z)) (sym d.shape) (law.kept w (spot_members at) types fs (sym (ap has_borrow d.shape) ∙ none))
tuple_keeps f all S law w at _ g none = absurd g

pub tuple_kept : {A B : Type 0} (f : B → A) {all : List (Instance → InterfaceType → Type 0)} {S : RestReading A} → AreKept all S → IsKept (IsTupleOf all) (product_reading f S)
tuple_kept f {all = all} {S = S} law = record { kept = tuple_keeps f all S law }

-- ---- maps

pair_kept : {K V : Type 0} (R : Reading K) (S : Reading V) (w : Setting) (s u : Shape) → ((at : Spot) → AllKeep (R.steps w at s)) → ((at : Spot) → AllKeep (S.steps w at u)) → (at : Spot)
    → AllKeep ((pair_reading R S).steps w at (tuple (s ∷ u ∷ [])))
pair_kept R S w s u law law2 at = all_then _ _ (law (first_spot w.memory s (spot_members at))) (all_then _ _ (law2 (first_spot w.memory u (others w.memory s (spot_members at)))) none_kept)

map_keeps : {K V : Type 0} (bytes : ℕ) (Key : Instance → InterfaceType → Type 0) (R : Reading K) (Value : Instance → InterfaceType → Type 0) (S : Reading V) → IsKept Key R → IsKept Value S
    → (w : Setting) (at : Spot) (type : InterfaceType) → IsMapOf Key Value w.types type → has_borrow (shape_of w.types.types type) ≡ false → AllKeep ((list_reading bytes (pair_reading R S)).steps w at (shape_of w.types.types type))
map_keeps bytes Key R Value S law law2 w at (ty.Map x) (key, value, d, f, g) none =
    let t = w.types.types in
    let borrows : (has_borrow (shape_of t key) || (has_borrow (shape_of t value) || false)) ≡ false = sym (ap has_borrow d.shape) ∙ none in
    subst (λ (z : Shape). AllKeep ((list_reading bytes (pair_reading R S)).steps w at z)) (sym d.shape)
    (items_kept (pair_reading R S) w (tuple (shape_of t key ∷ shape_of t value ∷ []))
    (pair_kept R S w (shape_of t key) (shape_of t value) (λ p. law.kept w p key f (or_first (has_borrow (shape_of t key)) (has_borrow (shape_of t value) || false) borrows))
    (λ p. law2.kept w p value g (or_first (has_borrow (shape_of t value)) false (or_second (has_borrow (shape_of t key)) (has_borrow (shape_of t value) || false) borrows)))) bytes of_pairs at)
map_keeps bytes Key R Value S law law2 w at _ f none = absurd f

pub map_kept : {K V Z : Type 0} (eq : K → K → Bool) (bytes : ℕ) (Key : Instance → InterfaceType → Type 0) (R : Reading K) (Value : Instance → InterfaceType → Type 0) (S : Reading V) → IsKept Key R → IsKept Value S
    → IsKept (IsMapOf Key Value) (map_reading {Z = Z} eq bytes R S)
map_kept eq bytes Key R Value S law law2 = record { kept = map_keeps bytes Key R Value S law law2 }
