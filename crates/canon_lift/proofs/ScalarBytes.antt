-- Scalars in memory and in words.
use Rattle.std.proofs.Common.{◌≡◌, ◌≤◌, ◌<◌, ◌+◌, ◌%◌, ◌^◌, ◌∙◌, List, Ok, [], ap, arith, false, length, refl, subst, sym, ℕ}
use Rattle.std.specs.Prelude.{slice_index}
use Rattle.canon_context.specs.Core.{Parts, component_types}
use Rattle.canon_lowering.specs.Storing.{narrow}
use Rattle.canon_model.specs.Layout.{flat, scalar_size, size}
use Rattle.canon_model.specs.Memory.{num}
use Rattle.canon_model.specs.Rep.{ScalarIs}
use Rattle.canon_model.specs.Shape.{Scalar, Shape, scalar}
use Rattle.canon_model.specs.Tree.{Tree}
use Rattle.canon_types.specs.Table.{shape_of}
use Rattle.canon_types.specs.declared.types.InterfaceType.{InterfaceType}
use Rattle.canon_context.specs.Told.{IsPlace}
use Rattle.canon_context.specs.declared.fault.At.{At as Place}
use Rattle.canon_context.specs.declared.fault.At.TheVariants as place
use Rattle.canon_context.specs.declared.fault.Fault.TheVariants as fault
use Rattle.canon_resources.proofs.Leaves.{stops_at_once}
use Rattle.canon_ledger.specs.Ledger.{LedgerState}
use Rattle.canon_model.specs.Flat.{flat_bits}
use Rattle.canon_model.specs.Reach as reach
use Rattle.canon_model.specs.Reach.{ScalarFault, no_scalar}
use Rattle.canon_reading.specs.Reading.{Lifts, NamedBy, Refused, Setting, setting_in}
use Rattle.canon_reading.specs.Readings.{TreeReads, scalar_reading}
use Rattle.canon_reading.specs.Spots.{Faulty, Spot, flat_in, stored}
use Rattle.canon_lift.specs.Scalars.{StandsForNone}

-- its bytes are inside
pub lift_scalar_room : (bytes memory : List ℕ) (s : Shape) (k : Scalar) (at : ℕ) → s ≡ scalar k → at + size false s ≤ length memory → bytes ≡ memory → at + scalar_size k ≤ length bytes
unfolding size
lift_scalar_room bytes memory s k at is inside same =
    let room : at + scalar_size k ≤ length memory = subst (λ (z : Shape). at + size false z ≤ length memory) is inside in
    omega (arith, room, ap length same)

-- a value of what its number stands for
pub scalar_lifts : {D G A : Type 0} (Means : A → Tree → Type 0) (core : Parts D G) (o : ℕ) (type : InterfaceType) (k : Scalar) (at fuel n : ℕ) (bytes : List ℕ) (v : A) (t : Tree) → shape_of (component_types core) type ≡ scalar k
    → at + size false (shape_of (component_types core) type) ≤ length core.memory → bytes ≡ core.memory → n ≡ num (narrow bytes) at (scalar_size k) → ScalarIs k n t → Means v t
    → Lifts (scalar_reading Means) (setting_in core o) (stored at) (shape_of (component_types core) type) core.ledger fuel (Ok v) core.ledger fuel
scalar_lifts Means core o type k at fuel n bytes v t is inside same number stands means =
    let here : n ≡ num (narrow core.memory) at (scalar_size k) = number ∙ ap (λ xs. num (narrow xs) at (scalar_size k)) same in
    let room : at + scalar_size k ≤ length core.memory = lift_scalar_room core.memory core.memory (shape_of (component_types core) type) k at is inside refl in (
      subst (λ (s : Shape). TreeReads Means (setting_in core o) (stored at) s core.ledger v core.ledger) (sym is)
          (t, (room, subst (λ j. ScalarIs k j t) here stands, λ strict. cc), means, refl),
      omega arith,
    )

-- its word is there
pub word_room : (s : Shape) (k : Scalar) (at count : ℕ) → s ≡ scalar k → at + flat s ≤ count → at < count
unfolding flat
word_room s k at count is room =
    let there : at + 1 ≤ count = subst (λ (z : Shape). at + flat z ≤ count) is room in
    omega (arith, there)

-- a value of what its word stands for
pub word_lifts : {D G A : Type 0} (Means : A → Tree → Type 0) (core : Parts D G) (o : ℕ) (type : InterfaceType) (k : Scalar) (ws : List ℕ) (i fuel : ℕ) (v : A) (t : Tree)
    → shape_of (component_types core) type ≡ scalar k → ScalarIs k (slice_index ws i % 2 ^ flat_bits k) t → Means v t
    → Lifts (scalar_reading Means) (setting_in core o) (flat_in ws i) (shape_of (component_types core) type) core.ledger fuel (Ok v) core.ledger fuel
word_lifts Means core o type k ws i fuel v t is stands means = (
  subst (λ (s : Shape). TreeReads Means (setting_in core o) (flat_in ws i) s core.ledger v core.ledger) (sym is) (t, (stands, λ strict. cc), means, refl),
  omega arith,
)

-- ---- no scalar

fault_of_none : (k : Scalar) (at : reach.At) (n : ℕ) → StandsForNone k n → ScalarFault k at n no_scalar at
fault_of_none k at n (is, none) = subst (λ (c : Scalar). ScalarFault c at n no_scalar at) (sym is) (record { kind_is = refl; at_is = refl }, none)

none_refused : {A : Type 0} (Means : A → Tree → Type 0) (w : Setting) (at : Spot) (s : Shape) (l : LedgerState) (fuel : ℕ) (x : Place) → NamedBy at (λ k y. Faulty w.memory w.encoding at s k y) no_scalar x
    → Refused (scalar_reading Means) w at s l fuel (fault.InvalidChar x) l fuel
none_refused Means w at s l fuel x named = record { cause = named; memory = λ e. cc; stops = stops_at_once l l [] refl; falls = omega arith }

pub lift_scalar_refused : {D G A : Type 0} (Means : A → Tree → Type 0) (core : Parts D G) (o : ℕ) (type : InterfaceType) (k : Scalar) (at fuel : ℕ) (bytes : List ℕ) → shape_of (component_types core) type ≡ scalar k → bytes ≡ core.memory
    → StandsForNone k (num (narrow bytes) at (scalar_size k)) → Refused (scalar_reading Means) (setting_in core o) (stored at) (shape_of (component_types core) type) core.ledger fuel (fault.InvalidChar (place.Address at)) core.ledger fuel
lift_scalar_refused Means core o type k at fuel bytes is same none =
    let w : Setting = setting_in core o in
    let here : StandsForNone k (num w.memory at (scalar_size k)) = subst (λ xs. StandsForNone k (num (narrow xs) at (scalar_size k))) same none in
    none_refused Means w (stored at) (shape_of (component_types core) type) core.ledger fuel (place.Address at)
    (subst (λ (s : Shape). Faulty w.memory w.encoding (stored at) s no_scalar (reach.address at)) (sym is) (fault_of_none k (reach.address at) (num w.memory at (scalar_size k)) here))

pub word_refused : {D G A : Type 0} (Means : A → Tree → Type 0) (core : Parts D G) (o : ℕ) (type : InterfaceType) (k : Scalar) (ws : List ℕ) (i fuel : ℕ) (x : Place)
    → shape_of (component_types core) type ≡ scalar k → IsPlace x (reach.word i)
    → StandsForNone k (slice_index ws i % 2 ^ flat_bits k) → Refused (scalar_reading Means) (setting_in core o) (flat_in ws i) (shape_of (component_types core) type) core.ledger fuel (fault.InvalidChar x) core.ledger fuel
word_refused Means core o type k ws i fuel x is there none =
    let w : Setting = setting_in core o in
    none_refused Means w (flat_in ws i) (shape_of (component_types core) type) core.ledger fuel x
    (reach.word i, there, subst (λ (s : Shape). Faulty w.memory w.encoding (flat_in ws i) s no_scalar (reach.word i)) (sym is) (fault_of_none k (reach.word i) (slice_index ws i % 2 ^ flat_bits k) none))
