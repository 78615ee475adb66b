-- What lifting keeps of every type whose values have trees.
use Rattle.std.specs.Prelude.{◌≡◌, ◌≤◌, ◌+◌, Err, List, Ok, Result, true, ℕ}
use Rattle.canon_context.specs.declared.fault.Fault.{Fault}
use Rattle.canon_context.specs.declared.fault.Fault.TheVariants as fault
use Rattle.canon_resources.specs.Parts.{LeavesTake}
use Rattle.canon_ledger.specs.Ledger.{LedgerState}
use Rattle.canon_model.specs.Leaves.{leaves}
use Rattle.canon_model.specs.Tree.{Tree}
use Rattle.canon_types.specs.Instance.{Instance}
use Rattle.canon_types.specs.Table.{shape_of}
use Rattle.canon_types.specs.declared.types.InterfaceType.{InterfaceType}
use Rattle.canon_reading.specs.Reading.{Lifts, Reading, Setting}
use Rattle.canon_reading.specs.Spots.{Represents, Spot}
use Rattle.canon_reading.specs.Ways.{AreLiftedBy}

-- the tree was lifted to one of its values at its price, and its handles left the ledger so; or memory ran out, where lifting takes any
abbrev pub IsLifted : {A : Type 0} → Reading A → (A → Tree → Type 0) → (Tree → ℕ) → Tree → LedgerState → ℕ → Result A Fault → LedgerState → ℕ → Type 0
IsLifted R Means price t end fuel (Ok v) after left = Means v t × (fuel ≡ left + price t) × (after ≡ end)
IsLifted R Means price t end fuel (Err e) after left = (e ≡ fault.OutOfMemory) × (R.allocates ≡ true)

-- A value is lifted exactly where a tree of the type stands, at a price within the fuel, whose handles the ledger accepts.
pub record LiftsExactly {A : Type 0} (Fit : Instance → InterfaceType → Type 0) (R : Reading A) (Means : A → Tree → Type 0) (price : Tree → ℕ) : Type 0 where
  -- only there, and of that tree
  pub only : (w : Setting) (at : Spot) (type : InterfaceType) (before after : LedgerState) (fuel left : ℕ) (v : A) → Fit w.types type
      → Lifts R w at (shape_of w.types.types type) before fuel (Ok v) after left
      → (t : Tree) × Represents w.memory w.encoding at (shape_of w.types.types type) t × Means v t × (fuel ≡ left + price t)
      × AreLiftedBy w.types (leaves (shape_of w.types.types type) t) (R.steps w at (shape_of w.types.types type)) × ((hs : List ℕ) × LeavesTake before (R.steps w at (shape_of w.types.types type)) hs after)
  -- and always there
  pub always : (w : Setting) (at : Spot) (type : InterfaceType) (before after end : LedgerState) (fuel left : ℕ) (r : Result A Fault) (t : Tree) (hs : List ℕ) → Fit w.types type
      → Represents w.memory w.encoding at (shape_of w.types.types type) t → price t ≤ fuel → LeavesTake before (R.steps w at (shape_of w.types.types type)) hs end
      → Lifts R w at (shape_of w.types.types type) before fuel r after left → IsLifted R Means price t end fuel r after left
