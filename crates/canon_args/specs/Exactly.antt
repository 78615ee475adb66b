-- A Rust tuple that is lifted from words, in a row or by a pointer, is one that words and memory represent, and each of those is lifted.
use Rattle.std.specs.Prelude.{List, Ok, Result, false, ℕ, ◌+◌, ◌≡◌, ◌≤◌}
use Rattle.canon_args.specs.Returned.{passed_reading}
use Rattle.canon_context.specs.declared.fault.Fault.{Fault}
use Rattle.canon_resources.specs.Parts.{LeavesTake, Part}
use Rattle.canon_ledger.specs.Ledger.{LedgerState}
use Rattle.canon_reading.specs.Laws.{IsLifted}
use Rattle.canon_reading.specs.Reading.{Lifts, Reading, Setting}
use Rattle.canon_reading.specs.Spots.{flat_in}
use Rattle.canon_reading.specs.Ways.{AreLiftedBy}
use Rattle.canon_model.specs.Flat.{RepValues}
use Rattle.canon_model.specs.Leaves.{members_leaves}
use Rattle.canon_model.specs.Shape.{Members, of_places, product}
use Rattle.canon_model.specs.Tree.{Tree, Trees, parts}

-- The members are lifted from words, of which up to `most` are in a row.
module _ {A : Type 0} (R : Reading A) (most : ℕ) (w : Setting) (ms : Members) (words : List ℕ) where
  -- what their handles do
  abbrev pub passed_steps : List (List Part)
  passed_steps = (passed_reading most (product of_places ms) R).steps w (flat_in words 0) (product of_places ms)

  abbrev pub LiftsPassed : LedgerState → ℕ → Result A Fault → LedgerState → ℕ → Type 0
  LiftsPassed = Lifts (passed_reading most (product of_places ms) R) w (flat_in words 0) (product of_places ms)

module _ {A : Type 0} (R : Reading A) (Means : A → Tree → Type 0) (price : Tree → ℕ) (most : ℕ) (w : Setting) (ms : Members) (words : List ℕ) where
  -- Words and memory represent trees that a value means. Their price was taken from the fuel, and their handles went through the ledger.
  pub record IsPassed (before after : LedgerState) (fuel left : ℕ) (v : A) : Type 0 where
    pub trees : Trees
    pub represented : RepValues most false w.encoding w.memory words ms trees
    pub means : Means v (parts trees)
    pub spent : fuel ≡ left + price (parts trees)
    pub steps : AreLiftedBy w.types (members_leaves ms trees) (passed_steps R most w ms words)
    pub taken : (hs : List ℕ) × LeavesTake before (passed_steps R most w ms words) hs after

  -- A value is lifted only there.
  abbrev pub IsOnlyPassed : Type 0
  IsOnlyPassed = (before after : LedgerState) (fuel left : ℕ) (v : A) → LiftsPassed R most w ms words before fuel (Ok v) after left → IsPassed before after fuel left v

  -- Where trees of a price within the fuel are represented whose handles the ledger accepts, one is lifted, or memory runs out.
  abbrev pub IsAlwaysPassed : Type 0
  IsAlwaysPassed = (before after end : LedgerState) (fuel left : ℕ) (r : Result A Fault) (trees : Trees) (hs : List ℕ)
      → RepValues most false w.encoding w.memory words ms trees → price (parts trees) ≤ fuel → LeavesTake before (passed_steps R most w ms words) hs end
      → LiftsPassed R most w ms words before fuel r after left → IsLifted R Means price (parts trees) end fuel r after left
