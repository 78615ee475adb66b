-- What lifting reads as a value of a Rust type. It goes by the parts of the type and needs no tree, so that a text or a list that
-- stays in memory is read alike.
use Rattle.std.specs.Prelude.{◌≡◌, ◌+◌, ◌<◌, ◌≤◌, Bool, Err, List, Ok, Result, true, ℕ}
use Rattle.canon_context.specs.Core.{Parts, encoding_by}
use Rattle.canon_context.specs.Told.{Exactly, LiftBlames, ToldAt}
use Rattle.canon_context.specs.declared.fault.At.{At as Place}
use Rattle.canon_context.specs.declared.fault.Fault.{Fault}
use Rattle.canon_context.specs.declared.fault.Fault.TheVariants as fault
use Rattle.canon_resources.specs.Parts.{LeavesStop, LeavesTake, Part}
use Rattle.canon_ledger.specs.Ledger.{LedgerState}
use Rattle.canon_lowering.specs.Storing.{narrow}
use Rattle.canon_model.specs.Memory.{Memory}
use Rattle.canon_model.specs.Reach as reach
use Rattle.canon_model.specs.Reach.{Kind}
use Rattle.canon_model.specs.Shape.{Shape}
use Rattle.canon_model.specs.Text.{Encoding}
use Rattle.canon_types.specs.Instance.{Instance}
use Rattle.canon_reading.specs.Spots.{Spot, flat_in, stored}
use Rattle.canon_context.specs.Faults.{stop_of}

-- what is lifted from: types in their store, memory, how texts are spelled there, the number of the options, and the store
pub record Setting : Type 0 where
  pub types : Instance
  pub memory : Memory
  pub encoding : Encoding
  pub options : ℕ
  pub store : ℕ

abbrev pub setting_in : {T G : Type 0} → Parts T G → ℕ → Setting
setting_in core options = record { types = core.component.types; memory = narrow core.memory; encoding = encoding_by core options; options = options; store = core.id }

-- Over a setting, a spot, and the shape of the type there.
pub record Reading (A : Type 0) : Type 1 where
  -- what stands there is this value, whose handles take the ledger from one state to another
  pub reads : Setting → Spot → Shape → LedgerState → A → LedgerState → Type 0
  -- it is no value, since a reached place has a fault of this kind, at this place
  pub faults : Setting → Spot → Shape → Kind → reach.At → Type 0
  -- the charges of all reached places
  pub reach : Setting → Spot → Shape → ℕ
  -- what its handles do in the ledger, each by its parts, in order
  pub steps : Setting → Spot → Shape → List (List Part)
  -- whether lifting it takes memory of the host
  pub allocates : Bool

-- how a fault names a place: exactly, but for the index of a word, which stays at the last number of a `u32`
abbrev pub NamedBy : Spot → (Kind → reach.At → Type 0) → Kind → Place → Type 0
NamedBy (stored a) F = Exactly F
NamedBy (flat_in ws i) F = ToldAt F

module _ {A : Type 0} (R : Reading A) (w : Setting) (at : Spot) (s : Shape) (before : LedgerState) (fuel : ℕ) where
  -- why a value was not lifted: a fault of a reached place, fuel below the charges of all of them, a refusal of the ledger, or out of
  -- memory where lifting takes any
  pub record Refused (e : Fault) (after : LedgerState) (left : ℕ) : Type 0 where
    pub cause : LiftBlames (NamedBy at (R.faults w at s)) (fuel < R.reach w at s) e
    pub memory : e ≡ fault.OutOfMemory → R.allocates ≡ true
    pub stops : LeavesStop (stop_of e) before (R.steps w at s) after
    pub falls : left ≤ fuel

  -- A value was lifted, and its charges were taken from the fuel, or why not.
  abbrev pub Lifts : Result A Fault → LedgerState → ℕ → Type 0
  Lifts (Ok v) after left = R.reads w at s before v after × (fuel ≡ left + R.reach w at s)
  Lifts (Err e) after left = Refused e after left

-- handles of what is read are taken by their steps
abbrev pub AreTaken : {A : Type 0} → Reading A → Type 0
AreTaken {A} R = (w : Setting) (at : Spot) (s : Shape) (before after : LedgerState) (v : A) → R.reads w at s before v after → (hs : List ℕ) × LeavesTake before (R.steps w at s) hs after
