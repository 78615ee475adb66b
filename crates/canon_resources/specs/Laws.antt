-- Laws of the handles among values.
use Rattle.std.specs.Prelude.{List, Option, Some, map, ℕ, ◌++◌, ◌≡◌}
use Rattle.canon_ledger.specs.declared.fault.ResourceFault.{ResourceFault}
use Rattle.canon_ledger.specs.Ledger.{LedgerState, Partway, Through}
use Rattle.canon_model.specs.Leaves.{Leaf}
use Rattle.canon_resources.specs.Held.{Any}
use Rattle.canon_types.specs.Instance.{Instance}
use Rattle.canon_resources.specs.Parts.{LeavesLift, LeavesStop, LeavesTake, Part, lift_parts}
use Rattle.canon_resources.specs.Steps.{leaves_steps}

-- handles that cross, and then more
abbrev pub LeavesCompose : Type 0
LeavesCompose = (l m n : LedgerState) (xs ys : List (List Part)) (hs ks : List ℕ) → LeavesTake l xs hs m → LeavesTake m ys ks n → LeavesTake l (xs ++ ys) (hs ++ ks) n

-- and then more, up to where it stopped
abbrev pub StopsCompose : Type 0
StopsCompose = (why : Option ResourceFault) (l m n : LedgerState) (xs ys : List (List Part)) (hs : List ℕ) → LeavesTake l xs hs m → LeavesStop why m ys n → LeavesStop why l (xs ++ ys) n

-- where it stopped, whatever was to come after
abbrev pub StopsStay : Type 0
StopsStay = (why : Option ResourceFault) (l n : LedgerState) (xs ys : List (List Part)) → LeavesStop why l xs n → LeavesStop why l (xs ++ ys) n

-- what is refused does not cross
abbrev pub StopsExclude : Type 0
StopsExclude = (e : ResourceFault) (l n m : LedgerState) (xs : List (List Part)) (hs : List ℕ) → LeavesStop (Some e) l xs n → LeavesTake l xs hs m → ⊥

-- what was answered and what was left is determined by the ledger
abbrev pub LeavesAreDetermined : Type 0
LeavesAreDetermined = (l m n : LedgerState) (xs : List (List Part)) (hs ks : List ℕ) → LeavesTake l xs hs m → LeavesTake l xs ks n → (hs ≡ ks) × (m ≡ n)

-- handles that cross are accepted steps of the ledger, one after another
abbrev pub LeavesAreSteps : Type 0
LeavesAreSteps = (l n : LedgerState) (xs : List (List Part)) (hs : List ℕ) → LeavesTake l xs hs n → Through l (leaves_steps l xs) n

-- and those that stopped are accepted up to some step
abbrev pub StopsArePartway : Type 0
StopsArePartway = (why : Option ResourceFault) (l n : LedgerState) (xs : List (List Part)) → LeavesStop why l xs n → Partway l (leaves_steps l xs) n

-- what is lifted crosses with some handles
abbrev pub LiftsAreTakes : Type 0
LiftsAreTakes = (i : Instance) (l n : LedgerState) (leaves : List Leaf) (xs : List Any) → LeavesLift i l leaves xs n → (hs : List ℕ) × LeavesTake l (map (lift_parts i) leaves) hs n
