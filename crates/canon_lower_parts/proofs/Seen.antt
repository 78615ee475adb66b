-- Values behind references.
use Rattle.std.proofs.Common.{Bor, Bool, Err, List, None, Ok, Option, Result, Some, false, option_copied, true}
use Rattle.std.specs.Result.{result_copied}
use Rattle.canon_resources.specs.Parts.{Part}
use Rattle.canon_model.specs.Shape.{Shape}
use Rattle.canon_model.specs.Tree.{Tree}
use Rattle.canon_types.specs.Instance.{Instance}
use Rattle.canon_typed.specs.Meaning.{OptionMeans, ResultMeans}
use Rattle.canon_lower_parts.specs.Gives.{option_gives, result_gives}

-- what holds of an option of references holds of the option
pub option_seen : {T : Type 0} (Walks : T → Tree → Type 0) (gives : Instance → Shape → T → List (List Part)) (i : Instance) (s : Shape) (P : (Tree → Type 0) → List (List Part) → Type 0) (v : Option (Bor T))
    → P (OptionMeans (λ r. Walks r.now) v) (option_gives (λ j z r. gives j z r.now) i s v) → P (OptionMeans Walks (option_copied v)) (option_gives gives i s (option_copied v))
option_seen Walks gives i s P None h = h
option_seen Walks gives i s P (Some r) h = h

-- and of a result; where a payload's type is the unit, nothing is said of it
pub lower_result_seen : {T E : Type 0} (unit : Bool) (Walks : T → Tree → Type 0) (gives : Instance → Shape → T → List (List Part)) (unit2 : Bool) (Walks2 : E → Tree → Type 0)
    (gives2 : Instance → Shape → E → List (List Part)) (i : Instance) (s : Shape)
    (P : (Tree → Type 0) → List (List Part) → Type 0) (v : Result (Bor T) (Bor E))
    → P (ResultMeans unit (λ r. Walks r.now) unit2 (λ r. Walks2 r.now) v) (result_gives unit (λ j z r. gives j z r.now) unit2 (λ j z r. gives2 j z r.now) i s v)
    → P (ResultMeans unit Walks unit2 Walks2 (result_copied v)) (result_gives unit gives unit2 gives2 i s (result_copied v))
lower_result_seen true Walks gives unit2 Walks2 gives2 i s P (Ok r) h = h
lower_result_seen false Walks gives unit2 Walks2 gives2 i s P (Ok r) h = h
lower_result_seen unit Walks gives true Walks2 gives2 i s P (Err r) h = h
lower_result_seen unit Walks gives false Walks2 gives2 i s P (Err r) h = h
