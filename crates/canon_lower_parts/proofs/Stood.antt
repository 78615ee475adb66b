-- What was stored, said of the types and the options of the start.
use Rattle.std.proofs.Common.{◌≡◌, List, Result, subst, ℕ}
use Rattle.canon_context.specs.Core.{Parts, component_types}
use Rattle.canon_context.specs.declared.fault.Fault.{Fault}
use Rattle.canon_resources.specs.Parts.{Part}
use Rattle.canon_memory.specs.Guest.{GuestIn, Seen}
use Rattle.canon_memory.specs.declared.event.Event.{Event}
use Rattle.canon_model.specs.Shape.{Shape}
use Rattle.canon_model.specs.Tree.{Tree}
use Rattle.canon_types.specs.Instance.{Instance}
use Rattle.canon_types.specs.Table.{shape_of}
use Rattle.canon_types.specs.declared.types.InterfaceType.{InterfaceType}
use Rattle.canon_lower_parts.specs.Stores.{TypedStores}

module _ {D G A : Type 0} (seen : G → Seen) (moves : GuestIn G → List Event → GuestIn G → Type 0) (options : ℕ) (Walks : A → Tree → Type 0) (gives : Instance → Shape → A → List (List Part)) where
  pub value_stood : (i : Instance) (b c : Parts D G) (options2 : ℕ) (type : InterfaceType) (at : ℕ) (x : A) (r : Result (Unit {0}) Fault) → options2 ≡ options → b.component.types ≡ i
      → TypedStores seen moves options2 b c (shape_of (component_types b) type) at (Walks x) (gives b.component.types (shape_of (component_types b) type) x) r
      → TypedStores seen moves options b c (shape_of i.types type) at (Walks x) (gives i (shape_of i.types type) x) r
  value_stood i b c options2 type at x r eo ei h =
      subst (λ (z : Instance). TypedStores seen moves options b c (shape_of z.types type) at (Walks x) (gives z (shape_of z.types type) x) r) ei
      (subst (λ (n : ℕ). TypedStores seen moves n b c (shape_of (component_types b) type) at (Walks x) (gives b.component.types (shape_of (component_types b) type) x) r) eo h)
