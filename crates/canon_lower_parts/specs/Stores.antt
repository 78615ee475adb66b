-- What storing a typed value in memory does. In the place of the value stand what its trees are, and what its handles do to the
-- ledger, in order.
use Rattle.std.specs.Prelude.{◌≡◌, ◌%◌, ◌^◌, List, Result, [], false, ◌∷◌, ℕ}
use Rattle.canon_context.specs.Core.{Parts, encoding_by}
use Rattle.canon_context.specs.Quiet.{has_block, have_block}
use Rattle.canon_context.specs.declared.fault.Fault.{Fault}
use Rattle.canon_resources.specs.Parts.{Part}
use Rattle.canon_lowering.specs.Attempt.{members_at, members_span, value_at, value_place}
use Rattle.canon_lowering.specs.Steps.{Writes}
use Rattle.canon_lowering.specs.Storing.{narrow}
use Rattle.canon_memory.specs.Guest.{GuestIn, Seen}
use Rattle.canon_memory.specs.Realloc.{block}
use Rattle.canon_memory.specs.declared.event.Event.{Event}
use Rattle.canon_model.specs.Homes.{host_texts}
use Rattle.canon_model.specs.Memory.{num}
use Rattle.canon_model.specs.Shape.{Members, Shape}
use Rattle.canon_model.specs.Tree.{Tree, Trees}
use Rattle.canon_lower_parts.specs.Blames.{HasLarge, HaveLarge}
use Rattle.canon_lower_parts.specs.Lowers.{TypedAttempt}

module _ {D G : Type 0} (seen : G → Seen) (moves : GuestIn G → List Event → GuestIn G → Type 0) (options : ℕ) (before after : Parts D G) where
  -- a value whose trees are these, of the shape s, at the address `at`
  abbrev pub TypedStores : Shape → ℕ → (Tree → Type 0) → List (List Part) → Result (Unit {0}) Fault → Type 0
  TypedStores s at Has gives result = TypedAttempt seen moves before after (value_place false s at ∷ []) (value_at false (host_texts (encoding_by before options)) s at Has) gives (has_block s) (after.guest ≡ before.guest)
      (HasLarge (encoding_by before options) s) result

  -- values in a row as members at `at`, where the one before them ends at offset o
  abbrev pub TypedMembersStore : Members → ℕ → ℕ → (Trees → Type 0) → List (List Part) → Result (Unit {0}) Fault → Type 0
  TypedMembersStore ms o at Have gives result = TypedAttempt seen moves before after (members_span false ms o at ∷ []) (members_at false (host_texts (encoding_by before options)) ms o at Have) gives
      (have_block ms) (after.guest ≡ before.guest)
      (HaveLarge (encoding_by before options) ms) result

-- the lowest bytes of a number were written at an address, and nothing else changed
pub record IsPut {D G : Type 0} (before after : Parts D G) (at number size : ℕ) : Type 0 where
  pub writes : Writes (block at size) before.memory after.memory
  pub stored : num (narrow after.memory) at size ≡ number % 256 ^ size
  pub same : after ≡ record before { memory = after.memory }
