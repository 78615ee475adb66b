-- Texts and lists in blocks of their own, each given by a pointer and a length.
use Rattle.std.specs.Prelude.{◌≡◌, ◌≤◌, ◌<◌, ◌*◌, ◌^◌, ◌⊎◌, ◌∷◌, Err, IfOk, List, Ok, Result, [], false, length, true, ℕ, ⊤}
use Rattle.canon_context.specs.Asks.{AsksFor}
use Rattle.canon_context.specs.Core.{Parts, encoding_by}
use Rattle.canon_context.specs.declared.fault.Fault.{Fault}
use Rattle.canon_context.specs.declared.fault.Fault.TheVariants as fault
use Rattle.canon_resources.specs.Parts.{Part}
use Rattle.canon_lowering.specs.Attempt.{items_call, value_words}
use Rattle.canon_lowering.specs.Storing.{IsPair}
use Rattle.canon_memory.specs.Guest.{GuestIn, Seen}
use Rattle.canon_memory.specs.declared.event.Event.{Event}
use Rattle.canon_model.specs.Homes.{host_texts}
use Rattle.canon_model.specs.Layout.{size}
use Rattle.canon_model.specs.Shape.{Shape}
use Rattle.canon_model.specs.Tree.{Tree}
use Rattle.canon_lower_parts.specs.Blames.{HasLarge}
use Rattle.canon_lower_parts.specs.Lowers.{TypedAttempt}
use Rattle.canon_lower_parts.specs.declared.blocks.Placed.{Placed}

-- the two words of a block
abbrev pub block_words : Result Placed Fault → List ℕ
block_words (Ok b) = b.pointer ∷ b.length ∷ []
block_words (Err e) = []

-- whether it was done
abbrev pub without_value : {T : Type 0} → Result T Fault → Result (Unit {0}) Fault
without_value (Ok x) = Ok tt
without_value (Err e) = Err e

module _ {D G : Type 0} (seen : G → Seen) (moves : GuestIn G → List Event → GuestIn G → Type 0) where
  module _ (options : ℕ) (before after : Parts D G) where
    -- a text or a list of the shape s, in a block of its own
    pub record TypedPlaces (s : Shape) (Has : Tree → Type 0) (gives : List (List Part)) (result : Result Placed Fault) : Type 0 where
      pub placed : TypedAttempt seen moves before after [] (value_words false (host_texts (encoding_by before options)) s (block_words result) 0 Has) gives true ⊤ (HasLarge (encoding_by before options) s) (without_value result)
      pub narrow : IfOk result (λ b. (b.pointer < 2 ^ 32) × (b.length < 2 ^ 32))

  module _ (before after : Parts D G) (s : Shape) (n : ℕ) where
    -- the block of n items at p is given
    pub record IsGivenBlock (p : ℕ) : Type 0 where
      pub asked : AsksFor seen moves before after (items_call false s n) (Ok p)
      pub few : n < 2 ^ 32
      pub fit : n * size false s < 2 ^ 32

    -- the block isn't: it would be too large, or the guest doesn't give it
    abbrev pub IsNoBlock : Fault → Type 0
    IsNoBlock e = ((e ≡ fault.SizeOverflow n) × (after ≡ before) × (length before.memory ≤ 2 ^ 32) × ((2 ^ 32 ≤ n) ⊎ (2 ^ 32 ≤ n * size false s))) ⊎ AsksFor seen moves before after (items_call false s n) (Err e)

    abbrev pub BlockAsked : Result ℕ Fault → Type 0
    BlockAsked (Ok p) = IsGivenBlock p
    BlockAsked (Err e) = IsNoBlock e

-- a pointer and a length were written at an address, and nothing else changed
pub record IsPairPut {D G : Type 0} (before after : Parts D G) (at p n : ℕ) : Type 0 where
  pub pair : IsPair before.memory after.memory at p n
  pub same : after ≡ record before { memory = after.memory }

-- the pointer and the length of what was placed were written at an address; where nothing was placed, nothing changed
abbrev pub IsPlacedPut : {D G : Type 0} → Parts D G → Parts D G → ℕ → Result Placed Fault → Type 0
IsPlacedPut before after at (Ok x) = IsPairPut before after at x.pointer x.length
IsPlacedPut before after at (Err e) = after ≡ before
