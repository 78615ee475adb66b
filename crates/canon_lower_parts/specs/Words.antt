-- What lowering a typed value to words does: the words of each from its first one on.
use Rattle.std.specs.Prelude.{List, Result, [], false, ℕ, ◌≡◌, slice_index, length}
use Rattle.canon_context.specs.Core.{Parts, encoding_by}
use Rattle.canon_context.specs.Quiet.{has_block, have_block}
use Rattle.canon_context.specs.declared.fault.Fault.{Fault}
use Rattle.canon_resources.specs.Parts.{Part}
use Rattle.canon_lower_parts.specs.Blames.{HasLarge, HaveLarge}
use Rattle.canon_lower_parts.specs.Lowers.{TypedAttempt}
use Rattle.canon_lowering.specs.Attempt.{members_words, value_words}
use Rattle.canon_memory.specs.Guest.{GuestIn, Seen}
use Rattle.canon_memory.specs.declared.event.Event.{Event}
use Rattle.canon_model.specs.Homes.{host_texts}
use Rattle.canon_model.specs.Flat.{AreZero}
use Rattle.canon_model.specs.Shape.{Members, Shape}
use Rattle.canon_model.specs.Tree.{Tree, Trees, case_of}

module _ {D G : Type 0} (seen : G → Seen) (moves : GuestIn G → List Event → GuestIn G → Type 0) (options : ℕ) (before after : Parts D G) where
  -- a value of the shape s, into the words from word i on
  abbrev pub TypedLowers : Shape → List ℕ → ℕ → (Tree → Type 0) → List (List Part) → Result (Unit {0}) Fault → Type 0
  TypedLowers s ws i Has gives result = TypedAttempt seen moves before after [] (value_words false (host_texts (encoding_by before options)) s ws i Has) gives (has_block s) (after ≡ record before { ledger = after.ledger })
      (HasLarge (encoding_by before options) s) result

  -- members in a row
  abbrev pub TypedMembersLower : Members → List ℕ → ℕ → (Trees → Type 0) → List (List Part) → Result (Unit {0}) Fault → Type 0
  TypedMembersLower ms ws i Have gives result = TypedAttempt seen moves before after [] (members_words false (host_texts (encoding_by before options)) ms ws i Have) gives (have_block ms) (after ≡ record before { ledger = after.ledger })
      (HaveLarge (encoding_by before options) ms) result

-- the number of a case in the first word, and zeros from word i on
abbrev pub IsCaseWords : ℕ → ℕ → List ℕ → Type 0
IsCaseWords d i ws = (slice_index ws 0 ≡ d) × AreZero ws i (length ws)

-- case d, whose payload has one of these trees
abbrev pub CaseOf : ℕ → (Tree → Type 0) → Tree → Type 0
CaseOf d Has t = (u : Tree) × (t ≡ case_of d u) × Has u
