-- What lowering a function's parameters does, which are a Rust tuple.
use Rattle.std.specs.Prelude.{IfErr, List, OnOk, Result, false, ℕ, ◌≡◌, ◌≤◌, ◌⊎◌}
use Rattle.canon_context.specs.Asks.{SameButHandles}
use Rattle.canon_context.specs.Core.{Parts, encoding_by, stage_of}
use Rattle.canon_context.specs.Quiet.{have_block}
use Rattle.canon_context.specs.declared.fault.Fault.{Fault}
use Rattle.canon_resources.specs.Parts.{Part}
use Rattle.canon_lower_parts.specs.Blames.{HaveLarge, IsElsewhere}
use Rattle.canon_lower_parts.specs.Lowers.{EndsBy, HandlesCross}
use Rattle.canon_lowering.specs.Lowering.{Ending, refused}
use Rattle.canon_memory.specs.Guest.{GuestIn, Seen}
use Rattle.canon_memory.specs.declared.event.Event.{Event}
use Rattle.canon_model.specs.Flat.{max_params}
use Rattle.canon_model.specs.Layout.{members_flat}
use Rattle.canon_model.specs.Shape.{Members}
use Rattle.canon_model.specs.Text.{Encoding}
use Rattle.canon_model.specs.Tree.{Tree, Trees, parts, trees_of}
use Rattle.canon_passing.specs.Args.{LowersParams}

-- the trees of the members, where the tuple has these
abbrev pub InParts : (Tree → Type 0) → Trees → Type 0
InParts Has ts = Has (parts ts)

-- none of the members has a part that is too large
abbrev pub AreSmallIn : Encoding → Members → (Tree → Type 0) → Type 0
AreSmallIn enc ms Has = (t : Tree) → Has t → (e : Fault) → ¬ HaveLarge enc ms e (trees_of t)

-- the guest, memory or the ledger has the fault, or a part of a member is too large in the way of it
abbrev pub BlamesIn : Encoding → Members → (Tree → Type 0) → Fault → Type 0
BlamesIn enc ms Has e = (t : Tree) → Has t → IsElsewhere e ⊎ HaveLarge enc ms e (trees_of t)

-- Parameters of these members, which as a tuple have the trees of `Has`, were lowered into these words, or why not; `gives` is what their
-- handles do. They are lowered only where no part is too large. In a row they ask for nothing where no text, list or map is reached.
pub record TypedParams {D G : Type 0} (seen : G → Seen) (moves : GuestIn G → List Event → GuestIn G → Type 0) (options : ℕ) (before after : Parts D G) (ms : Members) (words : List ℕ) (Has : Tree → Type 0) (gives : List (List Part))
    (result : Result (Unit {0}) Fault) : Type 0 where
  pub handles : List ℕ
  pub ending : Ending
  pub ends : EndsBy gives result ending
  pub lowered : LowersParams (stage_of seen moves before) (stage_of seen moves after) (encoding_by before options) ms (InParts Has) words handles ending
  pub passed : HandlesCross before.ledger after.ledger gives handles result
  pub same : SameButHandles before after
  pub quiet : members_flat ms ≤ max_params → have_block ms ≡ false → (after ≡ record before { ledger = after.ledger }) × IfErr result (λ e. ending ≡ refused)
  pub cause : IfErr result (BlamesIn (encoding_by before options) ms Has)
  pub small : OnOk result (AreSmallIn (encoding_by before options) ms Has)
