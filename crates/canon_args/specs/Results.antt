-- What lowering a host function's results does, which are a Rust tuple.
use Rattle.std.specs.Prelude.{IfErr, List, OnOk, Result, [], false, ℕ, ◌<◌, ◌∷◌, ◌≡◌, ◌≤◌}
use Rattle.canon_args.specs.Params.{AreSmallIn, BlamesIn, InParts}
use Rattle.canon_context.specs.Asks.{SameButHandles}
use Rattle.canon_context.specs.Core.{Parts, SameButLedger, encoding_by, stage_of}
use Rattle.canon_context.specs.Quiet.{have_block}
use Rattle.canon_context.specs.declared.fault.Fault.{Fault}
use Rattle.canon_resources.specs.Parts.{Part}
use Rattle.canon_lower_parts.specs.Lowers.{EndsBy, HandlesCross}
use Rattle.canon_lowering.specs.Attempt.{Attempt, LowersMembers, members_at, value_place}
use Rattle.canon_lowering.specs.Lowering.{Ending, refused}
use Rattle.canon_memory.specs.Guest.{GuestIn, Seen}
use Rattle.canon_memory.specs.declared.event.Event.{Event}
use Rattle.canon_model.specs.Homes.{host_texts}
use Rattle.canon_model.specs.Flat.{max_results}
use Rattle.canon_model.specs.Layout.{members_flat}
use Rattle.canon_model.specs.Shape.{Members, of_places, product}
use Rattle.canon_model.specs.Text.{Encoding}
use Rattle.canon_model.specs.Tree.{Tree, Trees}
use Rattle.canon_lowering.specs.Stages.{Stage}

-- Members were stored as a tuple at an address. Its whole place may have been written, with the bytes behind the last member that align
-- its end.
abbrev pub StoresTuple : {K : Type 0} → Stage K → Stage K → Encoding → Members → ℕ → (Trees → Type 0) → List ℕ → Ending → Type 0
StoresTuple before after enc ms at Have hs ending = Attempt false before after (value_place false (product of_places ms) at ∷ []) (members_at false (host_texts enc) ms 0 at Have) hs ending

-- A function's results were lowered so, with these handles: to words in a row, or of more words as a tuple at an address.
pub record LowersTuple {K : Type 0} (before after : Stage K) (enc : Encoding) (ms : Members) (Have : Trees → Type 0) (at : ℕ) (ws hs : List ℕ) (ending : Ending) : Type 0 where
  pub near : members_flat ms ≤ max_results → LowersMembers false before after (host_texts enc) ms ws 0 Have hs ending
  pub far : max_results < members_flat ms → StoresTuple before after enc ms at Have hs ending

-- Results of these members, which as a tuple have the trees of `Has`, were lowered into these words, or at this address, or why not;
-- `gives` is what their handles do. They are lowered only where no part is too large.
pub record TypedResults {D G : Type 0} (seen : G → Seen) (moves : GuestIn G → List Event → GuestIn G → Type 0) (options : ℕ) (before after : Parts D G) (ms : Members) (at : ℕ) (words : List ℕ)
    (Has : Tree → Type 0) (gives : List (List Part))
    (result : Result (Unit {0}) Fault) : Type 0 where
  pub handles : List ℕ
  pub ending : Ending
  pub ends : EndsBy gives result ending
  pub lowered : LowersTuple (stage_of seen moves before) (stage_of seen moves after) (encoding_by before options) ms (InParts Has) at words handles ending
  pub passed : HandlesCross before.ledger after.ledger gives handles result
  pub same : SameButHandles before after
  -- results that reach no text, list or map ask for nothing, and leave all but the ledger where they go in a row
  pub quiet : have_block ms ≡ false → (after.guest ≡ before.guest) × IfErr result (λ e. ending ≡ refused)
  pub quiet_near : members_flat ms ≤ max_results → have_block ms ≡ false → SameButLedger before after × IfErr result (λ e. ending ≡ refused)
  pub cause : IfErr result (BlamesIn (encoding_by before options) ms Has)
  pub small : OnOk result (AreSmallIn (encoding_by before options) ms Has)
