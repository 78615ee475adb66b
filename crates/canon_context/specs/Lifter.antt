-- What is lifted from, and what that does to the ledger.
use Rattle.std.specs.Prelude.{List, ℕ, ◌≡◌}
use Rattle.canon_abi.specs.Options.{encoding_of}
use Rattle.canon_ledger.specs.Ledger.{LedgerState, LedgerStep, run_steps}
use Rattle.canon_model.specs.Text.{Encoding}
use Rattle.canon_types.specs.Instance.{Instance}
use Rattle.canon_context.specs.Core.{Parts, encoding_by}
use Rattle.canon_context.specs.declared.context.Source.{Source}

-- the types of a component in its store, memory, and how texts are spelled there
pub record Origin : Type 0 where
  pub types : Instance
  pub memory : List ℕ
  pub encoding : Encoding

abbrev pub origin_in : {T G : Type 0} → Parts T G → ℕ → Origin
origin_in core options = record { types = core.component.types; memory = core.memory; encoding = encoding_by core options }

abbrev pub origin_of : Source → Origin
origin_of source = record { types = source.instance.now; memory = source.memory.now; encoding = encoding_of source.encoding }

-- its types are those of its instance
abbrev pub IsOneOrigin : Source → Type 0
IsOneOrigin source = source.types.now ≡ source.instance.now.types

-- the second is what the first becomes by some steps of the ledger, refused or not
abbrev pub IsAfterSteps : LedgerState → LedgerState → Type 0
IsAfterSteps before after = (steps : List LedgerStep) × (after ≡ run_steps steps before)
