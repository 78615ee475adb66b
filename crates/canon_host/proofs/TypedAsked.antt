-- The parameters of an ask that a function over Rust types serves are those that its words and memory represent.
use Rattle.std.proofs.Common.{Err, Ok, Result, arith, ℕ}
use Rattle.std.proofs.lemmas.List.{length-take-le}
use Rattle.canon_args.specs.Exactly.{IsPassed}
use Rattle.canon_args.proofs.Exactly.{always_passed, only_passed}
use Rattle.canon_context.specs.Core.{component_types}
use Rattle.canon_context.specs.declared.fault.Fault.{Fault}
use Rattle.canon_host.specs.TypedAsks.{AskedIsEnough, IsTreeLifted, OnlyAsked, param_words}
use Rattle.canon_ledger.specs.Ledger.{LedgerState}
use Rattle.canon_reading.specs.Laws.{IsLifted}
use Rattle.canon_reading.specs.OfTrees.{IsFaulted, IsOfTrees, IsPriced}
use Rattle.canon_reading.specs.Reading.{AreTaken, Reading, setting_in}
use Rattle.canon_model.specs.Flat.{max_params}
use Rattle.canon_model.specs.Shape.{Members}
use Rattle.canon_model.specs.Tree.{Tree, parts}
use Rattle.canon_types.specs.Instance.{Instance}
use Rattle.canon_types.specs.Table.{param_members}
use Rattle.canon_types.specs.declared.types.InterfaceType.{InterfaceType}
use Rattle.canon_types.specs.declared.types.InterfaceType.TheVariants.{Tuple}
use Rattle.canon_passing.specs.Args.{args_words}

-- what is left is of no account
pub its_lifted : {P : Type 0} (reading : Reading P) (Means : P → Tree → Type 0) (price : Tree → ℕ) (t : Tree) (end after : LedgerState) (fuel left : ℕ) (result : Result P Fault)
    → IsLifted reading Means price t end fuel result after left → IsTreeLifted reading Means t end result after
its_lifted reading Means price t end after fuel left (Ok params) h = (h.0, h.2)
its_lifted reading Means price t end after fuel left (Err e) h = h

module _ (T G : Type 0) {P : Type 0} (Fit : Instance → InterfaceType → Type 0) (reading : Reading P) (Means : P → Tree → Type 0) (price : Tree → ℕ)
    (faulted : IsFaulted Fit reading) (priced : IsPriced Fit reading price) (told : IsOfTrees Fit reading Means) (taken : AreTaken reading) where
  pub only_asked : OnlyAsked T G Fit reading Means price
  only_asked asked before after words params are ((left, lifts), same) =
      let ms : Members = param_members (component_types before) asked.func in
      let h : IsPassed reading Means price max_params (setting_in before asked.options) ms (param_words asked before words) before.ledger after.ledger before.fuel left params =
      only_passed faulted priced told taken max_params (setting_in before asked.options) (Tuple asked.func.params) ms (param_words asked before words) are.fits are.shape
      (length-take-le (args_words ms) words are.given) before.ledger after.ledger before.fuel left params lifts in
      record { trees = h.trees; represented = h.represented; means = h.means; within = omega (arith, h.spent); steps = h.steps; taken = h.taken }

  pub asked_enough : AskedIsEnough T G Fit reading Means price
  asked_enough asked before after words result trees hs end are rep few took ((left, lifts), same) =
      its_lifted reading Means price (parts trees) end after.ledger before.fuel left result
      (always_passed faulted priced told taken max_params (setting_in before asked.options) (Tuple asked.func.params) (param_members (component_types before) asked.func) (param_words asked before words) are.fits are.shape
      before.ledger after.ledger end before.fuel left result trees hs rep few took lifts)
