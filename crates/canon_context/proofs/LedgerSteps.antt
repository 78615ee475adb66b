-- What the ledger is after steps of it, up to one that may be refused.
use Rattle.std.proofs.Common.{List, [], inl, inr, ◌≡◌, ◌∷◌}
use Rattle.canon_ledger.specs.Ledger.{LedgerState, LedgerStep, Partway, Through, do_step, run_steps}
use Rattle.canon_context.specs.Lifter.{IsAfterSteps}

through_run : (l m : LedgerState) (steps : List LedgerStep) → Through l steps m → m ≡ run_steps steps l
through_run l m [] h = h
through_run l m (step ∷ steps) (a, ok, rest) = through_run (do_step step l).after m steps rest

pub through_after : (l m : LedgerState) (steps : List LedgerStep) → Through l steps m → IsAfterSteps l m
through_after l m steps h = (steps, through_run l m steps h)

-- the refused step is the last
pub partway_after : (l m : LedgerState) (steps : List LedgerStep) → Partway l steps m → IsAfterSteps l m
partway_after l m [] h = ([], h)
partway_after l m (step ∷ steps) (inl e) = ([], e)
partway_after l m (step ∷ steps) (inr (inl (e, refused, left))) = (step ∷ [], left)
partway_after l m (step ∷ steps) (inr (inr (a, ok, rest))) =
    let (first, e) = partway_after (do_step step l).after m steps rest in
    (step ∷ first, e)
