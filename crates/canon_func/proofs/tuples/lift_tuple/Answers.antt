use Rattle.std.proofs.Common.{rules, subst, ℕ, ◌≡◌}
use Rattle.canon_args.specs.Returned.{passed_reading}
use Rattle.canon_context.specs.Core.{Parts, component_types}
use Rattle.canon_reading.specs.Reading.{setting_in}
use Rattle.canon_ledger.specs.Ledger.{LedgerState}
use Rattle.canon_model.specs.Flat.{max_results}
use Rattle.canon_model.specs.Shape.{of_places, product}
use Rattle.canon_types.specs.Table.{tuple_members}
use Rattle.canon_func.specs.Typed.{LiftsTuple}
use Rattle.canon_func.proofs.tuples.lift_tuple.Goals as goal

pub returns-clause-lifts : goal.returns-clause-lifts
returns-clause-lifts g c =
    let cx = c.new-cx.result in
    let e = c.args.export.now in
    let LiftsFrom : Parts g.row.T.Denot g.row.G.Denot → ℕ → ℕ → LedgerState → Type 0 = λ from options fuel to. let s = product of_places (tuple_members (component_types from) c.args.tuple) in
    LiftsTuple (passed_reading max_results s g.R.Lift.reading) (setting_in from options) c.args.words.now s from.ledger fuel c.lift_results.result to in
    let ends : c.lift_results.new.cx.core.now.ledger ≡ _ = search rules in
    subst (λ l. LiftsFrom c.args.core.now e.options c.args.core.now.fuel l) ends
    (subst (λ n. LiftsFrom c.args.core.now e.options n c.lift_results.new.cx.core.now.ledger) c.new-cx.ensures.fuel
    (subst (λ o. LiftsFrom c.args.core.now o cx.fuel c.lift_results.new.cx.core.now.ledger) c.new-cx.ensures.options
    (subst (λ k. LiftsFrom k cx.options cx.fuel c.lift_results.new.cx.core.now.ledger) c.new-cx.ensures.core (c.lift_results.new.cx.fuel, c.lift_results.ensures.lifts))))
