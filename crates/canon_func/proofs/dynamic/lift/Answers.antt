use Rattle.std.proofs.Common.{ap, ◌≡◌, ◌∙◌}
use Rattle.canon_context.specs.Core.{component_types}
use Rattle.canon_func.proofs.Returned.{call_lifted_count, lifted_so}
use Rattle.canon_func.proofs.dynamic.lift.Goals as goal

pub returns-clause-lifted : goal.returns-clause-lifted
returns-clause-lifted g c =
    let core = c.args.core.now in
    let is : c.types-types.result.now ≡ component_types core = c.types-types.ensures ∙ ap (λ k. k.types.types) c.component.ensures.component in
    lifted_so core c.args.export.now c.args.words.now c.types-types.result.now c.func.result.now c.lift_tuple.new.core.ledger is c.func.ensures.found c.lift_tuple.result c.laws.ensures.results c.lift_tuple.ensures.lifts

pub returns-clause-count : goal.returns-clause-count
returns-clause-count g c =
    let core = c.args.core.now in
    let is : c.types-types.result.now ≡ component_types core = c.types-types.ensures ∙ ap (λ k. k.types.types) c.component.ensures.component in
    call_lifted_count core c.args.export.now c.args.words.now c.types-types.result.now c.func.result.now c.lift_tuple.new.core.ledger is c.func.ensures.found c.lift_tuple.result c.lift_tuple.ensures.lifts
