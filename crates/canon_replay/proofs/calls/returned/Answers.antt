use Rattle.std.proofs.Common.{false, rules, sym, true, ◌∙◌, ◌≡◌}
use Rattle.canon_context.specs.Core.{component_types}
use Rattle.canon_func.specs.Stores.{type_of}
use Rattle.canon_replay.specs.Calls.{results_shape_in}
use Rattle.canon_replay.proofs.Comparing.{compares_short}
use Rattle.canon_replay.proofs.Ending.{ended_early, ended_otherwise, ended_same}
use Rattle.canon_replay.proofs.calls.returned.Goals as goal

pub returns-then-not-has_passed_in-clause-passed : goal.returns-then-not-has_passed_in-clause-passed
returns-then-not-has_passed_in-clause-passed c =
    let lacks : c.has_passed_in.result ≡ false = search rules in
    ended_early c.args.k c.args.func.now c.args.store.now c.args.results.items c.args.recorded.items c.has_passed_in.new.store c.has_passed_in.ensures.same c.outcome_in.result (sym c.has_passed_in.ensures.is ∙ lacks) c.outcome_in.ensures.is

pub returns-in-Ok-true-clause-passed : goal.returns-in-Ok-true-clause-passed
returns-in-Ok-true-clause-passed c =
    let passed : c.has_passed_in.result ≡ true = search rules in
    ended_same c.args.k c.args.func.now c.args.store.now c.args.results.items c.args.recorded.items c.has_passed_in.new.store c.has_passed_in.ensures.same (sym c.has_passed_in.ensures.is ∙ passed)
    (rw c.in-Ok-true.field-0-test at c.in-Ok-true.ensures.compares)

pub returns-in-Ok-false-clause-passed : goal.returns-in-Ok-false-clause-passed
returns-in-Ok-false-clause-passed c =
    ended_otherwise c.args.k c.args.func.now c.args.store.now c.args.results.items c.args.recorded.items c.has_passed_in.new.store c.has_passed_in.ensures.same c.outcome_in-in-Ok-false.result
    (rw c.in-Ok-false.field-0-test at c.in-Ok-false.ensures.compares) c.in-Ok-false.ensures.tuple c.outcome_in-in-Ok-false.ensures.is

pub returns-in-Err-clause-short : goal.returns-in-Err-clause-short
returns-in-Err-clause-short c =
    let mid = c.has_passed_in.new.store in
    compares_short (results_shape_in (component_types mid.core) (type_of mid c.args.func.now)) c.args.results.items c.args.recorded.items c.in-Err.error c.in-Err.ensures.compares
