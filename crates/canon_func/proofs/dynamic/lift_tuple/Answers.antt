use Rattle.std.proofs.Common.{rules}
use Rattle.canon_func.proofs.Returned.{lifts_at}
use Rattle.canon_func.proofs.dynamic.lift_tuple.Goals as goal

pub returns-clause-lifts : goal.returns-clause-lifts
returns-clause-lifts g c =
    let cx = c.new-cx.result in
    let after = c.lift_results.new.cx.core.now in
    lifts_at c.args.core.now cx.core.now after _ c.args.export.now.options cx.options c.args.tuple cx.fuel c.lift_results.new.cx.fuel c.args.words.now c.lift_results.result c.new-cx.ensures.core c.new-cx.ensures.options
    c.new-cx.ensures.fuel (search rules) c.lift_results.ensures.lifts
