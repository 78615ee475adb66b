use Rattle.canon_value_parts.proofs.LiftSteps.{scalar_lifted, word_placed}
use Rattle.std.proofs.Common.{ap}
use Rattle.canon_context.specs.declared.fault.Fault.TheVariants as fault
use Rattle.canon_walks.proofs.lift.lift_scalar.Goals as goal

pub returns-in-Some-clause-lifts : goal.returns-in-Some-clause-lifts
returns-in-Some-clause-lifts c = λ enc m fuel.
    scalar_lifted enc m c.args.src.now c.args.ty.now c.args.at.now c.index-src-index.result fuel c.in-Some.value c.index-src-index.is c.requires.room c.in-Some.ensures.value

pub returns-in-None-clause-char : goal.returns-in-None-clause-char
returns-in-None-clause-char c = λ small. ap fault.InvalidChar (word_placed c.word_at.result c.args.at.now c.word_at.ensures small)
