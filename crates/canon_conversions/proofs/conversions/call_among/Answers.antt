use Rattle.canon_conversions.proofs.Listed.{among_here, among_next}
use Rattle.canon_conversions.proofs.conversions.call_among.Goals as goal

pub returns-then-is_named : goal.returns-then-is_named
returns-then-is_named c = among_here c.args.calls.now c.loop-call.call-index _ c.args.name.now c.is_named.result c.loop-call-test.true c.is_named.ensures c.if-is_named.true c.loop-call.invariant

pub loop-call-preserved : goal.loop-call-preserved
loop-call-preserved c = among_next c.args.calls.now c.loop-call.call-index _ c.args.name.now c.is_named.result c.loop-call-test.true c.is_named.ensures c.if-is_named.false c.loop-call.invariant
