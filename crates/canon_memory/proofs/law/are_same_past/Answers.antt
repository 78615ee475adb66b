use Rattle.std.proofs.Common.{rules}
use Rattle.canon_memory.proofs.Watch.{same_past}
use Rattle.canon_memory.proofs.law.are_same_past.Goals as goal

pub returns : goal.returns
returns c = (λ t. same_past c.args.before.now c.args.after.now c.args.at c.args.to c.loop-k.k c.args.count (search rules) c.loop-k.invariant, λ h. search rules)
