use Rattle.std.proofs.Common.{arith}
use Rattle.canon_value_parts.proofs.PairRows.{count_turns}
use Rattle.canon_value_parts.proofs.members.turns.Goals as goal

pub returns : goal.returns
returns c = omega (arith, count_turns c.args.pairs.now)
