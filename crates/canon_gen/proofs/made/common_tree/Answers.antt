use Rattle.std.proofs.lemmas.Bool.{both_ways}
use Rattle.canon_gen.proofs.Common.{common_is_json}
use Rattle.canon_gen.proofs.made.common_tree.Goals as goal

pub unreachable-requires : goal.unreachable-requires
unreachable-requires c = common_is_json (c.in-Err.ensures.err (λ memory. both_ways c.is_memory.result c.if-is_memory.false (c.is_memory.ensures.1 memory)))

pub returns-in-Ok : goal.returns-in-Ok
returns-in-Ok c = c.in-Ok.ensures.ok
