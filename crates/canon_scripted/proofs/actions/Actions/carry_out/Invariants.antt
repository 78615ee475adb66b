use Rattle.std.proofs.Common.{◌≡◌, ◌≤◌, length}
use Rattle.std.specs.Vec.Iter.{into_iter_items}
use Rattle.canon_scripted.specs.Actions.{carry_out}
use Rattle.canon_scripted.proofs.actions.Actions.carry_out.Given as goal

abbrev pub invariant-loop-action : goal.invariant-loop-action
invariant-loop-action l = record {
  same : carry_out (into_iter_items l.initial.self-inside.left) l.initial.memory.bytes ≡ carry_out (into_iter_items l.self-inside.left) l.memory.bytes;
  no_shorter : length l.initial.memory.bytes ≤ length l.memory.bytes;
  width : l.memory.wide ≡ l.initial.memory.wide;
}

abbrev pub decreases-loop-action : goal.decreases-loop-action
decreases-loop-action l = length (into_iter_items l.self-inside.left)
