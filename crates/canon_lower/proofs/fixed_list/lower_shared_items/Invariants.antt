-- What is left completes what is done.
use Rattle.std.proofs.Common.{◌≡◌, drop, length, ◌≤◌, ◌^◌}
use Rattle.canon_lower_parts.proofs.WordRows.{RowDone}
use Rattle.canon_lower.proofs.fixed_list.lower_shared_items.Given as goal

abbrev pub invariant-loop-k : goal.invariant-loop-k
invariant-loop-k g l = record {
  row : RowDone g.G.Guest.seen g.G.Guest.moves l.fn.cx.options l.fn.cx.core.now l.ty g.T.ComponentType.walks g.T.LowerShared.gives l.items l.cx.core.now l.cx.options l.dst l.at (drop l.k l.items);
  small : length l.cx.core.now.memory ≤ 2 ^ 32;
  count : length l.dst ≡ length l.fn.dst;
  options : l.cx.options ≡ l.fn.cx.options;
  reference : l.cx.core.ghost_name ≡ l.fn.cx.core.ghost_name;
}
