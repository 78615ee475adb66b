-- Pairs so far, and the keys and values that are left.
use Rattle.std.proofs.Common.{◌≡◌, ◌++◌, length}
use Rattle.std.specs.Vec.Iter.{into_iter_items, into_iter_len}
use Rattle.canon_value_parts.specs.Elements.{by_turns}
use Rattle.canon_value_parts.proofs.rebuilt.rebuild_map.Given as goal

abbrev pub invariant-loop : goal.invariant-loop
invariant-loop l =
    (by_turns l.pairs.items ++ into_iter_items l.rest ≡ l.fn.values.items)
    × (into_iter_len l.rest ≡ length (into_iter_items l.rest))
    × (length l.pairs.items ≡ l.counter)
