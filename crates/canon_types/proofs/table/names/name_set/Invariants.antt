-- The names so far are new; what is left tells whether one stands twice.
use Rattle.std.proofs.Common.{◌≡◌, ◌++◌, map, string_bytes}
use Rattle.std.specs.Vec.Iter.{into_iter_items}
use Rattle.canon_types.specs.Refusal.{has_repeats, repeats_after}
use Rattle.canon_types.proofs.table.names.name_set.Given as goal

abbrev pub invariant-loop-name : goal.invariant-loop-name
invariant-loop-name l = record {
  next : (goal.iterator-loop-name).can_next l.name-iterator;
  ends : (goal.iterator-loop-name).is_finite l.name-iterator;
  all : l.set.keys ++ into_iter_items l.name-iterator ≡ l.fn.names.items;
  rest : repeats_after (map (λ n. string_bytes n) l.set.keys) (map (λ n. string_bytes n) (into_iter_items l.name-iterator)) ≡ has_repeats (map (λ n. string_bytes n) l.fn.names.items);
}
