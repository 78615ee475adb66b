-- The items so far were played; the rest completes the records.
use Rattle.std.specs.Vec.Iter.{into_iter_items}
use Rattle.canon_player.proofs.Playing.{IsPlaying}
use Rattle.canon_player.proofs.player.play_each.Given as goal

abbrev pub invariant-loop-item : goal.invariant-loop-item
invariant-loop-item l = record {
  next : (goal.iterator-loop-item).can_next l.item-iterator;
  ends : (goal.iterator-loop-item).is_finite l.item-iterator;
  playing : IsPlaying l.fn.store l.fn.items.items l.store (into_iter_items l.item-iterator) l.list.items l.records;
}
