use Rattle.std.proofs.Common.{sym, ◌∙◌}
use Rattle.std.proofs.lemmas.List.{nil_from_length}
use Rattle.std.specs.Vec.Iter.{into_iter_items}
use Rattle.canon_player.proofs.Playing.{playing_playable, playing_first, playing_last, playing_next}
use Rattle.canon_player.proofs.player.play_each.Goals as goal

pub loop-item-init : goal.loop-item-init
loop-item-init c = record {
  next = tt;
  ends = tt;
  playing = playing_first c.args.store.now c.args.items.items (into_iter_items c.into_iter-item-iterator.result) c.new-list.result.items c.new-records.result c.into_iter-item-iterator.ensures.into_iter_gives.0
      c.new-list.ensures.items c.new-records.ensures c.requires.fresh c.requires.own_types c.requires.playable;
}

pub play_next-requires-clause-fresh : goal.play_next-requires-clause-fresh
play_next-requires-clause-fresh c = c.loop-item.invariant.playing.fresh

pub play_next-requires-clause-own_types : goal.play_next-requires-clause-own_types
play_next-requires-clause-own_types c = c.loop-item.invariant.playing.own_types

pub play_next-requires-clause-playable : goal.play_next-requires-clause-playable
play_next-requires-clause-playable c =
    playing_playable c.args.store.now c.args.items.items c.loop-item.store (into_iter_items c.loop-item.item-iterator)
    (into_iter_items c.next.new.self) c.in-Some.item c.loop-item.list.items c.loop-item.records c.in-Some.ensures.steps.0 c.loop-item.invariant.playing

pub loop-item-preserved : goal.loop-item-preserved
loop-item-preserved c = record {
  next = tt;
  ends = tt;
  playing = let n = c.in_ok-play_next.ensures.next in
      playing_next c.args.store.now c.args.items.items c.loop-item.store (into_iter_items c.loop-item.item-iterator)
      (into_iter_items c.next.new.self) c.in-Some.item c.loop-item.list.items c.loop-item.records c.in-Some.ensures.steps.0 c.loop-item.invariant.playing
      c.play_next.new.store n.added c.play_next.new.list.items c.play_next.new.records c.play_next.ensures.fresh c.play_next.ensures.same c.play_next.ensures.id c.play_next.ensures.limits c.play_next.ensures.answers
      n.played n.longer_by n.more_by;
}

pub returns : goal.returns
returns c = playing_last c.args.store.now c.args.items.items c.loop-item.store (into_iter_items c.loop-item.item-iterator) c.loop-item.list.items c.loop-item.records
    (nil_from_length _ (sym c.loop-item.item-iterator.rest.ok.0 ∙ c.in-None.ensures.steps.0)) c.loop-item.invariant.playing
