use Rattle.std.proofs.Common.{subst}
use Rattle.canon_script.specs.Script.{item_view}
use Rattle.canon_player.specs.Steps.{PlaysItem}
use Rattle.canon_player.proofs.player.play_next.Goals as goal

pub returns-clause-next : goal.returns-clause-next
returns-clause-next c = record {
  added = c.in_ok-record.record;
  played = subst (λ list. PlaysItem c.args.store.now (item_view c.args.item) list c.play_item.new.store c.in_ok-record.record) c.deref.ensures.value c.in_ok-record.ensures.played;
  longer_by = c.in_ok-add_resources.ensures;
  more_by = c.in_ok-push.ensures.ok;
}
