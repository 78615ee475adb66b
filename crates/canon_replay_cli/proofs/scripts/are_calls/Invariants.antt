use Rattle.std.proofs.Common.{drop, map}
use Rattle.std.specs.Prelude.{◌↔◌}
use Rattle.canon_script.specs.Script.{item_view}
use Rattle.canon_replay_cli.specs.Scripts.{AreCallItems}
use Rattle.canon_replay_cli.proofs.scripts.are_calls.Given as goal

-- all are calls exactly where those that are left are
abbrev pub invariant-loop-item : goal.invariant-loop-item
invariant-loop-item l = record { same : AreCallItems (map item_view l.items) ↔ AreCallItems (map item_view (drop l.item-index l.items)) }
