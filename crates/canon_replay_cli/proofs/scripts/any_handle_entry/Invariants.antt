use Rattle.std.proofs.Common.{drop, ◌≡◌}
use Rattle.serde_json.specs.View.{items_view}
use Rattle.canon_replay_cli.specs.Scripts.{any_handle_entry}
use Rattle.canon_replay_cli.proofs.scripts.any_handle_entry.Given as goal

abbrev pub invariant-loop-entry : goal.invariant-loop-entry
invariant-loop-entry l = record { left : any_handle_entry (items_view (drop l.entry-index l.entries)) ≡ any_handle_entry (items_view l.entries) }
