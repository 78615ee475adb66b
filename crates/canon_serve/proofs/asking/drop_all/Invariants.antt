use Rattle.std.proofs.Common.{None, ◌≡◌, drop, map}
use Rattle.canon_ledger.specs.Ledger.{HostDrop, run_steps}
use Rattle.canon_ledger.specs.Reached.{ledger_in, reference_in, scope_in}
use Rattle.canon_serve.proofs.asking.drop_all.Given as goal

abbrev pub invariant-loop-index : goal.invariant-loop-index
invariant-loop-index l = record {
  scope : scope_in l.tables ≡ None;
  reference : reference_in l.tables ≡ reference_in l.fn.tables;
  ledger : run_steps (map HostDrop (drop l.index-index l.indices)) (ledger_in l.tables) ≡ run_steps (map HostDrop l.indices) (ledger_in l.fn.tables);
}
