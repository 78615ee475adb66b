use Rattle.std.proofs.Common.{drop, ◌≡◌}
use Rattle.canon_replay_cli.specs.Taken.{orders_address}
use Rattle.canon_replay_cli.proofs.taking.orders_address.Given as goal

abbrev pub invariant-loop-order : goal.invariant-loop-order
invariant-loop-order l = record { left : orders_address (drop l.order-index l.orders) ≡ orders_address l.orders }
