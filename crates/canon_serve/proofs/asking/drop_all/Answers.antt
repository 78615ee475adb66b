use Rattle.std.proofs.Common.{arith, drop, sym, length, map, ◌∙◌, ◌≡◌, ◌≤◌, [], ap}
use Rattle.std.proofs.Math.ListN.{drop_of_length-le}
use Rattle.canon_ledger.specs.Ledger.{HostDrop, run_steps}
use Rattle.canon_ledger.specs.Reached.{ledger_in}
use Rattle.canon_serve.proofs.Exchanged.{drops_are_steps}
use Rattle.canon_serve.proofs.asking.drop_all.Goals as goal

pub returns-clause-steps : goal.returns-clause-steps
returns-clause-steps c =
    let l2 = ledger_in c.loop-index.tables in
    let past : length c.args.indices.now ≤ c.loop-index.index-index = omega (arith, c.loop-index-test.false, c.loop-index.auto.index-index-end) in
    let none : drop c.loop-index.index-index c.args.indices.now ≡ [] = drop_of_length-le c.args.indices.now past in
    drops_are_steps c.args.indices.now (ledger_in c.args.tables.now) l2 (ap (λ xs. run_steps (map HostDrop xs) l2) (sym none) ∙ c.loop-index.invariant.ledger)
