use Rattle.std.proofs.Common.{drop}
use Rattle.std.proofs.Common.{◌≡◌, List, []}
use Rattle.canon_ledger.specs.Handles.{give_back}
use Rattle.canon_ledger.specs.Books.{Context, handles_of}
use Rattle.canon_ledger.specs.Owed.{IsOwed}
use Rattle.canon_ledger.proofs.handles.give_back.Given as goal

abbrev pub invariant-loop-place : goal.invariant-loop-place
invariant-loop-place l = record {
  owed : IsOwed (drop l.place l.context.scope.lenders) (handles_of l.tables.items l.counter []);
  rest : (scopes : List Context) → give_back (drop l.place l.context.scope.lenders) (handles_of l.tables.items l.counter scopes) ≡ give_back l.context.scope.lenders (handles_of l.fn.tables.items l.fn.counter scopes);
}
