use Rattle.std.proofs.Common.{◌+◌, [], drop, ap, sym, subst, refl, ◌∙◌, arith}
use Rattle.canon_ledger.specs.Handles.{Lender, give_back}
use Rattle.canon_ledger.specs.Books.{handles_of}
use Rattle.canon_ledger.specs.Owed.{IsOwed}
use Rattle.canon_ledger.proofs.OwedLemmas.{first_left, table_within, held_counted, lent_there, owed_after, rest_after, ledger_nothing_left}
use Rattle.canon_ledger.proofs.handles.give_back.Goals as goal

pub loop-place-init : goal.loop-place-init
loop-place-init c = record { owed = c.requires; rest = λ scopes. refl }

pub index_mut-entries-requires : goal.index_mut-entries-requires
index_mut-entries-requires c =
    let lender : Lender = record { table = c.lender-table.result.0; index = c.lender-table.result.1 } in
    let left = first_left c.args.context.now.scope.lenders c.loop-place.place lender c.lender-table.ensures in
    let owed = subst (λ l. IsOwed l (handles_of c.loop-place.tables.items c.loop-place.counter [])) left c.loop-place.invariant.owed in
    let h = table_within c.loop-place.tables.items c.loop-place.counter lender (drop (c.loop-place.place + 1) c.args.context.now.scope.lenders) owed in
    omega arith

pub resource_undo_lend-answer-requires-clause-counted : goal.resource_undo_lend-answer-requires-clause-counted
resource_undo_lend-answer-requires-clause-counted c = held_counted c.loop-place.tables.items c.loop-place.counter
    (record { table = c.lender-table.result.0; index = c.lender-table.result.1 }) (drop (c.loop-place.place + 1) c.args.context.now.scope.lenders)
    (subst (λ l. IsOwed l (handles_of c.loop-place.tables.items c.loop-place.counter []))
    (first_left c.args.context.now.scope.lenders c.loop-place.place (record { table = c.lender-table.result.0; index = c.lender-table.result.1 })
    c.lender-table.ensures) c.loop-place.invariant.owed) c.index_mut-entries.result.now c.index_mut-entries.ensures.value

pub resource_undo_lend-answer-requires-clause-lent : goal.resource_undo_lend-answer-requires-clause-lent
resource_undo_lend-answer-requires-clause-lent c = λ _. lent_there c.loop-place.tables.items c.loop-place.counter
    (record { table = c.lender-table.result.0; index = c.lender-table.result.1 }) (drop (c.loop-place.place + 1) c.args.context.now.scope.lenders)
    (subst (λ l. IsOwed l (handles_of c.loop-place.tables.items c.loop-place.counter []))
    (first_left c.args.context.now.scope.lenders c.loop-place.place (record { table = c.lender-table.result.0; index = c.lender-table.result.1 })
    c.lender-table.ensures) c.loop-place.invariant.owed) c.index_mut-entries.result.now c.index_mut-entries.ensures.value

pub loop-place-preserved : goal.loop-place-preserved
loop-place-preserved c = record {
  owed = owed_after c.loop-place.tables.items c.loop-place.counter (record { table = c.lender-table.result.0; index = c.lender-table.result.1 })
      (drop (c.loop-place.place + 1) c.args.context.now.scope.lenders)
      (subst (λ l. IsOwed l (handles_of c.loop-place.tables.items c.loop-place.counter []))
      (first_left c.args.context.now.scope.lenders c.loop-place.place (record { table = c.lender-table.result.0; index = c.lender-table.result.1 })
      c.lender-table.ensures) c.loop-place.invariant.owed) c.index_mut-entries.result.now c.index_mut-entries.ensures.value c.resource_undo_lend-answer.new.self c.resource_undo_lend-answer.new.counter c.resource_undo_lend-answer.result c.resource_undo_lend-answer.ensures.step;
  rest = λ scopes.
      rest_after c.loop-place.tables.items c.loop-place.counter (record { table = c.lender-table.result.0; index = c.lender-table.result.1 })
      (drop (c.loop-place.place + 1) c.args.context.now.scope.lenders)
      (subst (λ l. IsOwed l (handles_of c.loop-place.tables.items c.loop-place.counter []))
      (first_left c.args.context.now.scope.lenders c.loop-place.place
      (record { table = c.lender-table.result.0; index = c.lender-table.result.1 })
      c.lender-table.ensures) c.loop-place.invariant.owed) c.index_mut-entries.result.now c.index_mut-entries.ensures.value c.resource_undo_lend-answer.new.self c.resource_undo_lend-answer.new.counter c.resource_undo_lend-answer.result c.resource_undo_lend-answer.ensures.step scopes
      ∙ ap (λ l. give_back l (handles_of c.loop-place.tables.items c.loop-place.counter scopes))
      (sym (first_left c.args.context.now.scope.lenders c.loop-place.place (record { table = c.lender-table.result.0; index = c.lender-table.result.1 }) c.lender-table.ensures))
      ∙ c.loop-place.invariant.rest scopes;
}

pub returns : goal.returns
returns c = λ scopes. ap (λ l. give_back l (handles_of c.loop-place.tables.items c.loop-place.counter scopes))
    (sym (ledger_nothing_left c.args.context.now.scope.lenders c.loop-place.place
    (let l = c.lender_count-place-end.ensures in let f = c.loop-place-test.false in omega arith))) ∙ c.loop-place.invariant.rest scopes
