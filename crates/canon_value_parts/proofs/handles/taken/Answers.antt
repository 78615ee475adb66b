use Rattle.canon_context.proofs.Handles.{placed_by}
use Rattle.canon_value_parts.proofs.handles.taken.Goals as goal

pub lift_own-requires : goal.lift_own-requires
lift_own-requires c = record {
  known = placed_by c.types.result.now c.args.types.now.types c.args.handle.resource c.args.ledger.now
      c.resource_table-table.result.now c.requires.known c.resource_table-table.ensures.found c.resource_table-table.ensures.instance
      c.instances-instances.ensures.tables c.types.ensures;
}

pub lift_borrow-requires : goal.lift_borrow-requires
lift_borrow-requires c = record {
  known = placed_by c.types.result.now c.args.types.now.types c.args.handle.resource c.args.ledger.now
      c.resource_table-table.result.now c.requires.known c.resource_table-table.ensures.found c.resource_table-table.ensures.instance
      c.instances-instances.ensures.tables c.types.ensures;
}
