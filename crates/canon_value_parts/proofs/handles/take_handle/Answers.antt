use Rattle.std.proofs.Common.{subst}
use Rattle.canon_types.specs.Table.{Knows, TypeTable}
use Rattle.canon_plan.specs.Plan.{type_of_handle}
use Rattle.canon_value_parts.proofs.HandleLifting.{handle_refused, handle_taken, has_resource}
use Rattle.canon_value_parts.proofs.handles.take_handle.Goals as goal

pub taken-requires : goal.taken-requires
taken-requires c = record { known = has_resource c.args.source.now.instance.now.types c.args.handle (subst (λ (t : TypeTable). Knows t (type_of_handle c.args.handle)) c.requires.one_origin c.requires.known) }

pub returns-in-Ok : goal.returns-in-Ok
returns-in-Ok c = record { takes = handle_taken _ _ _ _ c.in-Ok.resource c.in-Ok.ensures.lifts }

pub returns-in-Err : goal.returns-in-Err
returns-in-Err c = record { takes = handle_refused _ _ _ _ c.in-Err.refusal c.told.result c.in-Err.ensures.lifts c.told.ensures }
