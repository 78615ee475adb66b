use Rattle.std.proofs.Common.{◌≡◌}
use Rattle.canon_context.specs.Core.{component_types}
use Rattle.canon_types.specs.Table.{shape_of}
use Rattle.canon_reading.specs.Reading.{setting_in}
use Rattle.canon_reading.specs.Spots.{stored}
use Rattle.canon_lift.proofs.Rows.{IsSoFar}
use Rattle.canon_lift.proofs.lift.Lift.linear_lift_list_from_memory.Given as goal

abbrev pub invariant-loop-k : goal.invariant-loop-k
invariant-loop-k g l =
    let core = l.fn.cx.core.now in
    record {
      lifted : IsSoFar g.Self.Lift.reading (setting_in core l.fn.cx.options) (shape_of (component_types core) l.list.element) (stored l.list.pointer)
          core.ledger l.cx.core.now.ledger l.items.items l.k l.fn.cx.fuel l.cx.fuel;
      same_core : l.cx.core.now ≡ record core { ledger = l.cx.core.now.ledger };
      same_reference : l.cx.core.ghost_name ≡ l.fn.cx.core.ghost_name;
      same_options : l.cx.options ≡ l.fn.cx.options;
    }
