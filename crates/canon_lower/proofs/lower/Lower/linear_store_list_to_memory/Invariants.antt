use Rattle.std.proofs.Common.{◌≡◌, drop}
use Rattle.canon_context.proofs.Moves.{GuestLaws}
use Rattle.canon_context.specs.Core.{component_types}
use Rattle.canon_types.specs.Table.{shape_of}
use Rattle.canon_lower_parts.proofs.Rows.{RowIsStored}
use Rattle.canon_lower.proofs.lower.Lower.linear_store_list_to_memory.Given as goal

abbrev pub invariant-loop-k : goal.invariant-loop-k
invariant-loop-k g l =
    let L : GuestLaws _ = record { seen = g.G.Guest.seen; moves = g.G.Guest.moves; stays = g.met.G.Guest.stays; goes_on = g.met.G.Guest.goes_on } in
    record {
      stored : RowIsStored L l.fn.cx.options g.Self.ComponentType.walks (g.Self.Lower.gives l.fn.cx.core.now.component.types (shape_of (component_types l.fn.cx.core.now) l.ty))
          (shape_of (component_types l.fn.cx.core.now) l.ty) l.offset l.fn.items l.fn.cx.core.now l.cx.core.now l.k;
      items : drop l.k l.items ≡ drop l.k l.fn.items;
      options : l.cx.options ≡ l.fn.cx.options;
      reference : l.cx.core.ghost_name ≡ l.fn.cx.core.ghost_name;
    }
