-- The pairs that were yielded are stored.
use Rattle.std.proofs.Common.{◌≡◌, ◌+◌, ◌*◌, List, drop, false, length}
use Rattle.canon_context.proofs.Moves.{GuestLaws}
use Rattle.canon_context.specs.Core.{component_types}
use Rattle.canon_model.specs.Layout.{size}
use Rattle.canon_typed.specs.Meaning.{PairMeans}
use Rattle.canon_lower_parts.proofs.Rows.{RowIsStored}
use Rattle.canon_lower_parts.specs.Gives.{pair_gives}
use Rattle.canon_lower_parts.specs.Pairs.{pair_in}
use Rattle.canon_lower.proofs.maps.store_pairs.Given as goal

abbrev pub invariant-loop-key : goal.invariant-loop-key
invariant-loop-key g l =
    let L : GuestLaws _ = record { seen = g.G.Guest.seen; moves = g.G.Guest.moves; stays = g.met.G.Guest.stays; goes_on = g.met.G.Guest.goes_on } in
    let core = l.fn.cx.core.now in
    let s = pair_in (component_types core) l.pair in
    record {
      stored : RowIsStored L l.fn.cx.options (PairMeans g.K.ComponentType.walks g.V.ComponentType.walks)
          (pair_gives g.K.LowerShared.gives g.V.LowerShared.gives core.component.types s) s l.offset l.map.entries core l.cx.core.now (length l.yielded);
      left : ◌≡◌ {A = List (g.row.K.Denot × g.row.V.Denot)} l.key-iterator (drop (length l.yielded) l.map.entries);
      place : l.at ≡ l.offset + length l.yielded * size false s;
      options : l.cx.options ≡ l.fn.cx.options;
      reference : l.cx.core.ghost_name ≡ l.fn.cx.core.ghost_name;
    }
