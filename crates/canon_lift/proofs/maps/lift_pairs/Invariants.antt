use Rattle.std.proofs.Common.{◌≡◌, ◌+◌, ◌∷◌, List, [], length}
use Rattle.canon_context.specs.Core.{component_types}
use Rattle.canon_model.specs.Shape.{tuple}
use Rattle.canon_types.specs.Table.{shape_of}
use Rattle.canon_typed.specs.Maps.{IsFilledWith}
use Rattle.canon_reading.specs.MapsOfTrees.{pair_reading}
use Rattle.canon_reading.specs.Reading.{setting_in}
use Rattle.canon_reading.specs.Readings.{EachReads, each_reach}
use Rattle.canon_reading.specs.Spots.{stored}
use Rattle.canon_lift.proofs.maps.lift_pairs.Given as goal

abbrev pub invariant-loop-k : goal.invariant-loop-k
invariant-loop-k g l =
    let core = l.fn.cx.core.now in
    let w = setting_in core l.fn.cx.options in
    let s = tuple (shape_of (component_types core) l.pair.key ∷ shape_of (component_types core) l.pair.value ∷ []) in
    let R = pair_reading g.K.Lift.reading g.V.Lift.reading in
    record {
      read : (pairs : List (g.row.K.Denot × g.row.V.Denot)) × (length pairs ≡ l.k) × EachReads R w s (stored l.at) core.ledger pairs l.cx.core.now.ledger × IsFilledWith g.K.PartialEq.eq pairs l.map;
      spent : l.fn.cx.fuel ≡ l.cx.fuel + each_reach R w s (stored l.at) l.k;
      same_core : l.cx.core.now ≡ record core { ledger = l.cx.core.now.ledger };
      same_reference : l.cx.core.ghost_name ≡ l.fn.cx.core.ghost_name;
      same_options : l.cx.options ≡ l.fn.cx.options;
    }
