use Rattle.canon_val.proofs.HandleValues.{resources_equal}
use Rattle.canon_val.proofs.Equality.{maps_equal, pairs_apart, records_equal, rows_apart}
use Rattle.canon_val.proofs.equal.+equal.Goals as goal

pub are_equal-returns-in-Map-Map : goal.are_equal-returns-in-Map-Map
are_equal-returns-in-Map-Map t c =
    let m = c.in-Map-Map in
    maps_equal c.args.a.now c.args.b.now m.x m.y c.deref-in-Map-Map.result.now c.deref-in-Map-Map-2.result.now c.are_pairs_equal.result m.is-0 m.is-1 c.deref-in-Map-Map.ensures.value
    c.deref-in-Map-Map-2.ensures.value c.are_pairs_equal.ensures

pub are_equal-returns-in-Record-Record : goal.are_equal-returns-in-Record-Record
are_equal-returns-in-Record-Record t c =
    let m = c.in-Record-Record in
    records_equal c.args.a.now c.args.b.now m.x m.y c.deref-in-Record-Record.result.now c.deref-in-Record-Record-2.result.now c.are_fields_equal.result m.is-0 m.is-1
    c.deref-in-Record-Record.ensures.value c.deref-in-Record-Record-2.ensures.value c.are_fields_equal.ensures

pub are_pairs_equal-returns-then-a-b : goal.are_pairs_equal-returns-then-a-b
are_pairs_equal-returns-then-a-b t c = pairs_apart c.args.a.now c.args.b.now c.if-a-b.true

pub are_rows_equal-returns-then-a-b : goal.are_rows_equal-returns-then-a-b
are_rows_equal-returns-then-a-b t c = rows_apart c.args.a.now c.args.b.now c.if-a-b.true

pub are_equal-returns-in-Resource-Resource : goal.are_equal-returns-in-Resource-Resource
are_equal-returns-in-Resource-Resource t c =
    let m = c.in-Resource-Resource in
    resources_equal c.args.a.now c.args.b.now m.x m.y c.are_resources_equal.result m.is-0 m.is-1 c.are_resources_equal.ensures
