use Rattle.std.proofs.Common.{[], arith, refl}
use Rattle.canon_types.specs.Table.{shape_of}
use Rattle.canon_plan.proofs.Lookups.{copies_at, copies_count}
use Rattle.canon_plan.proofs.plan.slot_of.Goals as goal

pub returns-in-Items : goal.returns-in-Items
returns-in-Items c =
    let t = c.args.types.now in
    let s = shape_of t c.in-Items.ty in
    let known = rw c.in-Items.is at c.requires.known in
    let inside = rw c.in-Items.is at c.requires.inside in
    rw c.in-Items.is (record { known = known; name = []; name_is = refl; shapes = copies_at _ c.args.k s (omega (arith, inside, copies_count c.in-Items.field-1 s)) })
