use Rattle.std.proofs.Common.{◌<◌, ◌+◌, [], arith, refl}
use Rattle.canon_plan.proofs.Pairs.{key_here, key_known, map_count, value_here, value_known}
use Rattle.canon_plan.proofs.plan.pair_slot.Goals.{After-map-map}
use Rattle.canon_plan.proofs.plan.pair_slot.Goals as goal

inside : (c : After-map-map) → c.args.k < c.args.count + c.args.count
inside c = omega (arith, c.requires.inside, map_count c.args.types.now c.args.i c.map-map.result.now c.map-map.ensures.entry c.args.count)

pub returns-then-k-eq0 : goal.returns-then-k-eq0
returns-then-k-eq0 c =
    let t = c.args.types.now in
    let m = c.map-map.result.now in
    let lt = inside (goal.at.returns-then-k-eq0 c).After-map-map in
    record { known = key_known t c.args.i m c.map-map.ensures.entry; name = []; name_is = refl; shapes = key_here t c.args.i m c.map-map.ensures.entry c.args.count c.args.k lt c.if-k-eq0.true }

pub returns : goal.returns
returns c =
    let t = c.args.types.now in
    let m = c.map-map.result.now in
    let lt = inside (goal.at.returns c).After-map-map in
    record { known = value_known t c.args.i m c.map-map.ensures.entry; name = []; name_is = refl; shapes = value_here t c.args.i m c.map-map.ensures.entry c.args.count c.args.k lt c.if-k-eq0.false }
