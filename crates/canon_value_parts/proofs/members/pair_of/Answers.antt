use Rattle.std.proofs.Common.{◌<◌, ◌+◌, [], arith, length, refl}
use Rattle.canon_value_parts.proofs.Lookups.{no_names_at}
use Rattle.canon_value_parts.proofs.PairRows.{count_turns, key_at, pair_value_at}
use Rattle.canon_plan.proofs.Pairs.{half_below, key_here, key_known, value_here, value_known}
use Rattle.canon_value_parts.proofs.members.pair_of.Goals.{After-map-map}
use Rattle.canon_value_parts.proofs.members.pair_of.Goals as goal

inside : (c : After-map-map) → c.args.k < length c.args.pairs.now + length c.args.pairs.now
inside c = omega (arith, c.requires.inside, count_turns c.args.pairs.now)

pub offset_bounds-pairs-k : goal.offset_bounds-pairs-k
offset_bounds-pairs-k c = omega (arith, c.requires.few, half_below c.args.k (length c.args.pairs.now) (inside (goal.at.offset_bounds-pairs-k c).After-map-map))

pub bounds-pairs-k : goal.bounds-pairs-k
bounds-pairs-k c = half_below c.args.k (length c.args.pairs.now) (inside (goal.at.bounds-pairs-k c).After-map-map)

pub returns-then-k-eq0 : goal.returns-then-k-eq0
returns-then-k-eq0 c =
    let t = c.args.types.now in
    let m = c.map-map.result.now in
    let ps = c.args.pairs.now in
    let lt = inside (goal.at.returns-then-k-eq0 c).After-map-map in
    record {
      known = key_known t c.args.i m c.map-map.ensures.entry;
      name = [];
      named = [];
      same = (λ h. refl, λ e. refl);
      shapes = key_here t c.args.i m c.map-map.ensures.entry (length ps) c.args.k lt c.if-k-eq0.true;
      names = no_names_at _ c.args.k c.requires.inside;
      values = key_at ps c.args.k c.index-pairs-k.result c.index-pairs-k.result c.if-k-eq0.true c.index-pairs-k.is c.requires.inside;
    }

pub returns-else-k-eq0 : goal.returns-else-k-eq0
returns-else-k-eq0 c =
    let t = c.args.types.now in
    let m = c.map-map.result.now in
    let ps = c.args.pairs.now in
    let lt = inside (goal.at.returns-else-k-eq0 c).After-map-map in
    record {
      known = value_known t c.args.i m c.map-map.ensures.entry;
      name = [];
      named = [];
      same = (λ h. refl, λ e. refl);
      shapes = value_here t c.args.i m c.map-map.ensures.entry (length ps) c.args.k lt c.if-k-eq0.false;
      names = no_names_at _ c.args.k c.requires.inside;
      values = pair_value_at ps c.args.k c.index-pairs-k.result c.index-pairs-k.result c.if-k-eq0.false c.index-pairs-k.is c.requires.inside;
    }
