use Rattle.std.proofs.Common.{[], ap, ◌<◌, arith, length, refl}
use Rattle.canon_types.specs.Table.{types_of}
use Rattle.canon_plan.proofs.Lookups.{tuple_is_known, drop_at, tuple_member}
use Rattle.canon_value_parts.proofs.Lookups.{no_names_at}
use Rattle.canon_value_parts.proofs.members.place_of.Goals.{After-tuple}
use Rattle.canon_value_parts.proofs.members.place_of.Goals as goal
use Rattle.canon_types.proofs.Measures.{count_members}

in_types : (c : After-tuple) → c.args.k < length c.tuple.result.now.types.items
in_types c = omega (arith, c.requires.inside, c.requires.count, count_members c.args.types.now (types_of c.args.types.now c.args.i), ap length c.tuple.ensures.types)

pub index-requires : goal.index-requires
index-requires c = omega (arith, in_types c, c.tuple.result.now.types.ok.0)

pub returns : goal.returns
returns c =
    let t = c.args.types.now in
    let lt = in_types (goal.at.returns c).After-tuple in
    record {
      known = tuple_is_known t c.args.i c.args.k c.tuple.result.now.types.items c.index.result.now c.index.result.now c.tuple.ensures.entry c.index.ensures lt;
      name = [];
      named = [];
      same = (λ h. refl, λ e. refl);
      shapes = tuple_member t t c.args.i c.args.k c.tuple.result.now.types.items c.index.result.now c.index.result.now refl c.tuple.ensures.types c.index.ensures lt;
      names = no_names_at c.args.values.now c.args.k c.requires.inside;
      values = drop_at c.args.values.now c.args.k c.index-values-k.result c.index-values-k.result c.index-values-k.is c.requires.inside;
    }
