use Rattle.std.proofs.Common.{[], refl}
use Rattle.canon_types.specs.Table.{shape_of}
use Rattle.canon_plan.proofs.Lookups.{copies_at, drop_at}
use Rattle.canon_value_parts.proofs.Lookups.{no_names_at}
use Rattle.canon_value_parts.proofs.members.item_of.Goals as goal

pub returns : goal.returns
returns c = record {
  known = c.requires.known;
  name = [];
  named = [];
  same = (λ h. refl, λ e. refl);
  shapes = copies_at _ c.args.k (shape_of c.args.types.now c.args.ty) c.requires.inside;
  names = no_names_at c.args.values.now c.args.k c.requires.inside;
  values = drop_at c.args.values.now c.args.k c.index-values-k.result c.index-values-k.result c.index-values-k.is c.requires.inside;
}
