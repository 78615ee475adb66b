use Rattle.std.proofs.Common.{rules, subst, ◌≡◌}
use Rattle.canon_types.specs.Table.{shape_of}
use Rattle.canon_types.specs.declared.types.InterfaceType.TheVariants as ty
use Rattle.canon_serve.specs.Asks.{ListsValues}
use Rattle.canon_serve.proofs.hosting.HostState.listed.Goals as goal

pub returns-clause-listed : goal.returns-clause-listed
returns-clause-listed g c =
    let same : c.in_ok-list.list.items ≡ c.args.self.now.list = search rules in
    subst (λ l. ListsValues (shape_of c.args.types.now (ty.Tuple c.args.tuple)) c.args.params.now l c.image_copies.new.list.items c.in_ok-asked.asked.items) same c.in_ok-asked.ensures
