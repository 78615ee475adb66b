use Rattle.std.proofs.Common.{◌≡◌, Some, rules}
use Rattle.serde_json.specs.View.{items_view}
use Rattle.canon_layout.specs.Asked as spec
use Rattle.canon_layout.proofs.Known.{listing_known}
use Rattle.canon_layout.proofs.listing.listing_over.Goals as goal

pub returns-clause-known : goal.returns-clause-known
returns-clause-known c =
    let all : spec.listing_over (items_view c.args.resources.now) (items_view c.args.types.now) (items_view c.args.funcs.now) ≡ Some (spec.listed_so_far c.finish.result c.in_ok-types.types.items) = search rules in
    (listing_known (items_view c.args.resources.now) (items_view c.args.types.now) (items_view c.args.funcs.now) _ all).known
