use Rattle.std.proofs.Common.{◌≡◌, Some, rules}
use Rattle.serde_json.specs.View.{view}
use Rattle.canon_layout.specs.Asked as spec
use Rattle.canon_layout.proofs.Known.{types_known}
use Rattle.canon_layout.proofs.listing.types_of_json.Goals as goal

pub returns-clause-known : goal.returns-clause-known
returns-clause-known c =
    let all : spec.types_listed (view c.args.v.now) ≡ Some (spec.listed_so_far c.finish.result c.in_ok-types.types.items) = search rules in
    (types_known (view c.args.v.now) _ all).known
