use Rattle.std.proofs.Common.{◌≡◌, rules}
use Rattle.canon_same.proofs.Resources.{resources_same, equal_types}
use Rattle.canon_same.proofs.same.same_resources.Goals as goal

pub returns : goal.returns
returns c =
    let is : c.eq.result ≡ equal_types c.resource_type.result c.resource_type-2.result = search rules in
    resources_same _ _ _ _ _ c.resource_type.ensures c.resource_type-2.ensures is
