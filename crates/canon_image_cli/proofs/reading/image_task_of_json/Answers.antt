use Rattle.std.proofs.Common.{◌≡◌, Some, rules}
use Rattle.serde_json.specs.View.{view}
use Rattle.canon_layout.specs.Entries.{reference_of}
use Rattle.canon_image_cli.proofs.Known.{reference_known}
use Rattle.canon_image_cli.proofs.reading.image_task_of_json.Goals as goal

pub invariant_of-result : goal.invariant_of-result
invariant_of-result c =
    let named : reference_of c.in_ok-types.entries.items (view c.in-Some-get.reference.now) ≡ Some c.in_ok-ty.ty = search rules in
    record { known = reference_known c.in_ok-types.types c.in_ok-types.entries.items (view c.in-Some-get.reference.now) c.in_ok-ty.ty c.in_ok-types.ensures.known named }
