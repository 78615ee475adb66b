use Rattle.std.proofs.Common.{refl}
use Rattle.canon_typed.proofs.Layouts.{handle_abi}
use Rattle.canon_typed.proofs.resources.ResourceAnyComponentType.abi.Goals as goal

pub returns : goal.returns
returns c i type f = handle_abi _ refl refl refl refl refl i type f
