use Rattle.std.proofs.Common.{refl}
use Rattle.canon_typed.proofs.Layouts.{handle_abi, is_handle}
use Rattle.canon_typed.proofs.resources.HostResourceComponentType.abi.Goals as goal

pub returns : goal.returns
returns g c i type f = handle_abi _ refl refl refl refl refl i type (is_handle g.T.HostResourceType.checked i type f)
