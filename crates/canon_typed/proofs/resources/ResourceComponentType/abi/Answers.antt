use Rattle.std.proofs.Common.{refl}
use Rattle.canon_resources.specs.Types.{as_host}
use Rattle.canon_typed.proofs.Layouts.{handle_abi, is_handle}
use Rattle.canon_typed.proofs.resources.ResourceComponentType.abi.Goals as goal

pub returns : goal.returns
returns g c i type f = handle_abi _ refl refl refl refl refl i type (is_handle (as_host g.T.HostType.ID) i type f)
