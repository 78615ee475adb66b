use Rattle.std.proofs.Common.{refl}
use Rattle.canon_types.specs.Resource.{as_host_dynamic}
use Rattle.canon_typed.proofs.Layouts.{handle_abi, is_handle}
use Rattle.canon_typed.proofs.resources.ResourceDynamicComponentType.abi.Goals as goal

pub returns : goal.returns
returns c i type f = handle_abi _ refl refl refl refl refl i type (is_handle as_host_dynamic i type f)
