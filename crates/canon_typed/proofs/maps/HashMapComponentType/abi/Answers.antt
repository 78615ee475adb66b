use Rattle.std.proofs.Common.{refl}
use Rattle.canon_typed.proofs.Layouts.{map_abi, text_abi}
use Rattle.canon_typed.proofs.maps.HashMapComponentType.abi.Goals as goal

pub returns : goal.returns
returns g c i type f = map_abi g.K.ComponentType.fits g.V.ComponentType.fits _ (text_abi _ refl refl refl refl refl) i type f
