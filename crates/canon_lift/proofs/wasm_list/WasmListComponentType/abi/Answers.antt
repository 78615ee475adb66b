use Rattle.std.proofs.Common.{refl}
use Rattle.canon_typed.proofs.Layouts.{list_abi, text_abi}
use Rattle.canon_lift.proofs.wasm_list.WasmListComponentType.abi.Goals as goal

pub returns : goal.returns
returns g c i type f = list_abi g.T.ComponentType.fits _ (text_abi _ refl refl refl refl refl) i type f
