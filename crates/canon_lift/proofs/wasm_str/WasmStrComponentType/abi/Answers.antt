use Rattle.std.proofs.Common.{refl}
use Rattle.canon_types.specs.declared.types.InterfaceType.TheVariants as ty
use Rattle.canon_typed.proofs.Layouts.{plain_abi, text_abi}
use Rattle.canon_lift.proofs.wasm_str.WasmStrComponentType.abi.Goals as goal

pub returns : goal.returns
returns c i type e = plain_abi ty.String _ (λ t. text_abi _ refl refl refl refl refl) i type e
