use Rattle.std.proofs.Common.{refl}
use Rattle.canon_model.specs.Shape as shape
use Rattle.canon_types.specs.declared.types.InterfaceType.TheVariants as ty
use Rattle.canon_typed.proofs.Layouts.{plain_abi, scalar_abi}
use Rattle.canon_typed.proofs.scalars.U32ComponentType.abi.Goals as goal

pub returns : goal.returns
returns c i type e = plain_abi ty.U32 _ (λ t. scalar_abi shape.u32 _ refl refl refl refl refl) i type e
