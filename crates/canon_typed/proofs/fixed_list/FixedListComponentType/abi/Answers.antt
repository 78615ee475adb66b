use Rattle.canon_typed.proofs.TooLarge.{fixed_too_large, no_abi}
use Rattle.canon_typed.specs.Types.{IsFixedOf}
use Rattle.canon_typed.proofs.fixed_list.FixedListComponentType.abi.Goals as goal

pub returns-in_err-abi : goal.returns-in_err-abi
returns-in_err-abi g c i type f = no_abi (IsFixedOf g.row.N g.T.ComponentType.fits) c.from_residual.result c.from_residual.ensures (fixed_too_large g.row.N g.T.ComponentType.fits c.in_err-abi.ensures) i type f
