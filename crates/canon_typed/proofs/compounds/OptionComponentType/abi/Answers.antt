use Rattle.canon_typed.proofs.Layouts.{option_abi}
use Rattle.canon_typed.proofs.TooLarge.{no_abi, option_too_large}
use Rattle.canon_typed.specs.Types.{IsOptionOf}
use Rattle.canon_typed.proofs.compounds.OptionComponentType.abi.Goals as goal

pub returns-in_err-some : goal.returns-in_err-some
returns-in_err-some g c i type f = no_abi (IsOptionOf g.T.ComponentType.fits) c.from_residual.result c.from_residual.ensures (option_too_large g.T.ComponentType.fits c.in_err-some.ensures) i type f

pub returns : goal.returns
returns g c i type f = (option_abi g.T.ComponentType.fits c.in_ok-some.some c.in_ok-variant.field-0.0 c.in_ok-variant.field-0.1 c.in_ok-some.ensures c.in_ok-variant.ensures.layout i type f).0
