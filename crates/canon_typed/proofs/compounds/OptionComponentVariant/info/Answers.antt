use Rattle.canon_typed.proofs.Layouts.{info_told, option_abi}
use Rattle.canon_typed.proofs.TooLarge.{no_info, option_too_large}
use Rattle.canon_typed.specs.Types.{IsOptionOf}
use Rattle.canon_typed.proofs.compounds.OptionComponentVariant.info.Goals as goal

pub returns-in_err-some : goal.returns-in_err-some
returns-in_err-some g c i type f = no_info (IsOptionOf g.T.ComponentType.fits) c.from_residual.result c.from_residual.ensures (option_too_large g.T.ComponentType.fits c.in_err-some.ensures) i type f

pub returns : goal.returns
returns g c i type f = info_told c.in_ok-variant.field-0.0 c.in_ok-variant.field-0.1 _
    (option_abi g.T.ComponentType.fits c.in_ok-some.some c.in_ok-variant.field-0.0 c.in_ok-variant.field-0.1 c.in_ok-some.ensures c.in_ok-variant.ensures.layout i type f)
