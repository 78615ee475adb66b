use Rattle.canon_typed.proofs.Layouts.{info_told, result_abi}
use Rattle.canon_typed.proofs.TooLarge.{error_too_large, no_info, ok_too_large, result_too_large}
use Rattle.canon_typed.specs.Types.{IsResultOf}
use Rattle.canon_typed.proofs.compounds.ResultComponentVariant.info.Goals as goal

pub returns-in_err-ok : goal.returns-in_err-ok
returns-in_err-ok g c i type f = no_info (IsResultOf g.T.ComponentType.is_unit g.T.ComponentType.fits g.E.ComponentType.is_unit g.E.ComponentType.fits) c.from_residual.result c.from_residual.ensures
    (ok_too_large g.T.ComponentType.is_unit g.T.ComponentType.fits g.E.ComponentType.is_unit g.E.ComponentType.fits c.in_err-ok.ensures) i type f

pub returns-in_err-err : goal.returns-in_err-err
returns-in_err-err g c i type f = no_info (IsResultOf g.T.ComponentType.is_unit g.T.ComponentType.fits g.E.ComponentType.is_unit g.E.ComponentType.fits) c.from_residual-in_err-err.result c.from_residual-in_err-err.ensures
    (error_too_large g.T.ComponentType.is_unit g.T.ComponentType.fits g.E.ComponentType.is_unit g.E.ComponentType.fits c.in_err-err.ensures) i type f

pub returns-in_err-variant : goal.returns-in_err-variant
returns-in_err-variant g c i type f = no_info (IsResultOf g.T.ComponentType.is_unit g.T.ComponentType.fits g.E.ComponentType.is_unit g.E.ComponentType.fits) c.from_residual-in_err-variant.result c.from_residual-in_err-variant.ensures
    (result_too_large g.T.ComponentType.is_unit g.T.ComponentType.fits g.E.ComponentType.is_unit g.E.ComponentType.fits c.in_ok-ok.ok c.in_ok-err.err c.in_ok-ok.ensures c.in_ok-err.ensures c.in_err-variant.ensures.layout) i type f

pub returns : goal.returns
returns g c i type f = info_told c.in_ok-variant.field-0.0 c.in_ok-variant.field-0.1 _
    (result_abi g.T.ComponentType.is_unit g.T.ComponentType.fits g.E.ComponentType.is_unit g.E.ComponentType.fits c.in_ok-ok.ok c.in_ok-err.err c.in_ok-variant.field-0.0 c.in_ok-variant.field-0.1
    c.in_ok-ok.ensures c.in_ok-err.ensures c.in_ok-variant.ensures.layout i type f)
