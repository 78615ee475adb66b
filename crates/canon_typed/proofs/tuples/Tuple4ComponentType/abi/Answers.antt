use Rattle.std.proofs.Common.{[], ◌∷◌}
use Rattle.canon_typed.proofs.Layouts.{tuple_abi}
use Rattle.canon_typed.proofs.TooLarge.{member_too_large, no_abi}
use Rattle.canon_typed.specs.Types.{IsTupleOf}
use Rattle.canon_typed.proofs.tuples.Tuple4ComponentType.abi.Goals as goal

pub returns-in_err-first : goal.returns-in_err-first
returns-in_err-first g c i type f = no_abi (IsTupleOf (g.A.ComponentType.fits ∷ g.B.ComponentType.fits ∷ g.C.ComponentType.fits ∷ g.D.ComponentType.fits ∷ [])) c.from_residual.result c.from_residual.ensures
    (member_too_large [] (g.B.ComponentType.fits ∷ g.C.ComponentType.fits ∷ g.D.ComponentType.fits ∷ []) g.A.ComponentType.fits c.in_err-first.ensures) i type f

pub returns-in_err-second : goal.returns-in_err-second
returns-in_err-second g c i type f = no_abi (IsTupleOf (g.A.ComponentType.fits ∷ g.B.ComponentType.fits ∷ g.C.ComponentType.fits ∷ g.D.ComponentType.fits ∷ [])) c.from_residual-in_err-second.result c.from_residual-in_err-second.ensures
    (member_too_large (g.A.ComponentType.fits ∷ []) (g.C.ComponentType.fits ∷ g.D.ComponentType.fits ∷ []) g.B.ComponentType.fits c.in_err-second.ensures) i type f

pub returns-in_err-third : goal.returns-in_err-third
returns-in_err-third g c i type f = no_abi (IsTupleOf (g.A.ComponentType.fits ∷ g.B.ComponentType.fits ∷ g.C.ComponentType.fits ∷ g.D.ComponentType.fits ∷ [])) c.from_residual-in_err-third.result c.from_residual-in_err-third.ensures
    (member_too_large (g.A.ComponentType.fits ∷ g.B.ComponentType.fits ∷ []) (g.D.ComponentType.fits ∷ []) g.C.ComponentType.fits c.in_err-third.ensures) i type f

pub returns-in_err-fourth : goal.returns-in_err-fourth
returns-in_err-fourth g c i type f = no_abi (IsTupleOf (g.A.ComponentType.fits ∷ g.B.ComponentType.fits ∷ g.C.ComponentType.fits ∷ g.D.ComponentType.fits ∷ [])) c.from_residual-in_err-fourth.result c.from_residual-in_err-fourth.ensures
    (member_too_large (g.A.ComponentType.fits ∷ g.B.ComponentType.fits ∷ g.C.ComponentType.fits ∷ []) [] g.D.ComponentType.fits c.in_err-fourth.ensures) i type f

pub returns : goal.returns
returns g c i type f = tuple_abi (g.A.ComponentType.fits ∷ g.B.ComponentType.fits ∷ g.C.ComponentType.fits ∷ g.D.ComponentType.fits ∷ [])
    (c.in_ok-first.first ∷ c.in_ok-second.second ∷ c.in_ok-third.third ∷ c.in_ok-fourth.fourth ∷ []) c.record.result
    (c.in_ok-first.ensures, (c.in_ok-second.ensures, (c.in_ok-third.ensures, (c.in_ok-fourth.ensures, tt)))) c.record.ensures.layout i type f
