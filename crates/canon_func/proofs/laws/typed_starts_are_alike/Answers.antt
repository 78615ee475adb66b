use Rattle.canon_func.proofs.Alike.{starts_alike}
use Rattle.canon_func.specs.Call.{dynamic}
use Rattle.canon_func.specs.Typed.{params_shape, typed_args}
use Rattle.canon_func.proofs.laws.typed_starts_are_alike.Goals as goal

pub returns-clause-dynamic : goal.returns-clause-dynamic
returns-clause-dynamic g c callee params values =
    starts_alike callee (typed_args (g.P.ComponentType.walks params) (g.P.Lower.gives callee.types (params_shape callee) params) callee) (dynamic callee values)

pub returns-clause-typed : goal.returns-clause-typed
returns-clause-typed g c callee params others =
    starts_alike callee (typed_args (g.P.ComponentType.walks params) (g.P.Lower.gives callee.types (params_shape callee) params) callee)
    (typed_args (g.Q.ComponentType.walks others) (g.Q.Lower.gives callee.types (params_shape callee) others) callee)
