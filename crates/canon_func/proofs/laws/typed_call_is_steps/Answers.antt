use Rattle.canon_host.proofs.TypedAnswers.{members_given}
use Rattle.canon_model.specs.Tree.{parts}
use Rattle.canon_types.specs.Table.{shape_of}
use Rattle.canon_types.specs.declared.types.InterfaceType.TheVariants as ty
use Rattle.canon_func.proofs.Partways.{passes_partway}
use Rattle.canon_func.proofs.Throughs.{passes_through}
use Rattle.canon_func.specs.Typed.{params_shape, typed_args, typed_results}
use Rattle.canon_func.specs.TypedLaws.{typed_reads}
use Rattle.canon_func.proofs.laws.typed_call_is_steps.Goals as goal

pub returns-clause-whole : goal.returns-clause-whole
returns-clause-whole g c callee options store v fuel =
    passes_through (typed_args (g.P.ComponentType.walks v) (g.P.Lower.gives callee.types (params_shape callee) v) callee)
    (typed_results g.R.Lift.reading options store callee) (g.I.Imports.gives (g.I.Imports.plan c.args._imports.now))
    (g.met.I.Imports.lawful (g.I.Imports.plan c.args._imports.now)) callee fuel
    (typed_reads g.R.Lift.reading g.met.R.Lift.taken options store callee)

pub returns-clause-part : goal.returns-clause-part
returns-clause-part g c callee options store v fuel =
    passes_partway (typed_args (g.P.ComponentType.walks v) (g.P.Lower.gives callee.types (params_shape callee) v) callee)
    (typed_results g.R.Lift.reading options store callee) (g.I.Imports.gives (g.I.Imports.plan c.args._imports.now))
    (g.met.I.Imports.lawful (g.I.Imports.plan c.args._imports.now)) callee fuel
    (typed_reads g.R.Lift.reading g.met.R.Lift.taken options store callee)

pub returns-clause-given : goal.returns-clause-given
returns-clause-given g c callee type params ts fits shape walked =
    members_given callee.types (shape_of callee.types.types (ty.Tuple type)) callee.params g.P.Lower.gives params ts shape (g.met.P.Lower.given params callee.types (ty.Tuple type) (parts ts) fits walked)
