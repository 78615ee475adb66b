use Rattle.std.proofs.Common.{◌≡◌, ◌∙◌, sym}
use Rattle.canon_context.specs.Core.{component_types}
use Rattle.canon_model.specs.Shape.{of_places, product}
use Rattle.canon_types.specs.Table.{shape_of, tuple_members}
use Rattle.canon_types.specs.declared.types.InterfaceType.TheVariants as ty
use Rattle.canon_passing.proofs.Far.{far_many, far_words, near_few, value_near_words, tuple_shape_of_now}
use Rattle.canon_args.proofs.params.lower_params.Given.{Over}
use Rattle.canon_args.proofs.params.lower_params.Goals.{After-tuple}
use Rattle.canon_args.proofs.params.lower_params.Goals as goal

shape : (g : Over) (c : After-tuple g) → shape_of c.types.result.now (ty.Tuple c.args.ty) ≡ product of_places (tuple_members (component_types c.args.cx.now.core.now) c.args.ty)
shape g c = tuple_shape_of_now (component_types c.args.cx.now.core.now) c.types.result.now c.args.ty c.tuple.result.now.types.items c.types.ensures c.tuple.ensures.entry c.tuple.ensures.types

pub lower_stack_args-requires-clause-near : goal.lower_stack_args-requires-clause-near
lower_stack_args-requires-clause-near g c =
    near_few _ _ c.flat_count.result c.from.result (shape g (goal.at.lower_stack_args-requires-clause-near g c).After-tuple) (c.flat_count.ensures.words _ c.tuple.ensures.abi) (sym c.is_some.ensures ∙ c.if-is_some.true)

pub lower_stack_args-requires-clause-words : goal.lower_stack_args-requires-clause-words
lower_stack_args-requires-clause-words g c = c.requires.words ∙ value_near_words _ (lower_stack_args-requires-clause-near g c)

pub lower_heap_args-requires-clause-far : goal.lower_heap_args-requires-clause-far
lower_heap_args-requires-clause-far g c =
    far_many _ _ c.flat_count.result c.from.result (shape g (goal.at.lower_heap_args-requires-clause-far g c).After-tuple) c.from.ensures (c.flat_count.ensures.words _ c.tuple.ensures.abi) (sym c.is_some.ensures ∙ c.if-is_some.false)

pub lower_heap_args-requires-clause-words : goal.lower_heap_args-requires-clause-words
lower_heap_args-requires-clause-words g c = c.requires.words ∙ far_words _ (lower_heap_args-requires-clause-far g c)
