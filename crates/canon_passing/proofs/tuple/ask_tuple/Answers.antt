use Rattle.std.proofs.Common.{◌≡◌, ◌∙◌, ap, subst, ℕ, false}
use Rattle.canon_lowering.specs.Attempt.{args_call}
use Rattle.canon_memory.specs.Realloc.{call}
use Rattle.canon_model.specs.Requests.{Call}
use Rattle.canon_model.specs.Shape.{of_places, product}
use Rattle.canon_types.specs.Table.{shape_of, tuple_members}
use Rattle.canon_types.specs.declared.types.InterfaceType.TheVariants as ty
use Rattle.canon_context.specs.Core.{component_types}
use Rattle.canon_context.specs.Asks.{AsksFor}
use Rattle.canon_passing.proofs.Far.{tuple_call, tuple_shape_of_now}
use Rattle.canon_passing.proofs.tuple.ask_tuple.Goals as goal

pub returns : goal.returns
returns g c =
    let a = c.args in
    let t = component_types a.core.now in
    let ms = tuple_members t a.ty in
    let shape : shape_of c.types.result.now (ty.Tuple a.ty) ≡ product of_places ms = tuple_shape_of_now t c.types.result.now a.ty c.tuple.result.now.types.items c.types.ensures c.tuple.ensures.entry c.tuple.ensures.types in
    let same : call 0 0 c.tuple.result.now.abi.align32 c.from.result ≡ args_call false ms =
    ap (λ (n : ℕ). call 0 0 c.tuple.result.now.abi.align32 n) c.from.ensures ∙ tuple_call (shape_of c.types.result.now (ty.Tuple a.ty)) ms c.tuple.result.now.abi shape c.tuple.ensures.abi in
    record { asked = subst (λ (x : Call). AsksFor g.G.Guest.seen g.G.Guest.moves a.core.now c.ask.new.core x c.ask.result) same c.ask.ensures.asked }
