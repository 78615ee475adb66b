use Rattle.std.proofs.Common.{[], Err, List, Ok, ap, false, length, subst, sym, ℕ, ◌+◌, ◌∙◌, ◌∷◌, ◌≡◌, ◌≤◌}
use Rattle.canon_context.proofs.Cores.{same_types}
use Rattle.canon_context.proofs.Moves.{GuestLaws}
use Rattle.canon_context.specs.Core.{component_types}
use Rattle.canon_model.specs.Layout.{size}
use Rattle.canon_model.specs.Shape.{Shape, of_places, product}
use Rattle.canon_types.specs.Table.{TypeTable, shape_of, tuple_members}
use Rattle.canon_types.specs.declared.types.InterfaceType.TheVariants as ty
use Rattle.canon_passing.proofs.Far.{one_word, tuple_shape_of_now}
use Rattle.canon_args.proofs.Far.{heap_stored, heap_ungiven, other_words, stored_there}
use Rattle.canon_args.proofs.Near.{products_of}
use Rattle.canon_args.specs.Params.{TypedParams}
use Rattle.canon_args.proofs.params.lower_heap_args.Given.{Over}
use Rattle.canon_args.proofs.params.lower_heap_args.Goals.{After-tuple-tuple}
use Rattle.canon_args.proofs.params.lower_heap_args.Goals as goal

pub returns-in-Err-clause-lowers : goal.returns-in-Err-clause-lowers
returns-in-Err-clause-lowers g c =
    let L : GuestLaws _ = record { seen = g.G.Guest.seen; moves = g.G.Guest.moves; stays = g.met.G.Guest.stays; goes_on = g.met.G.Guest.goes_on } in
    let a = c.args in
    let core = a.cx.now.core.now in
    let ms = tuple_members (component_types core) a.ty in
    heap_ungiven L a.cx.now.options core ms (g.P.ComponentType.walks a.params.now)
    (g.P.Lower.gives core.component.types (product of_places ms) a.params.now) c.requires.far c.ask_tuple.new.core a.dst.now c.in-Err.fault c.in-Err.ensures.asked

-- the shape of the tuple, where the block was given
shape : (g : Over) (c : After-tuple-tuple g) → shape_of (component_types c.ask_tuple.new.core) (ty.Tuple c.args.ty) ≡ product of_places (tuple_members (component_types c.args.cx.now.core.now) c.args.ty)
shape g c =
    let core = c.args.cx.now.core.now in
    let asked = c.ask_tuple.new.core in
    let t = component_types asked in
    ap (λ (t : TypeTable). shape_of t (ty.Tuple c.args.ty)) (sym c.types.ensures)
    ∙ tuple_shape_of_now t c.types.result.now c.args.ty c.tuple-tuple.result.now.types.items c.types.ensures c.tuple-tuple.ensures.entry c.tuple-tuple.ensures.types
    ∙ ap (λ (t : TypeTable). product of_places (tuple_members t c.args.ty)) (same_types core asked c.in-Ok.ensures.asked.same)

pub linear_lower_to_memory-requires-clause-room : goal.linear_lower_to_memory-requires-clause-room
linear_lower_to_memory-requires-clause-room g c =
    let asked = c.ask_tuple.new.core in
    subst (λ (s : Shape). c.in-Ok.pointer + size false s ≤ length asked.memory) (sym (shape g (goal.at.linear_lower_to_memory-requires-clause-room g c).After-tuple-tuple)) c.in-Ok.ensures.asked.does.inside

pub returns-in-Ok-linear_lower_to_memory-clause-lowers : goal.returns-in-Ok-linear_lower_to_memory-clause-lowers
returns-in-Ok-linear_lower_to_memory-clause-lowers g c =
    let L : GuestLaws _ = record { seen = g.G.Guest.seen; moves = g.G.Guest.moves; stays = g.met.G.Guest.stays; goes_on = g.met.G.Guest.goes_on } in
    let a = c.args in
    let core = a.cx.now.core.now in
    let asked = c.ask_tuple.new.core in
    let after = c.linear_lower_to_memory.new.cx.core.now in
    let ms = tuple_members (component_types core) a.ty in
    let v = a.params.now in
    let gave = c.in-Ok.ensures.asked in
    let is = shape g (goal.at.returns-in-Ok-linear_lower_to_memory-clause-lowers g c).After-tuple-tuple in
    let there = stored_there L a.cx.now.options core asked after ms c.in-Ok.pointer (g.P.ComponentType.walks v) (λ i s. g.P.Lower.gives i s v) _ gave.same is (Ok tt)
    c.in-Ok-linear_lower_to_memory.ensures.stores in
    subst (λ (ws : List ℕ). TypedParams L.seen L.moves a.cx.now.options core after ms ws (g.P.ComponentType.walks v) (g.P.Lower.gives core.component.types (product of_places ms) v) (Ok tt))
    (sym (one_word a.dst.now c.u32.result c.in-Ok.pointer c.requires.words c.u32.ensures))
    (heap_stored L a.cx.now.options core ms (g.P.ComponentType.walks v) (g.P.Lower.gives core.component.types (product of_places ms) v) c.requires.far asked after c.in-Ok.pointer
    (products_of g.P.ComponentType.fits g.P.ComponentType.means g.P.ComponentType.walks g.met.P.ComponentType.typed g.met.P.ComponentType.walked core.component.types (ty.Tuple a.ty) ms v c.requires.fits
    (ap (λ (t : TypeTable). shape_of t (ty.Tuple a.ty)) (sym (same_types core asked gave.same)) ∙ is)) gave (Ok tt) there)

pub returns-in-Err-linear_lower_to_memory-clause-lowers : goal.returns-in-Err-linear_lower_to_memory-clause-lowers
returns-in-Err-linear_lower_to_memory-clause-lowers g c =
    let L : GuestLaws _ = record { seen = g.G.Guest.seen; moves = g.G.Guest.moves; stays = g.met.G.Guest.stays; goes_on = g.met.G.Guest.goes_on } in
    let a = c.args in
    let core = a.cx.now.core.now in
    let asked = c.ask_tuple.new.core in
    let after = c.linear_lower_to_memory.new.cx.core.now in
    let ms = tuple_members (component_types core) a.ty in
    let v = a.params.now in
    let e = c.in-Err-linear_lower_to_memory.fault in
    let gave = c.in-Ok.ensures.asked in
    let is = shape g (goal.at.returns-in-Err-linear_lower_to_memory-clause-lowers g c).After-tuple-tuple in
    let there = stored_there L a.cx.now.options core asked after ms c.in-Ok.pointer (g.P.ComponentType.walks v) (λ i s. g.P.Lower.gives i s v) _ gave.same is (Err e)
    c.in-Err-linear_lower_to_memory.ensures.stores in
    other_words L a.cx.now.options core after ms (g.P.ComponentType.walks v) (g.P.Lower.gives core.component.types (product of_places ms) v) (c.in-Ok.pointer ∷ []) a.dst.now e
    (heap_stored L a.cx.now.options core ms (g.P.ComponentType.walks v) (g.P.Lower.gives core.component.types (product of_places ms) v) c.requires.far asked after c.in-Ok.pointer
    (products_of g.P.ComponentType.fits g.P.ComponentType.means g.P.ComponentType.walks g.met.P.ComponentType.typed g.met.P.ComponentType.walked core.component.types (ty.Tuple a.ty) ms v c.requires.fits
    (ap (λ (t : TypeTable). shape_of t (ty.Tuple a.ty)) (sym (same_types core asked gave.same)) ∙ is)) gave (Err e) there)
