use Rattle.std.proofs.Common.{◌≤◌, ◌+◌, ◌∙◌, ap, arith, false, length, refl}
use Rattle.canon_context.specs.Core.{component_types}
use Rattle.canon_lowering.specs.Storing.{narrow}
use Rattle.canon_model.specs.Layout.{size}
use Rattle.canon_model.specs.Memory.{num}
use Rattle.canon_types.specs.Table.{shape_of}
use Rattle.canon_reading.specs.Spots.{stored}
use Rattle.canon_lift.proofs.Pairs.{map_room}
use Rattle.canon_lift.proofs.maps.HashMapLift.linear_lift_from_memory.Goals as goal

pub load_u32-requires : goal.load_u32-requires
load_u32-requires g c =
    let core = c.args.cx.now.core.now in
    omega (arith, map_room g.K.ComponentType.fits g.V.ComponentType.fits core.component.types c.args.ty c.memory.result.now core.memory c.args.at c.requires.fits c.requires.inside c.memory.ensures)

pub load_u32-requires-2 : goal.load_u32-requires-2
load_u32-requires-2 g c =
    let core = c.args.cx.now.core.now in
    omega (arith, map_room g.K.ComponentType.fits g.V.ComponentType.fits core.component.types c.args.ty c.memory-2.result.now core.memory c.args.at c.requires.fits c.requires.inside c.memory-2.ensures)

pub returns-clause-lifts : goal.returns-clause-lifts
returns-clause-lifts g c =
    let core = c.args.cx.now.core.now in
    let room : c.args.at + size false (shape_of (component_types core) c.args.ty) ≤ length core.memory = c.requires.inside in
    c.lift_map.ensures.lifts (stored c.args.at)
    (record {
      pointer = c.from-pointer.ensures ∙ c.load_u32.ensures ∙ ap (λ xs. num (narrow xs) c.args.at 4) c.memory.ensures;
      count = c.from-count.ensures ∙ c.load_u32-2.ensures ∙ ap (λ xs. num (narrow xs) (c.args.at + 4) 4) c.memory-2.ensures;
      place_is = refl;
    }) room
