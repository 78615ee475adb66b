use Rattle.std.proofs.Common.{◌+◌, ◌∙◌, ap, arith, refl}
use Rattle.canon_context.specs.Core.{component_types}
use Rattle.canon_context.specs.declared.fault.At.TheVariants as place
use Rattle.canon_lowering.specs.Storing.{narrow}
use Rattle.canon_model.specs.Memory.{cap, num}
use Rattle.canon_types.specs.Table.{shape_of}
use Rattle.canon_reading.specs.Reading.{setting_in}
use Rattle.canon_reading.specs.Spots.{stored}
use Rattle.canon_lift_parts.proofs.Lookups.{list_element, list_fits, lift_list_known, lift_list_shape}
use Rattle.canon_lift.proofs.Pairs.{list_lifts, list_room}
use Rattle.canon_lift.proofs.wasm_list.WasmListLift.linear_lift_from_memory.Goals as goal

pub load_u32-requires : goal.load_u32-requires
load_u32-requires g c =
    let core = c.args.cx.now.core.now in
    let t = component_types core in
    let shape = lift_list_shape t c.types.result.now c.in-List.i c.args.ty c.list.result.now.element c.types.ensures c.in-List.is c.list.ensures.entry in
    omega (arith, list_room c.memory.result.now core.memory (shape_of t c.args.ty) (shape_of t c.list.result.now.element) c.args.at shape c.requires.inside c.memory.ensures)

pub load_u32-requires-2 : goal.load_u32-requires-2
load_u32-requires-2 g c =
    let core = c.args.cx.now.core.now in
    let t = component_types core in
    let shape = lift_list_shape t c.types.result.now c.in-List.i c.args.ty c.list.result.now.element c.types.ensures c.in-List.is c.list.ensures.entry in
    omega (arith, list_room c.memory-2.result.now core.memory (shape_of t c.args.ty) (shape_of t c.list.result.now.element) c.args.at shape c.requires.inside c.memory-2.ensures)

pub returns-clause-lifts : goal.returns-clause-lifts
returns-clause-lifts g c =
    let cx = c.args.cx.now in
    let core = cx.core.now in
    let t = component_types core in
    let element = c.list.result.now.element in
    let p = c.from-pointer.ensures ∙ c.load_u32.ensures ∙ ap (λ xs. num (narrow xs) c.args.at 4) c.memory.ensures in
    let n = c.from-count.ensures ∙ c.load_u32-2.ensures ∙ ap (λ xs. num (narrow xs) (c.args.at + 4) 4) c.memory-2.ensures in
    list_lifts (cap g.T.ComponentType.host_bytes) (setting_in core cx.options) (shape_of t element) (stored c.args.at) (shape_of t c.args.ty) c.from-pointer.result c.from-count.result
    (list_element t c.types.result.now c.in-List.i c.args.ty element c.types.ensures c.in-List.is c.list.ensures.entry) p n
    g.T.ComponentType.fits (place.Address c.args.at) cx.fuel (λ F k f. f) core.ledger c.list_from.new.cx.core.now.ledger (ap (λ z. z.core.now.ledger) c.list_from.ensures.same)
    element refl (lift_list_known t c.types.result.now c.in-List.i c.args.ty element c.types.ensures c.in-List.is c.list.ensures.entry)
    (list_fits g.T.ComponentType.fits core.component.types c.types.result.now c.in-List.i c.args.ty element c.types.ensures c.in-List.is c.list.ensures.entry c.requires.fits)
    c.list_from.result c.list_from.new.cx.fuel c.list_from.ensures.tested
