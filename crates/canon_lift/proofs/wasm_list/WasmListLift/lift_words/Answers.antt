use Rattle.std.proofs.Common.{◌∙◌, ap, arith, length, refl}
use Rattle.canon_context.specs.Core.{component_types}
use Rattle.canon_model.specs.Reach.{word}
use Rattle.canon_model.specs.Shape.{of_items}
use Rattle.canon_types.specs.Table.{shape_of}
use Rattle.canon_model.specs.Memory.{cap}
use Rattle.canon_reading.specs.Reading.{setting_in}
use Rattle.canon_reading.specs.Spots.{flat_in}
use Rattle.canon_lift_parts.proofs.Lookups.{list_element, list_fits, lift_list_known, lift_list_shape}
use Rattle.canon_lift.proofs.Pairs.{list_lifts}
use Rattle.canon_lift_parts.proofs.WordRooms.{lift_list_words}
use Rattle.canon_lift.proofs.wasm_list.WasmListLift.lift_words.Goals as goal

pub word_u32-requires : goal.word_u32-requires
word_u32-requires g c =
    let t = component_types c.args.cx.now.core.now in
    let element = c.list.result.now.element in
    let shape = lift_list_shape t c.types.result.now c.in-List.i c.args.ty element c.types.ensures c.in-List.is c.list.ensures.entry in
    omega (arith, lift_list_words (shape_of t c.args.ty) (shape_of t element) of_items c.args.at (length c.args.src.now) shape c.requires.words)

pub word_u32-requires-2 : goal.word_u32-requires-2
word_u32-requires-2 g c =
    let t = component_types c.args.cx.now.core.now in
    let element = c.list.result.now.element in
    let shape = lift_list_shape t c.types.result.now c.in-List.i c.args.ty element c.types.ensures c.in-List.is c.list.ensures.entry in
    omega (arith, lift_list_words (shape_of t c.args.ty) (shape_of t element) of_items c.args.at (length c.args.src.now) shape c.requires.words)

pub returns-clause-lifts : goal.returns-clause-lifts
returns-clause-lifts g c =
    let cx = c.args.cx.now in
    let core = cx.core.now in
    let t = component_types core in
    let element = c.list.result.now.element in
    list_lifts (cap g.T.ComponentType.host_bytes) (setting_in core cx.options) (shape_of t element) (flat_in c.args.src.now c.args.at) (shape_of t c.args.ty) c.from-pointer.result c.from-count.result
    (list_element t c.types.result.now c.in-List.i c.args.ty element c.types.ensures c.in-List.is c.list.ensures.entry) (c.from-pointer.ensures ∙ c.word_u32.ensures) (c.from-count.ensures ∙ c.word_u32-2.ensures)
    g.T.ComponentType.fits c.word_at.result cx.fuel (λ F k f. (word c.args.at, c.word_at.ensures, f)) core.ledger c.list_from.new.cx.core.now.ledger (ap (λ z. z.core.now.ledger) c.list_from.ensures.same)
    element refl (lift_list_known t c.types.result.now c.in-List.i c.args.ty element c.types.ensures c.in-List.is c.list.ensures.entry)
    (list_fits g.T.ComponentType.fits core.component.types c.types.result.now c.in-List.i c.args.ty element c.types.ensures c.in-List.is c.list.ensures.entry c.requires.fits)
    c.list_from.result c.list_from.new.cx.fuel c.list_from.ensures.tested
