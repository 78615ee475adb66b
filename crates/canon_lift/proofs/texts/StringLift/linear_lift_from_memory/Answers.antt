use Rattle.std.proofs.Common.{◌+◌, ◌≤◌, ◌∙◌, ap, arith, false, length}
use Rattle.canon_context.specs.Core.{component_types}
use Rattle.canon_context.specs.declared.fault.At.TheVariants as place
use Rattle.canon_lowering.specs.Storing.{narrow}
use Rattle.canon_model.specs.Layout.{size}
use Rattle.canon_model.specs.Memory.{num}
use Rattle.canon_types.specs.Table.{shape_of}
use Rattle.canon_reading.specs.Reading.{setting_in}
use Rattle.canon_reading.specs.Spots.{stored}
use Rattle.canon_lift.proofs.Pairs.{text_lifts, lift_text_room}
use Rattle.canon_lift.proofs.texts.StringLift.linear_lift_from_memory.Goals as goal

pub load_u32-requires : goal.load_u32-requires
load_u32-requires g c =
    let core = c.args.cx.now.core.now in
    omega (arith, lift_text_room c.memory.result.now core.memory (shape_of (component_types core) c.args._ty) c.args.at (ap (shape_of (component_types core)) c.requires.fits) c.requires.inside c.memory.ensures)

pub load_u32-requires-2 : goal.load_u32-requires-2
load_u32-requires-2 g c =
    let core = c.args.cx.now.core.now in
    omega (arith, lift_text_room c.memory-2.result.now core.memory (shape_of (component_types core) c.args._ty) c.args.at (ap (shape_of (component_types core)) c.requires.fits) c.requires.inside c.memory-2.ensures)

pub returns-clause-lifts : goal.returns-clause-lifts
returns-clause-lifts g c =
    let cx = c.args.cx.now in
    let core = cx.core.now in
    let p = c.from-pointer.ensures ∙ c.load_u32.ensures ∙ ap (λ xs. num (narrow xs) c.args.at 4) c.memory.ensures in
    let n = c.from-length.ensures ∙ c.load_u32-2.ensures ∙ ap (λ xs. num (narrow xs) (c.args.at + 4) 4) c.memory-2.ensures in
    let room : c.args.at + size false (shape_of (component_types core) c.args._ty) ≤ length core.memory = c.requires.inside in
    text_lifts (setting_in core cx.options) (stored c.args.at) (shape_of (component_types core) c.args._ty) c.from-pointer.result c.from-length.result (ap (shape_of (component_types core)) c.requires.fits) p n
    (place.Address c.args.at) cx.fuel core.ledger c.text_of.new.cx.core.now.ledger (ap (λ z. z.core.now.ledger) c.text_of.ensures.same) c.text_of.result c.text_of.new.cx.fuel
    (λ k x f. f) room c.text_of.ensures.ok c.text_of.ensures.err c.text_of.ensures.unrefused c.text_of.ensures.falls
