use Rattle.std.proofs.Common.{ap, arith, length}
use Rattle.canon_context.specs.Core.{component_types}
use Rattle.canon_types.specs.Table.{shape_of}
use Rattle.canon_lift_parts.proofs.WordRooms.{lift_text_words}
use Rattle.canon_lift.proofs.wasm_str.WasmStrLift.lift_words.Goals as goal

pub word_u32-pointer-requires : goal.word_u32-pointer-requires
word_u32-pointer-requires g c =
    let t = component_types c.args.cx.now.core.now in
    omega (arith, lift_text_words (shape_of t c.args._ty) c.args.at (length c.args.src.now) (ap (shape_of t) c.requires.fits) c.requires.words)

pub word_u32-length-requires : goal.word_u32-length-requires
word_u32-length-requires g c =
    let t = component_types c.args.cx.now.core.now in
    omega (arith, lift_text_words (shape_of t c.args._ty) c.args.at (length c.args.src.now) (ap (shape_of t) c.requires.fits) c.requires.words)
