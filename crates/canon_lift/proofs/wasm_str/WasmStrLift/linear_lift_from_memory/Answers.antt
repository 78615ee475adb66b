use Rattle.std.proofs.Common.{ap, arith}
use Rattle.canon_context.specs.Core.{component_types}
use Rattle.canon_types.specs.Table.{shape_of}
use Rattle.canon_lift.proofs.Pairs.{lift_text_room}
use Rattle.canon_lift.proofs.wasm_str.WasmStrLift.linear_lift_from_memory.Goals as goal

pub load_u32-pointer-requires : goal.load_u32-pointer-requires
load_u32-pointer-requires g c =
    let core = c.args.cx.now.core.now in
    omega (arith, lift_text_room c.memory.result.now core.memory (shape_of (component_types core) c.args._ty) c.args.at (ap (shape_of (component_types core)) c.requires.fits) c.requires.inside c.memory.ensures)

pub load_u32-length-requires : goal.load_u32-length-requires
load_u32-length-requires g c =
    let core = c.args.cx.now.core.now in
    omega (arith, lift_text_room c.memory-2.result.now core.memory (shape_of (component_types core) c.args._ty) c.args.at (ap (shape_of (component_types core)) c.requires.fits) c.requires.inside c.memory-2.ensures)
