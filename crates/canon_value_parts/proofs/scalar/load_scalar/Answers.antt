use Rattle.std.proofs.Common.{◌≡◌, ◌∙◌, ap, arith, not, pos, refl, to_z, of_z, w8, w16, w32, w64, ℤ}
use Rattle.std.proofs.lemmas.Int.{ints, to_z-of_z}
use Rattle.std.specs.Int.{cast_signed}
use Rattle.std.specs.Prelude.{◌==◌}
use Rattle.canon_model.specs.Shape.{bool, char, f32, f64, s16, s32, s64, s8, u16, u32, u64, u8}
use Rattle.canon_model.specs.Tree.{number, truth}
use Rattle.canon_plan.specs.NoHandle.{scalar_type}
use Rattle.canon_value_parts.proofs.LoadedBytes.{char_loaded, scalar_loaded}
use Rattle.canon_value_parts.proofs.scalar.load_scalar.Goals as goal

pub load_u8-requires : goal.load_u8-requires
load_u8-requires c = c.requires.inside bool (ap scalar_type c.in-Bool.is)

pub load_u8-requires-in-S8 : goal.load_u8-requires-in-S8
load_u8-requires-in-S8 c = c.requires.inside s8 (ap scalar_type c.in-S8.is)

pub load_u8-requires-in-U8 : goal.load_u8-requires-in-U8
load_u8-requires-in-U8 c = c.requires.inside u8 (ap scalar_type c.in-U8.is)

pub load_u16-requires : goal.load_u16-requires
load_u16-requires c = c.requires.inside s16 (ap scalar_type c.in-S16.is)

pub load_u16-requires-in-U16 : goal.load_u16-requires-in-U16
load_u16-requires-in-U16 c = c.requires.inside u16 (ap scalar_type c.in-U16.is)

pub load_u32-requires : goal.load_u32-requires
load_u32-requires c = c.requires.inside s32 (ap scalar_type c.in-S32.is)

pub load_u32-requires-in-U32 : goal.load_u32-requires-in-U32
load_u32-requires-in-U32 c = c.requires.inside u32 (ap scalar_type c.in-U32.is)

pub load_u64-requires : goal.load_u64-requires
load_u64-requires c = c.requires.inside s64 (ap scalar_type c.in-S64.is)

pub load_u64-requires-in-U64 : goal.load_u64-requires-in-U64
load_u64-requires-in-U64 c = c.requires.inside u64 (ap scalar_type c.in-U64.is)

pub load_u32-requires-in-Float32 : goal.load_u32-requires-in-Float32
load_u32-requires-in-Float32 c = c.requires.inside f32 (ap scalar_type c.in-Float32.is)

pub load_u64-requires-in-Float64 : goal.load_u64-requires-in-Float64
load_u64-requires-in-Float64 c = c.requires.inside f64 (ap scalar_type c.in-Float64.is)

pub load_u32-requires-in-Char : goal.load_u32-requires-in-Char
load_u32-requires-in-Char c = c.requires.inside char (ap scalar_type c.in-Char.is)

pub returns-in-Bool-clause-ok : goal.returns-in-Bool-clause-ok
returns-in-Bool-clause-ok c =
    scalar_loaded c.args.memory.now c.args.ty.now bool c.args.at _ (truth (not (c.load_u8.result == 0))) (ap scalar_type c.in-Bool.is) (c.requires.inside bool (ap scalar_type c.in-Bool.is))
    (ap (λ n. truth (not (n == 0))) c.load_u8.ensures) (not (c.load_u8.result == 0), refl, refl)

pub returns-in-S8-clause-ok : goal.returns-in-S8-clause-ok
returns-in-S8-clause-ok c =
    let z : ℤ = to_z w8 (of_z w8 c.cast_signed.result) in
    let same : z ≡ cast_signed w8 c.load_u8-in-S8.result = grind (arith, to_z-of_z, ints) in
    scalar_loaded c.args.memory.now c.args.ty.now s8 c.args.at _ (number z) (ap scalar_type c.in-S8.is) (c.requires.inside s8 (ap scalar_type c.in-S8.is)) (ap number (same ∙ ap (cast_signed w8) c.load_u8-in-S8.ensures)) (z, refl, refl)

pub returns-in-U8-clause-ok : goal.returns-in-U8-clause-ok
returns-in-U8-clause-ok c =
    scalar_loaded c.args.memory.now c.args.ty.now u8 c.args.at _ (number (pos c.load_u8-in-U8.result)) (ap scalar_type c.in-U8.is) (c.requires.inside u8 (ap scalar_type c.in-U8.is))
    (ap (λ n. number (pos n)) c.load_u8-in-U8.ensures) (c.load_u8-in-U8.result, refl, refl)

pub returns-in-S16-clause-ok : goal.returns-in-S16-clause-ok
returns-in-S16-clause-ok c =
    let z : ℤ = to_z w16 (of_z w16 c.cast_signed-in-S16.result) in
    let same : z ≡ cast_signed w16 c.load_u16.result = grind (arith, to_z-of_z, ints) in
    scalar_loaded c.args.memory.now c.args.ty.now s16 c.args.at _ (number z) (ap scalar_type c.in-S16.is) (c.requires.inside s16 (ap scalar_type c.in-S16.is)) (ap number (same ∙ ap (cast_signed w16) c.load_u16.ensures)) (z, refl, refl)

pub returns-in-U16-clause-ok : goal.returns-in-U16-clause-ok
returns-in-U16-clause-ok c =
    scalar_loaded c.args.memory.now c.args.ty.now u16 c.args.at _ (number (pos c.load_u16-in-U16.result)) (ap scalar_type c.in-U16.is) (c.requires.inside u16 (ap scalar_type c.in-U16.is))
    (ap (λ n. number (pos n)) c.load_u16-in-U16.ensures) (c.load_u16-in-U16.result, refl, refl)

pub returns-in-S32-clause-ok : goal.returns-in-S32-clause-ok
returns-in-S32-clause-ok c =
    let z : ℤ = to_z w32 (of_z w32 c.cast_signed-in-S32.result) in
    let same : z ≡ cast_signed w32 c.load_u32.result = grind (arith, to_z-of_z, ints) in
    scalar_loaded c.args.memory.now c.args.ty.now s32 c.args.at _ (number z) (ap scalar_type c.in-S32.is) (c.requires.inside s32 (ap scalar_type c.in-S32.is)) (ap number (same ∙ ap (cast_signed w32) c.load_u32.ensures)) (z, refl, refl)

pub returns-in-U32-clause-ok : goal.returns-in-U32-clause-ok
returns-in-U32-clause-ok c =
    scalar_loaded c.args.memory.now c.args.ty.now u32 c.args.at _ (number (pos c.load_u32-in-U32.result)) (ap scalar_type c.in-U32.is) (c.requires.inside u32 (ap scalar_type c.in-U32.is))
    (ap (λ n. number (pos n)) c.load_u32-in-U32.ensures) (c.load_u32-in-U32.result, refl, refl)

pub returns-in-S64-clause-ok : goal.returns-in-S64-clause-ok
returns-in-S64-clause-ok c =
    let z : ℤ = to_z w64 (of_z w64 c.cast_signed-in-S64.result) in
    let same : z ≡ cast_signed w64 c.load_u64.result = grind (arith, to_z-of_z, ints) in
    scalar_loaded c.args.memory.now c.args.ty.now s64 c.args.at _ (number z) (ap scalar_type c.in-S64.is) (c.requires.inside s64 (ap scalar_type c.in-S64.is)) (ap number (same ∙ ap (cast_signed w64) c.load_u64.ensures)) (z, refl, refl)

pub returns-in-U64-clause-ok : goal.returns-in-U64-clause-ok
returns-in-U64-clause-ok c =
    scalar_loaded c.args.memory.now c.args.ty.now u64 c.args.at _ (number (pos c.load_u64-in-U64.result)) (ap scalar_type c.in-U64.is) (c.requires.inside u64 (ap scalar_type c.in-U64.is))
    (ap (λ n. number (pos n)) c.load_u64-in-U64.ensures) (c.load_u64-in-U64.result, refl, refl)

pub returns-in-Float32-clause-ok : goal.returns-in-Float32-clause-ok
returns-in-Float32-clause-ok c =
    scalar_loaded c.args.memory.now c.args.ty.now f32 c.args.at _ (number (pos c.load_u32-in-Float32.result)) (ap scalar_type c.in-Float32.is)
    (c.requires.inside f32 (ap scalar_type c.in-Float32.is)) (ap (λ n. number (pos n)) c.load_u32-in-Float32.ensures) (c.load_u32-in-Float32.result, refl, refl)

pub returns-in-Float64-clause-ok : goal.returns-in-Float64-clause-ok
returns-in-Float64-clause-ok c =
    scalar_loaded c.args.memory.now c.args.ty.now f64 c.args.at _ (number (pos c.load_u64-in-Float64.result)) (ap scalar_type c.in-Float64.is)
    (c.requires.inside f64 (ap scalar_type c.in-Float64.is)) (ap (λ n. number (pos n)) c.load_u64-in-Float64.ensures) (c.load_u64-in-Float64.result, refl, refl)

pub returns-in-Some-clause-ok : goal.returns-in-Some-clause-ok
returns-in-Some-clause-ok c =
    let told = c.in-Some.ensures in
    char_loaded c.args.memory.now c.args.ty.now c.args.at c.in-Some.c c.load_u32-in-Char.result (ap scalar_type c.in-Char.is) (c.requires.inside char (ap scalar_type c.in-Char.is)) c.load_u32-in-Char.ensures told.value.0 told.value.1
