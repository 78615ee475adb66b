use Rattle.std.proofs.Common.{refl, subst, sym, ⊎_elim, ◌≡◌}
use Rattle.canon_abi.specs.Abi.{HasLayout}
use Rattle.canon_abi.specs.declared.abi.CanonicalAbiInfo.{CanonicalAbiInfo}
use Rattle.canon_model.specs.Shape as shape
use Rattle.canon_types.specs.declared.types.InterfaceType.{InterfaceType}
use Rattle.canon_types.specs.Table.{TypeTable, shape_of}
use Rattle.canon_types.proofs.table.ComponentTypes.canonical_abi.Goals as goal

-- the type is this one, which has the numbers
laid_as : (t : TypeTable) (abi : CanonicalAbiInfo) (type z : InterfaceType) → HasLayout abi (shape_of t z) → type ≡ z → HasLayout abi (shape_of t type)
laid_as t abi type z h e = subst (λ (x : InterfaceType). HasLayout abi (shape_of t x)) (sym e) h

pub returns-in-Bool : goal.returns-in-Bool
returns-in-Bool c =
    let p = c.self.invariant.plain in
    ⊎_elim (laid_as _ _ _ _ (p.one shape.bool refl)) (⊎_elim (laid_as _ _ _ _ (p.one shape.s8 refl)) (laid_as _ _ _ _ (p.one shape.u8 refl))) c.in-Bool.is

pub returns-in-S16 : goal.returns-in-S16
returns-in-S16 c =
    let p = c.self.invariant.plain in
    ⊎_elim (laid_as _ _ _ _ (p.two shape.s16 refl)) (laid_as _ _ _ _ (p.two shape.u16 refl)) c.in-S16.is

pub returns-in-S32 : goal.returns-in-S32
returns-in-S32 c =
    let p = c.self.invariant.plain in
    ⊎_elim (laid_as _ _ _ _ (p.four shape.s32 refl)) (⊎_elim (laid_as _ _ _ _ (p.four shape.u32 refl)) (⊎_elim (laid_as _ _ _ _ (p.four shape.f32 refl)) (⊎_elim (laid_as _ _ _ _ (p.four shape.char refl))
    (⊎_elim (λ h. laid_as _ _ _ _ (p.owned h.0) h.1) (λ h. laid_as _ _ _ _ (p.borrowed h.0) h.1))))) c.in-S32.is

pub returns-in-S64 : goal.returns-in-S64
returns-in-S64 c =
    let p = c.self.invariant.plain in
    ⊎_elim (laid_as _ _ _ _ (p.eight shape.s64 refl)) (⊎_elim (laid_as _ _ _ _ (p.eight shape.u64 refl)) (laid_as _ _ _ _ (p.eight shape.f64 refl))) c.in-S64.is
