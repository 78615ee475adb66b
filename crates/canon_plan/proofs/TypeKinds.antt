-- Kinds of types that have members or items.
use Rattle.std.proofs.Common.{◌≡◌, List, [], ◌∷◌, arith, refl, ℕ}
use Rattle.canon_model.specs.Cost.{names_length}
use Rattle.canon_model.specs.Shape.{Shape, list, of_items}
use Rattle.canon_types.specs.Depth.{element_shape}
use Rattle.canon_types.specs.Table.{TypeTable, members_of}
use Rattle.canon_types.specs.declared.types.InterfaceType.{InterfaceType}
use Rattle.canon_types.specs.declared.types.InterfaceType.TheVariants as ty
use Rattle.canon_plan.specs.Plan.{IsKind}

pub no_length : (t : TypeTable) (types : List InterfaceType) → names_length (members_of t types) ≡ 0
no_length t [] = refl
no_length t (type ∷ types) = omega (arith, no_length t types)

-- of the kinds that are rebuilt a list is left
pub list_left : (type : InterfaceType) (s : Shape) → IsKind type s → ((i : ℕ) → type ≡ ty.Record i → ⊥) → ((i : ℕ) → type ≡ ty.Tuple i → ⊥) → ((i : ℕ) → type ≡ ty.FixedLengthList i → ⊥)
    → ((i : ℕ) → type ≡ ty.Map i → ⊥) → s ≡ list of_items (element_shape s)
list_left (ty.List i) s h no_record no_tuple no_fixed no_map = h
list_left (ty.Record i) s h no_record no_tuple no_fixed no_map = absurd (no_record i refl)
list_left (ty.Tuple i) s h no_record no_tuple no_fixed no_map = absurd (no_tuple i refl)
list_left (ty.FixedLengthList i) s h no_record no_tuple no_fixed no_map = absurd (no_fixed i refl)
list_left ty.Bool s h no_record no_tuple no_fixed no_map = absurd h
list_left ty.S8 s h no_record no_tuple no_fixed no_map = absurd h
list_left ty.U8 s h no_record no_tuple no_fixed no_map = absurd h
list_left ty.S16 s h no_record no_tuple no_fixed no_map = absurd h
list_left ty.U16 s h no_record no_tuple no_fixed no_map = absurd h
list_left ty.S32 s h no_record no_tuple no_fixed no_map = absurd h
list_left ty.U32 s h no_record no_tuple no_fixed no_map = absurd h
list_left ty.S64 s h no_record no_tuple no_fixed no_map = absurd h
list_left ty.U64 s h no_record no_tuple no_fixed no_map = absurd h
list_left ty.Float32 s h no_record no_tuple no_fixed no_map = absurd h
list_left ty.Float64 s h no_record no_tuple no_fixed no_map = absurd h
list_left ty.Char s h no_record no_tuple no_fixed no_map = absurd h
list_left ty.String s h no_record no_tuple no_fixed no_map = absurd h
list_left (ty.Own i) s h no_record no_tuple no_fixed no_map = absurd h
list_left (ty.Borrow i) s h no_record no_tuple no_fixed no_map = absurd h
list_left (ty.Map i) s h no_record no_tuple no_fixed no_map = absurd (no_map i refl)
list_left (ty.Variant i) s h no_record no_tuple no_fixed no_map = absurd h
list_left (ty.Enum i) s h no_record no_tuple no_fixed no_map = absurd h
list_left (ty.Option i) s h no_record no_tuple no_fixed no_map = absurd h
list_left (ty.Result i) s h no_record no_tuple no_fixed no_map = absurd h
list_left (ty.Flags i) s h no_record no_tuple no_fixed no_map = absurd h
