-- The type of a note, by its fields.
use Rattle.std.proofs.Common.{[], ◌∷◌, ◌≡◌, ◌∙◌, List, ap, ap₂, arith, codes, length, slice_index_or, string_bytes, subst, sym, ℕ}
use Rattle.canon_types.specs.Instance.{Instance}
use Rattle.canon_types.specs.Keeps.{fields_type}
use Rattle.canon_types.specs.Table.{Definition, IsDefined, RecordType, TypeTable}
use Rattle.canon_types.specs.declared.types.InterfaceType.{InterfaceType}
use Rattle.canon_types.specs.declared.types.InterfaceType.TheVariants as ty
use Rattle.canon_types.specs.declared.types.RecordField.{RecordField}
use Rattle.canon_example_record.specs.Notes.{IsNoteType, note_type}

pub two_fields : (fields : List RecordField) (title score other more : RecordField) → length fields ≡ 2 → title ≡ slice_index_or fields 0 other → score ≡ slice_index_or fields 1 more → fields ≡ title ∷ score ∷ []
two_fields [] title score other more two first second = absurd (omega (arith, two))
two_fields (a ∷ []) title score other more two first second = absurd (omega (arith, two))
two_fields (a ∷ b ∷ []) title score other more two first second = ap₂ (λ x y. x ∷ y ∷ []) (sym first) (sym second)
two_fields (a ∷ b ∷ c ∷ rest) title score other more two first second = absurd (omega (arith, two))

these_fields : (title score : RecordField) → string_bytes title.name ≡ codes "title" → title.ty ≡ ty.String → string_bytes score.name ≡ codes "score" → score.ty ≡ ty.U32 → fields_type (title ∷ score ∷ []) ≡ note_type
these_fields title score a b c d = ap₂ (λ x y. RecordType (x ∷ y ∷ [])) (ap₂ (λ x y. (x, y)) a b) (ap₂ (λ x y. (x, y)) c d)

pub note_defined : (i : Instance) (t : TypeTable) (n : ℕ) (type : InterfaceType) (fields : List RecordField) (title score : RecordField) → t ≡ i.types → type ≡ ty.Record n → IsDefined t (ty.Record n) (fields_type fields) → fields ≡ title ∷ score ∷ []
    → string_bytes title.name ≡ codes "title" → title.ty ≡ ty.String → string_bytes score.name ≡ codes "score" → score.ty ≡ ty.U32 → IsNoteType i type
note_defined i t n type fields title score same is d are a b c e =
    subst (λ x. IsNoteType i x) (sym is)
    (subst (λ (x : Definition). IsDefined i.types (ty.Record n) x) (ap fields_type are ∙ these_fields title score a b c e)
    (subst (λ (x : TypeTable). IsDefined x (ty.Record n) (fields_type fields)) same d))
