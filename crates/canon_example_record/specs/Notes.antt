-- A note as a record of WIT: its component type, its trees, and what is read as one.
use Rattle.std.specs.Prelude.{String, [], ◌∷◌, ◌≡◌, codes, pos, ℕ}
use Rattle.std.specs.Global.{Global}
use Rattle.canon_model.specs.Shape as shape
use Rattle.canon_model.specs.Shape.{Members, Shape, member, no_members, record_of, scalar, string}
use Rattle.canon_model.specs.Tree.{Tree, number, text_length}
use Rattle.canon_types.specs.Instance.{Instance}
use Rattle.canon_types.specs.Table.{Definition, IsDefined, RecordType}
use Rattle.canon_types.specs.declared.types.InterfaceType.{InterfaceType}
use Rattle.canon_types.specs.declared.types.InterfaceType.TheVariants as ty
use Rattle.canon_typed.specs.Charges.{free, product_cost}
use Rattle.canon_typed.specs.Meaning.{FirstAnd, NoTrees, ProductMeans, TextMeans}
use Rattle.canon_reading.specs.Reading.{Reading}
use Rattle.canon_reading.specs.Readings.{RestReading, first_reading, none_reading, product_reading, scalar_reading, text_reading}
use Rattle.canon_example_record.specs.declared.note.Note.{Note}

-- record note { title: string, score: u32 }
abbrev pub note_type : Definition
note_type = RecordType ((codes "title", ty.String) ∷ (codes "score", ty.U32) ∷ [])

abbrev pub IsNoteType : Instance → InterfaceType → Type 0
IsNoteType i (ty.Record x) = IsDefined i.types (ty.Record x) note_type
IsNoteType i _ = ⊥

abbrev pub note_members : Members
note_members = member (codes "title") string (member (codes "score") (scalar shape.u32) no_members)

abbrev pub note_shape : Shape
note_shape = record_of note_members

-- a score is a number
abbrev pub IsScore : ℕ → Tree → Type 0
IsScore n t = t ≡ number (pos n)

-- a tree for each field, in order
abbrev pub NoteMeans : Note → Tree → Type 0
NoteMeans n = ProductMeans (FirstAnd (TextMeans n.title) (FirstAnd (IsScore n.score) NoTrees))

abbrev pub note_cost : Tree → ℕ
note_cost = product_cost (text_length ∷ free ∷ [])

-- a value for each field, in order
abbrev pub title_reading : Reading (String Global)
title_reading = text_reading TextMeans

abbrev pub score_reading : Reading ℕ
score_reading = scalar_reading IsScore

abbrev pub scores_reading : RestReading Note
scores_reading = first_reading (λ n. n.score) (λ n. n) score_reading none_reading

abbrev pub fields_reading : RestReading Note
fields_reading = first_reading (λ n. n.title) (λ n. n) title_reading scores_reading

abbrev pub note_reading : Reading Note
note_reading = product_reading (λ n. n) fields_reading
