use Rattle.std.proofs.Common.{refl, subst, sym}
use Rattle.canon_abi.specs.Abi.{TellsLayout}
use Rattle.canon_model.specs.Shape as shape
use Rattle.canon_model.specs.Shape.{Shape, of_fields}
use Rattle.canon_typed.proofs.Layouts.{scalar_abi, text_abi}
use Rattle.canon_example_record.specs.Laws.{note_shape_is}
use Rattle.canon_example_record.specs.Notes.{note_members}
use Rattle.canon_example_record.proofs.note.NoteComponentType.abi.Goals as goal

pub returns : goal.returns
returns c i type f = subst (λ (s : Shape). TellsLayout c.record.result s) (sym (note_shape_is i type f))
    (c.record.ensures.layout of_fields note_members (text_abi _ refl refl refl refl refl, (scalar_abi shape.u32 _ refl refl refl refl refl, tt)))
