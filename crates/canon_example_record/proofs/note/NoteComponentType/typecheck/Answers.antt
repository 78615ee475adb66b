use Rattle.std.proofs.Common.{arith, rules, sym, ◌∙◌}
use Rattle.canon_example_record.proofs.Types.{note_defined, two_fields}
use Rattle.canon_example_record.proofs.note.NoteComponentType.typecheck.Goals as goal

pub returns-in-String-U32-clause-ok : goal.returns-in-String-U32-clause-ok
returns-in-String-U32-clause-ok c =
    note_defined c.args.types.now c.types.result.now c.in-Record.i c.args.ty.now c.record.result.now.fields.items c.title-item.result c.score-item.result
    c.types.ensures c.in-Record.is c.record.ensures.entry
    (sym c.as_slice.ensures.value ∙ two_fields c.as_slice.result.now _ _ _ _ (omega (arith, c.in-len2.len_at_least, c.in-len2.len_below)) c.title-item.is c.score-item.is)
    (search (rules, c.as_str.ensures, c.ne.ensures, c.if-ne.false)) c.in-String-U32.is-0
    (search (rules, c.as_str-else-ne.ensures, c.ne-else-ne.ensures, c.if-ne-2.false)) c.in-String-U32.is-1
