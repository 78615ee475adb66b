use Rattle.std.proofs.Common.{◌≡◌, ◌++◌, drop, false, string_bytes}
use Rattle.std.specs.Prelude.{codes}
use Rattle.canon_model.specs.Layout.{members_end}
use Rattle.canon_types.specs.Keeps.{field_members}
use Rattle.canon_layout.specs.Lines as spec
use Rattle.canon_layout.proofs.lines.print_fields.Given as goal

-- the fields that are left end where all end, and the text so far and theirs are the whole
abbrev pub invariant-loop-field : goal.invariant-loop-field
invariant-loop-field l =
    record {
      ends : members_end false l.end (field_members l.table (drop l.field-index l.fields)) ≡ members_end false 0 (field_members l.table l.fields);
      printed : string_bytes l.text ++ spec.offsets_text l.end (field_members l.table (drop l.field-index l.fields)) ≡ string_bytes l.fn.text ++ codes " at" ++ spec.offsets_text 0 (field_members l.table l.fields);
    }
