use Rattle.std.proofs.Common.{◌≡◌, ◌++◌, drop, false, string_bytes}
use Rattle.std.specs.Prelude.{codes}
use Rattle.canon_model.specs.Layout.{members_end}
use Rattle.canon_types.specs.Table.{members_of}
use Rattle.canon_layout.specs.Lines as spec
use Rattle.canon_layout.proofs.lines.print_members.Given as goal

-- the members that are left end where all end, and the text so far and theirs are the whole
abbrev pub invariant-loop-ty : goal.invariant-loop-ty
invariant-loop-ty l =
    record {
      ends : members_end false l.end (members_of l.table (drop l.ty-index l.types)) ≡ members_end false 0 (members_of l.table l.types);
      printed : string_bytes l.text ++ spec.offsets_text l.end (members_of l.table (drop l.ty-index l.types)) ≡ string_bytes l.fn.text ++ codes " at" ++ spec.offsets_text 0 (members_of l.table l.types);
    }
