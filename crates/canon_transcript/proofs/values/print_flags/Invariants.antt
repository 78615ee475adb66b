use Rattle.std.proofs.Common.{◌≡◌, ◌++◌, drop, map, string_bytes}
use Rattle.std.specs.List.{join_with_byte}
use Rattle.std.specs.Prelude.{codes}
use Rattle.canon_transcript.specs.Text.{flag_text}
use Rattle.canon_transcript.proofs.Rows.{lead, transcript_row}
use Rattle.canon_transcript.proofs.values.print_flags.Given as goal

-- the text so far and that of what is left are the whole
abbrev pub invariant-loop-name : goal.invariant-loop-name
invariant-loop-name l = string_bytes l.text ++ transcript_row 0x7C flag_text (lead l.is_first 0x7C) (drop l.name-index l.names) ≡ string_bytes l.fn.text ++ codes "<" ++ join_with_byte 0x7C (map flag_text l.names)
