use Rattle.std.proofs.Common.{◌≡◌, drop, map, string_bytes}
use Rattle.std.specs.Prelude.{codes}
use Rattle.canon_transcript.specs.Text.{field_printing, comma_separated, page, pair_printing, value_printing, write}
use Rattle.canon_transcript.proofs.Rows.{transcript_left}
use Rattle.canon_transcript.proofs.values.+print.Given as goal

-- the page so far, after the printing of what is left, is the whole
abbrev pub invariant-print_record-loop-name : goal.invariant-print_record-loop-name
invariant-print_record-loop-name l =
    transcript_left l.is_first (map field_printing (drop l.name-index l.fields)) (page (string_bytes l.text) l.next) ≡ comma_separated (map field_printing l.fields) (write (codes "{") (page (string_bytes l.fn.text) l.fn.next))

abbrev pub invariant-print_row-loop-value : goal.invariant-print_row-loop-value
invariant-print_row-loop-value l =
    transcript_left l.is_first (map value_printing (drop l.value-index l.values)) (page (string_bytes l.text) l.next) ≡ comma_separated (map value_printing l.values) (write l.before (page (string_bytes l.fn.text) l.fn.next))

abbrev pub invariant-print_map-loop-key : goal.invariant-print_map-loop-key
invariant-print_map-loop-key l =
    transcript_left l.is_first (map pair_printing (drop l.key-index l.pairs)) (page (string_bytes l.text) l.next) ≡ comma_separated (map pair_printing l.pairs) (write (codes "map[") (page (string_bytes l.fn.text) l.fn.next))
