use Rattle.std.proofs.Common.{◌≡◌, drop, string_bytes}
use Rattle.canon_transcript.specs.Text.{page, values_printing}
use Rattle.canon_transcript.proofs.values.print_values.Given as goal

-- the page so far, after the printing of what is left, is the whole
abbrev pub invariant-loop-value : goal.invariant-loop-value
invariant-loop-value l = values_printing (drop l.value-index l.values) (page (string_bytes l.text) l.next) ≡ values_printing l.values (page (string_bytes l.fn.text) l.fn.next)
