use Rattle.std.proofs.Common.{◌≡◌, [], drop, string_bytes}
use Rattle.std.specs.Prelude.{Some}
use Rattle.canon_transcript.specs.Text.{page}
use Rattle.canon_transcript.proofs.Numbered.{records_printing}
use Rattle.canon_transcript.proofs.text.transcript_text.Given as goal

-- the page so far, after the printing of what is left, is the whole
abbrev pub invariant-loop-item : goal.invariant-loop-item
invariant-loop-item l = records_printing (drop l.item-index l.item-items) (page (string_bytes l.text) l.next) ≡ records_printing l.item-items (page [] (Some 0))
