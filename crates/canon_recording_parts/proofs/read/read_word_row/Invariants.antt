use Rattle.canon_recording_parts.specs.Format.{any_number, in_a_row}
use Rattle.canon_recording_parts.specs.Read.{IsReadSoFar}
use Rattle.canon_recording_parts.proofs.read.read_word_row.Given as goal

-- so many were read
abbrev pub invariant-loop : goal.invariant-loop
invariant-loop l = record {
  read : IsReadSoFar (in_a_row (any_number 8) l.counter) l.bytes l.fn.at l.at l.words;
}
