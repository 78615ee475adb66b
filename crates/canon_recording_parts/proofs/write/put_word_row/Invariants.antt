use Rattle.std.proofs.Common.{take}
use Rattle.canon_recording_parts.specs.Format.{any_number, in_a_row}
use Rattle.canon_recording_parts.specs.Written.{IsAdded}
use Rattle.canon_recording_parts.proofs.write.put_word_row.Given as goal

-- so many were written
abbrev pub invariant-loop-word : goal.invariant-loop-word
invariant-loop-word l = record {
  added : IsAdded (in_a_row (any_number 8) l.word-index) (take l.word-index l.words) l.fn.bytes.items l.bytes.items;
}
