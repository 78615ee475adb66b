use Rattle.std.proofs.Common.{◌≡◌, ◌++◌, drop, string_bytes, flat_map}
use Rattle.canon_transcript.specs.Text as spec
use Rattle.canon_transcript.proofs.events.print_words.Given as goal

-- the text so far and that of what is left are the whole
abbrev pub invariant-loop-word : goal.invariant-loop-word
invariant-loop-word l = string_bytes l.text ++ flat_map spec.word_text (drop l.word-index l.word-items) ≡ string_bytes l.fn.text ++ flat_map spec.word_text l.word-items
