use Rattle.std.proofs.Common.{◌≡◌, ◌++◌, drop, string_bytes}
use Rattle.canon_transcript.specs.Text as spec
use Rattle.canon_transcript.proofs.events.print_blocks.Given as goal

-- the text so far and that of what is left are the whole
abbrev pub invariant-loop-block : goal.invariant-loop-block
invariant-loop-block l = string_bytes l.text ++ spec.block_lines l.memory (drop l.block-index l.blocks) ≡ string_bytes l.fn.text ++ spec.block_lines l.memory l.blocks
