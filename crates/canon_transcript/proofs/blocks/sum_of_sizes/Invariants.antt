use Rattle.std.proofs.Common.{◌≡◌, ◌≤◌, ◌+◌, ◌*◌, ◌^◌, drop}
use Rattle.canon_transcript.specs.Blocks.{size_of_blocks}
use Rattle.canon_transcript.proofs.blocks.sum_of_sizes.Given as goal

-- the bytes so far and those of the blocks that are left are all; a size is below 2 ^ 64
abbrev pub invariant-loop-block : goal.invariant-loop-block
invariant-loop-block l = (l.bytes + size_of_blocks (drop l.block-index l.blocks) ≡ size_of_blocks l.blocks) × (l.bytes ≤ l.block-index * 2 ^ 64)
