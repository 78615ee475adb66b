use Rattle.std.proofs.Common.{◌≡◌, drop, fold}
use Rattle.canon_transcript.specs.Blocks.{blocks_after, blocks_left}
use Rattle.canon_transcript.proofs.blocks.blocks_left.Given as goal

-- the blocks so far and the events that are left give the blocks of all
abbrev pub invariant-loop-event : goal.invariant-loop-event
invariant-loop-event l = fold blocks_after l.blocks.items (drop l.event-index l.events) ≡ blocks_left l.events
