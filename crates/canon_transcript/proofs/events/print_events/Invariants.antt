use Rattle.std.proofs.Common.{◌≡◌, ◌++◌, None, drop, string_bytes, []}
use Rattle.canon_transcript.specs.Text as spec
use Rattle.canon_transcript.proofs.events.print_events.Given as goal

-- the text so far and that of what is left are the whole
abbrev pub invariant-loop-event : goal.invariant-loop-event
invariant-loop-event l = string_bytes l.text ++ spec.events_text l.blocks.items l.asked l.left (drop l.event-index l.events) ≡ string_bytes l.fn.text ++ spec.events_text [] None l.served l.events
