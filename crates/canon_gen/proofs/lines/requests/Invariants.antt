use Rattle.std.proofs.Common.{◌≡◌, ◌≤◌, ◌+◌, drop}
use Rattle.canon_gen.specs.Lines as spec
use Rattle.canon_gen.proofs.lines.requests.Given as goal

-- those so far and those that are left are all
abbrev pub invariant-loop-event : goal.invariant-loop-event
invariant-loop-event l = (l.count + spec.request_count (drop l.event-index l.events) ≡ spec.request_count l.events) × (l.count ≤ l.event-index)
