use Rattle.std.proofs.Common.{◌≡◌, drop}
use Rattle.canon_conversions.specs.Conversions as spec
use Rattle.canon_conversions.proofs.conversions.call_among.Given as goal

-- the call is among those that are left
abbrev pub invariant-loop-call : goal.invariant-loop-call
invariant-loop-call l = spec.call_among (drop l.call-index l.calls) l.name ≡ spec.call_among l.calls l.name
