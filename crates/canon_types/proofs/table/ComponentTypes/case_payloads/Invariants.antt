-- The payloads so far.
use Rattle.std.proofs.Common.{◌≡◌, map, take}
use Rattle.canon_types.proofs.table.ComponentTypes.case_payloads.Given as goal

abbrev pub invariant-loop-case : goal.invariant-loop-case
invariant-loop-case l = l.payloads.items ≡ map (λ c. c.1) (take l.case-index l.cases)
