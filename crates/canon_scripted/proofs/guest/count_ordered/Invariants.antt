use Rattle.std.proofs.Common.{◌≡◌, ◌≤◌, ◌+◌, drop}
use Rattle.canon_scripted.specs.Scripted.{breaches, marks_of_origins}
use Rattle.canon_scripted.proofs.guest.count_ordered.Given as goal

abbrev pub invariant-loop-own : goal.invariant-loop-own
invariant-loop-own l = record { few : l.count ≤ l.own-index; done : l.count + breaches (marks_of_origins (drop l.own-index l.answers)) ≡ breaches (marks_of_origins l.answers) }
