-- What stays where only the ledger changes.
use Rattle.std.proofs.Common.{◌≡◌, ◌∙◌, ap}
use Rattle.canon_context.specs.Core.{Parts}

-- it changed, and then again
pub only_ledger : {D G : Type 0} (core mid after : Parts D G) → mid ≡ record core { ledger = mid.ledger } → after ≡ record mid { ledger = after.ledger }
    → after ≡ record core { ledger = after.ledger }
only_ledger {D} {G} core mid after first second = second ∙ ap (λ (z : Parts D G). record z { ledger = after.ledger }) first
