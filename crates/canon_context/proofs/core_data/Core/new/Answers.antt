use Rattle.std.proofs.Common.{ap, ◌∙◌, ◌≡◌}
use Rattle.canon_ledger.specs.Ledger.{HostIndexes, new_ledger}
use Rattle.canon_context.proofs.core_data.Core.new.Goals as goal

pub returns : goal.returns
returns g c =
    let e : c.in_ok-ledger.ledger ≡ new_ledger 256 c.args.handle_limit 0 = c.in_ok-ledger.ensures ∙ ap (λ (h : HostIndexes). new_ledger 256 c.args.handle_limit h.generation) c.new.ensures in
    first_of (rw e, cc)
