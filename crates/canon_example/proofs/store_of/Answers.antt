use Rattle.std.proofs.Common.{◌∙◌, ap}
use Rattle.canon_example.proofs.store_of.Goals as goal

pub new-requires-3-clause-component : goal.new-requires-3-clause-component
new-requires-3-clause-component g c = c.check.ensures.0 c.if-not-check.false

pub returns-clause-handles : goal.returns-clause-handles
returns-clause-handles g c = ap (λ store. store.core.ledger) c.new-4.ensures ∙ ap (λ core. core.ledger) c.in_ok-core.ensures

pub returns-clause-guest : goal.returns-clause-guest
returns-clause-guest g c =
    ap (λ store. store.core.guest.guest.guest.notes) c.new-4.ensures
    ∙ (ap (λ core. core.guest.guest.guest.notes) c.in_ok-core.ensures
    ∙ (ap (λ journaled. journaled.guest.guest.notes) c.new-guest.ensures ∙ (ap (λ watched. watched.guest.notes) c.new-watched.ensures ∙ c.new-2.ensures.empty.1)))

pub returns-clause-memory : goal.returns-clause-memory
returns-clause-memory g c = ap (λ store. store.core.memory) c.new-4.ensures ∙ (ap (λ core. core.memory) c.in_ok-core.ensures ∙ ap (λ m. m.bytes) c.in_ok-memory.ensures.zeros)
