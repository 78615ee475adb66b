use Rattle.std.proofs.Common.{ap, ◌∙◌, arith, ◌-◌}
use Rattle.std.specs.Vec.{vec_len}
use Rattle.canon_ledger.specs.Handles.{can_leave}
use Rattle.canon_ledger.specs.Ledger.{LedgerState}
use Rattle.canon_ledger.specs.Books.{ledger_of}
use Rattle.canon_ledger.proofs.DidLemmas.{holds-leave, left}
use Rattle.canon_ledger.proofs.ledger.Ledger.leave.Goals as goal

pub invariant_of-self : goal.invariant_of-self
invariant_of-self c =
    holds-leave (ledger_of c.self.inside.handles.tables.items c.self.inside.handles.counter c.self.inside.handles.scopes.items c.self.inside.host.indexes)
    (ledger_of c.self.inside.handles.tables.items c.self.inside.handles.counter c.pop-context.new.self.items c.self.inside.host.indexes)
    (ap (λ (l : LedgerState). can_leave l.handles) c.self.view_is ∙ c.requires)
    (left c.self.inside.handles.tables.items c.self.inside.handles.counter c.self.inside.handles.scopes.items c.self.inside.host.indexes c.pop-context.new.self.items (vec_len c.self.inside.handles.scopes - 1) (omega arith) c.pop-context.ensures.rest) c.self.invariant
