use Rattle.std.proofs.Common.{ap, ◌∙◌, ◌++◌, ◌∷◌, []}
use Rattle.canon_ledger.specs.Books.{ledger_of}
use Rattle.canon_ledger.proofs.DidLemmas.{holds-enter, entered}
use Rattle.canon_ledger.proofs.ledger.Ledger.enter.Goals as goal

pub invariant_of-self-2 : goal.invariant_of-self-2
invariant_of-self-2 c =
    holds-enter (ledger_of c.self.inside.handles.tables.items c.self.inside.handles.counter c.self.inside.handles.scopes.items c.self.inside.host.indexes)
    (ledger_of c.self.inside.handles.tables.items c.self.inside.handles.counter c.push_reserved.new.self.items c.self.inside.host.indexes)
    (entered c.self.inside.handles.tables.items c.self.inside.handles.counter c.self.inside.handles.scopes.items c.self.inside.host.indexes
    c.new-context.result c.push_reserved.new.self.items c.new-context.ensures
    (c.push_reserved.ensures.items ∙ ap (λ l. l ++ c.new-context.result ∷ []) c.reserve.ensures.items)) c.self.invariant
