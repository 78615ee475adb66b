use Rattle.std.proofs.Common.{length}
use Rattle.std.proofs.Common.{arith, ap}
use Rattle.canon_ledger.specs.Books.{Context}
use Rattle.canon_ledger.proofs.context.CallContext.lender.Goals as goal
use Rattle.canon_ledger.proofs.ContextLemmas.{lender_at, length_paired, length_paired_tables}

pub index-requires : goal.index-requires
index-requires c =
    let n = length_paired_tables c.self.inside.tables.items c.self.inside.lenders.items c.self.invariant in let v = ap (λ (k : Context). length k.scope.lenders) c.self.view_is in let h = c.requires in omega arith

pub index-requires-2 : goal.index-requires-2
index-requires-2 c =
    let n = length_paired c.self.inside.tables.items c.self.inside.lenders.items c.self.invariant in let v = ap (λ (k : Context). length k.scope.lenders) c.self.view_is in let h = c.requires in omega arith

pub returns : goal.returns
returns c =
    lender_at c.self.inside.tables.items c.self.inside.lenders.items c.args.self.now.scope.lenders c.args.place c.index.result.now c.index-2.result.now
    c.self.invariant (ap (λ (k : Context). k.scope.lenders) c.self.view_is) c.requires c.index.ensures c.index-2.ensures
