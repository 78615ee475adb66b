use Rattle.std.proofs.Common.{ap, arith}
use Rattle.canon_ledger.specs.Books.{KeptIndexes}
use Rattle.canon_ledger.proofs.host.HostResourceData.write.Goals as goal
use Rattle.canon_ledger.proofs.ContextLemmas.{host_pushed}

pub returns-else-place-len : goal.returns-else-place-len
returns-else-place-len c =
    host_pushed c.self.inside.slots.items c.push_reserved.new.self.items c.self.inside.generation c.args.index c.args.instance c.args.dtor c.args.self.now.indexes
    (ap (λ (k : KeptIndexes). k.indexes) c.self.view_is) c.requires.positive c.requires.next (let l = c.len.ensures in let f = c.if-place-len.false in omega arith) c.push_reserved.ensures.items
