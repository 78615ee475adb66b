use Rattle.std.proofs.Common.{◌-◌, List, ap, arith, subst}
use Rattle.std.specs.Slice.{IsGetResult}
use Rattle.canon_ledger.specs.declared.host.TableSlot.{TableSlot}
use Rattle.canon_ledger.specs.Books.{KeptIndexes}
use Rattle.canon_ledger.proofs.ContextLemmas.{no_slot, slot_found}
use Rattle.canon_ledger.proofs.host.HostResourceData.slot.Goals as goal

pub returns-then-index-eq0 : goal.returns-then-index-eq0
returns-then-index-eq0 c = no_slot c.self.inside.slots.items c.self.inside.generation c.args.self.now.indexes (ap (λ (k : KeptIndexes). k.indexes) c.self.view_is) c.args.index c.if-index-eq0.true

pub returns : goal.returns
returns c = slot_found c.self.inside.slots.items c.self.inside.generation c.args.self.now.indexes (ap (λ (k : KeptIndexes). k.indexes) c.self.view_is)
    c.args.index c.get.result c.copied.result (let f = c.if-index-eq0.false in omega arith)
    (subst (λ (l : List TableSlot). IsGetResult l (c.args.index - 1) (c.args.index - 1) c.get.result) c.deref.ensures.value c.get.ensures.lookup)
    c.copied.ensures
