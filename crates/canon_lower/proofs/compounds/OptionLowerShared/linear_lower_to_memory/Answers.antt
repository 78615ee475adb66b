use Rattle.std.proofs.Common.{Option, subst}
use Rattle.canon_context.specs.Core.{component_types}
use Rattle.canon_types.specs.Table.{shape_of}
use Rattle.canon_typed.specs.Meaning.{OptionMeans}
use Rattle.canon_lower_parts.proofs.Seen.{option_seen}
use Rattle.canon_lower_parts.specs.Gives.{option_gives}
use Rattle.canon_lower_parts.specs.Stores.{TypedStores}
use Rattle.canon_lower.proofs.compounds.OptionLowerShared.linear_lower_to_memory.Goals as goal

pub returns-clause-stores : goal.returns-clause-stores
returns-clause-stores g c =
    let a = c.args in
    let core = a.cx.now.core.now in
    let s = shape_of (component_types core) a.ty in
    let low = c.linear_lower_to_memory in
    let W = g.T.ComponentType.walks in
    let f = g.T.LowerShared.gives in
    subst (λ (v : Option g.row.T.Denot). TypedStores g.G.Guest.seen g.G.Guest.moves a.cx.now.options core low.new.cx.core.now s a.offset (OptionMeans W v) (option_gives f core.component.types s v) low.result) c.as_ref.ensures.value
    (option_seen W f core.component.types s (λ Has gs. TypedStores g.G.Guest.seen g.G.Guest.moves a.cx.now.options core low.new.cx.core.now s a.offset Has gs low.result) c.as_ref.result low.ensures.stores)
