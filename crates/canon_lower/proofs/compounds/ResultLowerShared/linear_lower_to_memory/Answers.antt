use Rattle.std.proofs.Common.{Result, subst}
use Rattle.canon_context.specs.Core.{component_types}
use Rattle.canon_types.specs.Table.{shape_of}
use Rattle.canon_typed.specs.Meaning.{ResultMeans}
use Rattle.canon_lower_parts.proofs.Seen.{lower_result_seen}
use Rattle.canon_lower_parts.specs.Gives.{result_gives}
use Rattle.canon_lower_parts.specs.Stores.{TypedStores}
use Rattle.canon_lower.proofs.compounds.ResultLowerShared.linear_lower_to_memory.Goals as goal

pub returns-clause-stores : goal.returns-clause-stores
returns-clause-stores g c =
    let a = c.args in
    let core = a.cx.now.core.now in
    let s = shape_of (component_types core) a.ty in
    let low = c.store_result in
    let T = g.T.ComponentType in
    let E = g.E.ComponentType in
    let f = g.T.LowerShared.gives in
    let h = g.E.LowerShared.gives in
    subst (λ (v : Result g.row.T.Denot g.row.E.Denot). TypedStores g.G.Guest.seen g.G.Guest.moves a.cx.now.options core low.new.cx.core.now s a.offset (ResultMeans T.is_unit T.walks E.is_unit E.walks v)
    (result_gives T.is_unit f E.is_unit h core.component.types s v) low.result) c.as_ref.ensures.value
    (lower_result_seen T.is_unit T.walks f E.is_unit E.walks h core.component.types s (λ Has gs. TypedStores g.G.Guest.seen g.G.Guest.moves a.cx.now.options core low.new.cx.core.now s a.offset Has gs low.result) c.as_ref.result
    low.ensures.stores)
