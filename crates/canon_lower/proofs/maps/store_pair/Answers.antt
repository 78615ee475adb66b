use Rattle.std.proofs.Common.{ap, arith, false, subst, ◌∙◌, ◌+◌, ◌≡◌, ℕ}
use Rattle.canon_context.proofs.Moves.{GuestLaws}
use Rattle.canon_context.specs.Core.{component_types}
use Rattle.canon_model.specs.Layout.{begins, ends, size}
use Rattle.canon_types.specs.Instance.{Instance}
use Rattle.canon_types.specs.Table.{shape_of}
use Rattle.canon_lower_parts.proofs.PairSteps.{first_inside, pair_stops, pair_stores, second_inside}
use Rattle.canon_lower_parts.proofs.Stood.{value_stood}
use Rattle.canon_lower_parts.specs.Stores.{TypedStores}
use Rattle.canon_passing.proofs.Passing.{handles_instance}
use Rattle.canon_lower.proofs.maps.store_pair.Goals as goal

pub linear_lower_to_memory-requires-clause-room : goal.linear_lower_to_memory-requires-clause-room
linear_lower_to_memory-requires-clause-room g c =
    let t = component_types c.args.cx.now.core.now in
    omega (arith, c.requires.room, first_inside (shape_of t c.args.pair.now.key) (shape_of t c.args.pair.now.value))

pub linear_lower_to_memory-requires-2-clause-room : goal.linear_lower_to_memory-requires-2-clause-room
linear_lower_to_memory-requires-2-clause-room g c =
    let a = c.args in
    let core = a.cx.now.core.now in
    let b = c.linear_lower_to_memory.new.cx.core.now in
    let t = component_types core in
    let first = c.in-Ok.ensures.stores in
    let same : size false (shape_of (component_types b) a.pair.now.value) ≡ size false (shape_of t a.pair.now.value) = ap (λ (i : Instance). size false (shape_of i.types a.pair.now.value)) (handles_instance core b first.same) in
    omega (arith, c.requires.room, c.from.ensures, c.requires.pair.second, same, second_inside (shape_of t a.pair.now.key) (shape_of t a.pair.now.value), first.attempt.lowering.goes.no_shorter)

pub returns-in-Err-clause-stores : goal.returns-in-Err-clause-stores
returns-in-Err-clause-stores g c =
    let L : GuestLaws _ = record { seen = g.G.Guest.seen; moves = g.G.Guest.moves; stays = g.met.G.Guest.stays; goes_on = g.met.G.Guest.goes_on } in
    let a = c.args in
    let core = a.cx.now.core.now in
    let i = core.component.types in
    let s = shape_of i.types a.pair.now.key in
    let u = shape_of i.types a.pair.now.value in
    pair_stops s u L a.cx.now.options core c.linear_lower_to_memory.new.cx.core.now a.at (g.K.ComponentType.walks a.key.now) (g.V.ComponentType.walks a.value.now)
    (g.K.LowerShared.gives i s a.key.now) (g.V.LowerShared.gives i u a.value.now) c.requires.room
    c.in-Err.fault c.in-Err.ensures.stores

pub returns-clause-stores : goal.returns-clause-stores
returns-clause-stores g c =
    let L : GuestLaws _ = record { seen = g.G.Guest.seen; moves = g.G.Guest.moves; stays = g.met.G.Guest.stays; goes_on = g.met.G.Guest.goes_on } in
    let a = c.args in
    let core = a.cx.now.core.now in
    let i = core.component.types in
    let b = c.linear_lower_to_memory.new.cx.core.now in
    let d = c.linear_lower_to_memory-2.new.cx.core.now in
    let r = c.linear_lower_to_memory-2.result in
    let s = shape_of i.types a.pair.now.key in
    let u = shape_of i.types a.pair.now.value in
    let V = g.V.ComponentType.walks in
    let f = g.V.LowerShared.gives in
    let place : a.at + c.from.result ≡ a.at + begins false (ends false 0 s) u = ap (λ (n : ℕ). a.at + n) (c.from.ensures ∙ c.requires.pair.second) in
    let second = value_stood L.seen L.moves a.cx.now.options V f i b d c.linear_lower_to_memory.new.cx.options a.pair.now.value (a.at + c.from.result) a.value.now r c.in-Ok.ensures.same_options
    (handles_instance core b c.in-Ok.ensures.stores.same)
    c.linear_lower_to_memory-2.ensures.stores in
    pair_stores s u L a.cx.now.options core b a.at (g.K.ComponentType.walks a.key.now) (V a.value.now) (g.K.LowerShared.gives i s a.key.now) (f i u a.value.now) c.requires.room d r c.in-Ok.ensures.stores
    (subst (λ (n : ℕ). TypedStores L.seen L.moves a.cx.now.options b d u n (V a.value.now) (f i u a.value.now) r) place second)
