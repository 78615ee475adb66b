use Rattle.std.proofs.Common.{arith, subst, sym, ℕ}
use Rattle.canon_context.proofs.Moves.{GuestLaws}
use Rattle.canon_context.specs.Core.{component_types}
use Rattle.canon_types.specs.Table.{shape_of}
use Rattle.canon_lower_parts.proofs.ScalarSteps.{scalar_few, lower_scalar_stores}
use Rattle.canon_lower_parts.specs.Scalars.{IsWordOfScalar}
use Rattle.canon_lower_parts.proofs.words.store_scalar.Goals as goal
use Rattle.canon_plan.proofs.Lookups.{item_size}

pub put-requires-clause-few : goal.put-requires-clause-few
put-requires-clause-few g c =
    let core = c.args.cx.now.core.now in
    let shape = g.met.S.ScalarType.is_scalar.shape core.component.types c.args.ty c.requires.fits in
    omega (arith, item_size (component_types core) c.types.result.now c.args.ty c.canonical_abi.result.now c.types.ensures c.canonical_abi.ensures, scalar_few (shape_of (component_types core) c.args.ty) g.S.ScalarType.kind shape)

pub returns-clause-stores : goal.returns-clause-stores
returns-clause-stores g c =
    let L : GuestLaws _ = record { seen = g.G.Guest.seen; moves = g.G.Guest.moves; stays = g.met.G.Guest.stays; goes_on = g.met.G.Guest.goes_on } in
    let a = c.args in
    let core = a.cx.now.core.now in
    let shape = g.met.S.ScalarType.is_scalar.shape core.component.types a.ty c.requires.fits in
    lower_scalar_stores L a.cx.now.options core c.put.new.cx.core.now (shape_of (component_types core) a.ty) g.S.ScalarType.kind a.offset c.get_u64.result c.canonical_abi.result.now.size32
    (g.S.ComponentType.walks a.value) c.memory-memory.ensures.small shape c.requires.room
    (item_size (component_types core) c.types.result.now a.ty c.canonical_abi.result.now c.types.ensures c.canonical_abi.ensures) c.put.ensures.put
    (subst (λ (w : ℕ). IsWordOfScalar g.S.ScalarType.kind (g.S.ComponentType.walks a.value) w) (sym c.get_u64.ensures) c.word.ensures)
