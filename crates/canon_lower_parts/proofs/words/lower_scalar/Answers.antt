use Rattle.canon_context.proofs.Moves.{GuestLaws}
use Rattle.canon_lower_parts.proofs.WordSteps.{lower_scalar_lowers, lower_scalar_room}
use Rattle.canon_types.specs.Table.{shape_of}
use Rattle.canon_lower_parts.proofs.words.lower_scalar.Goals as goal

pub bounds-dst-0 : goal.bounds-dst-0
bounds-dst-0 g c =
    let i = c.args.cx.now.core.now.component.types in
    lower_scalar_room (shape_of i.types c.args.ty) g.S.ScalarType.kind c.args.dst.now (g.met.S.ScalarType.is_scalar.shape i c.args.ty c.requires.fits) c.requires.words

pub returns-clause-lowers : goal.returns-clause-lowers
returns-clause-lowers g c =
    let L : GuestLaws _ = record { seen = g.G.Guest.seen; moves = g.G.Guest.moves; stays = g.met.G.Guest.stays; goes_on = g.met.G.Guest.goes_on } in
    let i = c.args.cx.now.core.now.component.types in
    lower_scalar_lowers L c.args.cx.now.options c.args.cx.now.core.now c.args.dst.now (shape_of i.types c.args.ty) g.S.ScalarType.kind (g.S.ComponentType.walks c.args.value) c.word.result c.memory-memory.ensures.small
    (g.met.S.ScalarType.is_scalar.shape i c.args.ty c.requires.fits) c.requires.words c.word.ensures
