use Rattle.std.proofs.Common.{◌-◌, arith}
use Rattle.canon_context.proofs.Moves.{GuestLaws}
use Rattle.canon_context.specs.Core.{component_types}
use Rattle.canon_lower_parts.proofs.WordSteps.{at_lowers}
use Rattle.canon_types.specs.Table.{shape_of}
use Rattle.canon_typed.specs.Typed.{walked_shaped}
use Rattle.canon_example_record.proofs.note.lower_field.Goals as goal

pub returns-clause-lowers : goal.returns-clause-lowers
returns-clause-lowers g c =
    let L : GuestLaws _ = record { seen = g.G.Guest.seen; moves = g.G.Guest.moves; stays = g.met.G.Guest.stays; goes_on = g.met.G.Guest.goes_on } in
    let a = c.args in
    let core = a.cx.now.core.now in
    let s = shape_of (component_types core) a.ty in
    let low = c.linear_lower_to_flat in
    at_lowers L a.cx.now.options core low.new.cx.core.now s a.dst.now low.new.dst a.at (a.end - a.at) (g.T.ComponentType.walks a.value.now)
    (g.T.Lower.gives core.component.types s a.value.now) low.result
    (λ t has. walked_shaped g.T.ComponentType.fits g.T.ComponentType.walks g.T.ComponentType.means g.met.T.ComponentType.typed g.met.T.ComponentType.walked a.value.now core.component.types a.ty t c.requires.fits has)
    (omega (arith, c.requires.words)) (omega (arith, c.requires.words, c.requires.room)) (omega (arith, low.ensures.count, c.requires.words, low.auto.dst, c.requires.room)) low.ensures.lowers
