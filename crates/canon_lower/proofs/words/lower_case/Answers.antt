use Rattle.std.proofs.Common.{Ok}
use Rattle.canon_context.proofs.Moves.{GuestLaws}
use Rattle.canon_context.specs.Core.{component_types}
use Rattle.canon_lower_parts.proofs.WordSteps.{moved_lowers}
use Rattle.canon_passing.proofs.Words.{first_stay}
use Rattle.canon_model.specs.Layout.{flat}
use Rattle.canon_types.specs.Table.{shape_of}
use Rattle.canon_typed.specs.Typed.{walked_shaped}
use Rattle.canon_lower.proofs.words.lower_case.Goals as goal

pub returns-in-Ok-clause-lowers : goal.returns-in-Ok-clause-lowers
returns-in-Ok-clause-lowers g c =
    let L : GuestLaws _ = record { seen = g.G.Guest.seen; moves = g.G.Guest.moves; stays = g.met.G.Guest.stays; goes_on = g.met.G.Guest.goes_on } in
    let a = c.args in
    let core = a.cx.now.core.now in
    let s = shape_of (component_types core) a.ty in
    moved_lowers L a.cx.now.options core c.lower_at.new.cx.core.now s c.lower_at.new.dst c.clear_from.new.dst 1 1 (g.T.ComponentType.walks a.value.now) (g.T.Lower.gives core.component.types s a.value.now) (Ok tt)
    (λ t has. walked_shaped g.T.ComponentType.fits g.T.ComponentType.walks g.T.ComponentType.means g.met.T.ComponentType.typed
    g.met.T.ComponentType.walked a.value.now core.component.types a.ty t c.requires.fits has) (first_stay 1
    c.lower_at.new.at (flat s) c.lower_at.new.dst c.clear_from.new.dst c.in-Ok.ensures.end c.clear_from.ensures.stays)
    c.in-Ok.ensures.lowers
