use Rattle.std.proofs.Common.{Result, refl, subst, sym}
use Rattle.canon_context.proofs.Moves.{GuestLaws}
use Rattle.canon_context.specs.Core.{component_types}
use Rattle.canon_types.specs.Table.{shape_of}
use Rattle.canon_typed.specs.Meaning.{ResultMeans}
use Rattle.canon_lower_parts.proofs.ResultSteps.{error_room, error_stores, ok_room, ok_stores}
use Rattle.canon_lower_parts.specs.Gives.{result_gives}
use Rattle.canon_lower_parts.specs.Stores.{TypedStores}
use Rattle.canon_lower.proofs.compounds.store_result.Goals as goal

pub store_payload-requires-clause-room : goal.store_payload-requires-clause-room
store_payload-requires-clause-room g c =
    let p = c.put_result-part in
    ok_room g.T.ComponentType.is_unit g.A.ComponentType.fits g.E.ComponentType.is_unit g.B.ComponentType.fits c.args.cx.now.core.now p.new.cx.core.now c.args.ty c.args.offset 0 p.result.0 p.result.1 p.ensures.put refl c.requires.room

pub store_payload-requires-in-Err-clause-room : goal.store_payload-requires-in-Err-clause-room
store_payload-requires-in-Err-clause-room g c =
    let p = c.put_result-part-in-Err in
    error_room g.T.ComponentType.is_unit g.A.ComponentType.fits g.E.ComponentType.is_unit g.B.ComponentType.fits c.args.cx.now.core.now p.new.cx.core.now c.args.ty c.args.offset 1 p.result.0 p.result.1 p.ensures.put refl c.requires.room

pub returns-in-Ok-clause-stores : goal.returns-in-Ok-clause-stores
returns-in-Ok-clause-stores g c =
    let L : GuestLaws _ = record { seen = g.G.Guest.seen; moves = g.G.Guest.moves; stays = g.met.G.Guest.stays; goes_on = g.met.G.Guest.goes_on } in
    let a = c.args in
    let core = a.cx.now.core.now in
    let z = shape_of (component_types core) a.ty in
    let p = c.put_result-part in
    let s = c.store_payload in
    let gives = result_gives g.T.ComponentType.is_unit g.A.Lower.gives g.E.ComponentType.is_unit g.B.Lower.gives core.component.types z in
    subst (λ (v : Result g.row.A.Denot g.row.B.Denot). TypedStores L.seen L.moves a.cx.now.options core s.new.cx.core.now z a.offset (ResultMeans g.T.ComponentType.is_unit g.A.ComponentType.walks g.E.ComponentType.is_unit g.B.ComponentType.walks v) (gives v) s.result) (sym c.in-Ok.is)
    (ok_stores g.T.ComponentType.is_unit g.A.ComponentType.fits g.E.ComponentType.is_unit g.B.ComponentType.fits core p.new.cx.core.now a.ty a.offset 0 p.result.0 p.result.1 p.ensures.put L a.cx.now.options c.requires.room
    g.A.ComponentType.walks g.A.Lower.gives g.T.ComponentType.is_unit _ s.new.cx.core.now p.new.cx.options s.result p.ensures.same_options s.ensures.stores refl refl)

pub returns-in-Err-clause-stores : goal.returns-in-Err-clause-stores
returns-in-Err-clause-stores g c =
    let L : GuestLaws _ = record { seen = g.G.Guest.seen; moves = g.G.Guest.moves; stays = g.met.G.Guest.stays; goes_on = g.met.G.Guest.goes_on } in
    let a = c.args in
    let core = a.cx.now.core.now in
    let z = shape_of (component_types core) a.ty in
    let p = c.put_result-part-in-Err in
    let s = c.store_payload-in-Err in
    let gives = result_gives g.T.ComponentType.is_unit g.A.Lower.gives g.E.ComponentType.is_unit g.B.Lower.gives core.component.types z in
    subst (λ (v : Result g.row.A.Denot g.row.B.Denot). TypedStores L.seen L.moves a.cx.now.options core s.new.cx.core.now z a.offset (ResultMeans g.T.ComponentType.is_unit g.A.ComponentType.walks g.E.ComponentType.is_unit g.B.ComponentType.walks v) (gives v) s.result) (sym c.in-Err.is)
    (error_stores g.T.ComponentType.is_unit g.A.ComponentType.fits g.E.ComponentType.is_unit g.B.ComponentType.fits core p.new.cx.core.now a.ty a.offset 1 p.result.0 p.result.1 p.ensures.put L a.cx.now.options c.requires.room
    g.B.ComponentType.walks g.B.Lower.gives g.E.ComponentType.is_unit _ s.new.cx.core.now p.new.cx.options s.result p.ensures.same_options s.ensures.stores refl refl)
