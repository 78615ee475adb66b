use Rattle.std.proofs.Common.{Option, ap, arith, subst}
use Rattle.canon_context.proofs.Moves.{GuestLaws}
use Rattle.canon_context.specs.Core.{component_types}
use Rattle.canon_lower_parts.proofs.WordCases.{bare_case, payload_case}
use Rattle.canon_lower_parts.proofs.WordTypes.{no_payload, only_flat, some_payload}
use Rattle.canon_lower_parts.specs.Cases.{HasCase, payload_members}
use Rattle.canon_model.specs.Layout.{members_flat}
use Rattle.canon_types.specs.Table.{all_shapes, payload_in, shape_of}
use Rattle.canon_types.specs.declared.types.InterfaceType.{InterfaceType}
use Rattle.canon_typed.specs.Types.{IsPayloadOf}
use Rattle.canon_lower.proofs.words.lower_payload.Goals as goal

pub lower_case-requires-clause-room : goal.lower_case-requires-clause-room
lower_case-requires-clause-room g c =
    let t = component_types c.args.cx.now.core.now in
    omega (arith, c.requires.room, ap (λ (p : Option InterfaceType). members_flat (payload_members (payload_in (all_shapes t) p))) c.in-Some.is, only_flat (shape_of t c.in-Some.ty))

pub returns-in-None-clause-lowers : goal.returns-in-None-clause-lowers
returns-in-None-clause-lowers g c =
    let L : GuestLaws _ = record { seen = g.G.Guest.seen; moves = g.G.Guest.moves; stays = g.met.G.Guest.stays; goes_on = g.met.G.Guest.goes_on } in
    let a = c.args in
    let core = a.cx.now.core.now in
    let C = g.T.ComponentType in
    let unit = no_payload g.U.ComponentType.is_unit C.fits core.component.types (subst (λ (p : Option InterfaceType). IsPayloadOf g.U.ComponentType.is_unit C.fits core.component.types p) c.in-None.is c.requires.fits) in
    λ s h room. bare_case L a.cx.now.options core core s a.case g.U.ComponentType.is_unit C.walks g.T.Lower.gives core.component.types a.value.now c.lower_bare.new.dst unit c.ranges.case.fits c.memory-memory.ensures.small
    (omega (arith, c.lower_bare.ensures.count, room)) (subst (λ (p : Option InterfaceType). HasCase s a.case (payload_in (all_shapes (component_types core)) p)) c.in-None.is h) c.lower_bare.ensures.words

pub returns-in-Some-clause-lowers : goal.returns-in-Some-clause-lowers
returns-in-Some-clause-lowers g c =
    let L : GuestLaws _ = record { seen = g.G.Guest.seen; moves = g.G.Guest.moves; stays = g.met.G.Guest.stays; goes_on = g.met.G.Guest.goes_on } in
    let a = c.args in
    let core = a.cx.now.core.now in
    let C = g.T.ComponentType in
    let low = c.lower_case in
    let (unit, fits) = some_payload g.U.ComponentType.is_unit C.fits core.component.types c.in-Some.ty
    (subst (λ (p : Option InterfaceType). IsPayloadOf g.U.ComponentType.is_unit C.fits core.component.types p) c.in-Some.is c.requires.fits) in
    λ s h room. payload_case L a.cx.now.options core low.new.cx.core.now s a.case g.U.ComponentType.is_unit C.walks g.T.Lower.gives core.component.types a.value.now
    (shape_of (component_types core) c.in-Some.ty) low.new.dst low.result unit c.ranges.case.fits
    (omega (arith, low.ensures.count, room)) (subst (λ (p : Option InterfaceType). HasCase s a.case (payload_in (all_shapes (component_types core)) p)) c.in-Some.is h) low.ensures.lowers low.ensures.words
