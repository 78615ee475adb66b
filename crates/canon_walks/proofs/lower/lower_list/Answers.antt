use Rattle.std.proofs.Common.{Ok, subst, sym}
use Rattle.canon_context.specs.Core.{component_types}
use Rattle.canon_value_parts.specs.Elements.{element_in, list_value}
use Rattle.canon_plan.specs.Element.{list_shape}
use Rattle.canon_value_parts.specs.Words.{LowersTo}
use Rattle.canon_value_parts.specs.declared.spot.Spot.{Spot}
use Rattle.canon_value_parts.proofs.Listing.{row}
use Rattle.canon_context.proofs.Moves.{GuestLaws}
use Rattle.canon_value_parts.proofs.WordSteps.{placed_lowers, placed_refused}
use Rattle.canon_walks.proofs.lower.lower_list.Goals as goal

pub returns-in-Ok : goal.returns-in-Ok
returns-in-Ok g c =
    let a = c.args in
    let t = component_types a.core.now in
    let s = list_shape t (element_in a.list.now) in
    let r = row t (element_in a.list.now) c.requires.known 0 in
    let put = c.put_words in
    let L : GuestLaws _ = record { seen = g.G.Guest.seen; moves = g.G.Guest.moves; stays = g.met.G.Guest.stays; goes_on = g.met.G.Guest.goes_on } in
    record {
      lowers = subst (λ (to : Spot). LowersTo L.seen L.moves a.options a.core.now c.place_list.new.core a.dst.now put.new.dst a.from (Ok to) s (list_value a.list.now)) (sym put.ensures.spot)
          (placed_lowers L a.options a.core.now c.place_list.new.core a.dst.now put.new.dst a.from s (list_value a.list.now) c.in-Ok.block r.block r.words put.ensures.stays put.ensures.there c.in-Ok.ensures.places);
    }

pub returns-in-Err : goal.returns-in-Err
returns-in-Err g c =
    let a = c.args in
    let t = component_types a.core.now in
    let r = row t (element_in a.list.now) c.requires.known 0 in
    let L : GuestLaws _ = record { seen = g.G.Guest.seen; moves = g.G.Guest.moves; stays = g.met.G.Guest.stays; goes_on = g.met.G.Guest.goes_on } in
    record { lowers = placed_refused L a.options a.core.now c.place_list.new.core a.dst.now a.from (list_shape t (element_in a.list.now)) (list_value a.list.now) c.in-Err.fault r.block c.in-Err.ensures.places }
