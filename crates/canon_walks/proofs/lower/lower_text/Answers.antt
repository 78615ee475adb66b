use Rattle.std.proofs.Common.{Ok, refl, subst, sym}
use Rattle.canon_model.specs.Layout.{flat}
use Rattle.canon_model.specs.Shape.{string}
use Rattle.canon_value_parts.specs.Words.{LowersTo}
use Rattle.canon_value_parts.specs.declared.spot.Spot.{Spot}
use Rattle.canon_val.specs.declared.val.Val.TheVariants as val
use Rattle.canon_context.proofs.Moves.{GuestLaws}
use Rattle.canon_value_parts.proofs.WordSteps.{placed_lowers, placed_refused}
use Rattle.canon_walks.proofs.lower.lower_text.Goals as goal

pub returns-in-Ok : goal.returns-in-Ok
unfolding flat
returns-in-Ok g c =
    let a = c.args in
    let put = c.put_words in
    let L : GuestLaws _ = record { seen = g.G.Guest.seen; moves = g.G.Guest.moves; stays = g.met.G.Guest.stays; goes_on = g.met.G.Guest.goes_on } in
    record {
      lowers = subst (λ (to : Spot). LowersTo L.seen L.moves a.options a.core.now c.place_text.new.core a.dst.now put.new.dst a.from (Ok to) string (val.String a.text.now)) (sym put.ensures.spot)
          (placed_lowers L a.options a.core.now c.place_text.new.core a.dst.now put.new.dst a.from string (val.String a.text.now) c.in-Ok.block refl refl put.ensures.stays put.ensures.there c.in-Ok.ensures.places);
    }

pub returns-in-Err : goal.returns-in-Err
returns-in-Err g c =
    let a = c.args in
    let L : GuestLaws _ = record { seen = g.G.Guest.seen; moves = g.G.Guest.moves; stays = g.met.G.Guest.stays; goes_on = g.met.G.Guest.goes_on } in
    record { lowers = placed_refused L a.options a.core.now c.place_text.new.core a.dst.now a.from string (val.String a.text.now) c.in-Err.fault refl c.in-Err.ensures.places }
