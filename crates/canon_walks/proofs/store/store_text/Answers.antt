use Rattle.std.proofs.Common.{List, arith, refl, subst, ℕ}
use Rattle.canon_lowering.specs.Storing.{IsPair}
use Rattle.canon_model.specs.Shape.{string}
use Rattle.canon_context.proofs.Moves.{GuestLaws}
use Rattle.canon_value_parts.proofs.Walks.{placed_stop, value_text_told}
use Rattle.canon_walks.proofs.store.store_text.Goals as goal

pub returns-in-Ok : goal.returns-in-Ok
returns-in-Ok g c =
    let a = c.args in
    let placed = c.place_text.new.core in
    let b = c.in-Ok.block in
    let there = c.in-Ok.ensures.places in
    let L : GuestLaws _ = record { seen = g.G.Guest.seen; moves = g.G.Guest.moves; stays = g.met.G.Guest.stays; goes_on = g.met.G.Guest.goes_on } in
    let pair : IsPair placed.memory c.put_pair.new.memory a.at b.pointer b.length = subst (λ (xs : List ℕ). IsPair xs c.put_pair.new.memory a.at b.pointer b.length) c.as_slice_mut.ensures.value c.put_pair.ensures in
    record {
      stores = value_text_told L a.options a.core.now placed c.put_pair.new.memory a.at _ a.place b
          (omega (arith, c.requires.room, there.lowered.lowering.goes.no_shorter)) there.lowered.lowering.small there.narrow.0 there.narrow.1 pair there;
    }

pub returns-in-Err : goal.returns-in-Err
returns-in-Err g c =
    let L : GuestLaws _ = record { seen = g.G.Guest.seen; moves = g.G.Guest.moves; stays = g.met.G.Guest.stays; goes_on = g.met.G.Guest.goes_on } in
    record { stores = placed_stop L c.args.options c.args.core.now c.place_text.new.core string c.args.at _ c.args.place c.in-Err.fault refl c.in-Err.ensures.places }
