use Rattle.std.proofs.Common.{arith, length, refl}
use Rattle.canon_model.specs.Text.{Spells, in_utf8, utf16}
use Rattle.canon_context.proofs.Moves.{GuestLaws}
use Rattle.canon_string.proofs.TextBlocks.{text_too_long}
use Rattle.canon_string.proofs.TextPaths.{utf16_stands, utf16_unasked, utf16_unfitted}
use Rattle.canon_string.proofs.store.put_utf16.Goals as goal

pub returns-then-count : goal.returns-then-count
returns-then-count g c =
    let a = c.args in
    let L : GuestLaws _ = record { seen = g.G.Guest.seen; moves = g.G.Guest.moves; stays = g.met.G.Guest.stays; goes_on = g.met.G.Guest.goes_on } in
    let (cs, (can, is)) = c.requires.text in
    let spells : Spells in_utf8 a.text.now cs = record { can = can; is = is } in
    record { puts = text_too_long L a.options a.core.now a.text.now cs spells utf16 c.requires.form (length a.text.now) c.requires.small refl (omega (arith, c.if-count.true)) }

pub returns-in-Err : goal.returns-in-Err
returns-in-Err g c =
    let a = c.args in
    let L : GuestLaws _ = record { seen = g.G.Guest.seen; moves = g.G.Guest.moves; stays = g.met.G.Guest.stays; goes_on = g.met.G.Guest.goes_on } in
    let (cs, (can, is)) = c.requires.text in
    let spells : Spells in_utf8 a.text.now cs = record { can = can; is = is } in
    record { puts = utf16_unasked L a.options a.core.now a.text.now cs spells c.ask.new.core c.in-Err.fault c.requires.form (omega (arith, c.if-count.false)) c.in-Err.ensures.asked }

pub returns-in-Ok-fit : goal.returns-in-Ok-fit
returns-in-Ok-fit g c =
    let a = c.args in
    let L : GuestLaws _ = record { seen = g.G.Guest.seen; moves = g.G.Guest.moves; stays = g.met.G.Guest.stays; goes_on = g.met.G.Guest.goes_on } in
    let (cs, (can, is)) = c.requires.text in
    let spells : Spells in_utf8 a.text.now cs = record { can = can; is = is } in
    let wrote = c.write_units-units in
    record {
      puts = utf16_stands L a.options a.core.now a.text.now cs spells c.ask.new.core c.as_slice_mut.result.now wrote.new.memory c.in-Ok.pointer wrote.result c.requires.form c.as_slice_mut.ensures.value c.in-Ok.ensures.asked
          wrote.ensures.writes wrote.ensures.widens c.fit.new.core c.in-Ok-fit.pointer (omega (arith, c.if-count.false)) c.in-Ok-fit.ensures.fits;
    }

pub returns-in-Err-fit : goal.returns-in-Err-fit
returns-in-Err-fit g c =
    let a = c.args in
    let L : GuestLaws _ = record { seen = g.G.Guest.seen; moves = g.G.Guest.moves; stays = g.met.G.Guest.stays; goes_on = g.met.G.Guest.goes_on } in
    let (cs, (can, is)) = c.requires.text in
    let spells : Spells in_utf8 a.text.now cs = record { can = can; is = is } in
    let wrote = c.write_units-units in
    record {
      puts = utf16_unfitted L a.options a.core.now a.text.now cs spells c.ask.new.core c.as_slice_mut.result.now wrote.new.memory c.in-Ok.pointer wrote.result c.requires.form c.as_slice_mut.ensures.value c.in-Ok.ensures.asked
          wrote.ensures.writes wrote.ensures.widens c.fit.new.core c.in-Err-fit.fault (omega (arith, c.if-count.false)) c.in-Err-fit.ensures.fits;
    }
