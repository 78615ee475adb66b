use Rattle.std.proofs.Common.{arith, length, refl}
use Rattle.canon_context.proofs.Moves.{GuestLaws}
use Rattle.canon_string.proofs.TextBlocks.{text_too_long}
use Rattle.canon_string.proofs.TextPaths.{utf8_stands, utf8_unasked}
use Rattle.canon_model.specs.Text.{utf8}
use Rattle.canon_string.proofs.store.put_utf8.Goals as goal

pub returns-then-count-gt-MAX_STRING_BYTES : goal.returns-then-count-gt-MAX_STRING_BYTES
returns-then-count-gt-MAX_STRING_BYTES g c =
    let a = c.args in
    let L : GuestLaws _ = record { seen = g.G.Guest.seen; moves = g.G.Guest.moves; stays = g.met.G.Guest.stays; goes_on = g.met.G.Guest.goes_on } in
    let (cs, (can, is)) = c.requires.text in
    record { puts = text_too_long L a.options a.core.now a.text.now cs (record { can = can; is = is }) utf8 c.requires.form (length a.text.now) c.requires.small refl (omega (arith, c.if-count-gt-MAX_STRING_BYTES.true)) }

pub returns-in-Ok : goal.returns-in-Ok
returns-in-Ok g c =
    let a = c.args in
    let L : GuestLaws _ = record { seen = g.G.Guest.seen; moves = g.G.Guest.moves; stays = g.met.G.Guest.stays; goes_on = g.met.G.Guest.goes_on } in
    let (cs, (can, is)) = c.requires.text in
    record {
      puts = utf8_stands L a.options a.core.now a.text.now cs (record { can = can; is = is }) c.ask.new.core c.as_slice_mut.result.now
          c.write_bytes.new.memory c.in-Ok.pointer c.requires.form c.as_slice_mut.ensures.value c.in-Ok.ensures.asked
          (omega (arith, c.if-count-gt-MAX_STRING_BYTES.false)) c.write_bytes.ensures.writes c.write_bytes.ensures.there;
    }

pub returns-in-Err : goal.returns-in-Err
returns-in-Err g c =
    let a = c.args in
    let L : GuestLaws _ = record { seen = g.G.Guest.seen; moves = g.G.Guest.moves; stays = g.met.G.Guest.stays; goes_on = g.met.G.Guest.goes_on } in
    let (cs, (can, is)) = c.requires.text in
    record { puts = utf8_unasked L a.options a.core.now a.text.now cs (record { can = can; is = is }) c.ask.new.core c.in-Err.fault c.requires.form (omega (arith, c.if-count-gt-MAX_STRING_BYTES.false)) c.in-Err.ensures.asked }
