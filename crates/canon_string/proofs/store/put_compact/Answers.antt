use Rattle.std.proofs.Common.{length, refl}
use Rattle.canon_model.specs.Text.{Spells, compact, in_utf8}
use Rattle.canon_context.proofs.Moves.{GuestLaws}
use Rattle.canon_string.proofs.TextBlocks.{text_too_long}
use Rattle.canon_string.proofs.TextPaths.{compact_unasked, left_text, narrow_stands, narrow_unfitted, wide_stands, wide_unfitted, wide_ungrown}
use Rattle.canon_string.proofs.TextForms.{few, past}
use Rattle.canon_string.proofs.store.put_compact.Goals as goal

pub returns-then-is_past_compact : goal.returns-then-is_past_compact
returns-then-is_past_compact g c =
    let a = c.args in
    let L : GuestLaws _ = record { seen = g.G.Guest.seen; moves = g.G.Guest.moves; stays = g.met.G.Guest.stays; goes_on = g.met.G.Guest.goes_on } in
    let (cs, (can, is)) = c.requires.text in
    let spells : Spells in_utf8 a.text.now cs = record { can = can; is = is } in
    record {
      puts = text_too_long L a.options a.core.now a.text.now cs spells compact c.requires.form (length a.text.now) c.requires.small refl
          (past a.text.now cs c.is_past_compact.result c.if-is_past_compact.true (c.is_past_compact.ensures cs spells));
    }

pub returns-in-Err : goal.returns-in-Err
returns-in-Err g c =
    let a = c.args in
    let L : GuestLaws _ = record { seen = g.G.Guest.seen; moves = g.G.Guest.moves; stays = g.met.G.Guest.stays; goes_on = g.met.G.Guest.goes_on } in
    let (cs, (can, is)) = c.requires.text in
    let spells : Spells in_utf8 a.text.now cs = record { can = can; is = is } in
    record {
      puts = compact_unasked L a.options a.core.now a.text.now cs spells c.ask.new.core c.in-Err.fault c.requires.form
          (few a.text.now cs c.is_past_compact.result c.if-is_past_compact.false (c.is_past_compact.ensures cs spells)) c.in-Err.ensures.asked;
    }

pub returns-in-Ok-fit : goal.returns-in-Ok-fit
returns-in-Ok-fit g c =
    let a = c.args in
    let L : GuestLaws _ = record { seen = g.G.Guest.seen; moves = g.G.Guest.moves; stays = g.met.G.Guest.stays; goes_on = g.met.G.Guest.goes_on } in
    let (cs, (can, is)) = c.requires.text in
    let spells : Spells in_utf8 a.text.now cs = record { can = can; is = is } in
    let done = c.write_latin1-done in
    record {
      puts = narrow_stands L a.options a.core.now a.text.now cs spells c.ask.new.core c.as_slice_mut.result.now done.new.memory
          c.in-Ok.pointer done.result.src_read done.result.dst_written c.requires.form c.as_slice_mut.ensures.value c.in-Ok.ensures.asked
          done.ensures.writes done.ensures.narrows c.if-done-count.true c.fit.new.core c.in-Ok-fit.pointer
          (few a.text.now cs c.is_past_compact.result c.if-is_past_compact.false (c.is_past_compact.ensures cs spells)) c.in-Ok-fit.ensures.fits;
    }

pub returns-in-Err-fit : goal.returns-in-Err-fit
returns-in-Err-fit g c =
    let a = c.args in
    let L : GuestLaws _ = record { seen = g.G.Guest.seen; moves = g.G.Guest.moves; stays = g.met.G.Guest.stays; goes_on = g.met.G.Guest.goes_on } in
    let (cs, (can, is)) = c.requires.text in
    let spells : Spells in_utf8 a.text.now cs = record { can = can; is = is } in
    let done = c.write_latin1-done in
    record {
      puts = narrow_unfitted L a.options a.core.now a.text.now cs spells c.ask.new.core c.as_slice_mut.result.now done.new.memory
          c.in-Ok.pointer done.result.src_read done.result.dst_written c.requires.form c.as_slice_mut.ensures.value c.in-Ok.ensures.asked
          done.ensures.writes done.ensures.narrows c.if-done-count.true c.fit.new.core c.in-Err-fit.fault
          (few a.text.now cs c.is_past_compact.result c.if-is_past_compact.false (c.is_past_compact.ensures cs spells)) c.in-Err-fit.ensures.fits;
    }

pub returns-in-Err-ask_again : goal.returns-in-Err-ask_again
returns-in-Err-ask_again g c =
    let a = c.args in
    let L : GuestLaws _ = record { seen = g.G.Guest.seen; moves = g.G.Guest.moves; stays = g.met.G.Guest.stays; goes_on = g.met.G.Guest.goes_on } in
    let (cs, (can, is)) = c.requires.text in
    let spells : Spells in_utf8 a.text.now cs = record { can = can; is = is } in
    let done = c.write_latin1-done in
    record {
      puts = wide_ungrown L a.options a.core.now a.text.now cs spells c.ask.new.core c.as_slice_mut.result.now done.new.memory
          c.in-Ok.pointer done.result.src_read done.result.dst_written c.requires.form c.as_slice_mut.ensures.value c.in-Ok.ensures.asked
          done.ensures.writes done.ensures.narrows c.if-done-count.false c.ask_again.new.core c.in-Err-ask_again.fault
          (few a.text.now cs c.is_past_compact.result c.if-is_past_compact.false (c.is_past_compact.ensures cs spells)) c.in-Err-ask_again.ensures.asked;
    }

pub write_units-units-requires-clause-text : goal.write_units-units-requires-clause-text
write_units-units-requires-clause-text g c =
    let a = c.args in
    let L : GuestLaws _ = record { seen = g.G.Guest.seen; moves = g.G.Guest.moves; stays = g.met.G.Guest.stays; goes_on = g.met.G.Guest.goes_on } in
    let (cs, (can, is)) = c.requires.text in
    let spells : Spells in_utf8 a.text.now cs = record { can = can; is = is } in
    let done = c.write_latin1-done in
    left_text L a.options a.core.now a.text.now cs spells c.ask.new.core c.as_slice_mut.result.now done.new.memory
    c.in-Ok.pointer done.result.src_read done.result.dst_written c.requires.form c.as_slice_mut.ensures.value c.in-Ok.ensures.asked
    done.ensures.writes done.ensures.narrows

pub returns-in-Ok-fit-2 : goal.returns-in-Ok-fit-2
returns-in-Ok-fit-2 g c =
    let a = c.args in
    let L : GuestLaws _ = record { seen = g.G.Guest.seen; moves = g.G.Guest.moves; stays = g.met.G.Guest.stays; goes_on = g.met.G.Guest.goes_on } in
    let (cs, (can, is)) = c.requires.text in
    let spells : Spells in_utf8 a.text.now cs = record { can = can; is = is } in
    let done = c.write_latin1-done in
    let wrote = c.write_units-units in
    record {
      puts = wide_stands L a.options a.core.now a.text.now cs spells c.ask.new.core c.as_slice_mut.result.now done.new.memory
          c.in-Ok.pointer done.result.src_read done.result.dst_written c.requires.form c.as_slice_mut.ensures.value c.in-Ok.ensures.asked
          done.ensures.writes done.ensures.narrows c.if-done-count.false
          c.ask_again.new.core c.as_slice_mut-2.result.now wrote.new.memory c.in-Ok-ask_again.pointer wrote.result
          c.as_slice_mut-2.ensures.value c.in-Ok-ask_again.ensures.asked wrote.ensures.writes wrote.ensures.widens
          c.fit-2.new.core c.in-Ok-fit-2.pointer
          (few a.text.now cs c.is_past_compact.result c.if-is_past_compact.false (c.is_past_compact.ensures cs spells)) c.in-Ok-fit-2.ensures.fits;
    }

pub returns-in-Err-fit-2 : goal.returns-in-Err-fit-2
returns-in-Err-fit-2 g c =
    let a = c.args in
    let L : GuestLaws _ = record { seen = g.G.Guest.seen; moves = g.G.Guest.moves; stays = g.met.G.Guest.stays; goes_on = g.met.G.Guest.goes_on } in
    let (cs, (can, is)) = c.requires.text in
    let spells : Spells in_utf8 a.text.now cs = record { can = can; is = is } in
    let done = c.write_latin1-done in
    let wrote = c.write_units-units in
    record {
      puts = wide_unfitted L a.options a.core.now a.text.now cs spells c.ask.new.core c.as_slice_mut.result.now done.new.memory
          c.in-Ok.pointer done.result.src_read done.result.dst_written c.requires.form c.as_slice_mut.ensures.value c.in-Ok.ensures.asked
          done.ensures.writes done.ensures.narrows c.if-done-count.false
          c.ask_again.new.core c.as_slice_mut-2.result.now wrote.new.memory c.in-Ok-ask_again.pointer wrote.result
          c.as_slice_mut-2.ensures.value c.in-Ok-ask_again.ensures.asked wrote.ensures.writes wrote.ensures.widens
          c.fit-2.new.core c.in-Err-fit-2.fault
          (few a.text.now cs c.is_past_compact.result c.if-is_past_compact.false (c.is_past_compact.ensures cs spells)) c.in-Err-fit-2.ensures.fits;
    }
