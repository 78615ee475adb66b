use Rattle.std.proofs.Common.{Err, IsUtf8, List, Ok, subst, sym, ℕ}
use Rattle.std.proofs.lemmas.Str.{IsUtf8-string_bytes}
use Rattle.canon_string.specs.Texts.{PutsText}
use Rattle.canon_context.proofs.Moves.{GuestLaws}
use Rattle.canon_value_parts.proofs.PlacedTexts.{text_placed, text_unplaced}
use Rattle.canon_value_parts.proofs.blocks.place_text.Goals as goal

pub put_text-requires-clause-text : goal.put_text-requires-clause-text
put_text-requires-clause-text g c = subst IsUtf8 (sym c.as_bytes.ensures.value) (IsUtf8-string_bytes c.args.text.now)

pub returns-in-Ok : goal.returns-in-Ok
returns-in-Ok g c =
    let a = c.args in
    let b = c.put_text.new.core in
    let L : GuestLaws _ = record { seen = g.G.Guest.seen; moves = g.G.Guest.moves; stays = g.met.G.Guest.stays; goes_on = g.met.G.Guest.goes_on } in
    record {
      places = text_placed L a.options a.core.now b a.text.now a.place c.in-Ok.block.pointer c.in-Ok.block.length c.saturating_add.result c.saturating_add.ensures
          (subst (λ (bytes : List ℕ). PutsText L.seen L.moves a.options a.core.now b bytes (Ok c.in-Ok.block)) c.as_bytes.ensures.value c.in-Ok.ensures.puts);
    }

pub returns-in-Err : goal.returns-in-Err
returns-in-Err g c =
    let a = c.args in
    let b = c.put_text.new.core in
    let L : GuestLaws _ = record { seen = g.G.Guest.seen; moves = g.G.Guest.moves; stays = g.met.G.Guest.stays; goes_on = g.met.G.Guest.goes_on } in
    record {
      places = text_unplaced L a.options a.core.now b a.text.now a.place c.in-Err.fault
          (subst (λ (bytes : List ℕ). PutsText L.seen L.moves a.options a.core.now b bytes (Err c.in-Err.fault)) c.as_bytes.ensures.value c.in-Err.ensures.puts);
    }
