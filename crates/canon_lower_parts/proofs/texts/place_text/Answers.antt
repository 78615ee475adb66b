use Rattle.std.proofs.Common.{Err, IsUtf8, List, Ok, subst, sym, ℕ}
use Rattle.std.proofs.lemmas.Str.{IsUtf8-string_bytes}
use Rattle.canon_context.proofs.Moves.{GuestLaws}
use Rattle.canon_string.specs.Texts.{PutsText}
use Rattle.canon_lower_parts.proofs.TextSteps.{lower_text_placed, lower_text_unplaced}
use Rattle.canon_lower_parts.proofs.texts.place_text.Goals as goal

pub put_text-requires-clause-text : goal.put_text-requires-clause-text
put_text-requires-clause-text g c = subst IsUtf8 (sym c.as_bytes.ensures.value) (IsUtf8-string_bytes c.args.text.now)

pub returns-in-Ok-clause-places : goal.returns-in-Ok-clause-places
returns-in-Ok-clause-places g c =
    let L : GuestLaws _ = record { seen = g.G.Guest.seen; moves = g.G.Guest.moves; stays = g.met.G.Guest.stays; goes_on = g.met.G.Guest.goes_on } in
    let a = c.args in
    let b = c.put_text.new.core in
    lower_text_placed L a.cx.now.options a.cx.now.core.now b a.text.now c.in-Ok.block.pointer c.in-Ok.block.length
    (subst (λ (bytes : List ℕ). PutsText L.seen L.moves a.cx.now.options a.cx.now.core.now b bytes (Ok c.in-Ok.block)) c.as_bytes.ensures.value c.in-Ok.ensures.puts)

pub returns-in-Err-clause-places : goal.returns-in-Err-clause-places
returns-in-Err-clause-places g c =
    let L : GuestLaws _ = record { seen = g.G.Guest.seen; moves = g.G.Guest.moves; stays = g.met.G.Guest.stays; goes_on = g.met.G.Guest.goes_on } in
    let a = c.args in
    let b = c.put_text.new.core in
    lower_text_unplaced L a.cx.now.options a.cx.now.core.now b a.text.now c.in-Err.fault
    (subst (λ (bytes : List ℕ). PutsText L.seen L.moves a.cx.now.options a.cx.now.core.now b bytes (Err c.in-Err.fault)) c.as_bytes.ensures.value c.in-Err.ensures.puts)
