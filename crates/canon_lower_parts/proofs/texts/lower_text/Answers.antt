use Rattle.std.proofs.Common.{[], ap, arith, refl, subst, sym}
use Rattle.canon_context.proofs.Moves.{GuestLaws}
use Rattle.canon_context.specs.Core.{component_types}
use Rattle.canon_lower_parts.proofs.WordBlocks.{placed_done, text_flat}
use Rattle.canon_lower_parts.specs.Words.{TypedLowers}
use Rattle.canon_model.specs.Layout.{flat}
use Rattle.canon_model.specs.Shape.{Shape, string}
use Rattle.canon_types.specs.Table.{shape_of}
use Rattle.canon_typed.specs.Meaning.{TextMeans}
use Rattle.canon_lower_parts.proofs.texts.lower_text.Goals as goal

pub put_words-requires-clause-narrow : goal.put_words-requires-clause-narrow
put_words-requires-clause-narrow g c = c.place_text-placed.ensures.places.narrow

pub put_words-requires-clause-room : goal.put_words-requires-clause-room
put_words-requires-clause-room g c = omega (arith, c.requires.words, ap (λ y. flat (shape_of (component_types c.args.cx.now.core.now) y)) c.requires.fits, text_flat)

pub returns-clause-lowers : goal.returns-clause-lowers
returns-clause-lowers g c =
    let a = c.args in
    let core = a.cx.now.core.now in
    let L : GuestLaws _ = record { seen = g.G.Guest.seen; moves = g.G.Guest.moves; stays = g.met.G.Guest.stays; goes_on = g.met.G.Guest.goes_on } in
    subst (λ (s : Shape). TypedLowers L.seen L.moves a.cx.now.options core c.place_text-placed.new.cx.core.now s c.put_words.new.dst 0 (TextMeans a.text.now) [] c.put_words.result)
    (sym (ap (shape_of (component_types core)) c.requires.fits))
    (placed_done L a.cx.now.options core c.place_text-placed.new.cx.core.now string (TextMeans a.text.now) [] refl c.place_text-placed.result c.put_words.result c.put_words.new.dst text_flat (λ t has. tt) c.put_words.ensures.done c.put_words.ensures.there
    c.place_text-placed.ensures.places)
