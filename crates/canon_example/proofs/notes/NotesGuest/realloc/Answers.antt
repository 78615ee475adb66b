use Rattle.std.proofs.Common.{ap, arith, false, refl, replicate, ◌+◌, ◌∙◌}
use Rattle.std.proofs.lemmas.Grind.{replicate_next}
use Rattle.canon_memory.specs.Guest.{Mark}
use Rattle.canon_example.specs.declared.notes.Notes.{Notes}
use Rattle.canon_example.proofs.notes.NotesGuest.realloc.Goals as goal

pub returns-clause-does : goal.returns-clause-does
returns-clause-does c =
    let unmarked : Mark = record { lawful = false; tidy = false } in
    let same = c.in-Some.ensures.raises in
    let blocks = ap (λ (n : Notes). replicate (n.counts.blocks + 1) unmarked) same in
    let traps = ap (λ (n : Notes). n.counts.traps) same in
    let shortages = ap (λ (n : Notes). n.counts.shortages) same in (
      unmarked,
      record {
        goes = record {
          no_shorter = omega (arith);
          traps_later = omega (arith, traps);
          shortages_later = omega (arith, shortages);
          marks = blocks ∙ replicate_next c.args.self.now.counts.blocks unmarked;
          events = refl;
        };
        lawful = λ h. cc;
        tidy = λ h. cc;
      },
    )
