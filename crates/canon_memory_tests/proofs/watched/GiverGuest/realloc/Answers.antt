use Rattle.std.proofs.Common.{rules, false, refl}
use Rattle.std.proofs.lemmas.Grind.{replicate_next}
use Rattle.canon_memory.specs.Guest.{Mark}
use Rattle.canon_memory_tests.proofs.watched.GiverGuest.realloc.Goals as goal

pub returns-clause-does : goal.returns-clause-does
returns-clause-does c =
    let unmarked : Mark = record { lawful = false; tidy = false } in (
      unmarked,
      record {
        goes = record { no_shorter = search rules; traps_later = search rules; shortages_later = search rules; marks = replicate_next c.args.self.now.answers unmarked; events = refl };
        lawful = λ h. cc;
        tidy = λ h. cc;
      },
    )
