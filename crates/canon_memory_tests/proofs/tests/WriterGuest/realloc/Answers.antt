use Rattle.std.proofs.Common.{arith, rules, false, true, refl}
use Rattle.std.proofs.lemmas.Grind.{common_steps}
use Rattle.canon_memory_tests.proofs.tests.WriterGuest.realloc.Goals as goal

pub returns-clause-does : goal.returns-clause-does
returns-clause-does c = (
  record { lawful = false; tidy = true },
  record {
    goes = grind (arith, common_steps, c.if-self.false);
    lawful = λ h. search (rules, h);
    tidy = λ _ _ _ _. refl;
  },
)
