use Rattle.canon_host.proofs.Counts.{no_pointer, one_pointer}
use Rattle.canon_host.proofs.asked.pointer_words.Goals as goal

pub returns-in-Some-clause-words : goal.returns-in-Some-clause-words
returns-in-Some-clause-words c = no_pointer _ _ c.in-Some.ensures

pub returns-in-None-clause-words : goal.returns-in-None-clause-words
returns-in-None-clause-words c = one_pointer _ c.in-None.ensures
