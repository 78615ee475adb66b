use Rattle.canon_example.proofs.clock_imports.Goals as goal

pub returns-clause-clocks : goal.returns-clause-clocks
returns-clause-clocks g c = λ n. c.requires.ticks
