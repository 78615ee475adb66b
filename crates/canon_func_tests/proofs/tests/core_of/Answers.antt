use Rattle.canon_func_tests.proofs.tests.core_of.Goals as goal

pub new-requires-2-clause-component : goal.new-requires-2-clause-component
new-requires-2-clause-component c = c.check.ensures.0 c.if-not-check.false
