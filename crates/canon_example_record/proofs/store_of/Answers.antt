use Rattle.canon_example_record.proofs.store_of.Goals as goal

pub new-requires-3-clause-component : goal.new-requires-3-clause-component
new-requires-3-clause-component c = c.check.ensures.0 c.if-not-check.false
