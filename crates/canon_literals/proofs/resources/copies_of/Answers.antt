use Rattle.canon_literals.specs.Literals.{literals_view}
use Rattle.canon_literals.proofs.Same.{copied}
use Rattle.canon_literals.proofs.resources.copies_of.Goals as goal

pub returns : goal.returns
returns c = copied c.with_resources.result (literals_view c.args.values.now) c.with_resources.ensures
