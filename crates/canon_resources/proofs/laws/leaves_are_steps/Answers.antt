use Rattle.canon_resources.proofs.Through.{leaves_partway, leaves_through}
use Rattle.canon_resources.proofs.laws.leaves_are_steps.Goals as goal

pub returns-clause-whole : goal.returns-clause-whole
returns-clause-whole c = leaves_through

pub returns-clause-part : goal.returns-clause-part
returns-clause-part c = leaves_partway
