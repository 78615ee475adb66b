use Rattle.canon_resources.proofs.Leaves.{leaves_excluded, leaves_stop_first, leaves_stop_then, leaves_then}
use Rattle.canon_resources.proofs.laws.leaves_compose.Goals as goal

pub returns-clause-whole : goal.returns-clause-whole
returns-clause-whole c = leaves_then

pub returns-clause-part : goal.returns-clause-part
returns-clause-part c = leaves_stop_then

pub returns-clause-first_part : goal.returns-clause-first_part
returns-clause-first_part c = leaves_stop_first

pub returns-clause-exclude : goal.returns-clause-exclude
returns-clause-exclude c = leaves_excluded
