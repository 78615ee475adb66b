use Rattle.std.proofs.Common.{ap, sym, ◌++◌, ◌∙◌}
use Rattle.canon_value_parts.specs.Resources.{all_resources}
use Rattle.canon_literals.proofs.Held.{held_are}
use Rattle.canon_literals.proofs.resources.resources_in.Goals as goal

pub returns-clause-literals : goal.returns-clause-literals
returns-clause-literals c = (c.in_ok-collect_row.ensures ∙ ap (λ xs. xs ++ all_resources c.args.values.now) c.new-found.ensures.items) ∙ sym (held_are c.args.values.now)
