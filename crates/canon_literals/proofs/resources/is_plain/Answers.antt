use Rattle.std.proofs.Common.{ap, length, nat_eq, sym, ◌++◌, ◌∙◌}
use Rattle.canon_value_parts.specs.Resources.{resources}
use Rattle.canon_literals.proofs.Held.{held_is}
use Rattle.canon_literals.proofs.resources.is_plain.Goals as goal

pub returns : goal.returns
returns c =
    c.is_empty.ensures ∙ ap (λ n. nat_eq n 0) (c.collect.new.found.ok.0 ∙ ap length ((c.in_ok-collect.ensures ∙ ap (λ xs. xs ++ resources c.args.value.now) c.new-found.ensures.items) ∙ sym (held_is c.args.value.now)))
