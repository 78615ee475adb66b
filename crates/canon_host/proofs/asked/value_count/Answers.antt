use Rattle.std.proofs.Common.{List, ap, length, sym, ◌∙◌}
use Rattle.canon_types.specs.declared.types.InterfaceType.{InterfaceType}
use Rattle.canon_host.proofs.asked.value_count.Goals as goal
use Rattle.canon_types.proofs.Measures.{count_members}

pub returns : goal.returns
returns c = c.len.ensures ∙ (c.tuple.result.now.types.ok.0 ∙ (ap (λ (ts : List InterfaceType). length ts) c.tuple.ensures.types ∙ sym (count_members c.args.types.now _)))
