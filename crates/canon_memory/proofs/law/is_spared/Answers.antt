use Rattle.std.proofs.Common.{sym, ◌∙◌}
use Rattle.canon_memory.proofs.Watch.{spared_else, spared_then}
use Rattle.canon_memory.proofs.law.is_spared.Goals as goal

pub returns-then-are_apart : goal.returns-then-are_apart
returns-then-are_apart c = spared_then _ _ _ _ _ _ (sym c.is_same.ensures ∙ c.if-is_same.false) (c.are_apart.ensures.0 c.if-are_apart.true) c.is_kept.ensures

pub returns-else-are_apart : goal.returns-else-are_apart
returns-else-are_apart c = spared_else _ _ _ _ _ _ (sym c.is_same.ensures ∙ c.if-is_same.false) c.are_apart.ensures c.if-are_apart.false
