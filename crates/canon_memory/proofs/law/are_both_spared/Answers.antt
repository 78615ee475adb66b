use Rattle.std.proofs.Common.{sym, ◌∙◌}
use Rattle.std.proofs.lemmas.Bool.{both_ways}
use Rattle.canon_memory.proofs.Watch.{both_spared, not_spared}
use Rattle.canon_memory.proofs.law.are_both_spared.Goals as goal

pub returns-then-are_spared : goal.returns-then-are_spared
returns-then-are_spared c = both_spared _ _ _ _ c.args.held.now c.args.live.now c.are_spared.result c.are_spared-then-are_spared.result c.are_spared.ensures c.are_spared-then-are_spared.ensures c.if-are_spared.true

pub returns-else-are_spared : goal.returns-else-are_spared
returns-else-are_spared c = (
  λ e. absurd (both_ways _ c.if-are_spared.false e),
  λ all. absurd (not_spared _ _ _ _ c.args.held.now c.args.live.now c.are_spared.result c.are_spared.ensures c.if-are_spared.false all),
)
