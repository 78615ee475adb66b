use Rattle.std.proofs.Common.{rules, ◌≡◌, not}
use Rattle.std.proofs.lemmas.Fn.{filter_same}
use Rattle.canon_memory.specs.Watch.{is_block}
use Rattle.canon_memory.proofs.law.unlist.Goals as goal

pub returns-clause-blocks : goal.returns-clause-blocks
returns-clause-blocks c = filter_same _ (λ b. not (is_block b c.args.old)) _ (λ x b f' k. search rules) _ _ c.retain.ensures.filtered
