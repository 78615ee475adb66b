use Rattle.std.proofs.Common.{not, rules}
use Rattle.std.proofs.lemmas.Fn.{filter_same}
use Rattle.canon_memory.specs.Watch.{is_block}
use Rattle.canon_replay_guest.proofs.Blocks.{given_up_none}
use Rattle.canon_replay_guest.proofs.live.take_out.Goals as goal

pub returns-then-old-gt0-clause-kept : goal.returns-then-old-gt0-clause-kept
returns-then-old-gt0-clause-kept c = filter_same _ (λ b. not (is_block b c.args.old)) _ (λ x b f' k. search rules) _ _ c.retain.ensures.filtered

pub returns-else-old-gt0-clause-kept : goal.returns-else-old-gt0-clause-kept
returns-else-old-gt0-clause-kept c = given_up_none c.args.blocks.now.items c.args.old c.requires (search rules)
