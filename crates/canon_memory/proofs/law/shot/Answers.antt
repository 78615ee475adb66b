use Rattle.std.proofs.Common.{rules, ◌≤◌}
use Rattle.std.proofs.lemmas.List.Elements.{All-append}
use Rattle.canon_memory.specs.Watch.{BlockEndsBy}
use Rattle.canon_memory.proofs.Watch.{all_end_by}
use Rattle.canon_memory.proofs.law.shot.Goals as goal

pub returns : goal.returns
returns c =
    let end = c.reach-end.result in
    let held : c.end_of-held_end.result ≤ end = search rules in
    let given : c.end_of.result ≤ end = search rules in (
      end,
      search rules,
      search rules,
      All-append (BlockEndsBy end) c.args.held.now c.args.live.now (all_end_by _ end c.args.held.now held c.end_of-held_end.ensures.ends) (all_end_by _ end c.args.live.now given c.end_of.ensures.ends),
      search rules,
    )
