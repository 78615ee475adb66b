use Rattle.std.proofs.Common.{rules, ◌≤◌, ◌∙◌, subst}
use Rattle.std.proofs.lemmas.List.{get_or_default}
use Rattle.std.proofs.lemmas.List.Elements.{AllWithin-more}
use Rattle.canon_memory.specs.Watch.{BlockEndsBy}
use Rattle.canon_memory.proofs.Watch.{ended_by}
use Rattle.canon_memory.proofs.law.end_of.Goals as goal

pub loop-b-preserved : goal.loop-b-preserved
loop-b-preserved c =
    let P = BlockEndsBy c.max-end.result in
    let more : c.loop-b.end ≤ c.max-end.result = search rules in
    let held : P c.b-item.result = search rules in (
      search rules,
      AllWithin-more P c.args.live.now 0 c.loop-b.b-index (ended_by c.loop-b.end c.max-end.result c.args.live.now c.loop-b.b-index more c.loop-b.invariant.1)
          (λ d. subst P (c.b-item.is ∙ get_or_default c.args.live.now c.loop-b.b-index c.b-item.result d c.loop-b-test.true) held),
    )
