use Rattle.std.proofs.Common.{List, [], ap, arith, length, subst, sym, ◌∙◌, ◌∷◌, ◌≡◌}
use Rattle.std.proofs.lemmas.List.{nil_from_length}
use Rattle.std.specs.Vec.Iter.{into_iter_items}
use Rattle.canon_script.specs.Script.{item_view}
use Rattle.canon_script.specs.declared.script.Item.{Item}
use Rattle.canon_transcript.specs.declared.transcript.Record.{Record}
use Rattle.canon_replay_cli.specs.Taken.{IsTakenCall}
use Rattle.canon_replay_cli.proofs.TakingCalls.{AreCallsTaken, no_record, not_taken, one_taken, taking_ends}
use Rattle.canon_replay_cli.proofs.taking.recording_of.Goals as goal

pub returns-in-None-next : goal.returns-in-None-next
returns-in-None-next c =
    let at = c.loop-item in
    let taken = AreCallsTaken c.args.items.items c.args.records.items at.calls.items in
    let none : into_iter_items at.records ≡ [] = nil_from_length _ (sym at.invariant.2 ∙ c.in-None-next.ensures.cases.0) in
    let are = subst (λ (rs : List Record). taken (into_iter_items at.item-iterator) rs) none at.invariant.0 in
    let here = subst (λ (is : List Item). taken is []) c.in-Some.ensures.steps.0 are in
    record { takes = no_record c.args.items.items c.args.records.items at.calls.items c.in-Some.item (into_iter_items c.next.new.self) here }

pub returns-in-None-2 : goal.returns-in-None-2
returns-in-None-2 c =
    let at = c.loop-item in
    let taken = AreCallsTaken c.args.items.items c.args.records.items at.calls.items in
    let are = subst (λ (rs : List Record). taken (into_iter_items at.item-iterator) rs) c.in-Some-next.ensures.cases.0 at.invariant.0 in
    let here = subst (λ (is : List Item). taken is (c.in-Some-next.played ∷ into_iter_items c.next-in-loop-item.new.self)) c.in-Some.ensures.steps.0 are in
    let kept = subst (IsTakenCall (item_view c.in-Some.item) c.in-Some-next.played) c.in-None-2.is c.in_ok-call.ensures.taken in
    record {
      takes = not_taken c.args.items.items c.args.records.items at.calls.items c.in-Some.item (into_iter_items c.next.new.self) c.in-Some-next.played (into_iter_items c.next-in-loop-item.new.self) here kept;
    }

pub loop-item-preserved : goal.loop-item-preserved
loop-item-preserved c =
    let at = c.loop-item in
    let taken = AreCallsTaken c.args.items.items c.args.records.items at.calls.items in
    let step = c.in-Some.ensures.steps in
    let next = c.in-Some-next.ensures.cases in
    let are = subst (λ (rs : List Record). taken (into_iter_items at.item-iterator) rs) next.0 at.invariant.0 in
    let here = subst (λ (is : List Item). taken is (c.in-Some-next.played ∷ into_iter_items c.next-in-loop-item.new.self)) step.0 are in
    let kept = subst (IsTakenCall (item_view c.in-Some.item) c.in-Some-next.played) c.in-Some-2.is c.in_ok-call.ensures.taken in (
      one_taken c.args.items.items c.args.records.items at.calls.items c.push.new.self.items c.in-Some.item (into_iter_items c.next.new.self) c.in-Some-next.played (into_iter_items c.next-in-loop-item.new.self)
          c.in-Some-2.call here kept c.in_ok-push.ensures.items,
      let was = at.invariant.1 in
          let gone = step.1 in
          let short = ap length step.0 in
          omega arith,
      let was = at.invariant.2 in
          let gone = next.1 in
          let short = ap length next.0 in
          omega arith,
    )

pub returns : goal.returns
returns c =
    let at = c.loop-item in
    let none : into_iter_items at.item-iterator ≡ [] = nil_from_length _ (sym at.invariant.1 ∙ c.in-None.ensures.steps.0) in
    let are = subst (λ (is : List Item). AreCallsTaken c.args.items.items c.args.records.items at.calls.items is (into_iter_items at.records)) none at.invariant.0 in
    record { takes = taking_ends c.args.items.items c.args.records.items at.calls.items (into_iter_items at.records) are }
