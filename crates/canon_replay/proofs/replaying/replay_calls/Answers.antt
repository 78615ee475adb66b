use Rattle.std.proofs.Common.{ap, arith, length, sym, subst, ◌∙◌}
use Rattle.std.specs.Vec.Iter.{into_iter_items}
use Rattle.canon_replay.proofs.Looping.{AreReplayed, below_in, has_events, in_store, loop_begins, loop_departs, loop_ends, loop_goes_on}
use Rattle.canon_replay.proofs.Splitting.{no_items_left}
use Rattle.canon_replay.proofs.replaying.replay_calls.Goals as goal

pub loop-call-init : goal.loop-call-init
loop-call-init c =
    let given = c.into_iter-call-iterator.ensures.into_iter_gives in
    let begins = loop_begins c.args.store.now c.args.calls.items c.requires.ready c.requires.known c.requires.count c.requires.few_calls c.requires.events in
    (subst (AreReplayed c.args.store.now c.args.calls.items 0 c.args.store.now) (sym given.0) begins, given.1 ∙ (c.args.calls.ok.0 ∙ sym (ap length given.0)))

pub make_again-requires : goal.make_again-requires
make_again-requires c =
    let at = c.loop-call in
    let left = into_iter_items c.next.new.self in
    let are = subst (AreReplayed c.args.store.now c.args.calls.items at.k at.store) c.in-Some.ensures.steps.0 at.invariant.0 in
    let x = c.in-Some.call in
    let has = has_events c.args.store.now c.args.calls.items at.k at.store x left are in
    record { ready = are.ready; known = in_store c.args.store.now c.args.calls.items at.k at.store x left are; recorded = below_in c.args.store.now c.args.calls.items at.k at.store x left are; some = has.0; few = has.1 }

pub loop-call-preserved : goal.loop-call-preserved
loop-call-preserved c =
    let at = c.loop-call in
    let steps = c.in-Some.ensures.steps in
    let left = into_iter_items c.next.new.self in
    let are = subst (AreReplayed c.args.store.now c.args.calls.items at.k at.store) steps.0 at.invariant.0 in (
      loop_goes_on c.args.store.now c.args.calls.items at.k at.store c.in-Some.call left are c.make_again.new.store (rw c.in-Ok-None.field-0-is at c.in-Ok-None.ensures.makes),
      let was = at.invariant.1 in
          let gone = steps.1 in
          let short = ap length steps.0 in
          omega arith,
    )

pub returns-in-Ok-Some-clause-replays : goal.returns-in-Ok-Some-clause-replays
returns-in-Ok-Some-clause-replays c =
    let at = c.loop-call in
    let left = into_iter_items c.next.new.self in
    let are = subst (AreReplayed c.args.store.now c.args.calls.items at.k at.store) c.in-Some.ensures.steps.0 at.invariant.0 in
    loop_departs c.args.store.now c.args.calls.items at.k at.store c.in-Some.call left are c.make_again.new.store c.in-Ok-Some.outcome (rw c.in-Ok-Some.field-0-is at c.in-Ok-Some.ensures.makes)

pub returns-clause-replays : goal.returns-clause-replays
returns-clause-replays c =
    let at = c.loop-call in
    let none = c.in-None.ensures.steps in
    loop_ends c.args.store.now c.args.calls.items at.k at.store (into_iter_items at.call-iterator) (no_items_left _ (sym at.invariant.1 ∙ none.0)) at.invariant.0
