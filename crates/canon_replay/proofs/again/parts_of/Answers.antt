use Rattle.std.proofs.Common.{List, [], ap, append-nil, append_assoc, arith, length, map, refl, subst, sym, ◌∙◌, ◌∷◌, ◌≡◌}
use Rattle.std.specs.Vec.Iter.{into_iter_items}
use Rattle.canon_recording.specs.Recordings.{served_asks}
use Rattle.canon_recording.specs.declared.recording.Recorded.{Recorded}
use Rattle.canon_replay.specs.Calls.{told_again}
use Rattle.canon_replay.proofs.Splitting.{ArePartsOf, no_items_left, one_part}
use Rattle.canon_replay.proofs.again.parts_of.Goals as goal

pub loop-call-init : goal.loop-call-init
loop-call-init c =
    let given = c.into_iter-call-iterator.ensures.into_iter_gives in
    (refl, record { events = c.new.ensures.items; asks = ap served_asks c.new-2.ensures.items; again = ap (map told_again) c.new-3.ensures.items }, given.1 ∙ (c.args.r.calls.ok.0 ∙ sym (ap length given.0)))

pub loop-call-preserved : goal.loop-call-preserved
loop-call-preserved c =
    let at = c.loop-call in
    let x = c.in-Some.call in
    let steps : into_iter_items at.call-iterator ≡ x ∷ into_iter_items c.next.new.self = c.in-Some.ensures.steps.0 in (
      append_assoc at.yielded (x ∷ []) _ ∙ rw (← steps) at.invariant.0,
      one_part at.yielded x at.parts c.add.new.parts (record { export = x.export; params = x.params; results = x.results }) at.invariant.1 c.in_ok-add.ensures.adds.0 c.in_ok-add.ensures.adds.1 c.in_ok-add.ensures.adds.2 refl,
      let was = at.invariant.2 in
          let gone = c.in-Some.ensures.steps.1 in
          let short = ap length steps in
          omega arith,
    )

pub returns : goal.returns
returns c =
    let at = c.loop-call in
    let none = c.in-None.ensures.steps in
    let empty : into_iter_items at.call-iterator ≡ [] = no_items_left _ (sym at.invariant.2 ∙ none.0) in
    let all = sym (append-nil at.yielded) ∙ rw empty at at.invariant.0 ∙ c.into_iter-call-iterator.ensures.into_iter_gives.0 in
    let are = subst (λ (l : List Recorded). ArePartsOf l at.parts) all at.invariant.1 in
    record { parts = (are.events, are.asks, are.again); short = tt }
