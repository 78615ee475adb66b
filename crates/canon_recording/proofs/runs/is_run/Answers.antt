use Rattle.std.proofs.Common.{drop, subst, sym, ◌+◌, ◌∙◌, ◌∷◌}
use Rattle.std.specs.Prelude.{◌↔◌}
use Rattle.canon_func.specs.Runs.{IsOneRun}
use Rattle.canon_recording.specs.Stages.{IsLeftOfRun}
use Rattle.canon_recording.proofs.Staging.{end_left, iff_then, left_at, left_end, none, none_left}
use Rattle.canon_recording.proofs.runs.is_run.Goals as goal

pub loop-event-init : goal.loop-event-init
loop-event-init c = record { same = (λ h. h, λ h. h) }

pub loop-event-preserved : goal.loop-event-preserved
loop-event-preserved c =
    let a = c.args in
    let l = c.loop-event in
    let rest = drop (l.event-index + 1) a.events.now in
    let is = left_at a.events.now l.event-index c.event-item.result c.loop-event-test.true c.event-item.is in
    let before = subst (λ es. IsOneRun a.func a.post a.events.now ↔ IsLeftOfRun a.func a.post l.stage l.returned.now es) is l.invariant.same in
    let step = subst (λ r. IsLeftOfRun a.func a.post l.stage l.returned.now (c.event-item.result ∷ rest) ↔ IsLeftOfRun a.func a.post c.in-Some.next r rest) (sym c.returned_after-returned.ensures) (c.in-Some.ensures.leads rest) in
    record { same = iff_then before step }

pub returns : goal.returns
returns c =
    let a = c.args in
    let l = c.loop-event in
    let is = none_left a.events.now l.event-index c.loop-event-test.false in
    let before = subst (λ es. IsOneRun a.func a.post a.events.now ↔ IsLeftOfRun a.func a.post l.stage l.returned.now es) is l.invariant.same in
    (λ h. before.1 (end_left a.func l.returned.now a.post l.stage (sym c.is_end.ensures ∙ h)), λ h. c.is_end.ensures ∙ left_end a.func l.returned.now a.post l.stage (before.0 h))

pub returns-in-None : goal.returns-in-None
returns-in-None c =
    let a = c.args in
    let l = c.loop-event in
    let is = left_at a.events.now l.event-index c.event-item.result c.loop-event-test.true c.event-item.is in
    let before = subst (λ es. IsOneRun a.func a.post a.events.now ↔ IsLeftOfRun a.func a.post l.stage l.returned.now es) is l.invariant.same in
    none (λ h. c.in-None.ensures.leads (drop (l.event-index + 1) a.events.now) (before.0 h))
