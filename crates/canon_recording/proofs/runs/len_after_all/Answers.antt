use Rattle.std.proofs.Common.{ap, drop, sym, ◌+◌, ◌∙◌}
use Rattle.canon_func.specs.Runs.{last_len}
use Rattle.canon_recording.proofs.Staging.{last_first, left_at, none_left}
use Rattle.canon_recording.proofs.runs.len_after_all.Goals as goal

pub loop-event-preserved : goal.loop-event-preserved
loop-event-preserved c =
    let a = c.args in
    let l = c.loop-event in
    let e = c.event-item.result in
    let rest = drop (l.event-index + 1) a.events.now in
    let is = left_at a.events.now l.event-index e c.loop-event-test.true c.event-item.is in
    record { same = ap (λ n. last_len n rest) c.len_after-last.ensures ∙ (sym (last_first l.last e rest) ∙ (ap (last_len l.last) (sym is) ∙ l.invariant.same)) }

pub returns : goal.returns
returns c =
    let a = c.args in
    let l = c.loop-event in
    sym (ap (last_len l.last) (none_left a.events.now l.event-index c.loop-event-test.false)) ∙ l.invariant.same
