use Rattle.std.proofs.Common.{ap, length, subst, sym, true≢false, ◌+◌, ◌<◌, ◌∙◌}
use Rattle.canon_func.specs.Runs.{last_len}
use Rattle.canon_recording.proofs.Playing.{AreSoFar, mapped_at, none_so_far, not_here, recorded_one_more}
use Rattle.canon_recording.proofs.Rows.{all_at}
use Rattle.canon_recording.specs.Recordings.{RecordedCall, recorded_call, recorded_calls}
use Rattle.canon_recording.proofs.runs.first_no_run.Goals as goal

pub loop-k-init : goal.loop-k-init
loop-k-init c = record { runs = none_so_far c.args.c.now (recorded_calls c.args.calls.now) }

pub is_run_from-requires-clause-known : goal.is_run_from-requires-clause-known
is_run_from-requires-clause-known c =
    all_at recorded_call (λ (r : RecordedCall). r.export < length c.args.c.now.exports.items) c.args.calls.now c.loop-k.k c.index-calls-k.result c.loop-k-test.true (sym c.index-calls-k.is) c.requires.known

pub returns-else-is_run_from-clause-first : goal.returns-else-is_run_from-clause-first
returns-else-is_run_from-clause-first c =
    let here = mapped_at recorded_call c.args.calls.now c.loop-k.k c.index-calls-k.result c.loop-k-test.true (sym c.index-calls-k.is) in
    not_here c.args.c.now (recorded_calls c.args.calls.now) c.loop-k.k c.loop-k.len (recorded_call c.index-calls-k.result) here
    (λ r. true≢false (sym (c.is_run_from.ensures.1 r) ∙ c.if-is_run_from.false)) c.loop-k.invariant.runs

pub loop-k-preserved : goal.loop-k-preserved
loop-k-preserved c =
    let calls = recorded_calls c.args.calls.now in
    let call = c.index-calls-k.result in
    let here = mapped_at recorded_call c.args.calls.now c.loop-k.k call c.loop-k-test.true (sym c.index-calls-k.is) in
    let len = c.len_after_all-len.ensures ∙ ap (last_len c.loop-k.len) c.as_slice.ensures in
    let more = recorded_one_more c.args.c.now calls c.loop-k.k c.loop-k.len (recorded_call call) here (c.is_run_from.ensures.0 c.if-is_run_from.true) c.loop-k.invariant.runs in
    record { runs = subst (AreSoFar c.args.c.now calls (c.loop-k.k + 1)) (sym len) more }
