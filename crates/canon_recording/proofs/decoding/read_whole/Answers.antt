use Rattle.canon_recording.specs.Recordings.{recorded_calls}
use Rattle.canon_recording.proofs.Deciding.{more_follow, recorded_stopped, recorded_whole_read}
use Rattle.canon_recording.proofs.decoding.read_whole.Goals as goal

pub returns-then-at-len : goal.returns-then-at-len
returns-then-at-len c = record { is = more_follow c.args.c.now c.args.bytes.now c.read_recording.new.at (recorded_calls c.in-Ok.calls.items) c.if-at-len.true c.in-Ok.ensures.reads }

pub returns-else-at-len : goal.returns-else-at-len
returns-else-at-len c = record { is = recorded_whole_read c.args.c.now c.args.bytes.now c.read_recording.new.at (recorded_calls c.in-Ok.calls.items) c.if-at-len.false c.in-Ok.ensures.reads }

pub returns-in-Err : goal.returns-in-Err
returns-in-Err c = record { is = recorded_stopped c.args.c.now c.args.bytes.now c.read_recording.new.at c.in-Err.error c.in-Err.ensures.reads }
