use Rattle.std.proofs.Common.{Err, Ok, ap₂, false, subst}
use Rattle.canon_recording_parts.specs.Written.{WritesFormat}
use Rattle.canon_recording.specs.Recordings.{exports_of, imports_of, passed_values, served_asks, what_was_done}
use Rattle.canon_recording_parts.proofs.Writing.{first_long, then_written}
use Rattle.canon_recording.proofs.Written.{passed_sound}
use Rattle.canon_recording.proofs.encoding.put_known_call.Goals as goal

pub returns-in-Ok : goal.returns-in-Ok
returns-in-Ok c = record { writes = then_written (passed_values false (exports_of c.args.c.now) c.args.call.now.export) (what_was_done false (exports_of c.args.c.now) (imports_of c.args.c.now)) (c.args.call.now.params.items, c.args.call.now.results.items) (c.args.call.now.events, served_asks c.args.call.now.served.items) c.args.bytes.now.items c.put_export.new.bytes.items c.put_done.new.bytes.items c.put_done.new.bytes.items c.put_done.result (passed_sound (exports_of c.args.c.now) (imports_of c.args.c.now) (exports_of c.args.c.now) c.args.call.now.export) (subst (λ x. WritesFormat (passed_values false (exports_of c.args.c.now) c.args.call.now.export) x c.args.bytes.now.items c.put_export.new.bytes.items (Ok tt)) (ap₂ (λ a b. (a, b)) c.as_slice.ensures.value c.as_slice-2.ensures.value) c.in-Ok.ensures.writes) c.put_done.ensures.writes }

pub returns-in-Err : goal.returns-in-Err
returns-in-Err c = record { writes = first_long (passed_values false (exports_of c.args.c.now) c.args.call.now.export) (what_was_done false (exports_of c.args.c.now) (imports_of c.args.c.now)) (c.args.call.now.params.items, c.args.call.now.results.items) (c.args.call.now.events, served_asks c.args.call.now.served.items) c.args.bytes.now.items c.put_export.new.bytes.items c.put_export.new.bytes.items c.put_export.new.bytes.items c.in-Err.error (subst (λ x. WritesFormat (passed_values false (exports_of c.args.c.now) c.args.call.now.export) x c.args.bytes.now.items c.put_export.new.bytes.items (Err c.in-Err.error)) (ap₂ (λ a b. (a, b)) c.as_slice.ensures.value c.as_slice-2.ensures.value) c.in-Err.ensures.writes) }
