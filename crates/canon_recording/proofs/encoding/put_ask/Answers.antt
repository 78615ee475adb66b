use Rattle.std.proofs.Common.{ap₂, subst, sym, false, ◌<◌}
use Rattle.canon_recording_parts.specs.Format.{as_}
use Rattle.canon_recording_parts.specs.Written.{WritesFormat}
use Rattle.canon_recording.specs.Recordings.{exports_of, imports_of, passed_values, served_ask, served_ask_of}
use Rattle.canon_recording_parts.proofs.Writing.{named_written, number_long, numbered_written}
use Rattle.canon_recording.proofs.Written.{ask_number, recorded_ask_one}
use Rattle.canon_recording.proofs.encoding.put_ask.Goals as goal

pub returns-in-Ok : goal.returns-in-Ok
returns-in-Ok c =
    let parts = named_written (served_ask_of false c.args.ask.now.import) (passed_values false (imports_of c.args.c.now) c.args.ask.now.import)
    (recorded_ask_one (exports_of c.args.c.now) (imports_of c.args.c.now) c.args.ask.now.import)
    (c.args.ask.now.params.items, c.args.ask.now.results.items) c.put_u32.new.bytes.items c.put_import.new.bytes.items c.put_import.result
    (subst (λ x. WritesFormat (passed_values false (imports_of c.args.c.now) c.args.ask.now.import) x c.put_u32.new.bytes.items c.put_import.new.bytes.items c.put_import.result) (ap₂ (λ a b. (
      a,
      b,
    )) c.as_slice.ensures.value c.as_slice-in-Ok.ensures.value) c.put_import.ensures.writes) in
    record { writes = numbered_written 4 (λ n. n < (imports_of c.args.c.now).count) (λ n. as_ (served_ask_of false n) (passed_values false (imports_of c.args.c.now) n)) c.args.ask.now.import (served_ask c.args.ask.now) (λ m xs h. sym (ask_number (exports_of c.args.c.now) (imports_of c.args.c.now) m (served_ask c.args.ask.now) xs h)) c.args.bytes.now.items c.put_u32.new.bytes.items c.put_import.new.bytes.items c.put_import.result c.requires.of.known c.in-Ok.ensures.writes parts }

pub returns-in-Err : goal.returns-in-Err
returns-in-Err c = record { writes = number_long 4 (λ n. n < (imports_of c.args.c.now).count) (λ n. as_ (served_ask_of false n) (passed_values false (imports_of c.args.c.now) n)) c.args.ask.now.import (served_ask c.args.ask.now) (λ m xs h. sym (ask_number (exports_of c.args.c.now) (imports_of c.args.c.now) m (served_ask c.args.ask.now) xs h)) c.args.bytes.now.items c.put_u32.new.bytes.items c.put_u32.new.bytes.items c.in-Err.error c.in-Err.ensures.writes }
