use Rattle.std.proofs.Common.{Err, Ok, subst, true, ◌<◌}
use Rattle.canon_recording_parts.specs.Format.{as_, number}
use Rattle.canon_recording_parts.specs.Read.{ReadsFormat}
use Rattle.canon_recording.specs.Recordings.{imports_of, passed_values, served_ask_of}
use Rattle.canon_recording_parts.proofs.Reading.{recording_named, named_stops, number_stops, then_read, then_stops}
use Rattle.canon_recording.proofs.decoding.read_ask.Goals as goal

pub returns-in-Ok-read_import : goal.returns-in-Ok-read_import
returns-in-Ok-read_import c =
    let parts = recording_named (served_ask_of true c.in-Ok.import) (passed_values true (imports_of c.args.c.now) c.in-Ok.import) c.args.bytes.now c.read_below.new.at c.read_import.new.at
    (c.in-Ok-read_import.params.items, c.in-Ok-read_import.results.items) c.in-Ok-read_import.ensures.reads in
    record { reads = then_read 4 (λ n. n < (imports_of c.args.c.now).count) (λ n. as_ (served_ask_of true n) (passed_values true (imports_of c.args.c.now) n)) c.args.bytes.now c.args.at.now c.read_below.new.at c.read_import.new.at c.read_import.new.at c.in-Ok.import (served_ask_of true c.in-Ok.import (c.in-Ok-read_import.params.items, c.in-Ok-read_import.results.items)) (subst (λ m. ReadsFormat (number 4 (λ n. n < m)) c.args.bytes.now c.args.at.now c.read_below.new.at (Ok c.in-Ok.import)) c.import_count.ensures c.in-Ok.ensures.reads) parts }

pub returns-in-Err-read_import : goal.returns-in-Err-read_import
returns-in-Err-read_import c =
    let parts = named_stops (served_ask_of true c.in-Ok.import)
    (passed_values true (imports_of c.args.c.now) c.in-Ok.import) c.args.bytes.now c.read_below.new.at c.read_import.new.at c.read_import.new.at c.in-Err-read_import.error c.in-Err-read_import.ensures.reads in
    record { reads = then_stops 4 (λ n. n < (imports_of c.args.c.now).count) (λ n. as_ (served_ask_of true n) (passed_values true (imports_of c.args.c.now) n)) c.args.bytes.now c.args.at.now c.read_below.new.at c.read_import.new.at c.read_import.new.at c.in-Ok.import c.in-Err-read_import.error (subst (λ m. ReadsFormat (number 4 (λ n. n < m)) c.args.bytes.now c.args.at.now c.read_below.new.at (Ok c.in-Ok.import)) c.import_count.ensures c.in-Ok.ensures.reads) parts }

pub returns-in-Err : goal.returns-in-Err
returns-in-Err c = record { reads = number_stops 4 (λ n. n < (imports_of c.args.c.now).count) (λ n. as_ (served_ask_of true n) (passed_values true (imports_of c.args.c.now) n)) c.args.bytes.now c.args.at.now c.read_below.new.at c.read_below.new.at c.read_below.new.at c.in-Err.error (subst (λ m. ReadsFormat (number 4 (λ n. n < m)) c.args.bytes.now c.args.at.now c.read_below.new.at (Err c.in-Err.error)) c.import_count.ensures c.in-Err.ensures.reads) }
