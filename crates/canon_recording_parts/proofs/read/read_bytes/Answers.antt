use Rattle.std.proofs.Common.{arith, length, take, drop, subst, sym, ◌+◌, ◌-◌, ◌≤◌, ◌≡◌}
use Rattle.std.specs.Prelude.{⊤}
use Rattle.std.proofs.Common.{Ok}
use Rattle.canon_recording_parts.specs.Read.{ReadsFormat}
use Rattle.canon_recording_parts.specs.Events.{byte_list, raw}
use Rattle.canon_recording_parts.specs.Format.{any_number}
use Rattle.canon_recording_parts.proofs.Reading.{block_read, block_short, number_stops, ok_inside}
use Rattle.canon_recording_parts.proofs.read.read_bytes.Goals as goal

pub returns-else-bytes-at : goal.returns-else-bytes-at
returns-else-bytes-at c =
    let bs = c.args.bytes.now in
    let mid = c.read_u64.new.at in
    let n = c.in-Ok.count in
    let room : mid + n ≤ length bs = omega (arith, c.if-bytes-at.false, (ok_inside (any_number 8) bs c.args.at.now mid n c.in-Ok.ensures.reads)) in
    let count : mid + n - mid ≡ n = omega arith in
    let read = block_read bs c.args.at.now mid n room c.in-Ok.ensures.reads in
    record { reads = subst (λ k. ReadsFormat byte_list bs c.args.at.now (mid + n) (Ok (take k (drop mid bs)))) (sym count) read }

pub returns-then-bytes-at : goal.returns-then-bytes-at
returns-then-bytes-at c =
    let bs = c.args.bytes.now in
    let mid = c.read_u64.new.at in
    record { reads = block_short bs c.args.at.now mid c.in-Ok.count mid c.if-bytes-at.true (ok_inside (any_number 8) bs c.args.at.now mid c.in-Ok.count c.in-Ok.ensures.reads) c.in-Ok.ensures.reads }

pub returns-in-Err : goal.returns-in-Err
returns-in-Err c = record { reads = number_stops 8 (λ n. ⊤) raw c.args.bytes.now c.args.at.now c.read_u64.new.at c.read_u64.new.at c.read_u64.new.at c.in-Err.error c.in-Err.ensures.reads }
