use Rattle.std.proofs.Common.{subst, false, ℕ}
use Rattle.std.proofs.Common.{List}
use Rattle.canon_recording_parts.specs.Events.{byte_list}
use Rattle.canon_recording_parts.specs.Written.{WritesFormat}
use Rattle.canon_recording.specs.Recordings.{SpellsValue}
use Rattle.canon_types.specs.Table.{shape_of}
use Rattle.canon_recording_parts.proofs.Writing.{block_written}
use Rattle.canon_recording.proofs.Values.{spelled_once}
use Rattle.canon_recording.proofs.encoding.put_value.Goals as goal

pub returns-in-Ok : goal.returns-in-Ok
returns-in-Ok c =
    let s = shape_of c.args.types.now c.args.ty.now in
    let (no_handle, spelled) = c.in-Ok.ensures.is in
    let written = block_written (SpellsValue false s) (spelled_once s) c.args.val.now c.in-Ok.image.items c.args.bytes.now.items c.put_bytes.new.bytes.items spelled c.put_bytes.result in
    record { writes = written (subst (λ (xs : List ℕ). WritesFormat byte_list xs c.args.bytes.now.items c.put_bytes.new.bytes.items c.put_bytes.result) c.as_slice.ensures.value c.put_bytes.ensures.writes) }
