use Rattle.std.proofs.Common.{length, ap, sym, ◌∙◌}
use Rattle.std.specs.Prelude.{⊤}
use Rattle.canon_recording_parts.specs.Events.{raw}
use Rattle.canon_recording_parts.proofs.Writing.{number_long, numbered_written}
use Rattle.canon_recording_parts.proofs.write.put_bytes.Goals as goal

pub returns-in-Ok : goal.returns-in-Ok
returns-in-Ok c = record {
  writes = numbered_written 8 (λ n. ⊤) raw (length c.args.more.now) c.args.more.now (λ m xs h. sym h.0
      ∙ ap length h.1) c.args.bytes.now.items c.put_u64.new.bytes.items c.append.new.bytes.items c.append.result tt c.in-Ok.ensures.writes c.append.ensures.writes;
}

pub returns-in-Err : goal.returns-in-Err
returns-in-Err c = record {
  writes = number_long 8 (λ n. ⊤) raw (length c.args.more.now) c.args.more.now (λ m xs h. sym h.0
      ∙ ap length h.1) c.args.bytes.now.items c.put_u64.new.bytes.items c.put_u64.new.bytes.items c.in-Err.error c.in-Err.ensures.writes;
}
