use Rattle.canon_recording_parts.specs.Written.{WritesFormat}
use Rattle.std.proofs.Common.{subst, sym, ◌<◌, ◌∙◌}
use Rattle.canon_recording_parts.specs.Events.{tagged}
use Rattle.canon_recording_parts.proofs.Laws.{recording_tag_is, tag_small}
use Rattle.canon_recording_parts.proofs.Writing.{number_long, numbered_written}
use Rattle.canon_recording_parts.proofs.write.put_event.Goals as goal

pub returns-in-Ok : goal.returns-in-Ok
returns-in-Ok c = record {
  writes = numbered_written 1 (λ n. n < 6) (tagged c.args.imports) c.tag_of.result c.args.event.now (λ m xs h. sym (recording_tag_is c.args.imports m c.args.event.now xs h)
      ∙ sym c.tag_of.ensures) c.args.bytes.now.items c.put_u8.new.bytes.items c.put_tagged.new.bytes.items c.put_tagged.result (subst (λ n. n < 6) (sym c.tag_of.ensures)
      (tag_small c.args.imports c.args.event.now c.requires.written)) c.in-Ok.ensures.writes (subst
      (λ n. WritesFormat (tagged c.args.imports n) c.args.event.now c.put_u8.new.bytes.items c.put_tagged.new.bytes.items c.put_tagged.result) (sym c.tag_of.ensures) c.put_tagged.ensures.writes);
}

pub returns-in-Err : goal.returns-in-Err
returns-in-Err c = record {
  writes = number_long 1 (λ n. n < 6) (tagged c.args.imports) c.tag_of.result c.args.event.now (λ m xs h. sym (recording_tag_is c.args.imports m c.args.event.now xs h)
      ∙ sym c.tag_of.ensures) c.args.bytes.now.items c.put_u8.new.bytes.items c.put_u8.new.bytes.items c.in-Err.error c.in-Err.ensures.writes;
}
