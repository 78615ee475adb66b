use Rattle.std.proofs.Common.{arith, length, refl, rules, ◌<◌, ◌^◌, ◌≡◌}
use Rattle.canon_image_parts.proofs.Writing.{handle_written}
use Rattle.canon_image_parts.specs.Written.{sink}
use Rattle.canon_image_parts.proofs.write.write_handle.Goals as goal

pub returns-in-Ok-keep : goal.returns-in-Ok-keep
returns-in-Ok-keep c =
    let a = c.args in
    let n = c.len-number.result in
    let many : n ≡ length a.resources.now.items = search rules in
    let few : n < 2 ^ 32 = omega (arith, c.if-number-gt4294967295.false) in
    record {
      writes = handle_written (sink a.bytes.now.items a.resources.now.items) (sink c.put_number.new.bytes.items a.resources.now.items)
          (sink c.put_number.new.bytes.items c.keep.new.resources.items) n a.place c.saturating_add.result a.resource many few
          (c.in-Ok.ensures.ok, refl) refl c.in-Ok-keep.ensures.ok c.saturating_add.ensures;
    }
