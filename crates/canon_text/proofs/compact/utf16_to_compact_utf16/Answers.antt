use Rattle.std.proofs.Common.{refl}
use Rattle.canon_text.proofs.Compacting.{behind, widens16}
use Rattle.canon_text.proofs.compact.utf16_to_compact_utf16.Goals as goal

pub returns-in-Some : goal.returns-in-Some
returns-in-Some c = (record { form_is = refl; at = c.in-Some.ensures }, behind c.args.dst.now c.inflate.new.dst _ _ c.args.latin1_bytes_so_far c.inflate.ensures.writes c.inflate.ensures.long c.write_units.ensures)

pub returns : goal.returns
returns c = widens16 c.args.src.now c.args.dst.now c.inflate.new.dst _ c.args.latin1_bytes_so_far _ c.inflate.ensures.writes c.inflate.ensures.long c.in_default.ensures c.write_units-2.ensures refl
