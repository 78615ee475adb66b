use Rattle.std.proofs.Common.{sym}
use Rattle.canon_text.proofs.Compacting.{compacts_narrow, compacts_wide}
use Rattle.canon_text.proofs.compact.utf16_to_compact_probably_utf16.Goals as goal

pub returns-then-not-is_latin1 : goal.returns-then-not-is_latin1
returns-then-not-is_latin1 c = compacts_wide c.args.src.now c.args.dst.now _ c.in_default.ensures c.requires.room (sym c.if-not-is_latin1.ensures) c.write_units-2.ensures

pub returns : goal.returns
returns c = compacts_narrow c.args.src.now c.args.dst.now _ _ c.in_default.ensures c.requires.room (sym c.if-not-is_latin1.ensures) c.write_units-2.ensures c.deflate.ensures
