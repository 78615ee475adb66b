use Rattle.std.proofs.Common.{Err, ap, subst, sym, true, ◌∙◌}
use Rattle.canon_recording_parts.specs.Read.{ReadsFormat}
use Rattle.canon_recording.specs.Recordings.{SpellsValue, value}
use Rattle.canon_types.specs.Table.{shape_of}
use Rattle.canon_recording_parts.proofs.Reading.{block_cut, block_spells}
use Rattle.canon_recording.proofs.Deciding.{bad_image}
use Rattle.canon_recording.specs.Coded.{told_as}
use Rattle.canon_recording.proofs.decoding.read_value.Goals as goal

pub returns-in-Ok-read_image : goal.returns-in-Ok-read_image
returns-in-Ok-read_image c =
    let (no_handle, (t, image, lifted)) = c.in-Ok-read_image.ensures.is in
    record { reads = block_spells (SpellsValue true (shape_of c.args.types.now c.args.ty.now)) c.args.bytes.now c.args.at.now c.read_bytes.new.at c.read_bytes.new.at c.in-Ok-read_image.val c.in-Ok.image.now (t, lifted, image) c.in-Ok.ensures.reads }

pub returns-in-Err-read_image : goal.returns-in-Err-read_image
returns-in-Err-read_image c =
    let s = shape_of c.args.types.now c.args.ty.now in
    let bad = bad_image s c.args.bytes.now c.args.at.now c.read_bytes.new.at c.read_bytes.new.at c.in-Ok.image.now c.in-Err-read_image.error c.requires.no_handle c.in-Err-read_image.ensures.only c.in-Ok.ensures.reads in
    let told = ap (λ n. told_as n c.in-Err-read_image.error) c.saturating_sub-start.ensures in
    record { reads = subst (λ e. ReadsFormat (value true s) c.args.bytes.now c.args.at.now c.read_bytes.new.at (Err e)) (sym (c.told_as.ensures ∙ told)) bad }

pub returns-in-Err : goal.returns-in-Err
returns-in-Err c = record { reads = block_cut (SpellsValue true (shape_of c.args.types.now c.args.ty.now)) c.args.bytes.now c.args.at.now c.read_bytes.new.at c.read_bytes.new.at c.in-Err.error c.in-Err.ensures.reads }
