use Rattle.std.proofs.Common.{Ok, subst}
use Rattle.canon_recording_parts.specs.Format.{any_number}
use Rattle.canon_recording_parts.specs.Read.{ReadsFormat}
use Rattle.canon_recording.proofs.Deciding.{cut_letters, no_letters, these_letters}
use Rattle.canon_recording.proofs.decoding.read_letters.Goals as goal

pub returns-then-number-letters : goal.returns-then-number-letters
returns-then-number-letters c = record { reads = these_letters c.args.bytes.now c.args.at.now c.read_u32.new.at (subst (λ n. ReadsFormat (any_number 4) c.args.bytes.now c.args.at.now c.read_u32.new.at (Ok n)) c.if-number-letters.true c.in-Ok.ensures.reads) }

pub returns-else-number-letters : goal.returns-else-number-letters
returns-else-number-letters c = record { reads = no_letters c.args.bytes.now c.args.at.now c.read_u32.new.at c.read_u32.new.at c.in-Ok.number c.if-number-letters.false c.in-Ok.ensures.reads }

pub returns-in-Err : goal.returns-in-Err
returns-in-Err c = record { reads = cut_letters c.args.bytes.now c.args.at.now c.read_u32.new.at c.read_u32.new.at c.in-Err.error c.in-Err.ensures.reads }
