use Rattle.canon_types.specs.Table.{shape_of}
use Rattle.canon_recording.specs.Fits.{IsValueOf}
use Rattle.canon_recording.proofs.Answering.{is_so}
use Rattle.canon_recording.proofs.Staging.{none}
use Rattle.canon_recording.proofs.Values.{recorded_no_fault}
use Rattle.canon_recording.proofs.fitting.val_fits.Goals as goal

pub returns-in-Ok : goal.returns-in-Ok
returns-in-Ok c =
    let imaged = c.in-Ok.ensures.is in
    record { decides = is_so (IsValueOf (shape_of c.args.types.now c.args.ty.now) c.args.val.now) (imaged.1.0, imaged.1.1) }

pub returns-in-Err-NotOfType : goal.returns-in-Err-NotOfType
returns-in-Err-NotOfType c =
    let (free, kind, blames) = rw c.in-Err-NotOfType.field-0-is at c.in-Err-NotOfType.ensures.is in
    record { decides = none (recorded_no_fault (shape_of c.args.types.now c.args.ty.now) c.args.val.now _ kind blames) }
