use Rattle.canon_lowering.specs.Storing.{narrow}
use Rattle.canon_abi.specs.Options.{encoding_of}
use Rattle.canon_value_parts.proofs.LiftSteps.{string_lifted, string_refused}
use Rattle.canon_walks.proofs.lift.lift_string.Goals as goal

pub returns-in-Ok-clause-lifts : goal.returns-in-Ok-clause-lifts
returns-in-Ok-clause-lifts c =
    let a = c.args in
    let found = c.pointer_and_length-pointer.ensures in
    string_lifted (encoding_of a.source.now.encoding) (narrow a.source.now.memory.now) a.src.now a.at.now _ _ found.pointer found.count a.fuel.now c.load_text.new.fuel c.in-Ok.text c.in-Ok.ensures.ok

pub returns-in-Err-clause-lifts : goal.returns-in-Err-clause-lifts
returns-in-Err-clause-lifts c =
    let a = c.args in
    let found = c.pointer_and_length-pointer.ensures in
    string_refused (encoding_of a.source.now.encoding) (narrow a.source.now.memory.now) a.src.now a.at.now _ _ found.pointer found.count a.fuel.now c.word_at.result c.in-Err.fault c.word_at.ensures c.in-Err.ensures.err
