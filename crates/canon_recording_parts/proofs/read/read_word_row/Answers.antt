use Rattle.std.proofs.Common.{arith, subst, sym, ◌+◌}
use Rattle.std.proofs.Common.{[], ◌++◌, ◌∷◌}
use Rattle.canon_recording_parts.specs.Read.{IsReadSoFar}
use Rattle.canon_recording_parts.specs.Format.{any_number, in_a_row}
use Rattle.canon_recording_parts.proofs.Reading.{recording_row_begin, row_done, recording_row_go_on, recording_row_stop}
use Rattle.canon_recording_parts.proofs.read.read_word_row.Goals as goal

pub read_u64-requires : goal.read_u64-requires
read_u64-requires c = record { inside = c.loop.invariant.read.span.inside }

pub loop-init : goal.loop-init
loop-init c = record { read = subst (λ xs. IsReadSoFar (in_a_row (any_number 8) 0) c.args.bytes.now c.args.at.now c.args.at.now xs) (sym c.new-words.ensures) (recording_row_begin (any_number 8) c.args.bytes.now c.args.at.now c.requires.inside) }

pub loop-preserved : goal.loop-preserved
loop-preserved c =
    let all = recording_row_go_on (any_number 8) c.args.bytes.now c.args.at.now c.loop.at c.read_u64.new.at c.loop.counter c.loop.words c.in-Ok.word c.loop.invariant.read c.in-Ok.ensures.reads in
    record { read = subst (λ xs. IsReadSoFar (in_a_row (any_number 8) (c.loop.counter + 1)) c.args.bytes.now c.args.at.now c.read_u64.new.at xs) (sym (c.in-Ok-push.ensures.ok)) (subst (λ i. IsReadSoFar (in_a_row (any_number 8) (c.loop.counter + 1)) c.args.bytes.now c.args.at.now c.read_u64.new.at (c.loop.words ++ i ∷ [])) (sym c.u64.ensures) all) }

pub returns : goal.returns
returns c = record { reads = row_done (any_number 8) c.args.bytes.now c.args.at.now c.loop.at c.loop.counter c.args.count c.loop.words (omega (arith, c.loop-test.false, c.loop.auto.counter-end)) c.loop.invariant.read }

pub returns-in-Err : goal.returns-in-Err
returns-in-Err c = record { reads = recording_row_stop (any_number 8) c.args.bytes.now c.args.at.now c.loop.at c.read_u64.new.at c.read_u64.new.at c.loop.counter c.args.count c.loop.words c.in-Err.error (omega (arith, c.loop-test.true, c.loop.auto.counter-end)) c.loop.invariant.read c.in-Err.ensures.reads }
