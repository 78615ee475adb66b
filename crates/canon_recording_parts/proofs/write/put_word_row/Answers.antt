use Rattle.std.proofs.Common.{arith, length, ap, sym, ◌<◌, ◌∙◌}
use Rattle.std.specs.Prelude.{slice_index_or}
use Rattle.canon_recording_parts.specs.Format.{any_number}
use Rattle.canon_recording_parts.proofs.Laws.{any_sound}
use Rattle.canon_recording_parts.proofs.Writing.{none_added, row_added, row_all, row_long}
use Rattle.canon_recording_parts.proofs.write.put_word_row.Goals as goal

pub loop-word-init : goal.loop-word-init
loop-word-init c = record { added = none_added c.args.bytes.now.items }

pub loop-word-preserved : goal.loop-word-preserved
loop-word-preserved c =
    let more : c.loop-word.word-index < length c.args.words.now = omega (arith, c.loop-word-test.true, c.loop-word.auto.word-index-end) in
    record { added = row_added (any_number 8) (any_sound 8) c.args.words.now c.args.bytes.now.items c.loop-word.bytes.items c.put_u64.new.bytes.items c.loop-word.word-index c.get_u64.result more (ap (λ i. slice_index_or c.args.words.now c.loop-word.word-index i) c.get_u64.ensures ∙ (sym c.word-item.is ∙ sym c.get_u64.ensures)) c.loop-word.invariant.added c.in-Ok.ensures.writes }

pub returns : goal.returns
returns c = record {
  writes = row_all (any_number 8) (any_sound 8) c.args.words.now c.args.bytes.now.items c.loop-word.bytes.items c.loop-word.word-index (omega (
    arith,
    c.loop-word-test.false,
    c.loop-word.auto.word-index-end,
  )) c.loop-word.invariant.added;
}

pub returns-in-Err : goal.returns-in-Err
returns-in-Err c =
    let more : c.loop-word.word-index < length c.args.words.now = omega (arith, c.loop-word-test.true, c.loop-word.auto.word-index-end) in
    record { writes = row_long (any_number 8) (any_sound 8) c.args.words.now c.args.bytes.now.items c.loop-word.bytes.items c.put_u64.new.bytes.items c.put_u64.new.bytes.items c.loop-word.word-index c.get_u64.result c.in-Err.error more (ap (λ i. slice_index_or c.args.words.now c.loop-word.word-index i) c.get_u64.ensures ∙ (sym c.word-item.is ∙ sym c.get_u64.ensures)) c.loop-word.invariant.added c.in-Err.ensures.writes }
