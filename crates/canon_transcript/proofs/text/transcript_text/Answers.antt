use Rattle.std.proofs.Common.{◌≤◌, ◌∙◌, ap, arith, length}
use Rattle.canon_transcript.specs.Text.{transcript_text}
use Rattle.canon_transcript.proofs.Numbered.{printed_records}
use Rattle.canon_transcript.proofs.text.transcript_text.Goals as goal

pub returns : goal.returns
returns c =
    let records = c.records-item-items.result.now in
    let past : length records ≤ c.loop-item.item-index = omega arith in
    printed_records records c.loop-item.item-index _ _ past c.loop-item.invariant ∙ ap transcript_text c.records-item-items.ensures
