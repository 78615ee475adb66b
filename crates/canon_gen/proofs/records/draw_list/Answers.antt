use Rattle.canon_gen.proofs.Steps.{record_step}
use Rattle.canon_gen.proofs.records.draw_list.Goals as goal

pub loop-id-preserved : goal.loop-id-preserved
loop-id-preserved c =
    record_step c.args.n c.loop-id.id c.loop-id-test.true c.loop-id.state c.draw_record.new.state c.in_ok-draw_record.field-0 _ _ _ c.in_ok-draw_record.ensures.record c.in_ok-draw_record.ensures.next c.in_ok-push.ensures.items
    c.loop-id.invariant
