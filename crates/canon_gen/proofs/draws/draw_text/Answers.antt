use Rattle.canon_gen.proofs.Steps.{gen_after_step, text_step}
use Rattle.canon_gen.proofs.draws.draw_text.Goals as goal

pub loop-preserved : goal.loop-preserved
loop-preserved c =
    let h = c.loop.invariant in (
      text_step c.draw-len.result c.loop.counter c.loop-test.true c.loop.state c.draw-c.new.state c.draw-c.result c.character.result _ _ _ c.draw-c.ensures.drawn c.draw-c.ensures.next c.character.ensures c.in_ok-push.ensures.bytes h.0,
      gen_after_step c.draw-len.result c.loop.counter c.loop-test.true c.loop.state c.draw-c.new.state _ c.draw-c.ensures.next h.1,
    )
