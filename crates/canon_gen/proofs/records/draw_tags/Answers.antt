use Rattle.std.proofs.Common.{◌∙◌, ap}
use Rattle.canon_val.specs.declared.val.Val.TheVariants as val
use Rattle.canon_literals.proofs.Views.{literal-String}
use Rattle.canon_literals.specs.Literals.{text}
use Rattle.canon_gen.proofs.Steps.{after_texts_step, tag_step}
use Rattle.canon_gen.proofs.records.draw_tags.Goals as goal

pub loop-preserved : goal.loop-preserved
loop-preserved c =
    let h = c.loop.invariant in
    let n = c.draw-count.result in
    let tag = c.in_ok-tag.tag in (
      tag_step n c.loop.counter c.loop-test.true c.loop.state c.draw_text.new.state (val.String tag) _ _ _ (literal-String tag ∙ ap (λ t. text t) c.in_ok-tag.ensures.text) c.in_ok-tag.ensures.next c.in_ok-push.ensures.items h.0,
      after_texts_step n c.loop.counter c.loop-test.true c.loop.state c.draw_text.new.state _ c.in_ok-tag.ensures.next h.1,
    )
