use Rattle.std.proofs.Common.{ap, rules, sym, ◌∙◌}
use Rattle.canon_named.proofs.SetNames.{bar_after, bar_after_more, name_written, none_written, set_step, unset_step}
use Rattle.canon_named.proofs.names.write_set_names.Goals as goal
use Rattle.canon_named.proofs.names.write_set_names.Goals.{then-is_set+in_ok-write_str+in_ok-write_str-2, else-is_set}

pub loop-k-preserved : goal.loop-k-preserved
loop-k-preserved g c = elim c.if-is_set.branch [
  | then-is_set+in_ok-write_str+in_ok-write_str-2 w ↦
      let more = set_step c.args.bits.now c.args.names.now c.loop-k.k c.index-names-k.result c.loop-k-test.true (sym c.is_set.ensures ∙ w.if-is_set.true) c.index-names-k.is in
      record {
        text = search rules;
        separator = ap (λ s. s.now) w.separator-is ∙ sym (ap bar_after more ∙ bar_after_more _ _);
        written = λ flush.
            let before = c.loop-k.invariant.written flush in
            let barred = w.write_str.ensures.styled before.flush (search rules) in
            let named = w.write_str-then-is_set.ensures.styled barred.flush (search rules) in
            name_written g.W.Write.write_str_gives _ _ _ _ _ _ _ _ _ _ c.loop-k.invariant.separator more w.as_str.ensures.value w.f-is before barred named;
      }
  | else-is_set w ↦
      let same = unset_step c.args.bits.now c.args.names.now c.loop-k.k c.index-names-k.result c.loop-k-test.true (sym c.is_set.ensures ∙ w.if-is_set.false) in
      record {
        text = search rules;
        separator = ap (λ s. s.now) w.separator-is ∙ c.loop-k.invariant.separator ∙ ap bar_after (sym same);
        written = λ flush. none_written g.W.Write.write_str_gives _ _ _ _ _ same w.f-is (c.loop-k.invariant.written flush);
      }
]
