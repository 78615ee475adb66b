use Rattle.std.proofs.Common.{◌≡◌, None, Some, ap, subst, sym, ◌∙◌}
use Rattle.std.specs.List.{position}
use Rattle.std.specs.Prelude.{OnOk}
use Rattle.canon_transcript.specs.Blocks.{answered_block, is_at}
use Rattle.canon_transcript.proofs.Puts.{put_absent, put_removed, put_written}
use Rattle.canon_transcript.proofs.blocks.put_block.Goals as goal

pub returns-in_default : goal.returns-in_default
returns-in_default c =
    let none : position (is_at c.args.old.start c.args.old.size) c.args.blocks.now.items ≡ None = ap (position (is_at c.args.old.start c.args.old.size)) (sym c.deref.ensures.value) ∙ (sym c.place_of.ensures ∙ c.in_default.is) in
    subst (λ bs. OnOk c.add.result (c.add.new.blocks.items ≡ bs)) (sym (put_absent c.args.old.start c.args.old.size (answered_block c.args.new.start c.args.new.size) c.args.blocks.now.items none)) c.add.ensures

pub returns-then-new-gt0 : goal.returns-then-new-gt0
returns-then-new-gt0 c =
    let some : position (is_at c.args.old.start c.args.old.size) c.args.blocks.now.items ≡ Some c.in-Some.i = ap (position (is_at c.args.old.start c.args.old.size)) (sym c.deref.ensures.value) ∙ (sym c.place_of.ensures ∙ c.in-Some.is) in
    put_written c.args.old.start c.args.old.size c.in-Some.i c.args.new c.args.blocks.now.items some c.if-new-gt0.true

pub returns-else-new-gt0 : goal.returns-else-new-gt0
returns-else-new-gt0 c =
    let some : position (is_at c.args.old.start c.args.old.size) c.args.blocks.now.items ≡ Some c.in-Some.i = ap (position (is_at c.args.old.start c.args.old.size)) (sym c.deref.ensures.value) ∙ (sym c.place_of.ensures ∙ c.in-Some.is) in
    c.remove.ensures.by_index.2 ∙ put_removed c.args.old.start c.args.old.size c.in-Some.i c.args.new c.args.blocks.now.items some c.if-new-gt0.false
