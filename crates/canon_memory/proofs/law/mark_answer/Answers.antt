use Rattle.std.proofs.Common.{rules, ◌≡◌, ◌∙◌, ◌++◌, ap₂}
use Rattle.canon_memory.specs.Watch.{other_blocks, unless_empty}
use Rattle.canon_memory.proofs.Watch.{both_relisted, marked}
use Rattle.canon_memory.proofs.law.mark_answer.Goals as goal

pub returns-clause-marked : goal.returns-clause-marked
returns-clause-marked c =
    let a = c.args in
    let before = a.held.now.items ++ a.live.now.items in
    let after = c.unlist.new.live.items ++ c.relist.new.live.items in
    let old = c.new-old.result in
    let new = c.new-new.result in
    let lists : c.deref.result.now ++ c.deref-2.result.now ≡ before = ap₂ (λ xs ys. xs ++ ys) c.deref.ensures.value c.deref-2.ensures.value in
    let listed : after ≡ other_blocks before old ++ unless_empty new =
    ap₂ (λ xs ys. xs ++ ys) c.unlist.ensures.blocks c.relist.ensures ∙ both_relisted a.held.now.items a.live.now.items old new in (
      record { lawful = c.is_lawful.result; tidy = c.is_seen_tidy.result },
      search rules,
      λ memory is longer.
          marked a.whole before memory a.after.now a.old a.old_size a.align a.new_size a.answer c.is_lawful.result c.is_seen_tidy.result (c.deref.result.now ++ c.deref-2.result.now) after a.before.now old new c.new-old.ensures
          c.new-new.ensures lists listed c.is_lawful.ensures c.is_seen_tidy.ensures.tidy c.is_seen_tidy.ensures.told is longer,
    )
