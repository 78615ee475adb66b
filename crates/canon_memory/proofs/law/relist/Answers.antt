use Rattle.std.proofs.Common.{rules, ◌≡◌, ◌∙◌, ap, ◌++◌, ◌∷◌, [], sym, append-nil}
use Rattle.canon_memory.specs.Watch.{unless_empty, other_blocks}
use Rattle.canon_memory.proofs.Watch.{listed_none, listed_some}
use Rattle.canon_memory.proofs.law.relist.Goals as goal

pub returns-then-new-gt0 : goal.returns-then-new-gt0
returns-then-new-gt0 c =
    let pushed : c.push.new.self.items ≡ c.unlist.new.live.items ++ c.args.new ∷ [] = search rules in
    let some : unless_empty c.args.new ≡ c.args.new ∷ [] = listed_some c.args.new (search rules) in
    pushed ∙ ap (λ l. l ++ c.args.new ∷ []) c.unlist.ensures.blocks ∙ ap (λ l. other_blocks c.args.live.now.items c.args.old ++ l) (sym some)

pub returns-else-new-gt0 : goal.returns-else-new-gt0
returns-else-new-gt0 c =
    let none : unless_empty c.args.new ≡ [] = listed_none c.args.new (search rules) in
    c.unlist.ensures.blocks ∙ sym (append-nil (other_blocks c.args.live.now.items c.args.old)) ∙ ap (λ l. other_blocks c.args.live.now.items c.args.old ++ l) (sym none)
