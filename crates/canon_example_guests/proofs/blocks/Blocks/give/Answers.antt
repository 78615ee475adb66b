use Rattle.std.proofs.Common.{sym, subst, ◌∙◌, ap, arith}
use Rattle.canon_model.proofs.Layouts.{align_to-le}
use Rattle.canon_model.specs.Memory.{Block}
use Rattle.std.proofs.Common.{List, ◌++◌, ◌≤◌, ◌+◌}
use Rattle.canon_scripted.specs.Allocator.{InRow, listed}
use Rattle.canon_scripted.proofs.Rows.{row_add}
use Rattle.canon_example_guests.proofs.blocks.Blocks.give.Goals as goal

pub invariant_of-self-2 : goal.invariant_of-self-2
invariant_of-self-2 c =
    let s = c.self.inside in
    let up : s.top ≤ c.in-Some.start = omega (arith, align_to-le s.top c.from.result (omega (arith, c.from.ensures, c.requires.aligned)), c.in-Some.ensures) in
    subst (λ (xs : List Block). InRow 0 xs (c.in-Some.start + c.args.size)) (sym (c.list.ensures ∙ ap (λ (xs : List Block). xs ++ listed c.in-Some.start c.args.size) c.reserve.ensures.items))
    (row_add 0 s.live.items s.top c.in-Some.start c.args.size up c.self.invariant)
