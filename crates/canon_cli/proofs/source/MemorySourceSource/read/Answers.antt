use Rattle.std.proofs.Common.{◌+◌, ◌∙◌, ◌≤◌, ap, arith, length, sym}
use Rattle.std.proofs.lemmas.Grind.{common_steps}
use Rattle.canon_cli.proofs.Pieces.{given, gives_front, cli_none_left}
use Rattle.canon_cli.proofs.source.MemorySourceSource.read.Goals as goal

pub returns-clause-bytes : goal.returns-clause-bytes
returns-clause-bytes c =
    let all = c.self.inside.bytes.items in
    let at = c.self.inside.at in
    let fits : at + c.min-count.result ≤ length all = grind (arith, common_steps, c.min.ensures, c.min-count.ensures, c.deref-2.ensures.value) in (
      ap (λ s. s.left) (sym c.self.view_is) ∙ gives_front all at c.min-count.result c.copy_from_slice.new.self _ (given all c.deref-2.result.now _ at c.min-count.result c.deref-2.ensures.value c.copy_from_slice.ensures.after) fits,
      λ none room. cli_none_left all (at + c.min-count.result) (grind (arith, common_steps, c.min.ensures, c.min-count.ensures, c.deref-2.ensures.value, c.copy_from_slice.ensures.len, c.self.invariant)),
    )
