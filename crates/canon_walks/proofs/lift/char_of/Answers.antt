use Rattle.std.proofs.Common.{◌≡◌, ◌%◌, ◌^◌, ◌∙◌, ap, refl, subst}
use Rattle.std.specs.Char.{IsScalar}
use Rattle.canon_model.specs.Shape.{char}
use Rattle.canon_model.specs.Tree.{code_point}
use Rattle.canon_walks.proofs.lift.char_of.Goals as goal

pub returns-in-Some-clause-value : goal.returns-in-Some-clause-value
returns-in-Some-clause-value c =
    let found = c.in-Some.ensures.value in
    let there : c.in-Some.c ≡ c.args.word.now % 2 ^ 32 = found.1 ∙ c.get_u32.ensures in
    (char, code_point c.in-Some.c, refl, (c.in-Some.c, refl, refl), (ap code_point there, subst (λ n. IsScalar n) c.get_u32.ensures found.0))
