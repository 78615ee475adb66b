use Rattle.std.proofs.Common.{IsTrue, ◌+◌, ◌∷◌, ◌∙◌, ap, arith, drop, map, subst, sym}
use Rattle.std.proofs.lemmas.Grind.{common_steps}
use Rattle.canon_abi.specs.Alignment.{is_alignment}
use Rattle.canon_abi.specs.Numbers.{case_numbers_in, largest_align, largest_size}
use Rattle.canon_abi.proofs.Members.{alignment_of_max, cases-drop, max-one-largest_align}
use Rattle.canon_abi.proofs.abi.CanonicalAbiInfo.variant_extent.Goals as goal

pub loop-case-init : goal.loop-case-init
loop-case-init c = grind (arith, common_steps, max-one-largest_align (map (case_numbers_in c.args.wide) c.args.cases.now))

pub loop-case-preserved : goal.loop-case-preserved
loop-case-preserved c =
    let cases = c.args.cases.now in
    let first = cases-drop c.args.wide cases c.loop-case.case-index c.case-item.result c.loop-case-test.true c.case-item.is
    ∙ ap (λ x. case_numbers_in c.args.wide x ∷ map (case_numbers_in c.args.wide) (drop (c.loop-case.case-index + 1) cases)) c.in-Some.is in
    record {
      in_range = c.max-largest.type_inv;
      aligned = subst (λ n. IsTrue (is_alignment n)) (sym c.max-align.ensures) (alignment_of_max c.loop-case.align c.align.result c.loop-case.invariant.aligned c.align.ensures.aligned);
      sizes = omega (arith, c.max-largest.ensures, c.size.ensures.numbers, c.loop-case.invariant.sizes, ap largest_size first);
      aligns = omega (arith, c.max-align.ensures, c.align.ensures.numbers, c.loop-case.invariant.aligns, ap largest_align first);
    }
