use Rattle.std.proofs.Common.{IsTrue, ◌+◌, ◌∙◌, ap, arith, drop, map, subst, sym}
use Rattle.std.proofs.lemmas.Grind.{common_steps}
use Rattle.canon_abi.specs.Numbers.{end_of, largest_align, numbers_in}
use Rattle.canon_abi.specs.Alignment.{is_alignment}
use Rattle.canon_abi.proofs.Members.{alignment_of_max, fields-drop, max-one-largest_align, product_above, ends_more}
use Rattle.canon_abi.proofs.abi.CanonicalAbiInfo.product_extent.Goals as goal

pub loop-field-init : goal.loop-field-init
loop-field-init c = grind (arith, common_steps, max-one-largest_align (map (numbers_in c.args.wide) c.args.fields.now))

pub loop-field-preserved : goal.loop-field-preserved
loop-field-preserved c =
    let fields = c.args.fields.now in
    let i = c.loop-field.field-index in
    let first = fields-drop c.args.wide fields i c.field-item.result c.loop-field-test.true c.field-item.is in
    let rest = map (numbers_in c.args.wide) (drop (i + 1) fields) in
    record {
      fits = omega (arith, c.if-end-gt-MAX_SIZE.false);
      aligned = subst (λ n. IsTrue (is_alignment n)) (sym c.max-align.ensures) (alignment_of_max c.loop-field.align c.align.result c.loop-field.invariant.aligned c.align.ensures.aligned);
      ends = ap (λ n. end_of n rest) c.end-end.ensures
          ∙ ends_more c.args.wide fields i c.field-item.result c.loop-field.end _ c.loop-field-test.true c.field-item.is c.loop-field.invariant.ends;
      aligns = omega (arith, c.max-align.ensures, c.align.ensures.numbers, c.loop-field.invariant.aligns, ap largest_align first);
    }

pub returns-then-end-gt-MAX_SIZE : goal.returns-then-end-gt-MAX_SIZE
returns-then-end-gt-MAX_SIZE c =
    let fields = c.args.fields.now in
    let rest = map (numbers_in c.args.wide) (drop (c.loop-field.field-index + 1) fields) in
    let ends = ends_more c.args.wide fields c.loop-field.field-index c.field-item.result c.loop-field.end _ c.loop-field-test.true c.field-item.is c.loop-field.invariant.ends in
    omega (arith, product_above _ (map (numbers_in c.args.wide) fields) rest ends)
