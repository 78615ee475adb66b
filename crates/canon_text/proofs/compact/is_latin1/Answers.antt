use Rattle.std.proofs.Common.{arith, subst, sym, ◌+◌, ◌≡◌}
use Rattle.std.proofs.lemmas.List.{take_all}
use Rattle.canon_text.specs.Runs.{AllBelow, run}
use Rattle.canon_text.proofs.Bytes.{latin1_from, latin1_not}
use Rattle.canon_text.proofs.Copied.{run-more, run_of_one}
use Rattle.canon_text.proofs.compact.is_latin1.Goals as goal

pub loop-at-init : goal.loop-at-init
loop-at-init c = (omega arith, λ k. omega arith)

pub returns-then-src-at-gt255 : goal.returns-then-src-at-gt255
returns-then-src-at-gt255 c = sym (latin1_not c.args.src.now (c.loop-at.at + c.run_below-at.result) (omega arith))

pub loop-at-preserved-then-at-src : goal.loop-at-preserved-then-at-src
loop-at-preserved-then-at-src c =
    let at = c.loop-at.at + c.run_below-at.result in
    let zero_at : 0 + c.loop-at.at ≡ c.loop-at.at = omega arith in
    let mid = run-more 256 c.args.src.now 0 c.loop-at.at c.run_below-at.result c.loop-at.invariant.1 (subst (λ n. AllBelow 256 (run c.args.src.now n c.run_below-at.result)) (sym zero_at) c.run_below-at.ensures.below) in
    let next : 0 + at ≡ at = omega arith in
    (omega (arith, c.if-at-src.true), run-more 256 c.args.src.now 0 at 1 mid (subst (λ n. AllBelow 256 (run c.args.src.now n 1)) (sym next) (run_of_one 256 c.args.src.now at c.if-at-src.true (omega arith))))

pub loop-at-preserved : goal.loop-at-preserved
loop-at-preserved c =
    let zero_at : 0 + c.loop-at.at ≡ c.loop-at.at = omega arith in
    (c.run_below-at.ensures.inside, run-more 256 c.args.src.now 0 c.loop-at.at c.run_below-at.result c.loop-at.invariant.1 (subst (λ n. AllBelow 256 (run c.args.src.now n c.run_below-at.result)) (sym zero_at) c.run_below-at.ensures.below))

pub returns : goal.returns
returns c = sym (latin1_from c.args.src.now (subst (AllBelow 256) (take_all c.loop-at.at c.args.src.now c.loop-at-test.false) c.loop-at.invariant.1))
