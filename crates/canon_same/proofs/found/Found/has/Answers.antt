use Rattle.std.proofs.Common.{None, arith, subst}
use Rattle.std.specs.Prelude.{IfSome}
use Rattle.std.proofs.lemmas.Bool.{eqb-true}
use Rattle.canon_same.specs.Same.{SameDefinitions}
use Rattle.canon_same.proofs.found.Found.has.Goals as goal

pub returns-then-pair-read : goal.returns-then-pair-read
returns-then-pair-read c i j found h =
    let pair = subst (λ o. IfSome o (λ p. SameDefinitions i j p.read p.written)) c.in-Some.is (found c.slot.result None (omega (arith, c.slot.ensures, c.type_inv.self))) in
    subst (λ n. SameDefinitions i j n c.args.written) c.if-pair-read.true (subst (λ n. SameDefinitions i j c.in-Some.pair.read n) (eqb-true c.in-Some.pair.written c.args.written h) pair)

pub returns-else-pair-read : goal.returns-else-pair-read
returns-else-pair-read c i j found h = absurd (c.if-pair-read.false (eqb-true c.in-Some.pair.read c.args.read h))
