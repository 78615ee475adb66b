use Rattle.std.proofs.Common.{ap, arith, inl, inr, length, sym}
use Rattle.std.proofs.lemmas.Str.{encode_ascii}
use Rattle.canon_text.proofs.Narrowing.{begins_ascii, no_latin1, begins_two, two_long}
use Rattle.canon_text.proofs.latin1.latin1_at.Goals as goal

pub returns-then-first-lt128 : goal.returns-then-first-lt128
returns-then-first-lt128 c = (begins_ascii c.args.src.now c.args.at c.requires c.if-first-lt128.true, sym (ap length (encode_ascii _ c.if-first-lt128.true)), omega arith, omega arith)

pub returns-then-at-src : goal.returns-then-at-src
returns-then-at-src c = no_latin1 c.args.src.now c.args.at c.if-first-lt128.false (inl c.if-at-src.true)

pub returns-in-Some : goal.returns-in-Some
returns-in-Some c =
    let a = c.in-Some.ensures in
    (begins_two c.args.src.now c.args.at c.in-Some.byte c.if-at-src.false a.0 a.1 a.2 a.3 a.4, two_long _ _ c.in-Some.byte a, omega arith, omega arith)

pub returns-in-None : goal.returns-in-None
returns-in-None c = no_latin1 c.args.src.now c.args.at c.if-first-lt128.false (inr c.in-None.ensures)
