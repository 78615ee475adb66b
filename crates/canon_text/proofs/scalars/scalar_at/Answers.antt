use Rattle.std.proofs.Common.{arith}
use Rattle.canon_text.proofs.FirstChar.{begins_with, has_width, read_at}
use Rattle.canon_text.proofs.scalars.scalar_at.Goals as goal

pub returns-then-first-lt128-clause-is : goal.returns-then-first-lt128-clause-is
returns-then-first-lt128-clause-is c =
    let r = read_at c.args.src.now c.args.at c.requires.utf8 c.requires.inside in
    begins_with c.args.src.now c.args.at _ r.start (omega (arith, c.from-first.ensures, r.one (omega (arith, c.from-first.ensures))))

pub bounds-src-at-2 : goal.bounds-src-at-2
bounds-src-at-2 c = let r = read_at c.args.src.now c.args.at c.requires.utf8 c.requires.inside in r.long2 (omega (arith, c.from-first.ensures))

pub returns-then-first-lt224-clause-is : goal.returns-then-first-lt224-clause-is
returns-then-first-lt224-clause-is c =
    let r = read_at c.args.src.now c.args.at c.requires.utf8 c.requires.inside in
    begins_with c.args.src.now c.args.at _ r.start (omega (arith, c.from-first.ensures, c.from-second.ensures, r.two (omega (arith, c.from-first.ensures)) (omega (arith, c.from-first.ensures))))

pub bounds-src-at-3 : goal.bounds-src-at-3
bounds-src-at-3 c = let r = read_at c.args.src.now c.args.at c.requires.utf8 c.requires.inside in r.long3 (omega (arith, c.from-first.ensures))

pub returns-then-first-lt240-clause-is : goal.returns-then-first-lt240-clause-is
returns-then-first-lt240-clause-is c =
    let r = read_at c.args.src.now c.args.at c.requires.utf8 c.requires.inside in
    begins_with c.args.src.now c.args.at _ r.start (omega (arith, c.from-first.ensures, c.from-second.ensures, c.from-third.ensures, r.three (omega (arith, c.from-first.ensures)) (omega (arith, c.from-first.ensures))))

pub bounds-src-at-4 : goal.bounds-src-at-4
bounds-src-at-4 c = let r = read_at c.args.src.now c.args.at c.requires.utf8 c.requires.inside in r.long4 (omega (arith, c.from-first.ensures))

pub returns-clause-scalar : goal.returns-clause-scalar
returns-clause-scalar c =
    let r = read_at c.args.src.now c.args.at c.requires.utf8 c.requires.inside in
    omega (arith, r.start.small, c.from-first.ensures, c.from-second.ensures, c.from-third.ensures, c.from-fourth.ensures, r.four (omega (arith, c.from-first.ensures)))

pub returns-clause-is : goal.returns-clause-is
returns-clause-is c =
    let r = read_at c.args.src.now c.args.at c.requires.utf8 c.requires.inside in
    begins_with c.args.src.now c.args.at _ r.start (omega (arith, c.from-first.ensures, c.from-second.ensures, c.from-third.ensures, c.from-fourth.ensures, r.four (omega (arith, c.from-first.ensures))))

pub returns-then-first-lt128-clause-len : goal.returns-then-first-lt128-clause-len
returns-then-first-lt128-clause-len c =
    let r = read_at c.args.src.now c.args.at c.requires.utf8 c.requires.inside in
    has_width r.start.c _ _ (omega (arith, c.from-first.ensures, r.one (omega (arith, c.from-first.ensures)))) (r.wide1 (omega (arith, c.from-first.ensures)))

pub returns-then-first-lt224-clause-len : goal.returns-then-first-lt224-clause-len
returns-then-first-lt224-clause-len c =
    let r = read_at c.args.src.now c.args.at c.requires.utf8 c.requires.inside in
    has_width r.start.c _ _ (omega (arith, c.from-first.ensures, c.from-second.ensures, r.two (omega (arith, c.from-first.ensures)) (omega (arith, c.from-first.ensures))))
    (r.wide2 (omega (arith, c.from-first.ensures)) (omega (arith, c.from-first.ensures)))

pub returns-then-first-lt240-clause-len : goal.returns-then-first-lt240-clause-len
returns-then-first-lt240-clause-len c =
    let r = read_at c.args.src.now c.args.at c.requires.utf8 c.requires.inside in
    has_width r.start.c _ _ (omega (arith, c.from-first.ensures, c.from-second.ensures, c.from-third.ensures, r.three (omega (arith, c.from-first.ensures)) (omega (arith, c.from-first.ensures))))
    (r.wide3 (omega (arith, c.from-first.ensures)) (omega (arith, c.from-first.ensures)))

pub returns-clause-len : goal.returns-clause-len
returns-clause-len c =
    let r = read_at c.args.src.now c.args.at c.requires.utf8 c.requires.inside in
    has_width r.start.c _ _ (omega (arith, c.from-first.ensures, c.from-second.ensures, c.from-third.ensures, c.from-fourth.ensures, r.four (omega (arith, c.from-first.ensures)))) (r.wide4 (omega (arith, c.from-first.ensures)))
