use Rattle.std.proofs.Common.{ap, arith, ◌+◌}
use Rattle.canon_text.proofs.Advancing.{advancing16-end, advancing16-more, advancing16-nil, advancing16-room, advancing16-run, char_inside, some_utf8}
use Rattle.canon_text.proofs.Widths.{width_le}
use Rattle.canon_text.proofs.utf8.utf8_to_utf16.Goals as goal

pub loop-read-init : goal.loop-read-init
loop-read-init c = advancing16-nil c.args.src.now c.args.dst.now c.in_default.ensures

pub scalar_at-scalar-requires-clause-utf8 : goal.scalar_at-scalar-requires-clause-utf8
scalar_at-scalar-requires-clause-utf8 c =
    let mid = advancing16-run c.args.src.now c.args.dst.now c.loop-read.dst c.widen_ascii-run.new.dst c.loop-read.read c.loop-read.written c.widen_ascii-run.result c.loop-read.invariant c.widen_ascii-run.ensures in
    mid.so_far.read.utf8

pub write_utf16-written-requires-clause-room : goal.write_utf16-written-requires-clause-room
write_utf16-written-requires-clause-room c =
    let mid = advancing16-run c.args.src.now c.args.dst.now c.loop-read.dst c.widen_ascii-run.new.dst c.loop-read.read c.loop-read.written c.widen_ascii-run.result c.loop-read.invariant c.widen_ascii-run.ensures in
    let code = c.scalar_at-scalar.result.code in
    let at = c.loop-read.read + c.widen_ascii-run.result in
    let inside = char_inside c.args.src.now at code c.if-read-src.true c.scalar_at-scalar.ensures.is in
    let few = advancing16-room c.args.src.now c.args.dst.now c.widen_ascii-run.new.dst at (c.loop-read.written + c.widen_ascii-run.result) mid (omega (arith, c.if-read-src.true)) in
    omega (arith, c.requires, width_le code, c.loop-read.auto.dst, c.widen_ascii-run.auto.dst)

pub loop-read-smaller-then-read-src : goal.loop-read-smaller-then-read-src
loop-read-smaller-then-read-src c = omega (arith, c.scalar_at-scalar.ensures.len, some_utf8 c.scalar_at-scalar.result.code, c.if-read-src.true)

pub loop-read-preserved-then-read-src : goal.loop-read-preserved-then-read-src
loop-read-preserved-then-read-src c =
    let mid = advancing16-run c.args.src.now c.args.dst.now c.loop-read.dst c.widen_ascii-run.new.dst c.loop-read.read c.loop-read.written c.widen_ascii-run.result c.loop-read.invariant c.widen_ascii-run.ensures in
    let at = c.loop-read.read + c.widen_ascii-run.result in
    advancing16-more c.args.src.now c.args.dst.now c.widen_ascii-run.new.dst _ at (c.loop-read.written + c.widen_ascii-run.result) _ _
    c.scalar_at-scalar.result.code mid c.scalar_at-scalar.ensures.is (ap (λ n. at + n) c.scalar_at-scalar.ensures.len)
    c.write_utf16-written.ensures.end c.write_utf16-written.ensures.writes

pub loop-read-preserved : goal.loop-read-preserved
loop-read-preserved c =
    let mid = advancing16-run c.args.src.now c.args.dst.now c.loop-read.dst c.widen_ascii-run.new.dst c.loop-read.read c.loop-read.written c.widen_ascii-run.result c.loop-read.invariant c.widen_ascii-run.ensures in
    mid

pub returns : goal.returns
returns c = advancing16-end c.args.src.now c.args.dst.now c.loop-read.dst c.loop-read.read c.loop-read.written c.loop-read.invariant c.loop-read-test.false
