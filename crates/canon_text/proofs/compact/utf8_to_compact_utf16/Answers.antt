use Rattle.std.proofs.Common.{ap, arith, length-drop, refl, drop, ◌*◌, ◌+◌}
use Rattle.canon_text.proofs.Advancing.{advancing_bytes-more, advancing_bytes-nil, advancing_bytes-room, advancing_bytes-run, char_inside, some_utf8}
use Rattle.canon_text.proofs.Compacting.{widens8}
use Rattle.canon_text.proofs.Spreading.{length-spread}
use Rattle.canon_text.proofs.Widths.{width_le}
use Rattle.canon_text.proofs.compact.utf8_to_compact_utf16.Goals as goal

pub loop-read-init : goal.loop-read-init
loop-read-init c = advancing_bytes-nil c.args.src.now c.inflate.new.dst (2 * c.args.latin1_bytes_so_far) c.in_default.ensures

pub spread_ascii-run-requires-clause-dst : goal.spread_ascii-run-requires-clause-dst
spread_ascii-run-requires-clause-dst c =
    let few = advancing_bytes-room c.args.src.now c.inflate.new.dst c.loop-read.dst (2 * c.args.latin1_bytes_so_far) c.loop-read.read c.loop-read.end c.loop-read.invariant (omega (arith, c.loop-read-test.true)) in
    omega (arith, c.requires.room, c.loop-read.auto.dst, c.inflate.auto.dst, c.loop-read-test.true)

pub scalar_at-scalar-requires-clause-utf8 : goal.scalar_at-scalar-requires-clause-utf8
scalar_at-scalar-requires-clause-utf8 c =
    let mid = advancing_bytes-run c.args.src.now c.inflate.new.dst c.loop-read.dst c.spread_ascii-run.new.dst (2 * c.args.latin1_bytes_so_far)
    c.loop-read.read c.loop-read.end c.spread_ascii-run.result (omega (arith, c.requires.room, c.inflate.auto.dst)) c.loop-read.invariant
    c.spread_ascii-run.ensures in
    mid.so_far.read.utf8

pub write_utf16_bytes-end-requires-clause-room : goal.write_utf16_bytes-end-requires-clause-room
write_utf16_bytes-end-requires-clause-room c =
    let mid = advancing_bytes-run c.args.src.now c.inflate.new.dst c.loop-read.dst c.spread_ascii-run.new.dst (2 * c.args.latin1_bytes_so_far)
    c.loop-read.read c.loop-read.end c.spread_ascii-run.result (omega (arith, c.requires.room, c.inflate.auto.dst)) c.loop-read.invariant
    c.spread_ascii-run.ensures in
    let run = c.spread_ascii-run in
    let code = c.scalar_at-scalar.result.code in
    let place = c.loop-read.read + run.result in
    let inside = char_inside c.args.src.now place code c.if-read-src.true c.scalar_at-scalar.ensures.is in
    let few = advancing_bytes-room c.args.src.now c.inflate.new.dst run.new.dst (2 * c.args.latin1_bytes_so_far) place (c.loop-read.end + 2 * run.result) mid (omega (arith, c.if-read-src.true)) in
    omega (arith, c.requires.room, width_le code, c.loop-read.auto.dst, c.inflate.auto.dst, length-spread c.args.src.now c.loop-read.dst run.new.dst c.loop-read.read c.loop-read.end run.result run.ensures)

pub loop-read-smaller-then-read-src : goal.loop-read-smaller-then-read-src
loop-read-smaller-then-read-src c = omega (arith, c.scalar_at-scalar.ensures.len, some_utf8 c.scalar_at-scalar.result.code, c.if-read-src.true)

pub loop-read-preserved-then-read-src : goal.loop-read-preserved-then-read-src
loop-read-preserved-then-read-src c =
    let mid = advancing_bytes-run c.args.src.now c.inflate.new.dst c.loop-read.dst c.spread_ascii-run.new.dst (2 * c.args.latin1_bytes_so_far)
    c.loop-read.read c.loop-read.end c.spread_ascii-run.result (omega (arith, c.requires.room, c.inflate.auto.dst)) c.loop-read.invariant
    c.spread_ascii-run.ensures in
    let run = c.spread_ascii-run in
    let place = c.loop-read.read + run.result in
    advancing_bytes-more c.args.src.now c.inflate.new.dst run.new.dst _ (2 * c.args.latin1_bytes_so_far) place (c.loop-read.end + 2 * run.result) _ _
    c.scalar_at-scalar.result.code (omega (arith, c.requires.room, c.inflate.auto.dst)) mid c.scalar_at-scalar.ensures.is
    (ap (λ n. place + n) c.scalar_at-scalar.ensures.len) c.write_utf16_bytes-end.ensures.end c.write_utf16_bytes-end.ensures.writes

pub loop-read-preserved : goal.loop-read-preserved
loop-read-preserved c = advancing_bytes-run c.args.src.now c.inflate.new.dst c.loop-read.dst c.spread_ascii-run.new.dst
    (2 * c.args.latin1_bytes_so_far) c.loop-read.read c.loop-read.end c.spread_ascii-run.result (omega (arith, c.requires.room, c.inflate.auto.dst))
    c.loop-read.invariant c.spread_ascii-run.ensures

pub returns : goal.returns
returns c = widens8 c.args.src.now (drop c.loop-read.read c.args.src.now) c.loop-read.invariant.scalars c.args.dst.now c.inflate.new.dst
    c.loop-read.dst c.args.latin1_bytes_so_far c.loop-read.end _ c.inflate.ensures.writes c.inflate.ensures.long c.loop-read.invariant.so_far
    (omega (arith, length-drop c.loop-read.read c.args.src.now, c.loop-read-test.false)) refl
