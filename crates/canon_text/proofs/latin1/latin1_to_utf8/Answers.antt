use Rattle.std.proofs.Common.{arith, drop, length, refl, subst, sym, ◌+◌}
use Rattle.canon_model.specs.Text.{in_latin1}
use Rattle.canon_text.proofs.Ascii.{midway-run}
use Rattle.canon_text.proofs.Passing.{begins_byte, goes_on, length-midway, midway-more, midway-stop, stopped}
use Rattle.canon_text.specs.Faults.{Begins}
use Rattle.canon_text.proofs.latin1.latin1_to_utf8.Goals as goal

pub returns-then-ends_pass : goal.returns-then-ends_pass
returns-then-ends_pass c =
    let mid = midway-run in_latin1 c.args.first_pass c.args.src.now c.args.dst.now c.loop-read.dst c.copy_ascii-run.new.dst c.loop-read.read c.loop-read.written c.copy_ascii-run.result c.loop-read.invariant c.copy_ascii-run.ensures in
    let at = c.loop-read.read + c.copy_ascii-run.result in
    let same = length-midway in_latin1 c.args.first_pass c.args.src.now c.args.dst.now c.copy_ascii-run.new.dst at (c.loop-read.written + c.copy_ascii-run.result) mid in
    midway-stop in_latin1 c.args.first_pass c.args.src.now c.args.dst.now c.copy_ascii-run.new.dst at (c.loop-read.written + c.copy_ascii-run.result) c.from-c.result mid
    (subst (λ x. Begins in_latin1 x (drop at c.args.src.now)) (sym c.from-c.ensures) (begins_byte c.args.src.now at c.if-read-src.true (omega (arith, c.type_inv.src at))))
    (stopped c.ends_pass.result c.args.first_pass (length c.copy_ascii-run.new.dst) (length c.args.dst.now) (c.loop-read.written + c.copy_ascii-run.result) c.from-c.result same (c.ends_pass.ensures.0 c.if-ends_pass.true))

pub loop-read-preserved-then-read-src : goal.loop-read-preserved-then-read-src
loop-read-preserved-then-read-src c =
    let mid = midway-run in_latin1 c.args.first_pass c.args.src.now c.args.dst.now c.loop-read.dst c.copy_ascii-run.new.dst c.loop-read.read c.loop-read.written c.copy_ascii-run.result c.loop-read.invariant c.copy_ascii-run.ensures in
    let at = c.loop-read.read + c.copy_ascii-run.result in
    let same = length-midway in_latin1 c.args.first_pass c.args.src.now c.args.dst.now c.copy_ascii-run.new.dst at (c.loop-read.written + c.copy_ascii-run.result) mid in
    midway-more in_latin1 c.args.first_pass c.args.src.now c.args.dst.now c.copy_ascii-run.new.dst _ at _ (c.loop-read.written + c.copy_ascii-run.result) _ c.from-c.result mid
    (subst (λ x. Begins in_latin1 x (drop at c.args.src.now)) (sym c.from-c.ensures) (begins_byte c.args.src.now at c.if-read-src.true (omega (arith, c.type_inv.src at))))
    (goes_on c.ends_pass.result c.args.first_pass (length c.copy_ascii-run.new.dst) (length c.args.dst.now) (c.loop-read.written + c.copy_ascii-run.result) c.from-c.result same c.if-ends_pass.false c.ends_pass.ensures.1)
    refl c.write_utf8-written.ensures.end c.write_utf8-written.ensures.writes

pub loop-read-preserved : goal.loop-read-preserved
loop-read-preserved c = midway-run in_latin1 c.args.first_pass c.args.src.now c.args.dst.now c.loop-read.dst c.copy_ascii-run.new.dst c.loop-read.read c.loop-read.written c.copy_ascii-run.result c.loop-read.invariant c.copy_ascii-run.ensures
