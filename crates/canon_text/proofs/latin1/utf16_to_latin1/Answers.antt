use Rattle.std.proofs.Common.{arith, get_or, refl, ◌+◌}
use Rattle.canon_model.specs.Text.{in_utf16}
use Rattle.canon_text.proofs.Ascii.{narrowing-units}
use Rattle.canon_text.proofs.Narrowing.{begins_unit, narrowing-end, narrowing-more, narrowing-stop, no_unit, unit_width}
use Rattle.canon_text.proofs.latin1.utf16_to_latin1.Goals as goal

pub returns-then-src-read-gt255 : goal.returns-then-src-read-gt255
returns-then-src-read-gt255 c = narrowing-stop in_utf16 c.args.src.now c.args.dst.now c.narrow_below-read.new.dst _ _
    (narrowing-units c.args.src.now c.args.dst.now c.loop-read.dst c.narrow_below-read.new.dst c.loop-read.read c.loop-read.read
    c.narrow_below-read.result c.loop-read.invariant c.narrow_below-read.ensures) (no_unit c.args.src.now
    (c.loop-read.read + c.narrow_below-read.result) c.if-read-src.true (omega arith))

pub loop-read-preserved-then-read-src : goal.loop-read-preserved-then-read-src
loop-read-preserved-then-read-src c =
    let at = c.loop-read.read + c.narrow_below-read.result in
    narrowing-more in_utf16 c.args.src.now c.args.dst.now c.narrow_below-read.new.dst _ at _ at (get_or c.args.src.now at 0)
    (narrowing-units c.args.src.now c.args.dst.now c.loop-read.dst c.narrow_below-read.new.dst c.loop-read.read c.loop-read.read
    c.narrow_below-read.result c.loop-read.invariant c.narrow_below-read.ensures)
    (begins_unit c.args.src.now at c.if-read-src.true (omega arith)) (omega arith) (omega (arith, unit_width (get_or c.args.src.now at 0) (omega arith))) (omega (arith, c.requires)) refl

pub loop-read-preserved : goal.loop-read-preserved
loop-read-preserved c = narrowing-units c.args.src.now c.args.dst.now c.loop-read.dst c.narrow_below-read.new.dst c.loop-read.read c.loop-read.read c.narrow_below-read.result c.loop-read.invariant c.narrow_below-read.ensures

pub returns : goal.returns
returns c = narrowing-end in_utf16 c.args.src.now c.args.dst.now c.loop-read.dst c.loop-read.read c.loop-read.read c.loop-read.invariant c.loop-read-test.false
