use Rattle.std.proofs.Common.{ap, length, refl, sym, ◌+◌, ◌∙◌}
use Rattle.canon_model.specs.Text.{in_utf16}
use Rattle.canon_text.proofs.Ascii.{midway-run}
use Rattle.canon_text.proofs.Pairs.{units-one}
use Rattle.canon_text.proofs.Passing.{goes_on, length-midway, midway-fault, midway-more, midway-stop, stopped}
use Rattle.canon_text.proofs.utf16.utf16_to_utf8.Goals as goal

pub returns-in_default : goal.returns-in_default
returns-in_default c =
    let mid = midway-run in_utf16 c.args.first_pass c.args.src.now c.args.dst.now c.loop-read.dst c.narrow_below-run.new.dst c.loop-read.read c.loop-read.written c.narrow_below-run.result c.loop-read.invariant c.narrow_below-run.ensures in
    midway-fault in_utf16 c.args.first_pass c.args.src.now c.args.dst.now c.narrow_below-run.new.dst (c.loop-read.read + c.narrow_below-run.result) (c.loop-read.written + c.narrow_below-run.result) _ mid c.in_default.ensures refl refl

pub returns-then-ends_pass : goal.returns-then-ends_pass
returns-then-ends_pass c =
    let mid = midway-run in_utf16 c.args.first_pass c.args.src.now c.args.dst.now c.loop-read.dst c.narrow_below-run.new.dst c.loop-read.read c.loop-read.written c.narrow_below-run.result c.loop-read.invariant c.narrow_below-run.ensures in
    let at = c.loop-read.read + c.narrow_below-run.result in
    let same = length-midway in_utf16 c.args.first_pass c.args.src.now c.args.dst.now c.narrow_below-run.new.dst at (c.loop-read.written + c.narrow_below-run.result) mid in
    midway-stop in_utf16 c.args.first_pass c.args.src.now c.args.dst.now c.narrow_below-run.new.dst at (c.loop-read.written + c.narrow_below-run.result) c.in-Some.c mid c.in-Some.ensures
    (stopped c.ends_pass.result c.args.first_pass (length c.narrow_below-run.new.dst) (length c.args.dst.now) (c.loop-read.written + c.narrow_below-run.result) c.in-Some.c same (c.ends_pass.ensures.0 c.if-ends_pass.true))

pub loop-read-preserved-then-read-src : goal.loop-read-preserved-then-read-src
loop-read-preserved-then-read-src c =
    let mid = midway-run in_utf16 c.args.first_pass c.args.src.now c.args.dst.now c.loop-read.dst c.narrow_below-run.new.dst c.loop-read.read c.loop-read.written c.narrow_below-run.result c.loop-read.invariant c.narrow_below-run.ensures in
    let at = c.loop-read.read + c.narrow_below-run.result in
    let same = length-midway in_utf16 c.args.first_pass c.args.src.now c.args.dst.now c.narrow_below-run.new.dst at (c.loop-read.written + c.narrow_below-run.result) mid in
    midway-more in_utf16 c.args.first_pass c.args.src.now c.args.dst.now c.narrow_below-run.new.dst _ at _ (c.loop-read.written + c.narrow_below-run.result) _ c.in-Some.c mid c.in-Some.ensures
    (goes_on c.ends_pass.result c.args.first_pass (length c.narrow_below-run.new.dst) (length c.args.dst.now) (c.loop-read.written + c.narrow_below-run.result) c.in-Some.c same c.if-ends_pass.false c.ends_pass.ensures.1)
    (ap (λ n. at + n) (c.write_utf8-wrote.ensures.units ∙ ap length (sym (units-one c.in-Some.c)))) c.write_utf8-wrote.ensures.end c.write_utf8-wrote.ensures.writes

pub loop-read-preserved : goal.loop-read-preserved
loop-read-preserved c = midway-run in_utf16 c.args.first_pass c.args.src.now c.args.dst.now c.loop-read.dst c.narrow_below-run.new.dst c.loop-read.read c.loop-read.written c.narrow_below-run.result c.loop-read.invariant c.narrow_below-run.ensures
