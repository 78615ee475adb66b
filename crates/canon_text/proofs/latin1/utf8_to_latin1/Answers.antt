use Rattle.std.proofs.Common.{ap, arith, length, refl, sym, ◌+◌, ◌∙◌}
use Rattle.std.proofs.lemmas.List.{append-nil}
use Rattle.std.specs.Char.{encode_utf8}
use Rattle.canon_model.specs.Text.{in_utf8}
use Rattle.canon_text.proofs.Ascii.{length-narrowing, narrowing-ascii}
use Rattle.canon_text.proofs.Narrowing.{narrowing-end, narrowing-more, narrowing-stop, narrowing_room}
use Rattle.canon_text.proofs.latin1.utf8_to_latin1.Goals as goal

pub returns-in_default : goal.returns-in_default
returns-in_default c = narrowing-stop in_utf8 c.args.src.now c.args.dst.now c.copy_ascii-run.new.dst _ _
    (narrowing-ascii in_utf8 c.args.src.now c.args.dst.now c.loop-read.dst c.copy_ascii-run.new.dst c.loop-read.read c.loop-read.written
    c.copy_ascii-run.result c.loop-read.invariant c.copy_ascii-run.ensures) c.in_default.ensures

pub bounds-dst-written : goal.bounds-dst-written
bounds-dst-written c =
    let mid = narrowing-ascii in_utf8 c.args.src.now c.args.dst.now c.loop-read.dst c.copy_ascii-run.new.dst c.loop-read.read c.loop-read.written c.copy_ascii-run.result c.loop-read.invariant c.copy_ascii-run.ensures in
    let room = narrowing_room _ _ _ _ _ mid in
    omega (arith, c.requires, length-narrowing in_utf8 c.args.src.now c.args.dst.now c.copy_ascii-run.new.dst _ _ mid (omega (arith, c.requires, c.if-read-src.true)))

pub loop-read-preserved-then-read-src : goal.loop-read-preserved-then-read-src
loop-read-preserved-then-read-src c =
    let mid = narrowing-ascii in_utf8 c.args.src.now c.args.dst.now c.loop-read.dst c.copy_ascii-run.new.dst c.loop-read.read c.loop-read.written c.copy_ascii-run.result c.loop-read.invariant c.copy_ascii-run.ensures in
    let room = narrowing_room _ _ _ _ _ mid in
    let at = c.loop-read.read + c.copy_ascii-run.result in
    narrowing-more in_utf8 c.args.src.now c.args.dst.now c.copy_ascii-run.new.dst _ at _ (c.loop-read.written + c.copy_ascii-run.result) c.in-Some.found.byte mid c.in-Some.ensures.0 (omega arith)
    (ap (λ n. at + n) (c.in-Some.ensures.1 ∙ ap length (sym (append-nil (encode_utf8 c.in-Some.found.byte))))) (omega (arith, c.requires)) refl

pub loop-read-preserved : goal.loop-read-preserved
loop-read-preserved c = narrowing-ascii in_utf8 c.args.src.now c.args.dst.now c.loop-read.dst c.copy_ascii-run.new.dst c.loop-read.read c.loop-read.written c.copy_ascii-run.result c.loop-read.invariant c.copy_ascii-run.ensures

pub returns : goal.returns
returns c = narrowing-end in_utf8 c.args.src.now c.args.dst.now c.loop-read.dst c.loop-read.read c.loop-read.written c.loop-read.invariant c.loop-read-test.false
