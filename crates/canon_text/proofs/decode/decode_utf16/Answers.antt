use Rattle.std.proofs.Common.{List, ap, arith, false, refl, subst, sym, ℕ, ◌+◌, ◌≡◌}
use Rattle.canon_model.specs.Text.{in_utf16}
use Rattle.std.specs.String.{string_bytes}
use Rattle.canon_text.specs.Answers.{PassFails, Passed}
use Rattle.canon_text.specs.Decoding.{Decodes, units_in}
use Rattle.canon_text.proofs.Decoded.{Decoding, decodes16, decoding-fault, decoding-more, decoding-reads, fault_inside, spells_nothing16}
use Rattle.canon_text.proofs.Pairs.{length-units_in}
use Rattle.canon_text.proofs.decode.decode_utf16.Goals as goal

pub overflow_add-read : goal.overflow_add-read
overflow_add-read c =
    let us = units_in c.args.src.now in
    let made = c.make_piece-made in
    let old = c.loop-read.piece in
    let new = c.utf16_to_utf8.new.dst in
    let p = c.in-Ok.pass in
    let piece = subst (λ (l : List ℕ). Passed in_utf16 false l old new p.src_read p.dst_written) made.ensures.made c.in-Ok.ensures in
    let more = decoding-more in_utf16 us c.loop-read.text.items old new c.loop-read.read made.result p.src_read p.dst_written c.loop-read.invariant piece in
    omega (arith, more.inside, length-units_in c.args.src.now)

pub loop-read-smaller : goal.loop-read-smaller
loop-read-smaller c =
    let us = units_in c.args.src.now in
    let made = c.make_piece-made in
    let old = c.loop-read.piece in
    let new = c.utf16_to_utf8.new.dst in
    let p = c.in-Ok.pass in
    let piece = subst (λ (l : List ℕ). Passed in_utf16 false l old new p.src_read p.dst_written) made.ensures.made c.in-Ok.ensures in
    let some = decoding-reads in_utf16 us old new c.loop-read.read made.result p.src_read p.dst_written piece (omega (arith, length-units_in c.args.src.now, c.loop-read-test.true)) made.ensures.some (omega arith) in
    omega (arith, some, c.loop-read-test.true)

pub loop-read-preserved : goal.loop-read-preserved
loop-read-preserved c =
    let us = units_in c.args.src.now in
    let made = c.make_piece-made in
    let old = c.loop-read.piece in
    let new = c.utf16_to_utf8.new.dst in
    let p = c.in-Ok.pass in
    let piece = subst (λ (l : List ℕ). Passed in_utf16 false l old new p.src_read p.dst_written) made.ensures.made c.in-Ok.ensures in
    subst (λ text. Decoding in_utf16 us text (c.loop-read.read + p.src_read)) (sym c.in_ok-extend_from_slice-in-Ok.ensures.items)
    (decoding-more in_utf16 us c.loop-read.text.items old new c.loop-read.read made.result p.src_read p.dst_written c.loop-read.invariant piece)

pub after-requires : goal.after-requires
after-requires c =
    let us = units_in c.args.src.now in
    let made = c.make_piece-made in
    let old = c.loop-read.piece in
    let new = c.utf16_to_utf8.new.dst in
    let piece = subst (λ (l : List ℕ). PassFails in_utf16 false l old new c.in-Err.error) made.ensures.made c.in-Err.ensures in
    omega (arith, fault_inside in_utf16 us old new c.loop-read.read made.result c.in-Err.error c.loop-read.invariant.inside piece, length-units_in c.args.src.now)

pub returns-in-Err-clause-answer : goal.returns-in-Err-clause-answer
returns-in-Err-clause-answer c =
    let us = units_in c.args.src.now in
    let made = c.make_piece-made in
    let old = c.loop-read.piece in
    let new = c.utf16_to_utf8.new.dst in
    let piece = subst (λ (l : List ℕ). PassFails in_utf16 false l old new c.in-Err.error) made.ensures.made c.in-Err.ensures in
    decoding-fault us c.loop-read.text.items old new c.loop-read.read made.result c.in-Err.error c.after.result c.loop-read.invariant piece
    made.ensures.inside made.ensures.whole c.after.ensures.form c.after.ensures.place

pub returns-in-Err-clause-no_text : goal.returns-in-Err-clause-no_text
returns-in-Err-clause-no_text c =
    let us = units_in c.args.src.now in
    let made = c.make_piece-made in
    let old = c.loop-read.piece in
    let new = c.utf16_to_utf8.new.dst in
    let piece = subst (λ (l : List ℕ). PassFails in_utf16 false l old new c.in-Err.error) made.ensures.made c.in-Err.ensures in
    let first = decoding-fault us c.loop-read.text.items old new c.loop-read.read made.result c.in-Err.error c.after.result c.loop-read.invariant piece
    made.ensures.inside made.ensures.whole c.after.ensures.form c.after.ensures.place in
    spells_nothing16 c.args.src.now _ first.at

pub returns-clause-answer : goal.returns-clause-answer
returns-clause-answer c =
    let same : string_bytes c.from_utf8_unchecked.result ≡ c.loop-read.text.items = ap (λ v. v.items) c.from_utf8_unchecked.ensures.value in (
      subst (λ text. Decodes in_utf16 c.args.src.now text) (sym same)
          (decodes16 c.args.src.now c.loop-read.text.items c.loop-read.read c.loop-read.invariant (omega (arith, length-units_in c.args.src.now, c.loop-read-test.false)) (λ k. omega (arith, c.type_inv.src k)) c.requires),
      refl,
    )
