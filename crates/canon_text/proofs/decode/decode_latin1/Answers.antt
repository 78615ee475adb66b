use Rattle.std.proofs.Common.{ap, arith, length, refl, subst, sym, ◌+◌, ◌-◌, ◌≡◌}
use Rattle.std.proofs.lemmas.Bool.{false≢true}
use Rattle.canon_model.specs.Text.{in_latin1}
use Rattle.std.specs.String.{string_bytes}
use Rattle.canon_text.specs.Decoding.{Decodes}
use Rattle.canon_text.proofs.Decoded.{Decoding, decodes1, decodes_ascii, decoding-more, decoding-reads, decoding-utf8}
use Rattle.canon_text.proofs.decode.decode_latin1.Goals as goal

pub returns-in-Some : goal.returns-in-Some
returns-in-Some c = (decodes_ascii c.args.src.now c.in-Some.text.now c.in-Some.ensures.1 c.in-Some.ensures.0, (λ _. c.in-Some.ensures.0, λ _. refl))

pub loop-read-smaller : goal.loop-read-smaller
loop-read-smaller c =
    let some = decoding-reads in_latin1 c.args.src.now c.loop-read.piece c.latin1_to_utf8-pass.new.dst c.loop-read.read
    (length c.args.src.now - c.loop-read.read) _ _ c.latin1_to_utf8-pass.ensures c.loop-read-test.true (omega (arith, c.loop-read-test.true)) (omega arith) in
    omega arith

pub loop-read-preserved : goal.loop-read-preserved
loop-read-preserved c =
    let pass = c.latin1_to_utf8-pass in
    subst (λ text. Decoding in_latin1 c.args.src.now text (c.loop-read.read + pass.result.src_read)) (sym c.in_ok-extend_from_slice.ensures.items)
    (decoding-more in_latin1 c.args.src.now c.loop-read.text.items c.loop-read.piece pass.new.dst c.loop-read.read (length c.args.src.now - c.loop-read.read) pass.result.src_read pass.result.dst_written c.loop-read.invariant pass.ensures)

pub from_utf8_unchecked-requires : goal.from_utf8_unchecked-requires
from_utf8_unchecked-requires c = decoding-utf8 in_latin1 c.args.src.now c.loop-read.text.items c.loop-read.read c.loop-read.invariant

pub returns : goal.returns
returns c =
    let same : string_bytes c.from_utf8_unchecked.result ≡ c.loop-read.text.items = ap (λ v. v.items) c.from_utf8_unchecked.ensures.value in (
      subst (λ text. Decodes in_latin1 c.args.src.now text) (sym same) (decodes1 c.args.src.now c.loop-read.text.items c.loop-read.read c.loop-read.invariant c.loop-read-test.false),
      (λ t. absurd (false≢true t), λ a. absurd (c.in_default.ensures a)),
    )
