use Rattle.std.proofs.Common.{ap, arith, flat_map, le-ltb, length, nat_lt, sym, ◌+◌, ◌-◌, ◌/◌, ◌%◌, ◌≡◌, ◌∙◌, ◌∷◌, []}
use Rattle.std.proofs.lemmas.Bool.{cond-false}
use Rattle.std.specs.Char.Escape.{encode_utf16}
use Rattle.canon_model.specs.Text.{unit_bytes}
use Rattle.canon_text.specs.Writing.{placed}
use Rattle.canon_text.proofs.Bytes.{placed-more}
use Rattle.canon_text.proofs.writing.write_utf16_bytes.Goals as goal

pub returns-clause-writes : goal.returns-clause-writes
returns-clause-writes c =
    let high = 0xD800 + (c.args.code - 0x1_0000) / 0x400 in
    let low = 0xDC00 + (c.args.code - 0x1_0000) % 0x400 in
    let two : encode_utf16 c.args.code ≡ high ∷ low ∷ [] = cond-false (nat_lt c.args.code 0x1_0000) _ _ (le-ltb c.args.code 0x1_0000 c.if-code-lt65536.false) in
    c.write_unit-3.ensures ∙ placed-more c.args.dst.now c.write_unit-2.new.dst (unit_bytes high) (unit_bytes low) c.args.at (c.args.at + 2) (omega (arith, c.requires.room, ap length two)) c.write_unit-2.ensures (omega arith)
    ∙ ap (λ l. placed c.args.dst.now c.args.at (flat_map unit_bytes l)) (sym two)
