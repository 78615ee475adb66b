use Rattle.std.proofs.Common.{ap, arith, length, sym, ◌∙◌}
use Rattle.std.proofs.lemmas.Str.{encode_ascii}
use Rattle.canon_text.specs.Writing.{placed}
use Rattle.canon_text.proofs.Copied.{set-placed}
use Rattle.canon_text.proofs.FirstChar.{encode-four, encode-three, encode-two}
use Rattle.canon_text.proofs.writing.write_utf8.Goals as goal

pub returns-then-code-lt128-clause-writes : goal.returns-then-code-lt128-clause-writes
returns-then-code-lt128-clause-writes c =
    let one = encode_ascii c.args.c c.if-code-lt128.true in
    set-placed c.args.dst.now c.args.at c.args.c (omega (arith, c.requires, ap length one)) ∙ ap (λ l. placed c.args.dst.now c.args.at l) (sym one)

pub write_two-requires : goal.write_two-requires
write_two-requires c = omega (arith, c.requires, ap length (encode-two c.args.c c.if-code-lt128.false c.if-code-lt2048.true))

pub returns-then-code-lt2048-clause-end : goal.returns-then-code-lt2048-clause-end
returns-then-code-lt2048-clause-end c = omega (arith, ap length (encode-two c.args.c c.if-code-lt128.false c.if-code-lt2048.true))

pub returns-then-code-lt2048-clause-writes : goal.returns-then-code-lt2048-clause-writes
returns-then-code-lt2048-clause-writes c = c.write_two.ensures ∙ ap (λ l. placed c.args.dst.now c.args.at l) (sym (encode-two c.args.c c.if-code-lt128.false c.if-code-lt2048.true))

pub write_three-requires : goal.write_three-requires
write_three-requires c = omega (arith, c.requires, ap length (encode-three c.args.c c.if-code-lt2048.false c.if-code-lt65536.true))

pub returns-then-code-lt65536-clause-end : goal.returns-then-code-lt65536-clause-end
returns-then-code-lt65536-clause-end c = omega (arith, ap length (encode-three c.args.c c.if-code-lt2048.false c.if-code-lt65536.true))

pub returns-then-code-lt65536-clause-writes : goal.returns-then-code-lt65536-clause-writes
returns-then-code-lt65536-clause-writes c = c.write_three.ensures ∙ ap (λ l. placed c.args.dst.now c.args.at l) (sym (encode-three c.args.c c.if-code-lt2048.false c.if-code-lt65536.true))

pub write_four-requires : goal.write_four-requires
write_four-requires c = omega (arith, c.requires, ap length (encode-four c.args.c c.if-code-lt65536.false))

pub returns-clause-end : goal.returns-clause-end
returns-clause-end c = omega (arith, ap length (encode-four c.args.c c.if-code-lt65536.false))

pub returns-clause-writes : goal.returns-clause-writes
returns-clause-writes c = c.write_four.ensures ∙ ap (λ l. placed c.args.dst.now c.args.at l) (sym (encode-four c.args.c c.if-code-lt65536.false))
