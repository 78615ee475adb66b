use Rattle.std.proofs.Common.{Err, ap, length, refl, rules, subst, sym, ◌∙◌, ◌∷◌, ◌≡◌, ◌≤◌}
use Rattle.canon_relay.specs.Channel.{heard}
use Rattle.canon_relay.specs.Relay.{adds_both}
use Rattle.canon_relay.specs.Wire.{number_at}
use Rattle.canon_serve.specs.Messages.{IsCommand, heard_bytes}
use Rattle.canon_serve.proofs.Passing.{hears_nothing}
use Rattle.canon_serve.proofs.command.hear_command.Goals as goal

pub returns-clause-heard : goal.returns-clause-heard
returns-clause-heard g c =
    let head = c.hear.new.into in
    let bytes = c.in-Ok.bytes.items in
    let asked = c.command_of.result in
    let was = c.in-Ok.ensures.heard in
    let sized : length head ≡ 32 = search rules in (
      heard head ∷ heard_bytes bytes,
      adds_both _ _ _ _ _ c.if-not-hear.ensures.log was.0,
      record {
        head = head;
        bytes = bytes;
        are = refl;
        sized = sized;
        count = was.1 ∙ c.number_at.ensures;
        few = subst (λ n. n ≤ 16777216) (sym was.1) was.2;
        is = subst (λ n. IsCommand n (number_at head 8) (number_at head 16) bytes asked) c.number_at-2.ensures
            (subst (λ n. IsCommand c.number_at-2.result n (number_at head 16) bytes asked) c.number_at-operand.ensures
            (subst (λ n. IsCommand c.number_at-2.result c.number_at-operand.result n bytes asked) c.number_at-second.ensures c.command_of.ensures));
      },
    )

pub returns-in-Err-clause-none : goal.returns-in-Err-clause-none
returns-in-Err-clause-none g c =
    let sized : length c.hear.new.into ≡ 32 = search rules in
    hears_nothing _ _ _ c.hear.new.into c.in-Err.why c.number_at.result sized c.if-not-hear.ensures.log c.in-Err.ensures.none c.number_at.ensures c.in-Err.ensures.some (λ e. c.in-Err.ensures.short (ap Err e))
