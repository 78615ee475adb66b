use Rattle.std.proofs.Common.{length, refl, rules, subst, sym, ◌∙◌, ◌∷◌, ◌≡◌, ◌≤◌}
use Rattle.canon_relay.specs.Channel.{heard}
use Rattle.canon_relay.specs.Relay.{adds_both}
use Rattle.canon_serve.specs.Messages.{heard_bytes}
use Rattle.canon_serve.proofs.asking.hear_status.Goals as goal

pub returns-in-Ok-clause-heard : goal.returns-in-Ok-clause-heard
returns-in-Ok-clause-heard g c =
    let head = c.hear.new.into in
    let bytes = c.in-Ok.bytes.items in
    let was = c.in-Ok.ensures.heard in
    let sized : length head ≡ 16 = search rules in (
      heard head ∷ heard_bytes bytes,
      adds_both _ _ _ _ _ c.if-not-hear.ensures.log was.0,
      record {
        head = head;
        sized = sized;
        status_is = sym c.number_at-in-Ok.ensures;
        count = was.1 ∙ c.number_at.ensures;
        few = subst (λ n. n ≤ 16777216) (sym was.1) was.2;
        are = refl;
      },
    )
