use Rattle.std.proofs.Common.{[], subst, sym, ◌∷◌}
use Rattle.canon_relay.specs.Channel.{told}
use Rattle.canon_relay.specs.Relay.{PassesMessages, adds_both}
use Rattle.canon_serve.specs.Messages.{IsStrictPrefix}
use Rattle.canon_serve.proofs.Passing.{cut_after}
use Rattle.canon_serve.proofs.answer.tell_both.Goals as goal

pub returns-clause-told : goal.returns-clause-told
returns-clause-told g c = λ whole. adds_both _ _ _ _ _ c.if-not-tell.ensures (c.tell_bytes.ensures.told whole)

pub returns-clause-cut : goal.returns-clause-cut
returns-clause-cut g c = λ cut.
    subst (λ ms. PassesMessages (g.P.Channel.log c.args.caller.now) (g.P.Channel.log c.tell_bytes.new.caller) (IsStrictPrefix (told c.args.head.now ∷ ms))) (sym (c.tell_bytes.ensures.some cut))
    (cut_after _ _ _ _ _ [] c.if-not-tell.ensures (c.tell_bytes.ensures.cut cut))
