use Rattle.std.proofs.Common.{length, refl, rules, subst, ◌∙◌, ◌≡◌}
use Rattle.canon_relay.specs.Relay.{PassesMessages}
use Rattle.canon_serve.specs.Asks.{HearsStatus}
use Rattle.canon_serve.proofs.Exchanged.{cut_told, no_status, other_status, refused_then, then_heard, told_ask}
use Rattle.canon_serve.proofs.asking.exchange.Goals as goal

pub returns-then-not-tell_both-clause-refused : goal.returns-then-not-tell_both-clause-refused
returns-then-not-tell_both-clause-refused g c = λ is.
    let head = c.deref.ensures.value ∙ c.in-Ok.ensures in
    cut_told _ _ c.args.n (length c.args.asked.now) c.deref.result.now c.args.asked.now head refl (c.if-not-tell_both.ensures.cut refl)

pub returns-in-Err-Broken-clause-refused : goal.returns-in-Err-Broken-clause-refused
returns-in-Err-Broken-clause-refused g c = λ is.
    let head = c.deref.ensures.value ∙ c.in-Ok.ensures in
    refused_then _ _ _ c.args.n c.args.asked.now (told_ask _ _ c.args.n (length c.args.asked.now) c.deref.result.now c.args.asked.now head refl (c.if-not-tell_both.ensures.told refl))
    (no_status _ _ c.in-Err-Broken.ensures.none)

pub returns-then-status-ne0-clause-refused : goal.returns-then-status-ne0-clause-refused
returns-then-status-ne0-clause-refused g c = λ is.
    let head = c.deref.ensures.value ∙ c.in-Ok.ensures in
    let heard = c.in-Ok-hear_status.heard in
    refused_then _ _ _ c.args.n c.args.asked.now (told_ask _ _ c.args.n (length c.args.asked.now) c.deref.result.now c.args.asked.now head refl (c.if-not-tell_both.ensures.told refl))
    (other_status _ _ heard.0 heard.1.items (λ zero. search (rules, zero, c.if-status-ne0.true)) c.in-Ok-hear_status.ensures.heard)

pub returns-clause-served : goal.returns-clause-served
returns-clause-served g c =
    let head = c.deref.ensures.value ∙ c.in-Ok.ensures in
    let heard = c.in-Ok-hear_status.heard in
    let zero : heard.0 ≡ 0 = search rules in
    then_heard _ _ _ c.args.n c.args.asked.now (HearsStatus 0 heard.1.items) (told_ask _ _ c.args.n (length c.args.asked.now) c.deref.result.now c.args.asked.now head refl (c.if-not-tell_both.ensures.told refl))
    (subst (λ k. PassesMessages (g.H.Channel.log c.tell_both.new.caller) (g.H.Channel.log c.hear_status.new.host) (HearsStatus k heard.1.items)) zero c.in-Ok-hear_status.ensures.heard)
