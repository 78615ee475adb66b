use Rattle.std.proofs.Common.{Err, ap, inr, refl, subst}
use Rattle.canon_relay.specs.Relay.{PassesMessages}
use Rattle.canon_serve.specs.Begins.{HasComponent, HasNoComponent, IsBegun}
use Rattle.canon_serve.specs.Carries.{both_logs, session}
use Rattle.canon_serve.specs.Messages.{HearsCommand}
use Rattle.canon_serve.specs.Sessions.{ServesUntil}
use Rattle.canon_serve.specs.declared.answer.Answer.TheVariants as answer
use Rattle.canon_serve.specs.declared.answer.Senseless.TheVariants as senseless
use Rattle.canon_serve.specs.declared.command.Command.TheVariants as command
use Rattle.canon_serve.proofs.Sessions.{begun_session, cut_first, no_component, other_first, unbegun}
use Rattle.canon_serve.proofs.serving.serve.Goals as goal

pub returns-in_default : goal.returns-in_default
returns-in_default g c =
    let told = g.P.Channel.log in
    let asked = c.in-Ok.command in
    inr (no_component (told c.args.caller.now) (told c.hear_command.new.caller) (told c.end_with.new.caller) asked (answer.Senseless senseless.NoCommand) c.in-Ok.ensures.heard (other_first asked c.in_default.not-Begin)
    senseless.NoCommand refl c.end_with.result c.end_with.ensures)

pub returns-in-Err-store_of : goal.returns-in-Err-store_of
returns-in-Err-store_of g c =
    let told = g.P.Channel.log in
    let all = c.in-Begin.watches_all in
    let keeps = c.in-Begin.keeps_events in
    let json = c.in-Begin.json in
    let why = c.in-Err-store_of in
    let a = told c.args.caller.now in
    let b = told c.hear_command.new.caller in
    let heard = subst (λ k. PassesMessages a b (HearsCommand k)) c.in-Begin.is c.in-Ok.ensures.heard in
    inr (unbegun a b (told c.end_unbegun.new.caller) all keeps json why.why c.end_unbegun.result heard
    (λ e. subst (λ bytes. HasNoComponent bytes) c.deref.ensures.value (why.ensures.none (ap Err e)))
    (λ e. subst (λ bytes. HasComponent bytes) c.deref.ensures.value (why.ensures.not_instantiated (ap Err e))) c.end_unbegun.ensures)

pub returns-then-not-tell_answer : goal.returns-then-not-tell_answer
returns-then-not-tell_answer g c =
    let told = g.P.Channel.log in
    let json = c.in-Begin.json in
    let asked = command.Begin c.in-Begin.watches_all c.in-Begin.keeps_events json in
    let a = told c.args.caller.now in
    let b = told c.hear_command.new.caller in
    let heard = subst (λ k. PassesMessages a b (HearsCommand k)) c.in-Begin.is c.in-Ok.ensures.heard in
    let begun = subst (λ bytes. IsBegun g.E.Channel.log c.args.engine c.args.host c.in-Begin.watches_all c.in-Begin.keeps_events bytes c.in-Ok-store_of.store) c.deref.ensures.value c.in-Ok-store_of.ensures.begun in
    inr (cut_first a b (told c.tell_answer.new.caller) asked (answer.Done c.new.result) heard ((begun.play, begun.has, begun.component, begun.served, begun.sound), c.new.ensures.items) (c.if-not-tell_answer.ensures.cut refl))

pub returns : goal.returns
returns g c =
    let told = g.P.Channel.log in
    let json = c.in-Begin.json in
    let all = c.in-Begin.watches_all in
    let keeps = c.in-Begin.keeps_events in
    let a = told c.args.caller.now in
    let b = told c.hear_command.new.caller in
    let heard = subst (λ k. PassesMessages a b (HearsCommand k)) c.in-Begin.is c.in-Ok.ensures.heard in
    let begun = subst (λ bytes. IsBegun g.E.Channel.log c.args.engine c.args.host all keeps bytes c.in-Ok-store_of.store) c.deref.ensures.value c.in-Ok-store_of.ensures.begun in
    begun_session (both_logs g.E.Channel.log g.H.Channel.log) c.args.engine c.args.host a b (told c.tell_answer.new.caller) (told c.serve_store.new.caller) all keeps json c.new.result c.in-Ok-store_of.store c.serve_store.result heard begun c.new.ensures.items
    (c.if-not-tell_answer.ensures.told refl)
    (subst (λ xs. ServesUntil (both_logs g.E.Channel.log g.H.Channel.log) (told c.tell_answer.new.caller) (told c.serve_store.new.caller) (session c.in-Ok-store_of.store xs) c.serve_store.result) c.new-list.ensures.items c.serve_store.ensures)
