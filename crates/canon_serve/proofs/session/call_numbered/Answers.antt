use Rattle.std.proofs.Common.{ap, length, rules, subst, ◌∙◌, ◌≡◌}
use Rattle.std.specs.Prelude.{IfSome}
use Rattle.canon_func.specs.Stores.{type_of}
use Rattle.canon_literals.specs.Literals.{all_known, held_among, literals_view}
use Rattle.canon_serve.specs.Carries.{AnswersCall, both_logs, session}
use Rattle.canon_serve.specs.Images.{AreLooked}
use Rattle.canon_serve.proofs.Calling.{done_with, map_if_ok, map_on_err, numbered_call, unknown_by}
use Rattle.canon_serve.proofs.session.call_numbered.Goals as goal

pub returns-clause-called : goal.returns-clause-called
returns-clause-called g c =
    let log = both_logs g.E.Channel.log g.H.Channel.log in
    let f = c.args.func.now in
    let store = c.args.store.now in
    let s = session store c.args.list.now.items in
    let s2 = session c.call_with.new.store c.call_with.new.list.items in
    let given = c.args.given.now in
    let looked = subst (λ l. AreLooked l given c.in_ok-params.params.items) c.deref.ensures.value c.in_ok-params.ensures in
    let count : c.len.result ≡ length c.args.list.now.items = search rules in
    let known = c.in_ok-known.ensures ∙ ap (λ n. all_known n (held_among (literals_view given))) count in
    map_if_ok _ _ (λ a called. numbered_call log f s s2 a given c.in_ok-params.params.items c.in_ok-known.known (type_of store f) known c.if-not-known.false looked
    (subst (λ ps. IfSome (type_of store f) (λ t. AnswersCall log f t ps s s2 a)) c.deref-2.ensures.value called)) _ c.call_with.ensures.called

pub returns-clause-short : goal.returns-clause-short
returns-clause-short g c =
    let log = both_logs g.E.Channel.log g.H.Channel.log in
    let s = session c.args.store.now c.args.list.now.items in
    let s2 = session c.call_with.new.store c.call_with.new.list.items in
    let given = c.args.given.now in
    let looked = subst (λ l. AreLooked l given c.in_ok-params.params.items) c.deref.ensures.value c.in_ok-params.ensures in
    let count : c.len.result ≡ length c.args.list.now.items = search rules in
    let known = c.in_ok-known.ensures ∙ ap (λ n. all_known n (held_among (literals_view given))) count in
    map_on_err _ _ (done_with log c.args.func.now s s2 given c.in_ok-params.params.items _ c.args.slots c.in_ok-known.known known c.if-not-known.false c.deref-2.ensures.value looked) _ c.call_with.ensures.short

pub returns-then-not-known-clause-called : goal.returns-then-not-known-clause-called
returns-then-not-known-clause-called g c =
    let store = c.args.store.now in
    let given = c.args.given.now in
    let count : c.len.result ≡ length c.args.list.now.items = search rules in
    let known = c.in_ok-known.ensures ∙ ap (λ n. all_known n (held_among (literals_view given))) count in
    unknown_by (both_logs g.E.Channel.log g.H.Channel.log) c.args.func.now (session store c.args.list.now.items) given c.in_ok-known.known (type_of store c.args.func.now) known c.if-not-known.true
