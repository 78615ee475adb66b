use Rattle.std.proofs.Common.{inl, subst}
use Rattle.canon_func.specs.Stores.{type_of}
use Rattle.canon_serve.specs.Carries.{CalledOf, CallsShort, both_logs, session}
use Rattle.canon_serve.proofs.Calling.{found_call, map_if_ok, map_on_err}
use Rattle.canon_serve.proofs.session.call.Goals as goal

pub returns-clause-called : goal.returns-clause-called
returns-clause-called g c =
    let log = both_logs g.E.Channel.log g.H.Channel.log in
    let store = c.args.store.now in
    let s = session store c.args.list.now.items in
    let s2 = session c.call_func.new.store c.call_func.new.list.items in
    let f = c.in-Some.func in
    let found = c.in-Some.ensures.found in
    map_if_ok _ _ (λ a called. inl (found.2, subst (λ n. CalledOf log n c.args.params.now s s2 a (type_of store n)) found.0 (found_call log f s s2 a c.args.params.now (type_of store f) found.3 called))) _ c.call_func.ensures.called

pub returns-clause-short : goal.returns-clause-short
returns-clause-short g c =
    let s = session c.args.store.now c.args.list.now.items in
    let s2 = session c.call_func.new.store c.call_func.new.list.items in
    map_on_err _ _ (subst (λ n. CallsShort (both_logs g.E.Channel.log g.H.Channel.log) n c.args.params.now s s2) c.in-Some.ensures.found.0) _ c.call_func.ensures.short
