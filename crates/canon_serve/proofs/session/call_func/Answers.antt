use Rattle.std.proofs.Common.{inl, refl, subst}
use Rattle.std.specs.Prelude.{IfSome}
use Rattle.canon_func.specs.Stores.{type_of}
use Rattle.canon_serve.specs.Carries.{ByNumbers, both_logs, session}
use Rattle.canon_serve.specs.Images.{are_listed}
use Rattle.canon_serve.proofs.Calling.{called_by, done_call, map_if_ok, map_on_err, on_any_err, senseless_by}
use Rattle.canon_serve.proofs.session.call_func.Goals as goal

pub returns-in-Ok-clause-called : goal.returns-in-Ok-clause-called
returns-in-Ok-clause-called g c =
    let log = both_logs g.E.Channel.log g.H.Channel.log in
    let f = c.args.func.now in
    let store = c.args.store.now in
    let s = session store c.args.list.now.items in
    let s2 = session c.call_numbered.new.store c.call_numbered.new.list.items in
    map_if_ok _ _ (λ a called. called_by log f s s2 a c.args.params.now c.in-Ok.given c.in-Ok.slots (type_of store f) c.in-Ok.ensures.read
    (subst (λ gs. IfSome (type_of store f) (λ t. ByNumbers log f t gs s s2 a (are_listed c.args.list.now.items gs))) c.deref.ensures.value called)) _ c.call_numbered.ensures.called

pub returns-in-Err-clause-called : goal.returns-in-Err-clause-called
returns-in-Err-clause-called g c =
    let store = c.args.store.now in
    map_if_ok _ _ (λ a told. senseless_by (both_logs g.E.Channel.log g.H.Channel.log) c.args.func.now (session store c.args.list.now.items) a c.args.params.now c.in-Err.error (type_of store c.args.func.now) c.in-Err.ensures.read told) _ c.senseless.ensures

pub returns-in-Ok-clause-short : goal.returns-in-Ok-clause-short
returns-in-Ok-clause-short g c =
    let log = both_logs g.E.Channel.log g.H.Channel.log in
    let s = session c.args.store.now c.args.list.now.items in
    let s2 = session c.call_numbered.new.store c.call_numbered.new.list.items in
    map_on_err _ _ (done_call log c.args.func.now s s2 c.args.params.now c.in-Ok.given c.in-Ok.slots _ c.deref.ensures.value c.requires.typed c.in-Ok.ensures.read) _ c.call_numbered.ensures.short

pub returns-in-Err-clause-short : goal.returns-in-Err-clause-short
returns-in-Err-clause-short g c = on_any_err _ _ (inl refl)
