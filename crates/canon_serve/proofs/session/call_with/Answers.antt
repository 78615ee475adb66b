use Rattle.std.proofs.Common.{List, Ok, ap, arith, inr, length, refl, subst, sym, ◌∙◌, ◌≡◌}
use Rattle.std.specs.Prelude.{IfSome}
use Rattle.canon_types.specs.Table.{types_of}
use Rattle.canon_context.specs.Core.{component_types}
use Rattle.canon_func.specs.Stores.{type_of}
use Rattle.canon_val.specs.declared.val.Val.{Val}
use Rattle.canon_serve.specs.Carries.{CallsExport, TellsCall, both_logs, results_tuple_shape, session}
use Rattle.canon_serve.proofs.Calling.{answers_call, map_if_ok, on_any_err, refused_call, session_slots_written}
use Rattle.canon_serve.proofs.session.call_with.Goals as goal

pub returns-in-Ok-clause-called : goal.returns-in-Ok-clause-called
returns-in-Ok-clause-called g c =
    let log = both_logs g.E.Channel.log g.H.Channel.log in
    let f = c.args.func.now in
    let store = c.args.store.now in
    let store2 = c.enter.new.store in
    let before = c.args.list.now.items in
    let between = c.enter.new.list.items in
    let after = c.results_of.new.list.items in
    let count = ap length c.deref_mut.ensures.value ∙ c.in_ok-results.ensures in
    let slots = subst (λ n. IfSome (type_of store f) (λ t. n ≡ length (types_of (component_types store.core) t.results))) (sym count) c.requires.slots in
    let all = session_slots_written c.in_ok-results.results.items c.enter.new.results c.in_ok-results.results.len (omega (arith, c.deref_mut.ensures.len, c.enter.auto.results)) in
    map_if_ok _ _ (λ a told. answers_call log f (session store before) (session store2 between) (session store2 after) a refl c.args.params.now _ (Ok c.in-Ok.field-0) c.enter.new.results slots c.in-Ok.ensures
    (subst (λ (rs : List Val). IfSome (type_of store2 f) (λ t. TellsCall (results_tuple_shape log store2 t) (Ok tt) rs between after a)) all told)) _ c.results_of.ensures

pub returns-in-Err-clause-called : goal.returns-in-Err-clause-called
returns-in-Err-clause-called g c =
    let log = both_logs g.E.Channel.log g.H.Channel.log in
    let f = c.args.func.now in
    let store = c.args.store.now in
    let count = ap length c.deref_mut.ensures.value ∙ c.in_ok-results.ensures in
    let slots = subst (λ n. IfSome (type_of store f) (λ t. n ≡ length (types_of (component_types store.core) t.results))) (sym count) c.requires.slots in
    refused_call log f (session store c.args.list.now.items) (session c.enter.new.store c.enter.new.list.items) c.args.params.now _ c.in-Err.error c.enter.new.results slots c.in-Err.ensures

pub returns-in-Ok-clause-short : goal.returns-in-Ok-clause-short
returns-in-Ok-clause-short g c =
    let log = both_logs g.E.Channel.log g.H.Channel.log in
    let rs = c.enter.new.results in
    let count = ap length c.deref_mut.ensures.value ∙ c.in_ok-results.ensures in
    let s = session c.args.store.now c.args.list.now.items in
    let left = session c.enter.new.store c.enter.new.list.items in
    on_any_err _ _ (inr (rs, left, subst (λ n. CallsExport log c.args.func.now c.args.params.now n s left (Ok tt) rs) count c.in-Ok.ensures, refl))
