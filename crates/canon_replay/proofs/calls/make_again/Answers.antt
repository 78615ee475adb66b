use Rattle.std.proofs.Common.{Err, List, Ok, ap, arith, length, subst, sym, ℕ, ◌<◌, ◌^◌, ◌∙◌, ◌≡◌}
use Rattle.std.proofs.lemmas.Bool.{iff_false}
use Rattle.std.specs.Prelude.{IfOk, IfSome}
use Rattle.canon_types.specs.Table.{types_of}
use Rattle.canon_memory.specs.declared.event.Event.{Event}
use Rattle.canon_replay_guest.specs.Replaying.{call_events}
use Rattle.canon_context.specs.Core.{component_types}
use Rattle.canon_func.specs.Stores.{type_of}
use Rattle.canon_val.specs.declared.val.Val.{Val}
use Rattle.canon_replay.specs.Calls.{EndsOk}
use Rattle.canon_replay.proofs.Making.{err_answered, made_err, made_ok, ok_answered, recorded_stays, results_written}
use Rattle.canon_replay.proofs.calls.make_again.Goals as goal

pub returned-requires-clause-few : goal.returned-requires-clause-few
returned-requires-clause-few c =
    let stays = recorded_stays c.args.k c.args.call c.args.store.now c.enter.new.store c.requires.ready c.requires.recorded c.in-Some.func c.deref.result.now (length c.deref_mut.result.now) (Ok tt)
    c.enter.new.results c.in-Ok-enter.ensures ok_answered in
    subst (λ (es : List (List Event)). length (call_events es c.args.k) < 2 ^ 32) (sym stays) c.requires.few

pub outcome_in-requires : goal.outcome_in-requires
outcome_in-requires c =
    let other = iff_false c.is_short.ensures c.if-is_short.false in
    let stays = recorded_stays c.args.k c.args.call c.args.store.now c.enter.new.store c.requires.ready c.requires.recorded c.in-Some.func c.deref.result.now (length c.deref_mut.result.now)
    (Err c.in-Err.error) c.enter.new.results c.in-Err.ensures (err_answered c.in-Err.error other) in
    record { few = subst (λ (es : List (List Event)). length (call_events es c.args.k) < 2 ^ 32) (sym stays) c.requires.few }

pub returns-in-Ok-enter-clause-makes : goal.returns-in-Ok-enter-clause-makes
returns-in-Ok-enter-clause-makes c =
    let before = c.args.store.now in
    let mid = c.enter.new.store in
    let named = c.in-Some.ensures.func ∙ ap (λ (i : ℕ). record { store = before.core.id; export = i }) c.from_u32.ensures in
    let all = results_written c.in-Ok.results.items c.enter.new.results c.in-Ok.results.len (omega (arith, c.deref_mut.ensures.len, c.enter.auto.results)) in
    made_ok c.args.k c.args.call before mid c.requires.ready c.requires.recorded c.in-Some.func c.deref.result.now (length c.deref_mut.result.now) c.enter.new.results c.returned.new.store named c.deref.ensures.value c.returned.ensures.same
    c.returned.result c.requires.some c.in-Ok-enter.ensures (subst (λ (rs : List Val). IfOk c.returned.result (λ o. EndsOk c.args.k c.in-Some.func mid rs c.args.call.results.items o)) all c.returned.ensures.passed)

pub returns-else-is_short-clause-makes : goal.returns-else-is_short-clause-makes
returns-else-is_short-clause-makes c =
    let before = c.args.store.now in
    let mid = c.enter.new.store in
    let named = c.in-Some.ensures.func ∙ ap (λ (i : ℕ). record { store = before.core.id; export = i }) c.from_u32.ensures in
    let count = ap length c.deref_mut.ensures.value ∙ c.in-Ok.ensures in
    let slots = subst (λ n. IfSome (type_of before c.in-Some.func) (λ t. n ≡ length (types_of (component_types before.core) t.results))) (sym count) c.result_count.ensures in
    made_err c.args.k c.args.call before mid c.requires.ready c.requires.recorded c.in-Some.func c.deref.result.now (length c.deref_mut.result.now) c.enter.new.results c.outcome_in.new.store named
    c.deref.ensures.value c.outcome_in.ensures.same
    c.in-Err.error c.outcome_in.result (iff_false c.is_short.ensures c.if-is_short.false) slots c.in-Err.ensures c.outcome_in.ensures.is
