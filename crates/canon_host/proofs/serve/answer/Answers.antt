use Rattle.std.proofs.Common.{ap, false, length, ◌∙◌}
use Rattle.std.specs.Prelude.{replicate}
use Rattle.canon_types.specs.Table.{TypeTable, tuple_members}
use Rattle.canon_context.specs.declared.component.Component.{Component}
use Rattle.canon_model.specs.Shape.{member_count}
use Rattle.canon_val.specs.declared.val.Val.TheVariants as val
use Rattle.canon_host.proofs.Serving.{answered_err, answered_ok, ask_past, ask_whole}
use Rattle.canon_host.proofs.serve.answer.Goals as goal

pub returns-in-Ok-conclude-clause-answers : goal.returns-in-Ok-conclude-clause-answers
returns-in-Ok-conclude-clause-answers g c =
    let a = c.args in
    let items = c.in-Ok.values.items in
    let old = c.deref_mut.result.now in
    let nv = c.call.new.values in
    let types = c.types.ensures ∙ ap (λ (x : Component). x.types.types) c.component.ensures.component in
    let slots = ap (λ m. replicate m (val.Bool false)) (c.value_count-count.ensures ∙ ap (λ (t : TypeTable). member_count (tuple_members t a.asked.now.func.results)) types) in
    let fin = ask_whole _ nv items c.in-Ok.values.ok.0 (c.in-Ok-call.ensures.count ∙ ap length c.deref_mut.ensures.value) in
    answered_ok g.F.Fn a.f.now g.G.Guest.seen g.G.Guest.moves a.asked.now a.core.now c.call.new.core c.conclude.new.core a.params.items items old nv _ c.len-given.result c.value_count-count.result a.storage.now c.conclude.new.storage
    (c.len-given.ensures ∙ a.params.ok.0) slots c.in-Ok.ensures c.deref_mut.ensures.value c.in-Ok-call.ensures.params c.in-Ok-call.ensures.calls (ask_past c.len-given.result c.deref.result.now nv (c.deref.ensures.value ∙ fin))
    _ fin c.in-Ok-conclude.ensures.concludes

pub returns-in-Err-clause-answers : goal.returns-in-Err-clause-answers
returns-in-Err-clause-answers g c =
    let a = c.args in
    let items = c.in-Ok.values.items in
    let old = c.deref_mut.result.now in
    let nv = c.call.new.values in
    let types = c.types.ensures ∙ ap (λ (x : Component). x.types.types) c.component.ensures.component in
    let slots = ap (λ m. replicate m (val.Bool false)) (c.value_count-count.ensures ∙ ap (λ (t : TypeTable). member_count (tuple_members t a.asked.now.func.results)) types) in
    let fin = ask_whole _ nv items c.in-Ok.values.ok.0 (c.in-Ok-call.ensures.count ∙ ap length c.deref_mut.ensures.value) in
    answered_err g.F.Fn a.f.now g.G.Guest.seen g.G.Guest.moves a.asked.now a.core.now c.call.new.core c.conclude.new.core a.params.items items old nv _ c.len-given.result c.value_count-count.result a.storage.now c.conclude.new.storage
    (c.len-given.ensures ∙ a.params.ok.0) slots c.in-Ok.ensures c.deref_mut.ensures.value c.in-Ok-call.ensures.params c.in-Ok-call.ensures.calls (ask_past c.len-given.result c.deref.result.now nv (c.deref.ensures.value ∙ fin))
    c.in-Err.fault c.in-Err.ensures.concludes
