use Rattle.canon_serve.specs.Carries.{both_logs}
use Rattle.canon_serve.proofs.Calling.{entered_with_list}
use Rattle.canon_serve.proofs.session.enter.Goals as goal

pub returns : goal.returns
returns g c =
    let first = c.swap_lists.ensures in
    let again = c.swap_lists-2.ensures in
    entered_with_list (both_logs g.E.Channel.log g.H.Channel.log) c.args.func.now c.args.params.now _ c.call_in-result.result c.call_in-result.new.results c.args.store.now c.swap_lists.new.store c.call_in-result.new.store c.swap_lists-2.new.store
    c.args.list.now.items c.swap_lists.new.list.items c.swap_lists-2.new.list.items first.store first.list c.call_in-result.ensures again.store again.list
