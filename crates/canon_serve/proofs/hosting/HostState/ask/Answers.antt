use Rattle.std.proofs.Common.{Err, ap, rules, subst, ◌≡◌}
use Rattle.canon_relay.specs.Relay.{PassesMessages}
use Rattle.canon_types.specs.Table.{shape_of}
use Rattle.canon_types.specs.declared.types.InterfaceType.TheVariants as ty
use Rattle.canon_host.specs.Forms.{outcome}
use Rattle.canon_serve.specs.Asks.{IsRefusedAsk, IsServedAsk, ListsValues, ReadsAnswer}
use Rattle.canon_serve.proofs.Exchanged.{asks_answered, asks_stopped}
use Rattle.canon_serve.proofs.hosting.HostState.ask.Goals as goal

pub returns-in-Ok-exchange : goal.returns-in-Ok-exchange
returns-in-Ok-exchange g c =
    let log = g.H.Channel.log in
    let types = c.args.types.now in
    let type = c.args.ty.now in
    let before = c.args.self.now in
    let asked = c.in-Ok.asked.items in
    let answered = c.in-Ok-exchange.answered.items in
    let list = c.self.inside.list.items in
    let channel = c.exchange.new.host in
    let here : c.self.inside.channel ≡ before.channel = search rules in
    let kept : c.listed.new.self.list ≡ list = search rules in
    let listed = subst (λ l. ListsValues (shape_of types (ty.Tuple type.params)) c.args.params.now before.list l asked) kept c.in-Ok.ensures.listed in
    let passed = subst (λ h. PassesMessages (log h) (log channel) (IsServedAsk c.args.n asked answered)) here
    (subst (λ bytes. PassesMessages (log c.self.inside.channel) (log channel) (IsServedAsk c.args.n bytes answered)) c.deref.ensures.value c.in-Ok-exchange.ensures.served) in
    let answer = outcome c.give.result c.give.new.slots in
    let results = shape_of types (ty.Tuple type.results) in
    let read = subst (λ l. ReadsAnswer results l answered answer) c.deref-in-Ok-exchange-2.ensures.value
    (subst (λ bytes. ReadsAnswer results c.deref-in-Ok-exchange-2.result.now bytes answer) c.deref-in-Ok-exchange.ensures.value c.give.ensures) in
    asks_answered log c.args.n types type before c.args.params.now channel list asked listed answered answer passed read

pub returns : goal.returns
returns g c =
    let log = g.H.Channel.log in
    let types = c.args.types.now in
    let type = c.args.ty.now in
    let before = c.args.self.now in
    let asked = c.in-Ok.asked.items in
    let list = c.self.inside.list.items in
    let channel = c.exchange.new.host in
    let here : c.self.inside.channel ≡ before.channel = search rules in
    let kept : c.listed.new.self.list ≡ list = search rules in
    let listed = subst (λ l. ListsValues (shape_of types (ty.Tuple type.params)) c.args.params.now before.list l asked) kept c.in-Ok.ensures.listed in
    asks_stopped log c.args.n types type before c.args.params.now channel list asked listed c.in-Err.stop
    (λ e. subst (λ h. PassesMessages (log h) (log channel) (IsRefusedAsk c.args.n asked)) here
    (subst (λ bytes. PassesMessages (log c.self.inside.channel) (log channel) (IsRefusedAsk c.args.n bytes)) c.deref.ensures.value (c.in-Err.ensures.refused (ap Err e))))
