use Rattle.canon_serve.proofs.Sessions.{cut_ends, goes_on_after, served_one}
use Rattle.canon_serve.specs.Carries.{both_logs, session}
use Rattle.canon_serve.proofs.serving.serve_next.Goals as goal

pub returns : goal.returns
returns g c =
    let log = both_logs g.E.Channel.log g.H.Channel.log in
    let told = g.P.Channel.log in
    let heard = c.in-Ok.ensures.heard in
    let goes_on = goes_on_after c.in-Ok.command c.in_default.not-End in
    let s = session c.args.store.now c.args.list.now.items in
    let s2 = session c.serve_command.new.store c.serve_command.new.list.items in
    record {
      one = λ none. let served = c.serve_command.ensures.served none in served_one log _ _ _ s s2 c.in-Ok.command served.0 goes_on heard served.1 served.2;
      ends = cut_ends log (told c.args.caller.now) (told c.hear_command.new.caller) (told c.serve_command.new.caller) s s2 c.in-Ok.command c.serve_command.result goes_on heard c.serve_command.ensures.cut;
    }
