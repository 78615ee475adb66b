use Rattle.canon_serve.specs.Carries.{both_logs, session}
use Rattle.canon_serve.specs.Sessions.{ServesAll}
use Rattle.canon_serve.proofs.serving.serve_store.Given as goal

abbrev pub invariant-loop : goal.invariant-loop
invariant-loop g l = record { served : ServesAll (both_logs g.E.Channel.log g.H.Channel.log) (g.P.Channel.log l.fn.caller) (g.P.Channel.log l.caller) (session l.fn.store l.fn.list.items) (session l.store l.list.items) }
