use Rattle.std.proofs.Common.{[], inl, refl, rules}
use Rattle.std.specs.Prelude.{IsNone}
use Rattle.canon_relay.specs.Relay.{adds_none}
use Rattle.canon_serve.specs.Carries.{both_logs}
use Rattle.canon_serve.proofs.Sessions.{serves_next, serves_none, serves_until}
use Rattle.canon_serve.proofs.serving.serve_store.Goals as goal

pub returns-in-Some : goal.returns-in-Some
returns-in-Some g c = serves_until (both_logs g.E.Channel.log g.H.Channel.log) _ _ _ _ _ c.in-Some.end c.loop.invariant.served c.in-Some.ensures.ends

pub returns : goal.returns
returns g c = serves_until (both_logs g.E.Channel.log g.H.Channel.log) _ _ _ _ _ _ c.loop.invariant.served ([], adds_none _, inl (inl refl))

pub loop-init : goal.loop-init
loop-init g c = record { served = serves_none (both_logs g.E.Channel.log g.H.Channel.log) _ _ }

pub loop-preserved : goal.loop-preserved
loop-preserved g c =
    let none : IsNone c.serve_next.result = search rules in
    record { served = serves_next (both_logs g.E.Channel.log g.H.Channel.log) _ _ _ _ _ _ c.loop.invariant.served (c.serve_next.ensures.one none) }
