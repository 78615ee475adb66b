use Rattle.std.proofs.Common.{rules, ◌≡◌, None, refl}
use Rattle.canon_replay_guest.specs.Moves.{destroys}
use Rattle.canon_replay_guest.specs.Replaying.{next_event}
use Rattle.canon_replay_guest.proofs.Doing.{end_differs, not_destroyed}
use Rattle.canon_replay_guest.proofs.guest.ReplayGuest.refuse.Goals as goal

pub returns-clause-does : goal.returns-clause-does
returns-clause-does c memory =
    let none : c.args.self.now.stop ≡ None = search rules in
    end_differs (destroys c.args.func c.args.rep) c.args.self.now c.open.new.self c.trap.new.self memory c.trap.result c.trap.ensures.fault
    (c.open.ensures.opens, refl) none (not_destroyed (next_event c.open.new.self) c.args.func c.args.rep) c.trap.ensures.stops
