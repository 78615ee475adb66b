use Rattle.std.proofs.Common.{rules, ◌≡◌, None, refl, arith, ap, ℕ, length}
use Rattle.canon_replay_guest.specs.Moves.{posts}
use Rattle.canon_replay_guest.specs.Replaying.{Replaying, events_now}
use Rattle.canon_replay_guest.proofs.Doing.{at_within, end_differs, is_next, is_other}
use Rattle.canon_replay_guest.proofs.guest.ReplayGuest.end.Goals as goal

pub returns-then-not-is_post-clause-does : goal.returns-then-not-is_post-clause-does
returns-then-not-is_post-clause-does c memory =
    let none : c.args.self.now.stop ≡ None = search rules in
    end_differs (posts c.args.func c.args.words.now) c.args.self.now c.open.new.self c.trap.new.self memory c.trap.result c.trap.ensures.fault
    (c.open.ensures.opens, refl) none
    (is_other _ c.open.new.self (posts c.args.func c.args.words.now) c.is_post.result c.next.ensures c.is_post.ensures c.read_words.ensures c.if-not-is_post.true)
    c.trap.ensures.stops

pub overflow_add-self : goal.overflow_add-self
overflow_add-self c =
    let lt = at_within c.open.new.self (posts c.args.func c.args.words.now) (is_next _ c.open.new.self (posts c.args.func c.args.words.now) c.is_post.result c.next.ensures c.is_post.ensures c.if-not-is_post.false) in
    let at : c.self-2.inside.at ≡ c.open.new.self.at = ap (λ (g : Replaying). g.at) c.self-2.view_is in
    omega (arith, lt, at, c.count-count.ensures, c.count-count.type_inv)
