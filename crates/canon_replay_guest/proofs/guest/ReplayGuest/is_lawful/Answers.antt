use Rattle.std.proofs.Common.{◌+◌, ◌≤◌, ap, min, subst, sym, ℕ}
use Rattle.canon_memory.specs.Realloc.{call}
use Rattle.canon_replay_guest.specs.Replaying.{Replaying}
use Rattle.canon_replay_guest.proofs.Doing.{lawful_by}
use Rattle.canon_replay_guest.proofs.guest.ReplayGuest.is_lawful.Goals as goal

pub returns : goal.returns
returns c = lawful_by c.args.self.now c.args.len (call c.args.old c.args.old_size c.args.align c.args.new_size) c.args.answer
    (c.is_placed.ensures.0 c.if-not-is_placed.false) (subst (λ (k : ℕ). c.args.old + k ≤ c.args.len) c.min.ensures c.if-old-min.false)
    c.self.inside.live c.is_free.result (ap (λ (g : Replaying). g.live) c.self.view_is) c.is_free.ensures
