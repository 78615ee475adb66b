use Rattle.std.proofs.Common.{Err, Ok}
use Rattle.canon_ledger.specs.Ledger.{leave}
use Rattle.canon_ledger.proofs.LeavingLemmas.{ended_leaves}
use Rattle.canon_host.proofs.Serving.{ended_told, with_ledger}
use Rattle.canon_host.proofs.conclude.end_ask.Goals as goal

pub leave-requires : goal.leave-requires
leave-requires g c = ended_leaves c.args.core.now.ledger c.validate_scope_exit.new.self.ledger c.in_default.ensures.step

pub returns-in-Ok-tell_place-clause-ends : goal.returns-in-Ok-tell_place-clause-ends
returns-in-Ok-tell_place-clause-ends g c =
    let ended = c.validate_scope_exit.new.self in
    ended_told g.G.Guest.seen g.G.Guest.moves c.args.asked.now c.args.core.now ended c.leave.new.self c.tell_place.new.core c.args.storage.now c.in-Ok.at (Ok tt) c.in-Ok.ensures.ok
    (c.in_default.ensures.step, c.in_default.ensures.same) (with_ledger ended c.leave.new.self (leave ended.ledger) c.leave.ensures.same c.leave.ensures.left) c.in-Ok-tell_place.ensures.tells

pub returns-in-Err-tell_place-clause-ends : goal.returns-in-Err-tell_place-clause-ends
returns-in-Err-tell_place-clause-ends g c =
    let ended = c.validate_scope_exit.new.self in
    ended_told g.G.Guest.seen g.G.Guest.moves c.args.asked.now c.args.core.now ended c.leave.new.self c.tell_place.new.core c.args.storage.now c.in-Ok.at (Err c.in-Err-tell_place.fault) c.in-Ok.ensures.ok
    (c.in_default.ensures.step, c.in_default.ensures.same) (with_ledger ended c.leave.new.self (leave ended.ledger) c.leave.ensures.same c.leave.ensures.left) c.in-Err-tell_place.ensures.tells
