use Rattle.canon_context.proofs.Moves.{GuestLaws}
use Rattle.canon_lower_parts.proofs.TupleSteps.{first_room, later_room, lower_stored_more, stored_stop}
use Rattle.canon_lower.proofs.members.Tuple2RefMutLowerMembers.store_members.Goals as goal

pub store_member-requires-clause-room : goal.store_member-requires-clause-room
store_member-requires-clause-room g c =
    let L : GuestLaws _ = record { seen = g.G.Guest.seen; moves = g.G.Guest.moves; stays = g.met.G.Guest.stays; goes_on = g.met.G.Guest.goes_on } in
    let a = c.args in
    first_room L a.cx.now.options a.cx.now.core.now a.ty.now a.k g.A.ComponentType.fits g.R.LowerMembers.all c.requires.fits a.at a.end _ c.requires.room

pub store_members-requires-clause-room : goal.store_members-requires-clause-room
store_members-requires-clause-room g c =
    let L : GuestLaws _ = record { seen = g.G.Guest.seen; moves = g.G.Guest.moves; stays = g.met.G.Guest.stays; goes_on = g.met.G.Guest.goes_on } in
    let a = c.args in
    let one = c.in-Ok.ensures in
    later_room L a.cx.now.options a.cx.now.core.now a.ty.now a.k g.A.ComponentType.fits g.R.LowerMembers.all c.requires.fits c.store_member.new.cx.core.now one.stores.same
    c.store_member.new.k one.next a.at a.end c.store_member.new.end one.end _ _ one.stores.attempt.lowering.goes.no_shorter c.requires.room

pub returns-in-Ok-clause-stores : goal.returns-in-Ok-clause-stores
returns-in-Ok-clause-stores g c =
    let L : GuestLaws _ = record { seen = g.G.Guest.seen; moves = g.G.Guest.moves; stays = g.met.G.Guest.stays; goes_on = g.met.G.Guest.goes_on } in
    let a = c.args in
    let v = a.self.now in
    let one = c.in-Ok.ensures in
    let more = c.store_members in
    lower_stored_more L a.cx.now.options a.cx.now.core.now a.ty.now a.k g.A.ComponentType.fits g.R.LowerMembers.all c.requires.fits c.store_member.new.cx.core.now one.stores.same
    c.store_member.new.k one.next a.at a.end c.store_member.new.end one.end (g.A.ComponentType.walks v.0.now) (g.R.LowerMembers.have v.1) (λ i u. g.A.Lower.gives i u v.0.now) (λ i. g.R.LowerMembers.give i v.1)
    more.new.cx.core.now c.store_member.new.cx.options more.result one.same_options one.stores more.ensures.stores

pub returns-in-Err-clause-stores : goal.returns-in-Err-clause-stores
returns-in-Err-clause-stores g c =
    let L : GuestLaws _ = record { seen = g.G.Guest.seen; moves = g.G.Guest.moves; stays = g.met.G.Guest.stays; goes_on = g.met.G.Guest.goes_on } in
    let a = c.args in
    let v = a.self.now in
    stored_stop L a.cx.now.options a.cx.now.core.now a.ty.now a.k g.A.ComponentType.fits g.R.LowerMembers.all c.requires.fits c.store_member.new.cx.core.now a.at a.end
    (g.A.ComponentType.walks v.0.now) (g.R.LowerMembers.have v.1) (λ i u. g.A.Lower.gives i u v.0.now) (λ i. g.R.LowerMembers.give i v.1) c.in-Err.fault c.in-Err.ensures.stores
