use Rattle.canon_context.proofs.Moves.{GuestLaws}
use Rattle.canon_lower_parts.proofs.TupleTypes.{next_of}
use Rattle.canon_lower_parts.proofs.WordTuples.{first_room, later_room, lowered_more, lowered_stop}
use Rattle.canon_typed.specs.Typed.{walked_shaped}
use Rattle.canon_lower_parts.specs.Tuples.{member_type}
use Rattle.canon_lower.proofs.members.Tuple2RefMutLowerMembers.lower_members.Goals as goal

pub lower_member-requires-clause-room : goal.lower_member-requires-clause-room
lower_member-requires-clause-room g c =
    let L : GuestLaws _ = record { seen = g.G.Guest.seen; moves = g.G.Guest.moves; stays = g.met.G.Guest.stays; goes_on = g.met.G.Guest.goes_on } in
    let a = c.args in
    first_room L a.cx.now.options a.cx.now.core.now a.ty.now a.k g.A.ComponentType.fits g.R.LowerMembers.all c.requires.fits a.at _ c.requires.room

pub lower_members-requires-clause-room : goal.lower_members-requires-clause-room
lower_members-requires-clause-room g c =
    let L : GuestLaws _ = record { seen = g.G.Guest.seen; moves = g.G.Guest.moves; stays = g.met.G.Guest.stays; goes_on = g.met.G.Guest.goes_on } in
    let a = c.args in
    let one = c.in-Ok.ensures in
    later_room L a.cx.now.options a.cx.now.core.now a.ty.now a.k g.A.ComponentType.fits g.R.LowerMembers.all c.requires.fits c.lower_member.new.cx.core.now one.lowers.same
    c.lower_member.new.k one.next a.at c.lower_member.new.at one.end _ _ one.stays.same_length c.requires.room

pub returns-in-Ok-clause-lowers : goal.returns-in-Ok-clause-lowers
returns-in-Ok-clause-lowers g c =
    let L : GuestLaws _ = record { seen = g.G.Guest.seen; moves = g.G.Guest.moves; stays = g.met.G.Guest.stays; goes_on = g.met.G.Guest.goes_on } in
    let a = c.args in
    let core = a.cx.now.core.now in
    let v = a.self.now in
    let one = c.in-Ok.ensures in
    let more = c.lower_members in
    lowered_more L a.cx.now.options core a.ty.now a.k g.A.ComponentType.fits g.R.LowerMembers.all c.requires.fits c.lower_member.new.cx.core.now one.lowers.same
    c.lower_member.new.k one.next a.at c.lower_member.new.at one.end (g.A.ComponentType.walks v.0.now) (g.R.LowerMembers.have v.1) (λ i u. g.A.Lower.gives i u v.0.now) (λ i. g.R.LowerMembers.give i v.1)
    more.new.cx.core.now c.lower_member.new.cx.options c.lower_member.new.dst more.new.dst more.result
    (λ t has. walked_shaped g.A.ComponentType.fits g.A.ComponentType.walks g.A.ComponentType.means g.met.A.ComponentType.typed g.met.A.ComponentType.walked v.0.now core.component.types (member_type core.component.types.types a.ty.now a.k) t
    (next_of g.A.ComponentType.fits g.R.LowerMembers.all core.component.types a.ty.now a.k c.requires.fits).fit has)
    one.same_options more.ensures.stays one.lowers more.ensures.lowers

pub returns-in-Err-clause-lowers : goal.returns-in-Err-clause-lowers
returns-in-Err-clause-lowers g c =
    let L : GuestLaws _ = record { seen = g.G.Guest.seen; moves = g.G.Guest.moves; stays = g.met.G.Guest.stays; goes_on = g.met.G.Guest.goes_on } in
    let a = c.args in
    let v = a.self.now in
    lowered_stop L a.cx.now.options a.cx.now.core.now a.ty.now a.k g.A.ComponentType.fits g.R.LowerMembers.all c.requires.fits c.lower_member.new.cx.core.now c.lower_member.new.dst a.at
    (g.A.ComponentType.walks v.0.now) (g.R.LowerMembers.have v.1) (λ i u. g.A.Lower.gives i u v.0.now) (λ i. g.R.LowerMembers.give i v.1) c.in-Err.fault c.in-Err.ensures.lowers
