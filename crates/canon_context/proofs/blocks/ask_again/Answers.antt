use Rattle.canon_memory.specs.Realloc.{call}
use Rattle.canon_context.proofs.Moves.{GuestLaws, asked_by}
use Rattle.canon_context.proofs.blocks.ask_again.Goals as goal

pub returns : goal.returns
returns g c =
    let a = c.args in
    let core = a.core.now in
    let asked = c.realloc.new.self in
    let L : GuestLaws _ = record { seen = g.G.Guest.seen; moves = g.G.Guest.moves; stays = g.met.G.Guest.stays; goes_on = g.met.G.Guest.goes_on } in
    record {
      asked = record {
        does = asked_by L core asked (call a.old a.old_size a.align a.size) c.realloc.result c.realloc.ensures.does c.realloc.ensures.moves;
        same = c.realloc.ensures.same;
        small = c.realloc.ensures.small;
      };
    }
