use Rattle.std.proofs.Common.{◌+◌, ◌∙◌, arith, drop, get_or, length, refl, subst, sym}
use Rattle.std.proofs.lemmas.List.{drop-set-lt}
use Rattle.canon_context.proofs.Moves.{GuestLaws}
use Rattle.canon_lower_parts.proofs.Items.{here_at, next_same}
use Rattle.canon_lower_parts.proofs.WordRows.{row_begin, row_end, lower_row_more, row_room, row_stop}
use Rattle.canon_types.specs.Instance.{Instance}
use Rattle.canon_types.specs.Table.{Knows}
use Rattle.canon_passing.proofs.Passing.{handles_instance, handles_types}
use Rattle.canon_typed.specs.Typed.{walked_shaped}
use Rattle.canon_lower.proofs.fixed_list.lower_items.Goals as goal

pub loop-k-init : goal.loop-k-init
loop-k-init g c =
    let L : GuestLaws _ = record { seen = g.G.Guest.seen; moves = g.G.Guest.moves; stays = g.met.G.Guest.stays; goes_on = g.met.G.Guest.goes_on } in
    let a = c.args in
    let core = a.cx.now.core.now in
    let f = g.T.Lower.gives in
    let W = g.T.ComponentType.walks in
    record {
      row = row_begin L a.cx.now.options core a.ty.now W f a.items.now a.dst.now c.requires.room;
      small = c.memory-memory.ensures.small;
      items = refl;
      count = refl {a = length c.args.dst.now};
      options = refl;
      reference = refl;
    }

pub lower_at-requires-clause-known : goal.lower_at-requires-clause-known
lower_at-requires-clause-known g c = subst (λ t. Knows t c.args.ty.now) (sym (handles_types c.args.cx.now.core.now c.loop-k.cx.core.now c.loop-k.invariant.row.same)) c.requires.known

pub lower_at-requires-clause-fits : goal.lower_at-requires-clause-fits
lower_at-requires-clause-fits g c = subst (λ (i : Instance). g.T.ComponentType.fits i c.args.ty.now) (sym (handles_instance c.args.cx.now.core.now c.loop-k.cx.core.now c.loop-k.invariant.row.same)) c.requires.fits

pub lower_at-requires-clause-room : goal.lower_at-requires-clause-room
lower_at-requires-clause-room g c =
    let L : GuestLaws _ = record { seen = g.G.Guest.seen; moves = g.G.Guest.moves; stays = g.met.G.Guest.stays; goes_on = g.met.G.Guest.goes_on } in
    let a = c.args in
    let core = a.cx.now.core.now in
    let f = g.T.Lower.gives in
    let W = g.T.ComponentType.walks in
    let x = get_or c.loop-k.items c.loop-k.k c.index-items-k.result in
    let here = here_at c.loop-k.items a.items.now c.loop-k.k c.index-items-k.result x c.loop-k.invariant.items refl (omega (arith, c.loop-k-test.true, c.loop-k.auto.items)) in
    row_room L a.cx.now.options core a.ty.now W f a.items.now c.loop-k.cx.core.now c.loop-k.cx.options c.loop-k.dst c.loop-k.at (drop c.loop-k.k a.items.now) (drop (c.loop-k.k + 1) a.items.now) x here c.loop-k.invariant.row

pub loop-k-preserved : goal.loop-k-preserved
loop-k-preserved g c =
    let L : GuestLaws _ = record { seen = g.G.Guest.seen; moves = g.G.Guest.moves; stays = g.met.G.Guest.stays; goes_on = g.met.G.Guest.goes_on } in
    let a = c.args in
    let core = a.cx.now.core.now in
    let f = g.T.Lower.gives in
    let W = g.T.ComponentType.walks in
    let x = get_or c.loop-k.items c.loop-k.k c.index-items-k.result in
    let here = here_at c.loop-k.items a.items.now c.loop-k.k c.index-items-k.result x c.loop-k.invariant.items refl (omega (arith, c.loop-k-test.true, c.loop-k.auto.items)) in
    record {
      row = lower_row_more L a.cx.now.options core a.ty.now W f a.items.now c.loop-k.cx.core.now c.loop-k.cx.options c.loop-k.dst c.loop-k.at
          (drop c.loop-k.k a.items.now) (drop (c.loop-k.k + 1) a.items.now) x here c.loop-k.invariant.row c.lower_at.new.cx.core.now
          c.lower_at.new.cx.options c.lower_at.new.dst c.lower_at.new.at
          (λ t has. walked_shaped g.T.ComponentType.fits g.T.ComponentType.walks g.T.ComponentType.means g.met.T.ComponentType.typed
          g.met.T.ComponentType.walked x core.component.types a.ty.now t c.requires.fits has)
          c.in-Ok.ensures.stays c.in-Ok.ensures.end c.in-Ok.ensures.same_options c.in-Ok.ensures.lowers;
      small = c.in-Ok.ensures.lowers.attempt.lowering.small;
      items = drop-set-lt (c.loop-k.k + 1) c.loop-k.items c.loop-k.k c.lower_at.new.value (omega arith) ∙ next_same c.loop-k.items a.items.now c.loop-k.k c.loop-k.invariant.items;
      count = c.in-Ok.ensures.stays.same_length ∙ c.loop-k.invariant.count;
      options = c.in-Ok.ensures.same_options ∙ c.loop-k.invariant.options;
      reference = c.in-Ok.ensures.same_reference ∙ c.loop-k.invariant.reference;
    }

pub returns-in-Err-clause-lowers : goal.returns-in-Err-clause-lowers
returns-in-Err-clause-lowers g c =
    let L : GuestLaws _ = record { seen = g.G.Guest.seen; moves = g.G.Guest.moves; stays = g.met.G.Guest.stays; goes_on = g.met.G.Guest.goes_on } in
    let a = c.args in
    let core = a.cx.now.core.now in
    let f = g.T.Lower.gives in
    let W = g.T.ComponentType.walks in
    let x = get_or c.loop-k.items c.loop-k.k c.index-items-k.result in
    let here = here_at c.loop-k.items a.items.now c.loop-k.k c.index-items-k.result x c.loop-k.invariant.items refl (omega (arith, c.loop-k-test.true, c.loop-k.auto.items)) in
    row_stop L a.cx.now.options core a.ty.now W f a.items.now c.loop-k.cx.core.now c.loop-k.cx.options c.loop-k.dst c.loop-k.at
    (drop c.loop-k.k a.items.now) (drop (c.loop-k.k + 1) a.items.now) x here c.loop-k.invariant.row c.lower_at.new.cx.core.now c.lower_at.new.dst
    c.in-Err.fault c.in-Err.ensures.stays c.in-Err.ensures.lowers

pub returns-clause-lowers : goal.returns-clause-lowers
returns-clause-lowers g c =
    let L : GuestLaws _ = record { seen = g.G.Guest.seen; moves = g.G.Guest.moves; stays = g.met.G.Guest.stays; goes_on = g.met.G.Guest.goes_on } in
    let a = c.args in
    let core = a.cx.now.core.now in
    let f = g.T.Lower.gives in
    let W = g.T.ComponentType.walks in
    row_end L a.cx.now.options core a.ty.now W f a.items.now c.loop-k.cx.core.now c.loop-k.cx.options c.loop-k.dst c.loop-k.at c.loop-k.k c.loop-k.invariant.small
    (omega (arith, c.loop-k-test.false, c.loop-k.auto.k-end)) c.loop-k.invariant.row
