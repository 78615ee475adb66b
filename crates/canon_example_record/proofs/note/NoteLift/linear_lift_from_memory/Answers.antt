use Rattle.std.proofs.Common.{◌+◌, Ok, ap, arith, length}
use Rattle.canon_context.specs.Core.{Parts}
use Rattle.canon_reading.specs.Spots.{stored}
use Rattle.canon_example_record.proofs.Lifting.{note_lifted, score_aligned, score_stored, title_aligned, title_stored}
use Rattle.canon_example_record.proofs.Lowering.{score_room, title_room}
use Rattle.canon_example_record.proofs.note.NoteLift.linear_lift_from_memory.Goals as goal

pub linear_lift_from_memory-requires-clause-aligned : goal.linear_lift_from_memory-requires-clause-aligned
linear_lift_from_memory-requires-clause-aligned g c = title_aligned c.args.cx.now.core.now.component.types c.args._ty c.requires.fits c.args.at c.requires.aligned

pub linear_lift_from_memory-requires-clause-inside : goal.linear_lift_from_memory-requires-clause-inside
linear_lift_from_memory-requires-clause-inside g c = title_room c.args.cx.now.core.now.component.types c.args._ty c.requires.fits c.args.at _ c.requires.inside

pub linear_lift_from_memory-requires-in-Ok-clause-aligned : goal.linear_lift_from_memory-requires-in-Ok-clause-aligned
linear_lift_from_memory-requires-in-Ok-clause-aligned g c = score_aligned c.args.cx.now.core.now.component.types c.args._ty c.requires.fits c.args.at c.requires.aligned

pub linear_lift_from_memory-requires-in-Ok-clause-inside : goal.linear_lift_from_memory-requires-in-Ok-clause-inside
linear_lift_from_memory-requires-in-Ok-clause-inside g c =
    let core = c.args.cx.now.core.now in
    score_room core.component.types c.args._ty c.requires.fits c.args.at (length core.memory) c.requires.inside _
    (omega (arith, ap (λ (z : Parts g.row.U.Denot g.row.G.Denot). length z.memory) c.in-Ok.ensures.same_core))

pub returns-in-Ok-linear_lift_from_memory-clause-lifts : goal.returns-in-Ok-linear_lift_from_memory-clause-lifts
returns-in-Ok-linear_lift_from_memory-clause-lifts g c =
    let cx = c.args.cx.now in
    let mid = c.linear_lift_from_memory.new.cx in
    let after = c.linear_lift_from_memory-in-Ok.new.cx in
    note_lifted cx.core.now cx.options c.args._ty c.requires.fits cx.fuel (stored c.args.at) (stored (c.args.at + 8)) c.requires.inside
    (title_stored cx.core.now cx.options cx.fuel c.args.at) (score_stored cx.core.now cx.options cx.fuel c.args.at)
    c.in-Ok.title mid.core.now mid.fuel c.in-Ok.ensures.same_core mid.options c.in-Ok.ensures.same_options c.in-Ok.ensures.lifts
    (Ok c.in-Ok-linear_lift_from_memory.score) after.core.now.ledger after.fuel c.in-Ok-linear_lift_from_memory.ensures.lifts
