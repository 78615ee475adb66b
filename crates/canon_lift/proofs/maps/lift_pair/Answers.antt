use Rattle.std.proofs.Common.{◌≡◌, ◌≤◌, ◌+◌, ◌%◌, arith, false, length, subst, sym}
use Rattle.canon_context.specs.Core.{Parts, component_types}
use Rattle.canon_model.specs.Layout.{align, size}
use Rattle.canon_types.specs.Table.{shape_of}
use Rattle.canon_lift_parts.proofs.PairLifting.{key_aligned, key_inside, key_refused, value_aligned, value_inside, lift_value_refused}
use Rattle.canon_lift.proofs.maps.lift_pair.Goals as goal

pub linear_lift_from_memory-requires-clause-aligned : goal.linear_lift_from_memory-requires-clause-aligned
linear_lift_from_memory-requires-clause-aligned g c =
    let core = c.args.cx.now.core.now in
    let pair = c.args.pair.now in
    key_aligned (component_types core) pair.key pair.value core.memory c.args.at c.requires.aligned c.requires.inside

pub linear_lift_from_memory-requires-clause-inside : goal.linear_lift_from_memory-requires-clause-inside
linear_lift_from_memory-requires-clause-inside g c =
    let core = c.args.cx.now.core.now in
    let pair = c.args.pair.now in
    key_inside (component_types core) pair.key pair.value core.memory c.args.at c.requires.aligned c.requires.inside

pub overflow_add-at : goal.overflow_add-at
overflow_add-at g c =
    let core = c.args.cx.now.core.now in
    let pair = c.args.pair.now in
    record { fits = omega (arith, c.memory-memory.ensures.small, value_inside (component_types core) pair.key pair.value core.memory c.args.at c.requires.aligned c.requires.inside pair.offset c.requires.offset) }

pub linear_lift_from_memory-requires-in-Ok-clause-aligned : goal.linear_lift_from_memory-requires-in-Ok-clause-aligned
linear_lift_from_memory-requires-in-Ok-clause-aligned g c =
    let core = c.args.cx.now.core.now in
    let pair = c.args.pair.now in
    subst (λ (z : Parts g.row.U.Denot g.row.G.Denot). (c.args.at + pair.offset) % align false (shape_of (component_types z) pair.value) ≡ 0) (sym c.in-Ok.ensures.same_core)
    (value_aligned (component_types core) pair.key pair.value core.memory c.args.at c.requires.aligned c.requires.inside pair.offset c.requires.offset)

pub linear_lift_from_memory-requires-in-Ok-clause-inside : goal.linear_lift_from_memory-requires-in-Ok-clause-inside
linear_lift_from_memory-requires-in-Ok-clause-inside g c =
    let core = c.args.cx.now.core.now in
    let pair = c.args.pair.now in
    subst (λ (z : Parts g.row.U.Denot g.row.G.Denot). c.args.at + pair.offset + size false (shape_of (component_types z) pair.value) ≤ length z.memory) (sym c.in-Ok.ensures.same_core)
    (value_inside (component_types core) pair.key pair.value core.memory c.args.at c.requires.aligned c.requires.inside pair.offset c.requires.offset)

pub returns-in-Err-clause-lifts : goal.returns-in-Err-clause-lifts
returns-in-Err-clause-lifts g c =
    let cx = c.args.cx.now in
    let pair = c.args.pair.now in
    let after = c.linear_lift_from_memory.new.cx in
    key_refused g.K.Lift.reading g.V.Lift.reading cx.core.now cx.options pair.key pair.value c.args.at cx.core.now.ledger after.core.now.ledger cx.fuel after.fuel c.in-Err.fault c.in-Err.ensures.lifts

pub returns-in-Err-linear_lift_from_memory-clause-lifts : goal.returns-in-Err-linear_lift_from_memory-clause-lifts
returns-in-Err-linear_lift_from_memory-clause-lifts g c =
    let cx = c.args.cx.now in
    let pair = c.args.pair.now in
    let mid = c.linear_lift_from_memory.new.cx in
    let after = c.linear_lift_from_memory-in-Ok.new.cx in
    let (read, spent) = c.in-Ok.ensures.lifts in
    lift_value_refused g.K.Lift.reading g.V.Lift.reading cx.core.now cx.options pair.key pair.value c.args.at mid.core.now c.in-Ok.ensures.same_core mid.options c.in-Ok.ensures.same_options pair.offset
    c.requires.offset cx.core.now.ledger after.core.now.ledger
    cx.fuel mid.fuel after.fuel c.in-Ok.key g.met.K.Lift.taken read spent c.in-Err-linear_lift_from_memory.fault c.in-Err-linear_lift_from_memory.ensures.lifts
