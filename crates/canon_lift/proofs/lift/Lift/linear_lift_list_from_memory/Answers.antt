use Rattle.std.proofs.Common.{rules, ◌≡◌, ◌≤◌, ◌+◌, ◌*◌, ◌%◌, ◌∙◌, Err, Ok, Result, ap, arith, false, length, refl, subst, sym}
use Rattle.canon_context.specs.Core.{Parts, component_types}
use Rattle.canon_context.specs.declared.fault.Fault.{Fault}
use Rattle.canon_lowering.specs.Storing.{narrow}
use Rattle.canon_model.specs.Layout.{align, size}
use Rattle.canon_types.specs.Table.{Knows, shape_of}
use Rattle.canon_reading.specs.Reading.{Lifts, setting_in}
use Rattle.canon_reading.specs.Readings.{item_spot}
use Rattle.canon_reading.specs.Spots.{stored}
use Rattle.canon_lift.proofs.Rows.{IsSoFar, all_lifted, item_lifts, item_lost, item_refused, none_lifted, one_more, lift_row_room}
use Rattle.canon_lift.proofs.Stays.{only_ledger}
use Rattle.canon_lift_parts.proofs.Settings.{element_aligned, looked_up_size, same_shape}
use Rattle.canon_lift.proofs.lift.Lift.linear_lift_list_from_memory.Given.{Over}
use Rattle.canon_lift.proofs.lift.Lift.linear_lift_list_from_memory.Goals.{After-from-size, After-linear_lift_from_memory}
use Rattle.canon_lift.proofs.lift.Lift.linear_lift_list_from_memory.Goals as goal

-- the bytes of an item
step_is : (g : Over) (c : After-from-size g) → c.from-size.result ≡ size false (shape_of (component_types c.args.cx.now.core.now) c.args.list.now.element)
step_is g c =
    looked_up_size (component_types c.args.cx.now.core.now) c.types.result.now c.args.list.now.element c.canonical_abi.result.now c.types.ensures c.canonical_abi.ensures _ c.from-size.ensures

-- what lifting item k answered
item : (g : Over) (c : After-linear_lift_from_memory g) → c.from-size.result ≡ size false (shape_of (component_types c.args.cx.now.core.now) c.args.list.now.element)
    → (r : Result g.row.Self.Denot Fault)
    → Lifts g.Self.Lift.reading (setting_in c.loop-k.cx.core.now c.loop-k.cx.options) (stored (c.args.list.now.pointer + c.loop-k.k * c.from-size.result))
    (shape_of (component_types c.loop-k.cx.core.now) c.args.list.now.element) c.loop-k.cx.core.now.ledger c.loop-k.cx.fuel r
    c.linear_lift_from_memory.new.cx.core.now.ledger c.linear_lift_from_memory.new.cx.fuel
    → Lifts g.Self.Lift.reading (setting_in c.args.cx.now.core.now c.args.cx.now.options)
    (item_spot (narrow c.args.cx.now.core.now.memory) (shape_of (component_types c.args.cx.now.core.now) c.args.list.now.element) (stored c.args.list.now.pointer) c.loop-k.k)
    (shape_of (component_types c.args.cx.now.core.now) c.args.list.now.element) c.loop-k.cx.core.now.ledger c.loop-k.cx.fuel r
    c.linear_lift_from_memory.new.cx.core.now.ledger c.linear_lift_from_memory.new.cx.fuel
item g c step r lifts =
    let l = c.loop-k in
    let after = c.linear_lift_from_memory.new.cx in
    let p = c.args.list.now.pointer in
    item_lifts g.Self.Lift.reading c.args.cx.now.core.now l.cx.core.now c.args.cx.now.options l.cx.options c.args.list.now.element
    (stored p) (stored (p + l.k * c.from-size.result)) l.k
    l.cx.core.now.ledger after.core.now.ledger l.cx.fuel after.fuel r l.invariant.same_core l.invariant.same_options (ap (λ n. stored (p + l.k * n)) step) lifts

pub linear_lift_from_memory-requires-clause-aligned : goal.linear_lift_from_memory-requires-clause-aligned
linear_lift_from_memory-requires-clause-aligned g c =
    let core = c.args.cx.now.core.now in
    let list = c.args.list.now in
    let now = c.loop-k.cx.core.now in
    let s = shape_of (component_types core) list.element in
    let is = step_is g (goal.at.linear_lift_from_memory-requires-clause-aligned g c).After-from-size in
    subst (λ n. (list.pointer + c.loop-k.k * n) % align false (shape_of (component_types now) list.element) ≡ 0) (sym is)
    (subst (λ z. (list.pointer + c.loop-k.k * size false s) % align false z ≡ 0) (sym (same_shape core now c.loop-k.invariant.same_core list.element))
    (element_aligned s list.pointer c.loop-k.k c.requires.items.good.0))

pub linear_lift_from_memory-requires-clause-inside : goal.linear_lift_from_memory-requires-clause-inside
linear_lift_from_memory-requires-clause-inside g c =
    let core = c.args.cx.now.core.now in
    let list = c.args.list.now in
    let s = shape_of (component_types core) list.element in
    let step = c.from-size.result in
    let is = step_is g (goal.at.linear_lift_from_memory-requires-clause-inside g c).After-from-size in
    let room : list.pointer + list.count * size false s ≤ length core.memory = c.requires.items.good.1 in
    subst (λ (z : Parts g.row.U.Denot g.row.G.Denot). list.pointer + c.loop-k.k * step + size false (shape_of (component_types z) list.element) ≤ length z.memory) (sym c.loop-k.invariant.same_core)
    (lift_row_room list.pointer c.loop-k.k list.count step (size false s) (length core.memory) (omega arith) is room)

pub loop-k-init : goal.loop-k-init
loop-k-init g c =
    let cx = c.args.cx.now in
    record {
      lifted = none_lifted g.Self.Lift.reading (setting_in cx.core.now cx.options) (shape_of (component_types c.args.cx.now.core.now) c.args.list.now.element)
          (stored c.args.list.now.pointer) cx.core.now.ledger _ cx.fuel (search rules);
      same_core = refl;
      same_reference = refl;
      same_options = refl;
    }

pub returns-in-Err-push : goal.returns-in-Err-push
returns-in-Err-push g c =
    let at = goal.at.returns-in-Err-push g c in
    let cx = c.args.cx.now in
    let core = cx.core.now in
    let i = c.loop-k.invariant in
    let after = c.linear_lift_from_memory.new.cx in
    record {
      lifts = item_lost _ _ _ i.lifted after.core.now.ledger after.fuel g.met.Self.Lift.taken c.args.list.now.count (search rules) c.in-Ok.item
          (item g at.After-linear_lift_from_memory (step_is g at.After-from-size) (Ok c.in-Ok.item) c.in-Ok.ensures.lifts);
      same_core = only_ledger core c.loop-k.cx.core.now after.core.now i.same_core c.in-Ok.ensures.same_core;
      same_reference = c.in-Ok.ensures.same_reference ∙ i.same_reference;
      same_options = c.in-Ok.ensures.same_options ∙ i.same_options;
    }

pub returns-in-Err : goal.returns-in-Err
returns-in-Err g c =
    let at = goal.at.returns-in-Err g c in
    let cx = c.args.cx.now in
    let core = cx.core.now in
    let i = c.loop-k.invariant in
    let after = c.linear_lift_from_memory.new.cx in
    record {
      lifts = item_refused _ _ _ i.lifted after.core.now.ledger after.fuel g.met.Self.Lift.taken c.args.list.now.count (search rules) c.in-Err.fault
          (item g at.After-linear_lift_from_memory (step_is g at.After-from-size) (Err c.in-Err.fault) c.in-Err.ensures.lifts);
      same_core = only_ledger core c.loop-k.cx.core.now after.core.now i.same_core c.in-Err.ensures.same_core;
      same_reference = c.in-Err.ensures.same_reference ∙ i.same_reference;
      same_options = c.in-Err.ensures.same_options ∙ i.same_options;
    }

pub loop-k-preserved : goal.loop-k-preserved
loop-k-preserved g c =
    let at = goal.at.loop-k-preserved g c in
    let cx = c.args.cx.now in
    let core = cx.core.now in
    let i = c.loop-k.invariant in
    let after = c.linear_lift_from_memory.new.cx in
    let w = setting_in core cx.options in
    let s = shape_of (component_types core) c.args.list.now.element in
    let more = one_more _ _ _ i.lifted after.core.now.ledger after.fuel c.in-Ok.item
    (item g at.After-linear_lift_from_memory (step_is g at.After-from-size) (Ok c.in-Ok.item) c.in-Ok.ensures.lifts) in
    record {
      lifted = subst (λ xs. IsSoFar g.Self.Lift.reading w s (stored c.args.list.now.pointer) core.ledger after.core.now.ledger xs (c.loop-k.k + 1) cx.fuel after.fuel)
          (sym c.in-Ok-push.ensures.items) more;
      same_core = only_ledger core c.loop-k.cx.core.now after.core.now i.same_core c.in-Ok.ensures.same_core;
      same_reference = c.in-Ok.ensures.same_reference ∙ i.same_reference;
      same_options = c.in-Ok.ensures.same_options ∙ i.same_options;
    }

pub returns : goal.returns
returns g c =
    let cx = c.args.cx.now in
    let i = c.loop-k.invariant in
    record {
      lifts = all_lifted _ _ _ c.loop-k.items i.lifted c.args.list.now.count (omega arith);
      same_core = i.same_core;
      same_reference = i.same_reference;
      same_options = i.same_options;
    }

pub linear_lift_from_memory-requires-clause-known : goal.linear_lift_from_memory-requires-clause-known
linear_lift_from_memory-requires-clause-known g c =
    subst (λ (z : Parts g.row.U.Denot g.row.G.Denot). Knows (component_types z) c.args.list.now.element) (sym c.loop-k.invariant.same_core) c.requires.items.known

pub linear_lift_from_memory-requires-clause-fits : goal.linear_lift_from_memory-requires-clause-fits
linear_lift_from_memory-requires-clause-fits g c =
    subst (λ (z : Parts g.row.U.Denot g.row.G.Denot). g.Self.ComponentType.fits z.component.types c.args.list.now.element) (sym c.loop-k.invariant.same_core) c.requires.items.fits
