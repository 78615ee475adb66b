use Rattle.std.proofs.Common.{rules, ◌≡◌, ◌+◌, ◌*◌, ◌%◌, ◌++◌, ◌∙◌, ◌∷◌, Err, Ok, [], false, refl, subst, sym}
use Rattle.canon_context.specs.Core.{Parts, component_types}
use Rattle.canon_context.specs.declared.fault.Fault.TheVariants as fault
use Rattle.canon_model.specs.Layout.{align}
use Rattle.canon_model.specs.Shape.{tuple}
use Rattle.canon_types.specs.Table.{shape_of}
use Rattle.canon_reading.specs.MapsOfTrees.{pair_reading}
use Rattle.canon_reading.specs.Reading.{setting_in}
use Rattle.canon_reading.specs.Spots.{stored}
use Rattle.canon_lift_parts.proofs.PairLifting.{pair_item, pair_law, pairs_refused}
use Rattle.canon_lift.proofs.Rows.{IsSoFar, item_lost, item_refused, one_more}
use Rattle.canon_lift.proofs.Stays.{only_ledger}
use Rattle.canon_lift_parts.proofs.Settings.{element_aligned}
use Rattle.canon_lift.proofs.maps.lift_pairs.Goals as goal

pub lift_pair-requires-clause-aligned : goal.lift_pair-requires-clause-aligned
lift_pair-requires-clause-aligned g c =
    let core = c.args.cx.now.core.now in
    let pair = c.args.pair.now in
    let s = tuple (shape_of (component_types core) pair.key ∷ shape_of (component_types core) pair.value ∷ []) in
    subst (λ (z : Parts g.row.U.Denot g.row.G.Denot). (c.args.at + c.loop-k.k * c.args.step) % align false
    (tuple (shape_of (component_types z) pair.key ∷ shape_of (component_types z) pair.value ∷ [])) ≡ 0)
    (sym c.loop-k.invariant.same_core)
    (subst (λ n. (c.args.at + c.loop-k.k * n) % align false s ≡ 0) (sym c.requires.step) (element_aligned s c.args.at c.loop-k.k c.requires.aligned))

pub returns-in-Err-clause-lifts : goal.returns-in-Err-clause-lifts
returns-in-Err-clause-lifts g c =
    let R = pair_reading g.K.Lift.reading g.V.Lift.reading in
    let taken = pair_law g.K.Lift.reading g.V.Lift.reading g.met.K.Lift.taken g.met.V.Lift.taken in
    let cx = c.args.cx.now in
    let core = cx.core.now in
    let pair = c.args.pair.now in
    let i = c.loop-k.invariant in
    let w = setting_in core cx.options in
    let s = tuple (shape_of (component_types core) pair.key ∷ shape_of (component_types core) pair.value ∷ []) in
    let p = stored c.args.at in
    let mid = c.loop-k.cx.core.now.ledger in
    let after = c.lift_pair.new.cx in
    let (pairs, count, each, filled) = i.read in
    let h : IsSoFar R w s p core.ledger mid pairs c.loop-k.k cx.fuel c.loop-k.cx.fuel = record { count = count; each = each; spent = i.spent } in
    pairs_refused g.K.PartialEq.eq c.args.count g.K.Lift.reading g.V.Lift.reading w p s core.ledger after.core.now.ledger cx.fuel after.fuel c.in-Err.fault
    (item_refused _ _ _ h after.core.now.ledger after.fuel taken c.args.count (search rules) c.in-Err.fault
    (pair_item g.K.Lift.reading g.V.Lift.reading core cx.options pair.key pair.value c.loop-k.cx.core.now c.loop-k.cx.options c.args.at c.loop-k.k c.args.step (c.args.at + c.loop-k.k * c.args.step)
    mid after.core.now.ledger
    c.loop-k.cx.fuel after.fuel (Err c.in-Err.fault) i.same_core i.same_options c.requires.step refl c.in-Err.ensures.lifts))

pub returns-in-Err-put-clause-lifts : goal.returns-in-Err-put-clause-lifts
returns-in-Err-put-clause-lifts g c =
    let R = pair_reading g.K.Lift.reading g.V.Lift.reading in
    let taken = pair_law g.K.Lift.reading g.V.Lift.reading g.met.K.Lift.taken g.met.V.Lift.taken in
    let cx = c.args.cx.now in
    let core = cx.core.now in
    let pair = c.args.pair.now in
    let i = c.loop-k.invariant in
    let w = setting_in core cx.options in
    let s = tuple (shape_of (component_types core) pair.key ∷ shape_of (component_types core) pair.value ∷ []) in
    let p = stored c.args.at in
    let mid = c.loop-k.cx.core.now.ledger in
    let after = c.lift_pair.new.cx in
    let (pairs, count, each, filled) = i.read in
    let h : IsSoFar R w s p core.ledger mid pairs c.loop-k.k cx.fuel c.loop-k.cx.fuel = record { count = count; each = each; spent = i.spent } in
    let lifts = pair_item g.K.Lift.reading g.V.Lift.reading core cx.options pair.key pair.value c.loop-k.cx.core.now c.loop-k.cx.options c.args.at c.loop-k.k c.args.step
    (c.args.at + c.loop-k.k * c.args.step) mid after.core.now.ledger
    c.loop-k.cx.fuel after.fuel (Ok (c.in-Ok.key, c.in-Ok.value)) i.same_core i.same_options c.requires.step refl c.in-Ok.ensures.lifts in
    pairs_refused g.K.PartialEq.eq c.args.count g.K.Lift.reading g.V.Lift.reading w p s core.ledger after.core.now.ledger cx.fuel after.fuel fault.OutOfMemory
    (item_lost _ _ _ h after.core.now.ledger after.fuel taken c.args.count (search rules) (c.in-Ok.key, c.in-Ok.value) lifts)

pub loop-k-preserved : goal.loop-k-preserved
loop-k-preserved g c =
    let R = pair_reading g.K.Lift.reading g.V.Lift.reading in
    let taken = pair_law g.K.Lift.reading g.V.Lift.reading g.met.K.Lift.taken g.met.V.Lift.taken in
    let cx = c.args.cx.now in
    let core = cx.core.now in
    let pair = c.args.pair.now in
    let i = c.loop-k.invariant in
    let w = setting_in core cx.options in
    let s = tuple (shape_of (component_types core) pair.key ∷ shape_of (component_types core) pair.value ∷ []) in
    let p = stored c.args.at in
    let mid = c.loop-k.cx.core.now.ledger in
    let after = c.lift_pair.new.cx in
    let (pairs, count, each, filled) = i.read in
    let h : IsSoFar R w s p core.ledger mid pairs c.loop-k.k cx.fuel c.loop-k.cx.fuel = record { count = count; each = each; spent = i.spent } in
    let lifts = pair_item g.K.Lift.reading g.V.Lift.reading core cx.options pair.key pair.value c.loop-k.cx.core.now c.loop-k.cx.options c.args.at c.loop-k.k c.args.step
    (c.args.at + c.loop-k.k * c.args.step) mid after.core.now.ledger
    c.loop-k.cx.fuel after.fuel (Ok (c.in-Ok.key, c.in-Ok.value)) i.same_core i.same_options c.requires.step refl c.in-Ok.ensures.lifts in
    let more = one_more _ _ _ h after.core.now.ledger after.fuel (c.in-Ok.key, c.in-Ok.value) lifts in
    record {
      read = (pairs ++ (c.in-Ok.key, c.in-Ok.value) ∷ [], more.count, more.each, c.in-Ok-put.ensures.last pairs filled);
      spent = more.spent;
      same_core = only_ledger core c.loop-k.cx.core.now after.core.now i.same_core c.in-Ok.ensures.same_core;
      same_reference = c.in-Ok.ensures.same_reference ∙ i.same_reference;
      same_options = c.in-Ok.ensures.same_options ∙ i.same_options;
    }
