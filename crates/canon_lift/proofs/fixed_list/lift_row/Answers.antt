use Rattle.std.proofs.Common.{rules, ◌≡◌, ◌≤◌, ◌+◌, ◌*◌, ◌∙◌, Err, Ok, Result, ap, arith, length, refl, subst, sym}
use Rattle.canon_context.specs.Core.{Parts, component_types}
use Rattle.canon_context.specs.declared.fault.Fault.{Fault}
use Rattle.canon_lowering.specs.Storing.{narrow}
use Rattle.canon_model.specs.Layout.{flat}
use Rattle.canon_types.specs.Table.{Knows, shape_of}
use Rattle.canon_reading.specs.Reading.{Lifts, setting_in}
use Rattle.canon_reading.specs.Readings.{item_spot}
use Rattle.canon_reading.specs.Spots.{flat_in}
use Rattle.canon_lift.proofs.Rows.{IsSoFar, all_lifted, item_lifts, item_lost, item_refused, none_lifted, one_more, lift_row_room}
use Rattle.canon_lift.proofs.Stays.{only_ledger}
use Rattle.canon_lift.proofs.fixed_list.lift_row.Given.{Over}
use Rattle.canon_lift.proofs.fixed_list.lift_row.Goals.{After-flat_words-step, After-lift_words}
use Rattle.canon_lift.proofs.fixed_list.lift_row.Goals as goal

-- the words of an item
step_is : (g : Over) (c : After-flat_words-step g) → c.flat_words-step.result ≡ flat (shape_of (component_types c.args.cx.now.core.now) c.args.ty)
step_is g c = c.flat_words-step.ensures ∙ ap (λ t. flat (shape_of t c.args.ty)) c.types.ensures

-- what lifting item k answered
item : (g : Over) (c : After-lift_words g) → c.flat_words-step.result ≡ flat (shape_of (component_types c.args.cx.now.core.now) c.args.ty)
    → (r : Result g.row.T.Denot Fault)
    → Lifts g.T.Lift.reading (setting_in c.loop-k.cx.core.now c.loop-k.cx.options) (flat_in c.args.src.now (c.args.at + c.loop-k.k * c.flat_words-step.result))
    (shape_of (component_types c.loop-k.cx.core.now) c.args.ty) c.loop-k.cx.core.now.ledger c.loop-k.cx.fuel r c.lift_words.new.cx.core.now.ledger c.lift_words.new.cx.fuel
    → Lifts g.T.Lift.reading (setting_in c.args.cx.now.core.now c.args.cx.now.options)
    (item_spot (narrow c.args.cx.now.core.now.memory) (shape_of (component_types c.args.cx.now.core.now) c.args.ty) (flat_in c.args.src.now c.args.at) c.loop-k.k)
    (shape_of (component_types c.args.cx.now.core.now) c.args.ty) c.loop-k.cx.core.now.ledger c.loop-k.cx.fuel r c.lift_words.new.cx.core.now.ledger c.lift_words.new.cx.fuel
item g c step r lifts =
    let l = c.loop-k in
    let after = c.lift_words.new.cx in
    let ws = c.args.src.now in
    item_lifts g.T.Lift.reading c.args.cx.now.core.now l.cx.core.now c.args.cx.now.options l.cx.options c.args.ty
    (flat_in ws c.args.at) (flat_in ws (c.args.at + l.k * c.flat_words-step.result)) l.k
    l.cx.core.now.ledger after.core.now.ledger l.cx.fuel after.fuel r l.invariant.same_core l.invariant.same_options (ap (λ n. flat_in ws (c.args.at + l.k * n)) step) lifts

pub loop-k-init : goal.loop-k-init
loop-k-init g c =
    let cx = c.args.cx.now in
    record {
      lifted = none_lifted g.T.Lift.reading (setting_in cx.core.now cx.options) (shape_of (component_types c.args.cx.now.core.now) c.args.ty)
          (flat_in c.args.src.now c.args.at) cx.core.now.ledger _ cx.fuel (search rules);
      same_core = refl;
      same_reference = refl;
      same_options = refl;
    }

pub returns-in-Err-push : goal.returns-in-Err-push
returns-in-Err-push g c =
    let at = goal.at.returns-in-Err-push g c in
    let cx = c.args.cx.now in
    let core = cx.core.now in
    let i = c.loop-k.invariant in
    let after = c.lift_words.new.cx in
    record {
      lifts = item_lost _ _ _ i.lifted after.core.now.ledger after.fuel g.met.T.Lift.taken c.args.count (search rules) c.in-Ok.item
          (item g at.After-lift_words (step_is g at.After-flat_words-step) (Ok c.in-Ok.item) c.in-Ok.ensures.lifts);
      same_core = only_ledger core c.loop-k.cx.core.now after.core.now i.same_core c.in-Ok.ensures.same_core;
      same_reference = c.in-Ok.ensures.same_reference ∙ i.same_reference;
      same_options = c.in-Ok.ensures.same_options ∙ i.same_options;
    }

pub returns-in-Err : goal.returns-in-Err
returns-in-Err g c =
    let at = goal.at.returns-in-Err g c in
    let cx = c.args.cx.now in
    let core = cx.core.now in
    let i = c.loop-k.invariant in
    let after = c.lift_words.new.cx in
    record {
      lifts = item_refused _ _ _ i.lifted after.core.now.ledger after.fuel g.met.T.Lift.taken c.args.count (search rules) c.in-Err.fault
          (item g at.After-lift_words (step_is g at.After-flat_words-step) (Err c.in-Err.fault) c.in-Err.ensures.lifts);
      same_core = only_ledger core c.loop-k.cx.core.now after.core.now i.same_core c.in-Err.ensures.same_core;
      same_reference = c.in-Err.ensures.same_reference ∙ i.same_reference;
      same_options = c.in-Err.ensures.same_options ∙ i.same_options;
    }

pub loop-k-preserved : goal.loop-k-preserved
loop-k-preserved g c =
    let at = goal.at.loop-k-preserved g c in
    let cx = c.args.cx.now in
    let core = cx.core.now in
    let i = c.loop-k.invariant in
    let after = c.lift_words.new.cx in
    let w = setting_in core cx.options in
    let s = shape_of (component_types core) c.args.ty in
    let more = one_more _ _ _ i.lifted after.core.now.ledger after.fuel c.in-Ok.item
    (item g at.After-lift_words (step_is g at.After-flat_words-step) (Ok c.in-Ok.item) c.in-Ok.ensures.lifts) in
    record {
      lifted = subst (λ xs. IsSoFar g.T.Lift.reading w s (flat_in c.args.src.now c.args.at) core.ledger after.core.now.ledger xs (c.loop-k.k + 1) cx.fuel after.fuel)
          (sym c.in-Ok-push.ensures.items) more;
      same_core = only_ledger core c.loop-k.cx.core.now after.core.now i.same_core c.in-Ok.ensures.same_core;
      same_reference = c.in-Ok.ensures.same_reference ∙ i.same_reference;
      same_options = c.in-Ok.ensures.same_options ∙ i.same_options;
    }

pub returns : goal.returns
returns g c =
    let cx = c.args.cx.now in
    let i = c.loop-k.invariant in
    record {
      lifts = all_lifted _ _ _ c.loop-k.items i.lifted c.args.count (omega arith);
      same_core = i.same_core;
      same_reference = i.same_reference;
      same_options = i.same_options;
    }

pub lift_words-requires-clause-known : goal.lift_words-requires-clause-known
lift_words-requires-clause-known g c =
    subst (λ (z : Parts g.row.U.Denot g.row.G.Denot). Knows (component_types z) c.args.ty) (sym c.loop-k.invariant.same_core) c.requires.known

pub lift_words-requires-clause-fits : goal.lift_words-requires-clause-fits
lift_words-requires-clause-fits g c =
    subst (λ (z : Parts g.row.U.Denot g.row.G.Denot). g.T.ComponentType.fits z.component.types c.args.ty) (sym c.loop-k.invariant.same_core) c.requires.fits

pub lift_words-requires-clause-words : goal.lift_words-requires-clause-words
lift_words-requires-clause-words g c =
    let s = shape_of (component_types c.args.cx.now.core.now) c.args.ty in
    let step = c.flat_words-step.result in
    let is = step_is g (goal.at.lift_words-requires-clause-words g c).After-flat_words-step in
    subst (λ (z : Parts g.row.U.Denot g.row.G.Denot). c.args.at + c.loop-k.k * step + flat (shape_of (component_types z) c.args.ty) ≤ length c.args.src.now) (sym c.loop-k.invariant.same_core)
    (lift_row_room c.args.at c.loop-k.k c.args.count step (flat s) (length c.args.src.now) (omega arith) is c.requires.words)
