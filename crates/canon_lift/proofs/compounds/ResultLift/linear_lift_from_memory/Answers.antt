use Rattle.std.proofs.Common.{◌+◌, Err, Ok, arith}
use Rattle.canon_context.specs.Core.{component_types}
use Rattle.canon_types.specs.Table.{shape_of}
use Rattle.canon_reading.specs.Reading.{setting_in}
use Rattle.canon_reading.specs.Spots.{stored}
use Rattle.canon_lift.proofs.CaseLookups.{IsResultThere, result_there}
use Rattle.canon_lift.proofs.Cases.{HasCase, error_lifts, ok_lifts, one_aligned, lift_one_inside, stored_case}
use Rattle.canon_lift_parts.proofs.CaseLifting.{IsOfCases, place_small, tag_room}
use Rattle.canon_lift_parts.proofs.Lookups.{lift_result_cases}
use Rattle.canon_lift.proofs.compounds.ResultLift.linear_lift_from_memory.Given.{Over}
use Rattle.canon_lift.proofs.compounds.ResultLift.linear_lift_from_memory.Goals.{After-load_tag, After-result-result}
use Rattle.canon_lift.proofs.compounds.ResultLift.linear_lift_from_memory.Goals as goal

-- the type that was looked up
module _ (g : Over) (c : After-result-result g) where
  there : IsResultThere (component_types c.args.cx.now.core.now) c.args.ty c.result-result.result.now.ok c.result-result.result.now.err
  there =
      let r = c.result-result.result.now in
      result_there (component_types c.args.cx.now.core.now) c.types.result.now c.in-Result.i c.args.ty r.ok r.err c.types.ensures c.in-Result.is c.result-result.ensures.entry

  cases : IsOfCases (shape_of (component_types c.args.cx.now.core.now) c.args.ty) c.result-result.result.now.info c.args.cx.now.core.now.memory c.args.at
  cases =
      let r = c.result-result.result.now in
      lift_result_cases (component_types c.args.cx.now.core.now) c.types.result.now c.in-Result.i c.args.ty r.ok r.err c.types.ensures c.in-Result.is c.result-result.ensures.entry
      r.info c.args.cx.now.core.now.memory c.args.at c.result-result.ensures.info c.requires.aligned c.requires.inside

-- its value
here : (g : Over) (c : After-load_tag g) → IsOfCases (shape_of (component_types c.args.cx.now.core.now) c.args.ty) c.result-result.result.now.info c.args.cx.now.core.now.memory c.args.at
    → HasCase (setting_in c.args.cx.now.core.now c.args.cx.now.options) (stored c.args.at) (stored (c.args.at + c.from.result)) (shape_of (component_types c.args.cx.now.core.now) c.args.ty)
    c.load_tag.result
here g c h = stored_case c.args.cx.now.core.now h c.from.result c.from.ensures c.args.cx.now.options c.memory.result.now c.load_tag.result c.memory.ensures c.load_tag.ensures

pub overflow_add-place : goal.overflow_add-place
overflow_add-place g c =
    let core = c.args.cx.now.core.now in
    let h = cases g (goal.at.overflow_add-place g c).After-result-result in
    let small = place_small (shape_of (component_types core) c.args.ty) c.result-result.result.now.info core.memory c.args.at h c.from.result c.from.ensures in
    record { fits = omega (arith, c.memory-memory.ensures.small, small) }

pub load_tag-requires : goal.load_tag-requires
load_tag-requires g c =
    let core = c.args.cx.now.core.now in
    let h = cases g (goal.at.load_tag-requires g c).After-result-result in
    tag_room (shape_of (component_types core) c.args.ty) c.result-result.result.now.info core.memory c.args.at h c.memory.result.now c.memory.ensures

pub lift_payload-requires-clause-known : goal.lift_payload-requires-clause-known
lift_payload-requires-clause-known g c = (there g (goal.at.lift_payload-requires-clause-known g c).After-result-result).ok_known

pub lift_payload-requires-clause-aligned : goal.lift_payload-requires-clause-aligned
lift_payload-requires-clause-aligned g c =
    let at = goal.at.lift_payload-requires-clause-aligned g c in
    let type = there g at.After-result-result in
    one_aligned c.args.cx.now.core.now (cases g at.After-result-result) c.from.result c.from.ensures 0 _ type.ok_payload (type.few 0 (omega arith))

pub lift_payload-requires-clause-inside : goal.lift_payload-requires-clause-inside
lift_payload-requires-clause-inside g c =
    let at = goal.at.lift_payload-requires-clause-inside g c in
    let type = there g at.After-result-result in
    lift_one_inside c.args.cx.now.core.now (cases g at.After-result-result) c.from.result c.from.ensures 0 _ type.ok_payload (type.few 0 (omega arith))

pub lift_payload-requires-in-1-clause-known : goal.lift_payload-requires-in-1-clause-known
lift_payload-requires-in-1-clause-known g c = (there g (goal.at.lift_payload-requires-in-1-clause-known g c).After-result-result).error_known

pub lift_payload-requires-in-1-clause-aligned : goal.lift_payload-requires-in-1-clause-aligned
lift_payload-requires-in-1-clause-aligned g c =
    let at = goal.at.lift_payload-requires-in-1-clause-aligned g c in
    let type = there g at.After-result-result in
    one_aligned c.args.cx.now.core.now (cases g at.After-result-result) c.from.result c.from.ensures 1 _ type.error_payload (type.few 1 (omega arith))

pub lift_payload-requires-in-1-clause-inside : goal.lift_payload-requires-in-1-clause-inside
lift_payload-requires-in-1-clause-inside g c =
    let at = goal.at.lift_payload-requires-in-1-clause-inside g c in
    let type = there g at.After-result-result in
    lift_one_inside c.args.cx.now.core.now (cases g at.After-result-result) c.from.result c.from.ensures 1 _ type.error_payload (type.few 1 (omega arith))

pub returns-in-Ok-clause-lifts : goal.returns-in-Ok-clause-lifts
returns-in-Ok-clause-lifts g c =
    let at = goal.at.returns-in-Ok-clause-lifts g c in
    let after = c.lift_payload.new.cx in
    ok_lifts (here g at.After-load_tag (cases g at.After-result-result)) c.args.cx.now.core.now.ledger c.args.cx.now.fuel _ after.core.now.ledger after.fuel
    g.T.ComponentType.is_unit g.T.Lift.reading g.E.ComponentType.is_unit g.E.Lift.reading
    c.in-0.is (there g at.After-result-result).ok_payload (Ok c.in-Ok.value) c.in-Ok.ensures.lifts

pub returns-in-Err-clause-lifts : goal.returns-in-Err-clause-lifts
returns-in-Err-clause-lifts g c =
    let at = goal.at.returns-in-Err-clause-lifts g c in
    let after = c.lift_payload.new.cx in
    ok_lifts (here g at.After-load_tag (cases g at.After-result-result)) c.args.cx.now.core.now.ledger c.args.cx.now.fuel _ after.core.now.ledger after.fuel
    g.T.ComponentType.is_unit g.T.Lift.reading g.E.ComponentType.is_unit g.E.Lift.reading
    c.in-0.is (there g at.After-result-result).ok_payload (Err c.in-Err.fault) c.in-Err.ensures.lifts

pub returns-in-Ok-lift_payload-clause-lifts : goal.returns-in-Ok-lift_payload-clause-lifts
returns-in-Ok-lift_payload-clause-lifts g c =
    let at = goal.at.returns-in-Ok-lift_payload-clause-lifts g c in
    let after = c.lift_payload-in-1.new.cx in
    error_lifts (here g at.After-load_tag (cases g at.After-result-result)) c.args.cx.now.core.now.ledger c.args.cx.now.fuel _ after.core.now.ledger after.fuel
    g.T.ComponentType.is_unit g.T.Lift.reading g.E.ComponentType.is_unit g.E.Lift.reading
    c.in-1.is (there g at.After-result-result).error_payload (Ok c.in-Ok-lift_payload.value) c.in-Ok-lift_payload.ensures.lifts

pub returns-in-Err-lift_payload-clause-lifts : goal.returns-in-Err-lift_payload-clause-lifts
returns-in-Err-lift_payload-clause-lifts g c =
    let at = goal.at.returns-in-Err-lift_payload-clause-lifts g c in
    let after = c.lift_payload-in-1.new.cx in
    error_lifts (here g at.After-load_tag (cases g at.After-result-result)) c.args.cx.now.core.now.ledger c.args.cx.now.fuel _ after.core.now.ledger after.fuel
    g.T.ComponentType.is_unit g.T.Lift.reading g.E.ComponentType.is_unit g.E.Lift.reading
    c.in-1.is (there g at.After-result-result).error_payload (Err c.in-Err-lift_payload.fault) c.in-Err-lift_payload.ensures.lifts
