use Rattle.std.proofs.Common.{◌+◌, Err, Ok, arith}
use Rattle.canon_context.specs.Core.{component_types}
use Rattle.canon_types.specs.Table.{shape_of}
use Rattle.canon_reading.specs.Reading.{setting_in}
use Rattle.canon_reading.specs.Spots.{stored}
use Rattle.canon_lift.proofs.CaseLookups.{IsOptionThere, option_there}
use Rattle.canon_lift.proofs.Cases.{HasCase, none_lifts, one_aligned, lift_one_inside, some_lifts, stored_case}
use Rattle.canon_lift_parts.proofs.CaseLifting.{IsOfCases, place_small, tag_room}
use Rattle.canon_lift_parts.proofs.Lookups.{option_cases}
use Rattle.canon_lift.proofs.compounds.OptionLift.linear_lift_from_memory.Given.{Over}
use Rattle.canon_lift.proofs.compounds.OptionLift.linear_lift_from_memory.Goals.{After-load_tag, After-option-option}
use Rattle.canon_lift.proofs.compounds.OptionLift.linear_lift_from_memory.Goals as goal

-- the type that was looked up
module _ (g : Over) (c : After-option-option g) where
  there : IsOptionThere (component_types c.args.cx.now.core.now) c.args.ty c.option-option.result.now.ty
  there =
      let o = c.option-option in
      option_there (component_types c.args.cx.now.core.now) c.types.result.now c.in-Option.i c.args.ty o.result.now.ty o.result.now.info c.types.ensures c.in-Option.is o.ensures.entry

  cases : IsOfCases (shape_of (component_types c.args.cx.now.core.now) c.args.ty) c.option-option.result.now.info c.args.cx.now.core.now.memory c.args.at
  cases =
      let o = c.option-option in
      option_cases (component_types c.args.cx.now.core.now) c.types.result.now c.in-Option.i c.args.ty o.result.now.ty o.result.now.info c.args.cx.now.core.now.memory c.args.at
      c.types.ensures c.in-Option.is o.ensures.entry o.ensures.info c.requires.aligned c.requires.inside

-- its value
here : (g : Over) (c : After-load_tag g) → IsOfCases (shape_of (component_types c.args.cx.now.core.now) c.args.ty) c.option-option.result.now.info c.args.cx.now.core.now.memory c.args.at
    → HasCase (setting_in c.args.cx.now.core.now c.args.cx.now.options) (stored c.args.at) (stored (c.args.at + c.from.result)) (shape_of (component_types c.args.cx.now.core.now) c.args.ty)
    c.load_tag.result
here g c h = stored_case c.args.cx.now.core.now h c.from.result c.from.ensures c.args.cx.now.options c.memory.result.now c.load_tag.result c.memory.ensures c.load_tag.ensures

pub overflow_add-place : goal.overflow_add-place
overflow_add-place g c =
    let core = c.args.cx.now.core.now in
    let h = cases g (goal.at.overflow_add-place g c).After-option-option in
    let small = place_small (shape_of (component_types core) c.args.ty) c.option-option.result.now.info core.memory c.args.at h c.from.result c.from.ensures in
    record { fits = omega (arith, c.memory-memory.ensures.small, small) }

pub load_tag-requires : goal.load_tag-requires
load_tag-requires g c =
    let core = c.args.cx.now.core.now in
    let h = cases g (goal.at.load_tag-requires g c).After-option-option in
    tag_room (shape_of (component_types core) c.args.ty) c.option-option.result.now.info core.memory c.args.at h c.memory.result.now c.memory.ensures

pub linear_lift_from_memory-requires-clause-known : goal.linear_lift_from_memory-requires-clause-known
linear_lift_from_memory-requires-clause-known g c = (there g (goal.at.linear_lift_from_memory-requires-clause-known g c).After-option-option).known

pub linear_lift_from_memory-requires-clause-aligned : goal.linear_lift_from_memory-requires-clause-aligned
linear_lift_from_memory-requires-clause-aligned g c =
    let l = (goal.at.linear_lift_from_memory-requires-clause-aligned g c).After-option-option in
    one_aligned c.args.cx.now.core.now (cases g l) c.from.result c.from.ensures 1 _ (there g l).payload (there g l).few

pub linear_lift_from_memory-requires-clause-inside : goal.linear_lift_from_memory-requires-clause-inside
linear_lift_from_memory-requires-clause-inside g c =
    let l = (goal.at.linear_lift_from_memory-requires-clause-inside g c).After-option-option in
    lift_one_inside c.args.cx.now.core.now (cases g l) c.from.result c.from.ensures 1 _ (there g l).payload (there g l).few

pub returns-in-0-clause-lifts : goal.returns-in-0-clause-lifts
returns-in-0-clause-lifts g c =
    let at = goal.at.returns-in-0-clause-lifts g c in
    none_lifts (here g at.After-load_tag (cases g at.After-option-option)) c.args.cx.now.core.now.ledger c.args.cx.now.fuel g.T.Lift.reading c.in-0.is

pub returns-in-Ok-clause-lifts : goal.returns-in-Ok-clause-lifts
returns-in-Ok-clause-lifts g c =
    let at = goal.at.returns-in-Ok-clause-lifts g c in
    let after = c.linear_lift_from_memory.new.cx in
    some_lifts (here g at.After-load_tag (cases g at.After-option-option)) c.args.cx.now.core.now.ledger c.args.cx.now.fuel _ after.core.now.ledger after.fuel
    g.T.Lift.reading c.in-1.is (there g at.After-option-option).payload (Ok c.in-Ok.value) c.in-Ok.ensures.lifts

pub returns-in-Err-clause-lifts : goal.returns-in-Err-clause-lifts
returns-in-Err-clause-lifts g c =
    let at = goal.at.returns-in-Err-clause-lifts g c in
    let after = c.linear_lift_from_memory.new.cx in
    some_lifts (here g at.After-load_tag (cases g at.After-option-option)) c.args.cx.now.core.now.ledger c.args.cx.now.fuel _ after.core.now.ledger after.fuel
    g.T.Lift.reading c.in-1.is (there g at.After-option-option).payload (Err c.in-Err.fault) c.in-Err.ensures.lifts
