use Rattle.std.proofs.Common.{◌≤◌, ◌+◌, Err, Ok, arith, length, refl, sym}
use Rattle.canon_context.specs.Core.{component_types}
use Rattle.canon_model.specs.Layout.{flat}
use Rattle.canon_types.specs.Table.{shape_of}
use Rattle.canon_reading.specs.Reading.{setting_in}
use Rattle.canon_reading.specs.Spots.{flat_in}
use Rattle.canon_lift.proofs.CaseLookups.{IsOptionThere, option_there}
use Rattle.canon_lift.proofs.Cases.{HasCase, none_lifts, some_lifts}
use Rattle.canon_lift_parts.proofs.WordRooms.{option_words}
use Rattle.canon_lift.proofs.compounds.OptionLift.lift_words.Given.{Over}
use Rattle.canon_lift.proofs.compounds.OptionLift.lift_words.Goals.{After-option, After-word_u32}
use Rattle.canon_lift.proofs.compounds.OptionLift.lift_words.Goals as goal

-- the type that was looked up
module _ (g : Over) (c : After-option g) where
  there : IsOptionThere (component_types c.args.cx.now.core.now) c.args.ty c.option.result.now.ty
  there =
      let o = c.option in
      option_there (component_types c.args.cx.now.core.now) c.types.result.now c.in-Option.i c.args.ty o.result.now.ty o.result.now.info c.types.ensures c.in-Option.is o.ensures.entry

  words : c.args.at + 1 + flat (shape_of (component_types c.args.cx.now.core.now) c.option.result.now.ty) ≤ length c.args.src.now
  words = option_words (shape_of (component_types c.args.cx.now.core.now) c.args.ty) _ c.args.at (length c.args.src.now) there.shape c.requires.words

-- its value
here : (g : Over) (c : After-word_u32 g)
    → HasCase (setting_in c.args.cx.now.core.now c.args.cx.now.options) (flat_in c.args.src.now c.args.at) (flat_in c.args.src.now (c.args.at + 1))
    (shape_of (component_types c.args.cx.now.core.now) c.args.ty) c.word_u32.result
here g c = record { room = tt; tag = sym c.word_u32.ensures; there = refl }

pub word_u32-requires : goal.word_u32-requires
word_u32-requires g c = omega (arith, words g (goal.at.word_u32-requires g c).After-option)

pub lift_words-requires-clause-known : goal.lift_words-requires-clause-known
lift_words-requires-clause-known g c = (there g (goal.at.lift_words-requires-clause-known g c).After-option).known

pub lift_words-requires-clause-words : goal.lift_words-requires-clause-words
lift_words-requires-clause-words g c = words g (goal.at.lift_words-requires-clause-words g c).After-option

pub returns-in-0-clause-lifts : goal.returns-in-0-clause-lifts
returns-in-0-clause-lifts g c =
    let at = goal.at.returns-in-0-clause-lifts g c in
    none_lifts (here g at.After-word_u32) c.args.cx.now.core.now.ledger c.args.cx.now.fuel g.T.Lift.reading c.in-0.is

pub returns-in-Ok-clause-lifts : goal.returns-in-Ok-clause-lifts
returns-in-Ok-clause-lifts g c =
    let at = goal.at.returns-in-Ok-clause-lifts g c in
    let after = c.lift_words.new.cx in
    some_lifts (here g at.After-word_u32) c.args.cx.now.core.now.ledger c.args.cx.now.fuel _ after.core.now.ledger after.fuel
    g.T.Lift.reading c.in-1.is (there g at.After-option).payload (Ok c.in-Ok.value) c.in-Ok.ensures.lifts

pub returns-in-Err-clause-lifts : goal.returns-in-Err-clause-lifts
returns-in-Err-clause-lifts g c =
    let at = goal.at.returns-in-Err-clause-lifts g c in
    let after = c.lift_words.new.cx in
    some_lifts (here g at.After-word_u32) c.args.cx.now.core.now.ledger c.args.cx.now.fuel _ after.core.now.ledger after.fuel
    g.T.Lift.reading c.in-1.is (there g at.After-option).payload (Err c.in-Err.fault) c.in-Err.ensures.lifts
