use Rattle.std.proofs.Common.{◌+◌, Err, Ok, arith, length, refl, sym}
use Rattle.canon_context.specs.Core.{component_types}
use Rattle.canon_types.specs.Table.{all_shapes, payload_in, shape_of}
use Rattle.canon_reading.specs.Reading.{setting_in}
use Rattle.canon_reading.specs.Spots.{flat_in}
use Rattle.canon_lift.proofs.CaseLookups.{IsResultThere, result_there}
use Rattle.canon_lift.proofs.Cases.{HasCase, error_lifts, ok_lifts}
use Rattle.canon_lift_parts.proofs.WordRooms.{error_words, ok_words}
use Rattle.canon_lift.proofs.compounds.ResultLift.lift_words.Given.{Over}
use Rattle.canon_lift.proofs.compounds.ResultLift.lift_words.Goals.{After-result-result, After-word_u32}
use Rattle.canon_lift.proofs.compounds.ResultLift.lift_words.Goals as goal

-- the type that was looked up
there : (g : Over) (c : After-result-result g) → IsResultThere (component_types c.args.cx.now.core.now) c.args.ty c.result-result.result.now.ok c.result-result.result.now.err
there g c =
    let r = c.result-result.result.now in
    result_there (component_types c.args.cx.now.core.now) c.types.result.now c.in-Result.i c.args.ty r.ok r.err c.types.ensures c.in-Result.is c.result-result.ensures.entry

-- its value
here : (g : Over) (c : After-word_u32 g)
    → HasCase (setting_in c.args.cx.now.core.now c.args.cx.now.options) (flat_in c.args.src.now c.args.at) (flat_in c.args.src.now (c.args.at + 1))
    (shape_of (component_types c.args.cx.now.core.now) c.args.ty) c.word_u32.result
here g c = record { room = tt; tag = sym c.word_u32.ensures; there = refl }

pub word_u32-requires : goal.word_u32-requires
word_u32-requires g c =
    let shapes = all_shapes (component_types c.args.cx.now.core.now) in
    let r = c.result-result.result.now in
    let type = there g (goal.at.word_u32-requires g c).After-result-result in
    omega (arith, ok_words c.args.at (length c.args.src.now) _ (payload_in shapes r.ok) (payload_in shapes r.err) type.shape c.requires.words)

pub lift_payload_words-requires-clause-known : goal.lift_payload_words-requires-clause-known
lift_payload_words-requires-clause-known g c = (there g (goal.at.lift_payload_words-requires-clause-known g c).After-result-result).ok_known

pub lift_payload_words-requires-clause-words : goal.lift_payload_words-requires-clause-words
lift_payload_words-requires-clause-words g c =
    let shapes = all_shapes (component_types c.args.cx.now.core.now) in
    let r = c.result-result.result.now in
    let type = there g (goal.at.lift_payload_words-requires-clause-words g c).After-result-result in
    ok_words c.args.at (length c.args.src.now) _ (payload_in shapes r.ok) (payload_in shapes r.err) type.shape c.requires.words

pub lift_payload_words-requires-in-1-clause-known : goal.lift_payload_words-requires-in-1-clause-known
lift_payload_words-requires-in-1-clause-known g c = (there g (goal.at.lift_payload_words-requires-in-1-clause-known g c).After-result-result).error_known

pub lift_payload_words-requires-in-1-clause-words : goal.lift_payload_words-requires-in-1-clause-words
lift_payload_words-requires-in-1-clause-words g c =
    let shapes = all_shapes (component_types c.args.cx.now.core.now) in
    let r = c.result-result.result.now in
    let type = there g (goal.at.lift_payload_words-requires-in-1-clause-words g c).After-result-result in
    error_words c.args.at (length c.args.src.now) _ (payload_in shapes r.ok) (payload_in shapes r.err) type.shape c.requires.words

pub returns-in-Ok-clause-lifts : goal.returns-in-Ok-clause-lifts
returns-in-Ok-clause-lifts g c =
    let at = goal.at.returns-in-Ok-clause-lifts g c in
    let after = c.lift_payload_words.new.cx in
    ok_lifts (here g at.After-word_u32) c.args.cx.now.core.now.ledger c.args.cx.now.fuel _ after.core.now.ledger after.fuel
    g.T.ComponentType.is_unit g.T.Lift.reading g.E.ComponentType.is_unit g.E.Lift.reading
    c.in-0.is (there g at.After-result-result).ok_payload (Ok c.in-Ok.value) c.in-Ok.ensures.lifts

pub returns-in-Err-clause-lifts : goal.returns-in-Err-clause-lifts
returns-in-Err-clause-lifts g c =
    let at = goal.at.returns-in-Err-clause-lifts g c in
    let after = c.lift_payload_words.new.cx in
    ok_lifts (here g at.After-word_u32) c.args.cx.now.core.now.ledger c.args.cx.now.fuel _ after.core.now.ledger after.fuel
    g.T.ComponentType.is_unit g.T.Lift.reading g.E.ComponentType.is_unit g.E.Lift.reading
    c.in-0.is (there g at.After-result-result).ok_payload (Err c.in-Err.fault) c.in-Err.ensures.lifts

pub returns-in-Ok-lift_payload_words-clause-lifts : goal.returns-in-Ok-lift_payload_words-clause-lifts
returns-in-Ok-lift_payload_words-clause-lifts g c =
    let at = goal.at.returns-in-Ok-lift_payload_words-clause-lifts g c in
    let after = c.lift_payload_words-in-1.new.cx in
    error_lifts (here g at.After-word_u32) c.args.cx.now.core.now.ledger c.args.cx.now.fuel _ after.core.now.ledger after.fuel
    g.T.ComponentType.is_unit g.T.Lift.reading g.E.ComponentType.is_unit g.E.Lift.reading
    c.in-1.is (there g at.After-result-result).error_payload (Ok c.in-Ok-lift_payload_words.value) c.in-Ok-lift_payload_words.ensures.lifts

pub returns-in-Err-lift_payload_words-clause-lifts : goal.returns-in-Err-lift_payload_words-clause-lifts
returns-in-Err-lift_payload_words-clause-lifts g c =
    let at = goal.at.returns-in-Err-lift_payload_words-clause-lifts g c in
    let after = c.lift_payload_words-in-1.new.cx in
    error_lifts (here g at.After-word_u32) c.args.cx.now.core.now.ledger c.args.cx.now.fuel _ after.core.now.ledger after.fuel
    g.T.ComponentType.is_unit g.T.Lift.reading g.E.ComponentType.is_unit g.E.Lift.reading
    c.in-1.is (there g at.After-result-result).error_payload (Err c.in-Err-lift_payload_words.fault) c.in-Err-lift_payload_words.ensures.lifts
