use Rattle.std.proofs.Common.{◌%◌, ◌^◌, length, refl, subst, ℕ}
use Rattle.canon_lift.specs.Scalars.{StandsForNone}
use Rattle.canon_model.specs.Flat.{flat_bits}
use Rattle.canon_model.specs.Rep.{ScalarIs}
use Rattle.canon_context.specs.Core.{component_types}
use Rattle.canon_types.specs.Table.{shape_of}
use Rattle.canon_lift.proofs.ScalarBytes.{word_lifts, word_refused, word_room}
use Rattle.canon_lift.proofs.scalars.AnyLift.lift_words.Goals as goal

pub word_of-requires : goal.word_of-requires
word_of-requires g c =
    let core = c.args._cx.now.core.now in
    word_room (shape_of (component_types core) c.args._ty) g.S.ScalarType.kind c.args.at (length c.args.src.now)
    (g.met.S.ScalarType.is_scalar.shape core.component.types c.args._ty c.requires.fits) c.requires.words

pub returns-in-Some-clause-lifts : goal.returns-in-Some-clause-lifts
returns-in-Some-clause-lifts g c =
    let core = c.args._cx.now.core.now in
    let (t, stands, lifts) = c.in-Some.ensures.some in
    word_lifts g.S.ComponentType.lifts core c.args._cx.now.options c.args._ty g.S.ScalarType.kind c.args.src.now c.args.at c.args._cx.now.fuel c.in-Some.value t
    (g.met.S.ScalarType.is_scalar.shape core.component.types c.args._ty c.requires.fits) (subst (λ (w : ℕ). ScalarIs g.S.ScalarType.kind (w % 2 ^ flat_bits g.S.ScalarType.kind) t) c.word_of.ensures stands) lifts

pub returns-in-None-clause-lifts : goal.returns-in-None-clause-lifts
returns-in-None-clause-lifts g c =
    let core = c.args._cx.now.core.now in
    word_refused g.S.ComponentType.lifts core c.args._cx.now.options c.args._ty g.S.ScalarType.kind c.args.src.now c.args.at c.args._cx.now.fuel c.word_at.result
    (g.met.S.ScalarType.is_scalar.shape core.component.types c.args._ty c.requires.fits) c.word_at.ensures
    (subst (λ (w : ℕ). StandsForNone g.S.ScalarType.kind (w % 2 ^ flat_bits g.S.ScalarType.kind)) c.word_of.ensures (c.in-None.ensures.none refl))
