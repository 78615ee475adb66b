use Rattle.std.proofs.Common.{◌∙◌, arith, length}
use Rattle.canon_reading.specs.Spots.{flat_in}
use Rattle.canon_lift.proofs.Pairs.{map_words}
use Rattle.canon_lift.proofs.maps.HashMapLift.lift_words.Goals as goal

pub word_u32-requires : goal.word_u32-requires
word_u32-requires g c = omega (arith, map_words g.K.ComponentType.fits g.V.ComponentType.fits c.args.cx.now.core.now.component.types c.args.ty c.args.at (length c.args.src.now) c.requires.fits c.requires.words)

pub word_u32-requires-2 : goal.word_u32-requires-2
word_u32-requires-2 g c = omega (arith, map_words g.K.ComponentType.fits g.V.ComponentType.fits c.args.cx.now.core.now.component.types c.args.ty c.args.at (length c.args.src.now) c.requires.fits c.requires.words)

pub returns-clause-lifts : goal.returns-clause-lifts
returns-clause-lifts g c = c.lift_map.ensures.lifts (flat_in c.args.src.now c.args.at)
    (record { pointer = c.from-pointer.ensures ∙ c.word_u32.ensures; count = c.from-count.ensures ∙ c.word_u32-2.ensures; place_is = c.word_at.ensures }) tt
