use Rattle.std.proofs.Common.{ap, arith, ◌+◌, ◌∙◌}
use Rattle.canon_model.specs.Memory.{low}
use Rattle.canon_value_parts.proofs.LiftSteps.{word_found}
use Rattle.canon_walks.proofs.lift.pointer_and_length.Goals as goal

pub returns-clause-pointer : goal.returns-clause-pointer
returns-clause-pointer c = c.from-pointer.ensures ∙ (c.get_u32.ensures ∙ ap low (word_found c.args.src.now c.args.index _ c.index-src-index.is (omega (arith, c.requires.room))))

pub returns-clause-count : goal.returns-clause-count
returns-clause-count c = c.from-length.ensures ∙ (c.get_u32-2.ensures ∙ ap low (word_found c.args.src.now (c.args.index + 1) _ c.index-src-index-2.is (omega (arith, c.requires.room))))
