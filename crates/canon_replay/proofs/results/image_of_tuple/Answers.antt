use Rattle.std.proofs.Common.{refl}
use Rattle.canon_replay.proofs.results.image_of_tuple.Goals as goal

pub returns-in-Ok-clause-image : goal.returns-in-Ok-clause-image
returns-in-Ok-clause-image c = (c.args.values, c.in-Ok.bytes, refl, refl, c.in-Ok.ensures.is)
