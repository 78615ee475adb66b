use Rattle.canon_text.proofs.Plain.{plain-more}
use Rattle.canon_text.proofs.blocks.plain_run.Goals as goal

pub returns-clause-plain : goal.returns-clause-plain
returns-clause-plain c = plain-more c.args.src.now c.args.from c.plain_blocks-long.result c.plain_blocks.result c.plain_blocks-long.ensures.plain c.plain_blocks.ensures.plain
