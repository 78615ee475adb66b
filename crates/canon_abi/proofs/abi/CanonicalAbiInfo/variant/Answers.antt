use Rattle.canon_abi.proofs.Ties.{variant_answer}
use Rattle.canon_abi.proofs.abi.CanonicalAbiInfo.variant.Goals as goal

pub returns-clause-layout : goal.returns-clause-layout
returns-clause-layout c = variant_answer c.variant_numbers.result c.args.cases.now c.variant_numbers.ensures
