use Rattle.canon_abi.proofs.Ties.{product_answer}
use Rattle.canon_abi.proofs.abi.CanonicalAbiInfo.record.Goals as goal

pub returns-clause-layout : goal.returns-clause-layout
returns-clause-layout c = product_answer c.product_numbers.result c.args.fields.now c.product_numbers.ensures
