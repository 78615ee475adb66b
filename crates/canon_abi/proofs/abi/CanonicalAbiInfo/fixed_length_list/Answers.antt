use Rattle.canon_abi.proofs.Ties.{row_answer}
use Rattle.canon_abi.proofs.abi.CanonicalAbiInfo.fixed_length_list.Goals as goal

pub returns-clause-layout : goal.returns-clause-layout
returns-clause-layout c = row_answer c.row_numbers.result c.args.element.now c.args.n c.row_numbers.ensures
