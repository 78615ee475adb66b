use Rattle.canon_abi.proofs.Ties.{flags_answer}
use Rattle.canon_abi.proofs.abi.CanonicalAbiInfo.flags.Goals as goal

pub returns : goal.returns
returns c = flags_answer c.flags_numbers.result c.args.count c.flags_numbers.ensures
