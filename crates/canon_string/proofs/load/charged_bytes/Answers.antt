use Rattle.canon_string.proofs.TextLoading.{read_there}
use Rattle.canon_string.proofs.load.charged_bytes.Goals as goal

pub returns-clause-bytes : goal.returns-clause-bytes
returns-clause-bytes c = read_there c.args.memory.now c.args.pointer c.args.count
