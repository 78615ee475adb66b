use Rattle.canon_text.proofs.Answered.{one_answer}
use Rattle.canon_text.proofs.laws.one_answer.Goals as goal

pub returns : goal.returns
returns c = one_answer
