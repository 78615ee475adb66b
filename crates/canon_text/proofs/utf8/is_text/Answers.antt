use Rattle.std.proofs.lemmas.Str.{IsUtf8-from_ascii}
use Rattle.canon_text.proofs.utf8.is_text.Goals as goal

pub returns-then-is_ascii : goal.returns-then-is_ascii
returns-then-is_ascii c = λ _. IsUtf8-from_ascii c.args.src.now c.if-is_ascii.ensures.cases
