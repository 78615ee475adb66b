use Rattle.std.proofs.Common.{Some}
use Rattle.std.specs.Prelude.{IfSome}
use Rattle.std.proofs.lemmas.List.Elements.{All-set}
use Rattle.canon_same.specs.Same.{SameDefinitions}
use Rattle.canon_same.proofs.found.Found.add.Goals as goal

pub returns : goal.returns
returns c i j found same = All-set (λ pair. IfSome pair (λ p. SameDefinitions i j p.read p.written)) c.args.self.now.pairs c.slot.result (Some (record { read = c.args.read; written = c.args.written })) same found
