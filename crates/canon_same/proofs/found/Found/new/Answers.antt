use Rattle.std.proofs.Common.{None, subst, sym}
use Rattle.std.specs.Prelude.{IfSome}
use Rattle.std.proofs.lemmas.List.{get_or-replicate}
use Rattle.canon_same.specs.Same.{SameDefinitions}
use Rattle.canon_same.proofs.found.Found.new.Goals as goal

pub returns : goal.returns
returns c i j k d lt = subst (λ pair. IfSome pair (λ p. SameDefinitions i j p.read p.written)) (sym (get_or-replicate 509 k None d lt)) tt
