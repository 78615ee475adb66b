use Rattle.std.proofs.Common.{map, take}
use Rattle.std.specs.List.{AllZip}
use Rattle.canon_named.specs.Named.{AnswersTest, test_passed}
use Rattle.canon_named.proofs.named.pass_fields.Given as goal

abbrev pub invariant-loop-k : goal.invariant-loop-k
invariant-loop-k g l = AllZip (AnswersTest (λ test a b r. (goal.Fn-ptr g).post test (a, (b, tt)) r) l.types test_passed) (take l.k l.parts) (take l.k (map (λ field. field.ty) l.fields))
