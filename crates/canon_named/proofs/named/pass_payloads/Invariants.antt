use Rattle.std.proofs.Common.{take}
use Rattle.std.specs.List.{AllZip}
use Rattle.canon_named.specs.Named.{PassesPayload}
use Rattle.canon_named.proofs.named.pass_payloads.Given as goal

abbrev pub invariant-loop-k : goal.invariant-loop-k
invariant-loop-k g l = AllZip (PassesPayload (λ test a b r. (goal.Fn-ptr g).post test (a, (b, tt)) r) l.types) (take l.k l.parts) (take l.k l.payloads)
