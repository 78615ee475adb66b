use Rattle.std.proofs.Common.{◌≡◌, drop, map, nat_eq, string_bytes}
use Rattle.std.specs.Cmp.Lexicographic.{pointwise}
use Rattle.canon_val.proofs.equal.are_names_equal.Given as goal

-- the names so far are equal
abbrev pub invariant-loop-i : goal.invariant-loop-i
invariant-loop-i l = pointwise (pointwise nat_eq) (map string_bytes (drop l.i l.a)) (map string_bytes (drop l.i l.b)) ≡ pointwise (pointwise nat_eq) (map string_bytes l.a) (map string_bytes l.b)
