-- Those so far are equal.
use Rattle.std.proofs.Common.{◌≡◌, ◌&&◌, drop, map, nat_eq}
use Rattle.std.specs.Cmp.Lexicographic.{pointwise}
use Rattle.canon_val.specs.Equal.{all_same, compared, compared_pairs, row}
use Rattle.canon_val.specs.Value.{names_in, values_in}
use Rattle.canon_val.proofs.equal.+equal.Given as goal

abbrev pub invariant-are_rows_equal-loop-i : goal.invariant-are_rows_equal-loop-i
invariant-are_rows_equal-loop-i l = all_same (row (map compared (drop l.i l.a))) (row (map compared (drop l.i l.b))) ≡ all_same (row (map compared l.a)) (row (map compared l.b))

abbrev pub invariant-are_pairs_equal-loop-i : goal.invariant-are_pairs_equal-loop-i
invariant-are_pairs_equal-loop-i l = all_same (compared_pairs (drop l.i l.a)) (compared_pairs (drop l.i l.b)) ≡ all_same (compared_pairs l.a) (compared_pairs l.b)

abbrev pub invariant-are_fields_equal-loop-i : goal.invariant-are_fields_equal-loop-i
invariant-are_fields_equal-loop-i l =
    (pointwise (pointwise nat_eq) (names_in (drop l.i l.a)) (names_in (drop l.i l.b)) && all_same (row (map compared (values_in (drop l.i l.a)))) (row (map compared (values_in (drop l.i l.b)))))
    ≡ (pointwise (pointwise nat_eq) (names_in l.a) (names_in l.b) && all_same (row (map compared (values_in l.a))) (row (map compared (values_in l.b))))
