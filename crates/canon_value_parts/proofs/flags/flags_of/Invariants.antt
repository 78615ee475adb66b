use Rattle.std.proofs.Common.{◌<◌, ◌/◌, ◌^◌, ℕ}
use Rattle.canon_types.specs.Keeps.{names_of}
use Rattle.canon_value_parts.specs.Flags.{digit_of, width_of}
use Rattle.canon_value_parts.proofs.FlagReading.{IsReading}
use Rattle.canon_value_parts.proofs.flags.flags_of.Given as goal

abbrev pub invariant-loop-k : goal.invariant-loop-k
invariant-loop-k l = record {
  reading : IsReading l.marks (names_of l.names) l.k l.fn.fuel l.fuel (names_of l.set.items);
  below : (j : ℕ) → j < l.k → digit_of l.marks (j / width_of l.marks) < 2 ^ width_of l.marks;
}
