use Rattle.std.proofs.Common.{◌++◌, ℕ, List, drop, map, string_bytes}
use Rattle.canon_conversions.specs.Conversions.{job_of}
use Rattle.canon_conversions.specs.Lines.{Lines}
use Rattle.canon_conversions.proofs.lines.print_lines.Given as goal

-- with the lines of the conversions that are left, the text is the lines of all of them
abbrev pub invariant-loop-conversion : goal.invariant-loop-conversion
invariant-loop-conversion l = (rest : List ℕ) → Lines (map job_of (drop l.conversion-index l.conversions)) rest → Lines (map job_of l.conversions) (string_bytes l.text ++ rest)
