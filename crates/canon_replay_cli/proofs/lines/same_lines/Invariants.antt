use Rattle.std.proofs.Common.{◌≡◌}
use Rattle.std.specs.Prelude.{string_bytes}
use Rattle.canon_replay_cli.specs.Lines.{same_lines}
use Rattle.canon_replay_cli.proofs.lines.same_lines.Given as goal

abbrev pub invariant-loop-k : goal.invariant-loop-k
invariant-loop-k l = record { lines : string_bytes l.text ≡ same_lines l.k-counter }
