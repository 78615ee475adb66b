use Rattle.std.proofs.Common.{false, take}
use Rattle.canon_recording_parts.specs.Format.{for_each}
use Rattle.canon_recording_parts.specs.Written.{IsAdded}
use Rattle.canon_recording.proofs.Values.{typed}
use Rattle.canon_recording.proofs.encoding.put_values.Given as goal

-- the first k were written
abbrev pub invariant-loop-k : goal.invariant-loop-k
invariant-loop-k l = record {
  added : IsAdded (for_each (typed false l.types) (take l.k l.tys)) (take l.k l.vals) l.fn.bytes.items l.bytes.items;
}
