use Rattle.std.proofs.Common.{take, true}
use Rattle.canon_recording_parts.specs.Format.{for_each}
use Rattle.canon_recording_parts.specs.Read.{IsReadSoFar}
use Rattle.canon_recording.proofs.Values.{typed}
use Rattle.canon_recording.proofs.decoding.read_values.Given as goal

-- the values of the first types were read
abbrev pub invariant-loop-ty : goal.invariant-loop-ty
invariant-loop-ty l = record {
  read : IsReadSoFar (for_each (typed true l.types) (take l.ty-index l.tys)) l.bytes l.fn.at l.at l.vals.items;
}
