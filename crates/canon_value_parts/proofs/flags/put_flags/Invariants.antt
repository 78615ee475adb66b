use Rattle.std.proofs.Common.{map, string_bytes, take}
use Rattle.canon_value_parts.specs.Flags.{flag_names}
use Rattle.canon_value_parts.proofs.FlagWriting.{ArePut}
use Rattle.canon_value_parts.proofs.flags.put_flags.Given as goal

-- the names so far are put
abbrev pub invariant-loop-name : goal.invariant-loop-name
invariant-loop-name l = ArePut l.fn.dst l.dst l.first l.count (flag_names l.fn.types l.i) (map (λ s. string_bytes s) (take l.name-index l.name-items))
