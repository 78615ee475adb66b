use Rattle.std.proofs.Common.{◌≡◌, map, string_bytes, take}
use Rattle.canon_context.specs.Core.{component_types}
use Rattle.canon_value_parts.specs.Flags.{flag_names}
use Rattle.canon_value_parts.proofs.FlagWriting.{AreStored}
use Rattle.canon_value_parts.proofs.flags.store_flags.Given as goal

-- the names so far are stored, and nothing else changed
abbrev pub invariant-loop-name : goal.invariant-loop-name
invariant-loop-name g l = record {
  stored : AreStored l.fn.core.memory l.core.memory l.at l.size (flag_names (component_types l.fn.core) l.i) (map (λ s. string_bytes s) (take l.name-index l.name-items));
  same : l.core ≡ record l.fn.core { memory = l.core.memory };
}
