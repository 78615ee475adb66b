use Rattle.std.proofs.Common.{length, map, string_bytes, take}
use Rattle.canon_model.specs.Layout.{flags_size}
use Rattle.canon_value_parts.specs.Flags.{flag_names}
use Rattle.canon_value_parts.proofs.FlagWriting.{AreStored}
use Rattle.canon_image_parts.proofs.write.mark_names.Given as goal

-- the bits of the names so far are set
abbrev pub invariant-loop-name : goal.invariant-loop-name
invariant-loop-name l = record {
  stored : AreStored l.fn.memory l.memory l.at (flags_size (length (flag_names l.types l.i))) (flag_names l.types l.i) (map (λ s. string_bytes s) (take l.name-index l.name-items));
}
