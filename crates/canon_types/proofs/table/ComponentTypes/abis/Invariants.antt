-- The numbers so far.
use Rattle.std.proofs.Common.{take}
use Rattle.canon_types.specs.Laid.{AreLaid}
use Rattle.canon_types.specs.Table.{all_shapes}
use Rattle.canon_types.proofs.table.ComponentTypes.abis.Given as goal

abbrev pub invariant-loop-ty : goal.invariant-loop-ty
invariant-loop-ty l = AreLaid (all_shapes l.self) l.abis.items (take l.ty-index l.types)
