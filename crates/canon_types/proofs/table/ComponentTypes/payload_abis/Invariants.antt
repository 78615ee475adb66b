-- The numbers so far.
use Rattle.std.proofs.Common.{take}
use Rattle.canon_types.specs.Laid.{ArePayloadsLaid}
use Rattle.canon_types.specs.Table.{all_shapes}
use Rattle.canon_types.proofs.table.ComponentTypes.payload_abis.Given as goal

abbrev pub invariant-loop-payload : goal.invariant-loop-payload
invariant-loop-payload l = ArePayloadsLaid (all_shapes l.self) l.abis.items (take l.payload-index l.payloads)
