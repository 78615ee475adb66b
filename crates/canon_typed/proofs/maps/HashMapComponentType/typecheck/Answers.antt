use Rattle.std.proofs.Common.{arith, subst}
use Rattle.canon_types.specs.Table.{Knows, TypeTable}
use Rattle.canon_typed.proofs.maps.HashMapComponentType.typecheck.Goals as goal

pub typecheck-requires : goal.typecheck-requires
typecheck-requires g c = record { known = subst (λ (t : TypeTable). Knows t c.map-map.result.now.key) c.types.ensures (c.map-map.ensures.entry.known 0 c.map-map.result.now.key (omega arith)) }

pub typecheck-requires-2 : goal.typecheck-requires-2
typecheck-requires-2 g c = record { known = subst (λ (t : TypeTable). Knows t c.map-map.result.now.value) c.types.ensures (c.map-map.ensures.entry.known 1 c.map-map.result.now.value (omega arith)) }
