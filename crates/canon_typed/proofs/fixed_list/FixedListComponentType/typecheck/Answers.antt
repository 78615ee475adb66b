use Rattle.std.proofs.Common.{arith, subst}
use Rattle.canon_types.specs.Table.{Knows, TypeTable}
use Rattle.canon_typed.proofs.fixed_list.FixedListComponentType.typecheck.Goals as goal

pub typecheck-requires : goal.typecheck-requires
typecheck-requires g c = record { known = subst (λ (t : TypeTable). Knows t c.fixed_length_list-list.result.now.element) c.types.ensures (c.fixed_length_list-list.ensures.entry.known 0 c.fixed_length_list-list.result.now.element (omega arith)) }
