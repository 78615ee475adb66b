use Rattle.std.proofs.Common.{arith, subst}
use Rattle.canon_types.specs.Table.{Knows, TypeTable}
use Rattle.canon_typed.proofs.compounds.OptionComponentType.typecheck.Goals as goal

pub typecheck-requires : goal.typecheck-requires
typecheck-requires g c = record { known = subst (λ (t : TypeTable). Knows t c.option.result.now.ty) c.types.ensures (c.option.ensures.entry.known 0 c.option.result.now.ty (omega arith)) }
