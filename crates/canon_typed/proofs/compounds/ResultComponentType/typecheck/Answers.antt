use Rattle.std.proofs.Common.{subst}
use Rattle.canon_types.specs.Table.{KnowsPayload, TypeTable}
use Rattle.canon_typed.proofs.Layouts.{error_known, ok_known}
use Rattle.canon_typed.proofs.compounds.ResultComponentType.typecheck.Goals as goal

pub typecheck_payload-requires : goal.typecheck_payload-requires
typecheck_payload-requires g c = record { known = subst (λ (t : TypeTable). KnowsPayload t c.result-result.result.now.ok) c.types.ensures (ok_known _ _ c.result-result.result.now.ok c.result-result.result.now.err c.result-result.ensures.entry) }

pub typecheck_payload-requires-2 : goal.typecheck_payload-requires-2
typecheck_payload-requires-2 g c = record { known = subst (λ (t : TypeTable). KnowsPayload t c.result-result.result.now.err) c.types.ensures (error_known _ _ c.result-result.result.now.ok c.result-result.result.now.err c.result-result.ensures.entry) }
