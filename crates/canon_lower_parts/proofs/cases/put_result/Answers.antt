use Rattle.canon_lower_parts.proofs.ResultSteps.{result_put}
use Rattle.canon_lower_parts.proofs.cases.put_result.Goals as goal

pub returns-clause-put : goal.returns-clause-put
returns-clause-put g c =
    let core = c.args.cx.now.core.now in
    let r = c.result-result.result.now in
    result_put g.T.ComponentType.is_unit g.A.ComponentType.fits g.E.ComponentType.is_unit g.B.ComponentType.fits core c.put_case-inner.new.cx.core.now c.types.result.now c.args.ty c.in-Result.i r.ok r.err c.payload_at-part.result c.args.offset c.args.tag c.put_case-inner.result
    c.types.ensures c.in-Result.is c.requires.fits c.result-result.ensures.entry c.payload_at-part.ensures.is c.put_case-inner.ensures.put
