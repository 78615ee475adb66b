use Rattle.std.proofs.Common.{◌+◌, List, Option, subst, sym, take}
use Rattle.canon_abi.specs.declared.abi.CanonicalAbiInfo.{CanonicalAbiInfo}
use Rattle.canon_types.specs.Laid.{ArePayloadsLaid}
use Rattle.canon_types.specs.Table.{all_shapes}
use Rattle.canon_types.proofs.Laid.{payloads_laid_more}
use Rattle.canon_types.proofs.table.ComponentTypes.payload_abis.Goals as goal

pub loop-payload-preserved : goal.loop-payload-preserved
loop-payload-preserved c =
    let known = all_shapes c.args.self.now in
    subst (λ (xs : List (Option CanonicalAbiInfo)). ArePayloadsLaid known xs (take (c.loop-payload.payload-index + 1) c.args.payloads.now)) (sym c.in_ok-push.ensures.items)
    (payloads_laid_more known c.loop-payload.abis.items c.args.payloads.now c.loop-payload.payload-index c.payload_abi.result c.payload-item.result c.loop-payload-test.true c.payload-item.is c.loop-payload.invariant c.payload_abi.ensures)
