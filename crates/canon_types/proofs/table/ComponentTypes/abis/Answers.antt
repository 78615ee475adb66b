use Rattle.std.proofs.Common.{◌+◌, List, subst, sym, take}
use Rattle.canon_abi.specs.declared.abi.CanonicalAbiInfo.{CanonicalAbiInfo}
use Rattle.canon_types.specs.Laid.{AreLaid}
use Rattle.canon_types.specs.Table.{all_shapes}
use Rattle.canon_types.proofs.Laid.{laid_more}
use Rattle.canon_types.proofs.table.ComponentTypes.abis.Goals as goal

pub loop-ty-preserved : goal.loop-ty-preserved
loop-ty-preserved c =
    let known = all_shapes c.args.self.now in
    subst (λ (xs : List CanonicalAbiInfo). AreLaid known xs (take (c.loop-ty.ty-index + 1) c.args.types.now)) (sym c.in_ok-push.ensures.items)
    (laid_more known c.loop-ty.abis.items c.args.types.now c.loop-ty.ty-index c.canonical_abi.result.now c.ty-item.result c.loop-ty-test.true c.ty-item.is c.loop-ty.invariant c.canonical_abi.ensures)
