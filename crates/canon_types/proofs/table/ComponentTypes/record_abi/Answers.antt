use Rattle.std.proofs.Common.{None, Some, refl}
use Rattle.canon_types.specs.Table.{all_shapes}
use Rattle.canon_types.proofs.Laid.{product_told, told_below}
use Rattle.canon_types.proofs.table.ComponentTypes.record_abi.Goals as goal

pub returns-in-Some-clause-ok : goal.returns-in-Some-clause-ok
returns-in-Some-clause-ok c =
    product_told (all_shapes c.args.self.now) (Some c.in-Some.abi) c.deref.result.now c.in_ok-abis.abis.items c.args.types.now c.in-Some.ensures.layout c.deref.ensures.value c.in_ok-abis.ensures.ok

pub returns-in-Some-clause-fits : goal.returns-in-Some-clause-fits
returns-in-Some-clause-fits c =
    told_below c.in-Some.abi _ (product_told (all_shapes c.args.self.now) (Some c.in-Some.abi) c.deref.result.now c.in_ok-abis.abis.items c.args.types.now c.in-Some.ensures.layout c.deref.ensures.value c.in_ok-abis.ensures.ok)

pub returns-clause-cause : goal.returns-clause-cause
returns-clause-cause c =
    λ _. (refl, product_told (all_shapes c.args.self.now) None c.deref.result.now c.in_ok-abis.abis.items c.args.types.now c.in-None.ensures.layout c.deref.ensures.value c.in_ok-abis.ensures.ok)
