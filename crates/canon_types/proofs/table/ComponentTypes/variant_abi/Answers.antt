use Rattle.std.proofs.Common.{Option, Some, None, List, ap, arith, length, refl, ◌≡◌, ◌∙◌}
use Rattle.canon_abi.specs.declared.abi.CanonicalAbiInfo.{CanonicalAbiInfo}
use Rattle.canon_types.specs.Table.{all_shapes}
use Rattle.canon_types.proofs.Laid.{length_laid, told_below, variant_answered}
use Rattle.canon_types.proofs.table.ComponentTypes.variant_abi.Goals as goal

pub variant-requires : goal.variant-requires
variant-requires c =
    let same : length c.as_slice-told.result.now ≡ length c.args.payloads.now =
    ap (λ (xs : List (Option CanonicalAbiInfo)). length xs) c.as_slice-told.ensures.value ∙ length_laid (all_shapes c.args.self.now) c.in_ok-abis.abis.items c.args.payloads.now c.in_ok-abis.ensures.ok in
    record { some = omega arith; few = omega arith }

pub returns-in-Some-clause-abi : goal.returns-in-Some-clause-abi
returns-in-Some-clause-abi c =
    (variant_answered (all_shapes c.args.self.now) (Some c.in-Some.told) c.as_slice-told.result.now c.in_ok-abis.abis.items c.args.payloads.now c.in-Some.ensures.layout c.as_slice-told.ensures.value c.in_ok-abis.ensures.ok).0

pub returns-in-Some-clause-info : goal.returns-in-Some-clause-info
returns-in-Some-clause-info c =
    (variant_answered (all_shapes c.args.self.now) (Some c.in-Some.told) c.as_slice-told.result.now c.in_ok-abis.abis.items c.args.payloads.now c.in-Some.ensures.layout c.as_slice-told.ensures.value c.in_ok-abis.ensures.ok).1

pub returns-in-Some-clause-fits : goal.returns-in-Some-clause-fits
returns-in-Some-clause-fits c =
    told_below c.in-Some.told.0 _ (variant_answered (all_shapes c.args.self.now) (Some c.in-Some.told) c.as_slice-told.result.now c.in_ok-abis.abis.items c.args.payloads.now c.in-Some.ensures.layout c.as_slice-told.ensures.value c.in_ok-abis.ensures.ok).0

pub returns-clause-cause : goal.returns-clause-cause
returns-clause-cause c =
    λ _. (refl, variant_answered (all_shapes c.args.self.now) None c.as_slice-told.result.now c.in_ok-abis.abis.items c.args.payloads.now c.in-None.ensures.layout c.as_slice-told.ensures.value c.in_ok-abis.ensures.ok)
