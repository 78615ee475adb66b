use Rattle.std.proofs.Common.{◌≡◌}
use Rattle.canon_model.specs.Shape.{of_cases, variant}
use Rattle.canon_types.specs.Depth.{variant_cases}
use Rattle.canon_types.specs.Table.{shape_of}
use Rattle.canon_types.specs.declared.types.InterfaceType.TheVariants as ty
use Rattle.canon_plan.proofs.CasePlans.{as_cases}
use Rattle.canon_plan.proofs.case_plan.variant_plan.Goals as goal

pub returns : goal.returns
returns c =
    let t = c.args.types.now in
    let s = shape_of t (ty.Variant c.args.i) in
    let e = c.variant.ensures.entry.shape in
    let cases : s ≡ variant of_cases (variant_cases s) = as_cases s of_cases _ e in
    (cases, (of_cases, cases), c.variant.ensures.info)
