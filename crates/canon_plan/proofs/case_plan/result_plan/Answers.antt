use Rattle.std.proofs.Common.{◌≡◌}
use Rattle.canon_model.specs.Shape.{of_result, variant}
use Rattle.canon_types.specs.Depth.{variant_cases}
use Rattle.canon_types.specs.Table.{all_shapes, payload_in, shape_of}
use Rattle.canon_types.specs.declared.types.InterfaceType.TheVariants as ty
use Rattle.canon_plan.proofs.CasePlans.{as_cases}
use Rattle.canon_plan.proofs.case_plan.result_plan.Goals as goal

pub returns : goal.returns
returns c =
    let t = c.args.types.now in
    let s = shape_of t (ty.Result c.args.i) in
    let e = c.result.ensures.entry.shape in
    let cases : s ≡ variant of_result (variant_cases s) = as_cases s of_result _ e in
    ((payload_in (all_shapes t) c.result.result.now.ok, payload_in (all_shapes t) c.result.result.now.err, e), (of_result, cases), c.result.ensures.info)
