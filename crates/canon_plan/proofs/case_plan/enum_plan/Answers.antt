use Rattle.std.proofs.Common.{◌≡◌}
use Rattle.canon_model.specs.Shape.{of_names, variant}
use Rattle.canon_types.specs.Depth.{variant_cases}
use Rattle.canon_types.specs.Keeps.{names_of}
use Rattle.canon_types.specs.Table.{shape_of}
use Rattle.canon_types.specs.declared.types.InterfaceType.TheVariants as ty
use Rattle.canon_plan.proofs.CasePlans.{as_cases}
use Rattle.canon_plan.proofs.case_plan.enum_plan.Goals as goal

pub returns : goal.returns
returns c =
    let t = c.args.types.now in
    let s = shape_of t (ty.Enum c.args.i) in
    let e = c.enum_.ensures.entry.shape in
    let cases : s ≡ variant of_names (variant_cases s) = as_cases s of_names _ e in
    ((names_of c.enum_.result.now.names.keys, e), (of_names, cases), c.enum_.ensures.info)
