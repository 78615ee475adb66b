use Rattle.std.proofs.Common.{◌∙◌, ap, arith, option_copied, refl, subst, sym}
use Rattle.canon_model.specs.Shape.{Name}
use Rattle.canon_types.specs.Depth.{variant_cases}
use Rattle.canon_types.specs.Table.{shape_of}
use Rattle.canon_types.specs.declared.types.InterfaceType.TheVariants as ty
use Rattle.canon_val.specs.Value.{IsFirst, case_names}
use Rattle.canon_plan.proofs.CasePlans.{count_names}
use Rattle.canon_value_parts.proofs.CaseValues.{first_of_names}
use Rattle.canon_value_parts.proofs.rebuilt_case.enum_value.Goals as goal

pub unwrap-name-requires : goal.unwrap-name-requires
unwrap-name-requires c = c.get_index.ensures.found.1 (omega (arith, c.requires.tag, count_names c.args.types.now c.args.i c.enum_.result.now.names.keys c.enum_.ensures.entry))

pub returns-clause-ok : goal.returns-clause-ok
returns-clause-ok c =
    let t = c.args.types.now in
    let found = sym c.get_index.ensures.key ∙ ap option_copied c.unwrap-name.ensures in
    let first = first_of_names t c.args.i c.enum_.result.now.names.keys c.args.tag c.unwrap-name.result.now c.enum_.ensures.entry c.enum_.ensures.names found in
    (c.in_ok-clone.field-0, refl, refl, subst (λ (name : Name). IsFirst name (case_names (variant_cases (shape_of t (ty.Enum c.args.i)))) c.args.tag) (sym c.in_ok-clone.ensures.cases) first)
