use Rattle.std.proofs.Common.{◌∙◌, ap, arith, subst, sym}
use Rattle.std.specs.Map.Iter.{deref_pair}
use Rattle.std.specs.Option.{option_map}
use Rattle.canon_types.specs.Depth.{variant_cases}
use Rattle.canon_types.specs.Table.{shape_of}
use Rattle.canon_types.specs.declared.types.InterfaceType.TheVariants as ty
use Rattle.canon_model.specs.Shape.{Name}
use Rattle.canon_val.specs.Value.{IsFirst, case_names}
use Rattle.canon_plan.proofs.CasePlans.{count_cases}
use Rattle.canon_value_parts.proofs.CaseValues.{first_of_cases}
use Rattle.canon_value_parts.proofs.rebuilt_case.case_name.Goals as goal

pub unwrap-requires : goal.unwrap-requires
unwrap-requires c = c.get_index.ensures.found.1 (omega (arith, c.requires.tag, count_cases c.args.types.now c.args.i c.variant.result.now.cases.entries c.variant.ensures.entry))

pub returns-clause-ok : goal.returns-clause-ok
returns-clause-ok c =
    let t = c.args.types.now in
    let entry = c.unwrap.result in
    let found = sym c.get_index.ensures.entry ∙ ap (option_map deref_pair) c.unwrap.ensures in
    subst (λ (name : Name). IsFirst name (case_names (variant_cases (shape_of t (ty.Variant c.args.i)))) c.args.tag) (sym c.in_ok-clone.ensures.cases)
    (first_of_cases t c.args.i c.variant.result.now.cases.entries c.args.tag entry.0.now entry.1.now c.variant.ensures.entry c.variant.ensures.names found)
