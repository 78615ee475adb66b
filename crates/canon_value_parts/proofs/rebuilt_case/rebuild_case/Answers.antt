use Rattle.std.proofs.Common.{[], ap, arith, length, subst, ℕ, ◌∙◌, ◌≡◌}
use Rattle.canon_model.specs.Shape.{of_cases, of_names, of_option, of_result}
use Rattle.canon_types.specs.Depth.{variant_cases}
use Rattle.canon_types.specs.Table.{shape_of}
use Rattle.canon_types.specs.declared.types.InterfaceType.{InterfaceType}
use Rattle.canon_types.specs.declared.types.InterfaceType.TheVariants as ty
use Rattle.canon_plan.specs.Plan.{IsCaseKind}
use Rattle.canon_value_parts.specs.Plan.{IsCaseRebuilt}
use Rattle.canon_val.specs.Value.{IsCase}
use Rattle.canon_plan.proofs.CasePlans.{as_cases, result_left, plan_result_cases}
use Rattle.canon_value_parts.proofs.CaseValues.{case_rebuilt, enum_none, enum_rebuilt, one_payload, option_tag}
use Rattle.canon_context.proofs.Told.{core_on_ok}
use Rattle.canon_value_parts.proofs.ResourcesOf.{case_resources}
use Rattle.canon_value_parts.specs.Resources.{all_resources, resources}
use Rattle.canon_value_parts.proofs.rebuilt_case.rebuild_case.Goals as goal

pub variant_value-requires-clause-few : goal.variant_value-requires-clause-few
variant_value-requires-clause-few c = omega (arith, c.requires.count, one_payload (variant_cases (shape_of c.args.types.now c.args.ty.now)) c.args.tag)

pub option_value-requires : goal.option_value-requires
option_value-requires c = record { few = omega (arith, c.requires.count, one_payload (variant_cases (shape_of c.args.types.now c.args.ty.now)) c.args.tag) }

pub result_value-requires : goal.result_value-requires
result_value-requires c = record { few = omega (arith, c.requires.count, one_payload (variant_cases (shape_of c.args.types.now c.args.ty.now)) c.args.tag) }

pub returns-in-Variant-clause-ok : goal.returns-in-Variant-clause-ok
returns-in-Variant-clause-ok c =
    let s = shape_of c.args.types.now (ty.Variant c.in-Variant.i) in
    let vs = c.args.values.items in
    let tag = c.args.tag in
    let kind = rw c.in-Variant.is at c.requires.kind in
    let there = rw c.in-Variant.is at c.requires.tag in
    rw c.in-Variant.is (core_on_ok c.variant_value.result (λ v. IsCase of_cases (variant_cases s) tag vs v) (λ v. IsCaseRebuilt s tag vs v) (λ v h. case_rebuilt s of_cases tag vs v kind there h) c.variant_value.ensures.ok)

pub returns-in-Enum-clause-ok : goal.returns-in-Enum-clause-ok
returns-in-Enum-clause-ok c =
    let s = shape_of c.args.types.now (ty.Enum c.in-Enum.i) in
    let vs = c.args.values.items in
    let tag = c.args.tag in
    let (names, e) = rw c.in-Enum.is at c.requires.kind in
    let there = rw c.in-Enum.is at c.requires.tag in
    let count = rw c.in-Enum.is at c.requires.count in
    rw c.in-Enum.is (core_on_ok c.enum_value.result (λ v. IsCase of_names (variant_cases s) tag [] v) (λ v. IsCaseRebuilt s tag vs v) (λ v h. enum_rebuilt s names tag vs v e there count h) c.enum_value.ensures.ok)

pub returns-in-Option-clause-ok : goal.returns-in-Option-clause-ok
returns-in-Option-clause-ok c =
    let s = shape_of c.args.types.now (ty.Option c.in-Option.field-0) in
    let cs = variant_cases s in
    let vs = c.args.values.items in
    let tag = c.args.tag in
    let (some, e) = rw c.in-Option.is at c.requires.kind in
    let there = rw c.in-Option.is at c.requires.tag in
    let count = rw c.in-Option.is at c.requires.count in
    let is = option_tag s some tag (length vs) e there count in
    rw c.in-Option.is (core_on_ok c.option_value.result (λ v. IsCase of_option cs (length vs) vs v) (λ v. IsCaseRebuilt s tag vs v)
    (λ v h. case_rebuilt s of_option tag vs v (as_cases s of_option _ e) there (subst (λ (d : ℕ). IsCase of_option cs d vs v) is h)) (c.option_value.ensures.ok cs (omega (arith, there, is))))

pub returns-in_default : goal.returns-in_default
returns-in_default c =
    let s = shape_of c.args.types.now c.args.ty.now in
    let cs = variant_cases s in
    let vs = c.args.values.items in
    let tag = c.args.tag in
    let (i, left) = result_left c.args.ty.now s c.requires.kind c.in_default.not-Variant c.in_default.not-Enum c.in_default.not-Option in
    let (ok, error, e) = subst (λ (x : InterfaceType). IsCaseKind x s) left c.requires.kind in
    let two = plan_result_cases s ok error e in
    record {
      ok = core_on_ok c.result_value.result (λ v. IsCase of_result cs tag vs v) (λ v. IsCaseRebuilt s tag vs v) (λ v h. case_rebuilt s of_result tag vs v (as_cases s of_result _ e) c.requires.tag h)
          (c.result_value.ensures.ok cs two (omega (arith, two, c.requires.tag)));
      resources = core_on_ok c.result_value.result (λ v. IsCase of_result cs tag vs v) (λ v. resources v ≡ all_resources vs) (λ v h. case_resources of_result cs tag vs v h)
          (c.result_value.ensures.ok cs two (omega (arith, two, c.requires.tag)));
      err = c.result_value.ensures.err;
    }

pub returns-in-Variant-clause-resources : goal.returns-in-Variant-clause-resources
returns-in-Variant-clause-resources c =
    let cs = variant_cases (shape_of c.args.types.now (ty.Variant c.in-Variant.i)) in
    let vs = c.args.values.items in
    core_on_ok c.variant_value.result (λ v. IsCase of_cases cs c.args.tag vs v) (λ v. resources v ≡ all_resources vs) (λ v h. case_resources of_cases cs c.args.tag vs v h) c.variant_value.ensures.ok

pub returns-in-Enum-clause-resources : goal.returns-in-Enum-clause-resources
returns-in-Enum-clause-resources c =
    let s = shape_of c.args.types.now (ty.Enum c.in-Enum.i) in
    let vs = c.args.values.items in
    let (names, e) = rw c.in-Enum.is at c.requires.kind in
    let count = rw c.in-Enum.is at c.requires.count in
    core_on_ok c.enum_value.result (λ v. IsCase of_names (variant_cases s) c.args.tag [] v) (λ v. resources v ≡ all_resources vs)
    (λ v h. case_resources of_names (variant_cases s) c.args.tag [] v h ∙ ap all_resources (enum_none s names c.args.tag vs e count)) c.enum_value.ensures.ok

pub returns-in-Option-clause-resources : goal.returns-in-Option-clause-resources
returns-in-Option-clause-resources c =
    let s = shape_of c.args.types.now (ty.Option c.in-Option.field-0) in
    let cs = variant_cases s in
    let vs = c.args.values.items in
    let (some, e) = rw c.in-Option.is at c.requires.kind in
    let there = rw c.in-Option.is at c.requires.tag in
    let count = rw c.in-Option.is at c.requires.count in
    let is = option_tag s some c.args.tag (length vs) e there count in
    core_on_ok c.option_value.result (λ v. IsCase of_option cs (length vs) vs v) (λ v. resources v ≡ all_resources vs) (λ v h. case_resources of_option cs (length vs) vs v h) (c.option_value.ensures.ok cs (omega (arith, there, is)))
