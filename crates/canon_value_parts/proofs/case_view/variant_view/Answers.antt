use Rattle.std.proofs.Common.{◌≡◌, Option, String, arith, map, string_bytes, sym}
use Rattle.std.specs.declared.alloc.Global.{Global}
use Rattle.canon_model.specs.Shape.{variant_of}
use Rattle.canon_types.specs.Table.{all_shapes, cases_in, shape_of}
use Rattle.canon_types.specs.declared.types.InterfaceType.{InterfaceType}
use Rattle.canon_types.specs.declared.types.InterfaceType.TheVariants as ty
use Rattle.canon_value_parts.specs.Fails.{mismatch}
use Rattle.canon_value_parts.proofs.CaseViews.{name_few, variant_first, variant_info, variant_missed, variant_seen, variant_unknown}
use Rattle.canon_value_parts.proofs.Steps.{own_failure}
use Rattle.canon_value_parts.proofs.case_view.variant_view.Goals.{After-variant-variant}
use Rattle.canon_value_parts.proofs.case_view.variant_view.Goals as goal

shape : (c : After-variant-variant)
    → shape_of c.args.types.now (ty.Variant c.args.i) ≡ variant_of (cases_in (all_shapes c.args.types.now) (map (λ (x : String Global × Option InterfaceType). (string_bytes x.0, x.1)) c.variant-variant.result.now.cases.entries))
shape c = c.variant-variant.ensures.entry.shape

pub returns-in_default : goal.returns-in_default
returns-in_default c = own_failure mismatch _ _ c.args.value.now c.args.place (shape (goal.at.returns-in_default c).After-variant-variant) (λ n p e. c.in_default.not-Variant n p e)

pub returns-in_default-get_full : goal.returns-in_default-get_full
returns-in_default-get_full c =
    let x = c.variant-variant.result.now in
    let here = shape (goal.at.returns-in_default-get_full c).After-variant-variant in
    variant_unknown c.args.types.now _ c.args.value.now x.info x.cases.entries c.in-Variant.name c.in-Variant.payload c.as_str.result.now here c.variant-variant.ensures.info c.in-Variant.is
    c.as_str.ensures.value c.args.place (sym c.in_default-get_full.ensures.index)

pub overflow_cast-result : goal.overflow_cast-result
overflow_cast-result c =
    let x = c.variant-variant.result.now in
    let here = shape (goal.at.overflow_cast-result c).After-variant-variant in
    let first =
    variant_first c.args.types.now _ c.args.value.now x.info x.cases.entries c.in-Variant.name c.in-Variant.payload c.as_str.result.now here c.variant-variant.ensures.info c.in-Variant.is
    c.as_str.ensures.value c.in-Some.tag (sym c.in-Some.ensures.index) in
    omega (
      arith,
      name_few _ x.info _ c.in-Some.tag
          (variant_info c.args.types.now _ c.args.value.now x.info x.cases.entries c.in-Variant.name c.in-Variant.payload c.as_str.result.now here c.variant-variant.ensures.info c.in-Variant.is c.as_str.ensures.value) first,
    )

pub returns-in-Ok : goal.returns-in-Ok
returns-in-Ok c =
    let x = c.variant-variant.result.now in
    let here = shape (goal.at.returns-in-Ok c).After-variant-variant in
    variant_seen c.args.types.now _ c.args.value.now x.info x.cases.entries c.in-Variant.name c.in-Variant.payload c.as_str.result.now here c.variant-variant.ensures.info c.in-Variant.is c.as_str.ensures.value
    c.in-Some.tag c.in-Some.field-0-1.now c.in-Some.ty.now c.in-Some.ensures.entry (sym c.in-Some.ensures.index) c.in-Ok.payload c.variant-variant.ensures.entry.known c.in-Ok.ensures.ok

pub returns-in-Err : goal.returns-in-Err
returns-in-Err c =
    let x = c.variant-variant.result.now in
    let here = shape (goal.at.returns-in-Err c).After-variant-variant in
    variant_missed c.args.types.now _ c.args.value.now x.info x.cases.entries c.in-Variant.name c.in-Variant.payload c.as_str.result.now here c.variant-variant.ensures.info c.in-Variant.is c.as_str.ensures.value
    c.in-Some.tag c.in-Some.field-0-1.now c.in-Some.ty.now c.in-Some.ensures.entry (sym c.in-Some.ensures.index) c.args.place c.in-Err.fault c.in-Err.ensures.err
