use Rattle.std.proofs.Common.{◌∙◌, ◌≡◌, List, ap, length}
use Rattle.canon_model.specs.Shape.{of_fields}
use Rattle.canon_types.specs.Depth.{element_shape, product_members}
use Rattle.canon_types.specs.Table.{shape_of}
use Rattle.canon_types.specs.declared.types.InterfaceType.TheVariants as ty
use Rattle.canon_value_parts.specs.Plan.{IsRebuilt}
use Rattle.canon_value_parts.specs.Elements.{by_turns}
use Rattle.canon_val.specs.Value.{IsPairs, IsProduct, member_names}
use Rattle.canon_val.specs.declared.val.Val.{Val}
use Rattle.canon_context.proofs.Told.{core_on_ok}
use Rattle.canon_value_parts.proofs.Planning.{fixed_rebuilt, list_rebuilt, map_even, map_rebuilt, record_count, record_rebuilt, tuple_rebuilt}
use Rattle.canon_plan.proofs.TypeKinds.{list_left}
use Rattle.canon_value_parts.proofs.ResourcesOf.{pair_resources, product_resources, resources_fixed, resources_list, resources_tuple}
use Rattle.canon_value_parts.specs.Resources.{all_resources, resources}
use Rattle.canon_value_parts.proofs.rebuilt.rebuild.Goals as goal

pub rebuild_record-requires-clause-count : goal.rebuild_record-requires-clause-count
rebuild_record-requires-clause-count c =
    let t = c.args.types.now in
    let kind = rw c.in-Record.is at c.requires.kind in
    let count = rw c.in-Record.is at c.requires.count in
    record_count (shape_of t (ty.Record c.in-Record.i)) (length c.args.values.items) kind count

pub returns-in-Record-clause-ok : goal.returns-in-Record-clause-ok
returns-in-Record-clause-ok c =
    let t = c.args.types.now in
    let s = shape_of t (ty.Record c.in-Record.i) in
    let vs = c.args.values.items in
    let kind = rw c.in-Record.is at c.requires.kind in
    rw c.in-Record.is (core_on_ok c.rebuild_record.result (λ v. IsProduct of_fields (member_names (product_members s)) vs v) (λ v. IsRebuilt s vs v) (λ v h. record_rebuilt s (product_members s) vs v kind h) c.rebuild_record.ensures.ok)

pub returns-in-Tuple-clause-ok : goal.returns-in-Tuple-clause-ok
returns-in-Tuple-clause-ok c =
    let s = shape_of c.args.types.now c.args.ty.now in
    let kind = rw c.in-Tuple.is at c.requires.kind in
    rw c.in-Tuple.is (tuple_rebuilt _ _ c.args.values kind.0 kind.1)

pub returns-in-FixedLengthList-clause-ok : goal.returns-in-FixedLengthList-clause-ok
returns-in-FixedLengthList-clause-ok c =
    let (n, part, e) = rw c.in-FixedLengthList.is at c.requires.kind in
    rw c.in-FixedLengthList.is (fixed_rebuilt _ part n c.args.values e)

pub rebuild_map-requires : goal.rebuild_map-requires
rebuild_map-requires c =
    let kind = rw c.in-Map.is at c.requires.kind in
    let count = rw c.in-Map.is at c.requires.count in
    record { even = map_even (shape_of c.args.types.now (ty.Map c.in-Map.field-0)) (length c.args.values.items) kind count }

pub returns-in-Map-clause-ok : goal.returns-in-Map-clause-ok
returns-in-Map-clause-ok c =
    let s = shape_of c.args.types.now (ty.Map c.in-Map.field-0) in
    let vs = c.args.values.items in
    let kind = rw c.in-Map.is at c.requires.kind in
    rw c.in-Map.is (core_on_ok c.rebuild_map.result (λ v. (ps : List (Val × Val)) × IsPairs ps v × (by_turns ps ≡ vs)) (λ v. IsRebuilt s vs v) (λ v h. map_rebuilt s vs v kind h) c.rebuild_map.ensures.ok)

pub returns-in_default : goal.returns-in_default
returns-in_default c =
    let s = shape_of c.args.types.now c.args.ty.now in
    record {
      ok = list_rebuilt s (element_shape s) c.args.values (list_left c.args.ty.now s c.requires.kind c.in_default.not-Record c.in_default.not-Tuple c.in_default.not-FixedLengthList c.in_default.not-Map);
      resources = resources_list c.args.values;
      err = tt;
    }

pub returns-in-Record-clause-resources : goal.returns-in-Record-clause-resources
returns-in-Record-clause-resources c =
    let s = shape_of c.args.types.now (ty.Record c.in-Record.i) in
    let vs = c.args.values.items in
    core_on_ok c.rebuild_record.result (λ v. IsProduct of_fields (member_names (product_members s)) vs v) (λ v. resources v ≡ all_resources vs)
    (λ v h. product_resources of_fields (member_names (product_members s)) vs v h) c.rebuild_record.ensures.ok

pub returns-in-Tuple-clause-resources : goal.returns-in-Tuple-clause-resources
returns-in-Tuple-clause-resources c = resources_tuple c.args.values

pub returns-in-FixedLengthList-clause-resources : goal.returns-in-FixedLengthList-clause-resources
returns-in-FixedLengthList-clause-resources c = resources_fixed c.args.values

pub returns-in-Map-clause-resources : goal.returns-in-Map-clause-resources
returns-in-Map-clause-resources c =
    let vs = c.args.values.items in
    core_on_ok c.rebuild_map.result (λ v. (ps : List (Val × Val)) × IsPairs ps v × (by_turns ps ≡ vs)) (λ v. resources v ≡ all_resources vs) (λ v (ps, is, e). pair_resources ps v is ∙ ap all_resources e) c.rebuild_map.ensures.ok
