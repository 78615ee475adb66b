use Rattle.std.proofs.Common.{◌≡◌, ◌<◌, ◌+◌, ◌-◌, ◌*◌, ◌^◌, IfErr, ap, arith, false, length, rules, subst, sym, ℕ}
use Rattle.canon_lowering.specs.Storing.{narrow}
use Rattle.canon_model.specs.Cost.{val_cost}
use Rattle.canon_model.specs.Layout.{size}
use Rattle.canon_model.specs.Reach.{MemberFault, StoredFault, reach_cost}
use Rattle.canon_model.specs.Shape.{Shape, member_count}
use Rattle.canon_types.specs.Depth.{depth}
use Rattle.canon_types.specs.Table.{shape_of}
use Rattle.canon_abi.specs.Options.{encoding_of}
use Rattle.canon_context.specs.Told.{Exactly, LiftBlames}
use Rattle.canon_value_parts.specs.Loads.{IsLoaded, charged_reach}
use Rattle.canon_value_parts.specs.Plan.{ArePartsLoaded, IsRebuilt}
use Rattle.canon_plan.specs.Plan.{shapes_of, members_from}
use Rattle.canon_plan.specs.Element.{list_shape}
use Rattle.canon_value_parts.proofs.LoadedBytes.{scalar_room}
use Rattle.canon_context.proofs.Told.{exhausted, handed_on, core_on_ok}
use Rattle.canon_value_parts.proofs.Loading.{loading_ends, next_aligned, next_fits, next_leaves, next_loaded, next_refused, next_room, scalar_refused}
use Rattle.canon_value_parts.proofs.Listing.{row}
use Rattle.canon_value_parts.proofs.LoadingParts.{parts_count, parts_refused, text_room, weighs, whole_loaded}
use Rattle.canon_plan.proofs.Lookups.{members_from-all}
use Rattle.canon_plan.proofs.ScalarTypes.{scalar_shape}
use Rattle.canon_value_parts.proofs.Viewing.{lies_depth, lies_room}
use Rattle.canon_value_parts.proofs.WalkLoops.{member_shallow}
use Rattle.canon_value_parts.proofs.Lifted.{value_taken}
use Rattle.canon_walks.proofs.load.+load.Goals.{load_value-In-Ok-load_parts}
use Rattle.canon_walks.proofs.load.+load.Goals as goal
use Rattle.canon_walks.proofs.load.+load.Answers.Handles as steps
mod Handles

-- ---- members

pub load_parts-next_field32_size-start-requires : goal.load_parts-next_field32_size-start-requires
load_parts-next_field32_size-start-requires t c =
    let few : length c.args.source.now.memory.now < 2 ^ 64 = search rules in
    record {
      fits = next_fits (encoding_of c.args.source.now.encoding) c.args.source.now.memory.now _ _ _ _ _ c.canonical_abi.result.now c.args.at c.loop-k.end _ _ _
          c.slot_of-member.ensures.shapes c.canonical_abi.ensures c.requires.inside c.loop-k.invariant.0 few;
    }

pub load_parts-overflow_add-at : goal.load_parts-overflow_add-at
load_parts-overflow_add-at t c =
    let few : length c.args.source.now.memory.now < 2 ^ 64 = search rules in
    let is = c.slot_of-member.ensures in
    let named : c.loop-k.fuel ≡ c.charge.new.fuel + length is.name = omega (arith, c.in_ok-charge.ensures, is.name_is) in
    record {
      fits = omega (
        arith,
        few,
        next_room (encoding_of c.args.source.now.encoding) c.args.source.now.memory.now _ _ _ _ _ c.canonical_abi.result.now c.args.at c.loop-k.end _ _ _ is.shapes c.canonical_abi.ensures c.requires.inside c.loop-k.invariant.0
            c.next_field32_size-start.result c.charge.new.fuel c.next_field32_size-start.ensures.start named,
      );
    }

pub load_parts-load_value-requires : goal.load_parts-load_value-requires
load_parts-load_value-requires t c =
    let enc = encoding_of c.args.source.now.encoding in
    let bytes = c.args.source.now.memory.now in
    let is = c.slot_of-member.ensures in
    let named : c.loop-k.fuel ≡ c.charge.new.fuel + length is.name = omega (arith, c.in_ok-charge.ensures, is.name_is) in
    let deep = member_shallow (shapes_of c.args.source.now.types.now c.args.members.now) c.loop-k.k is.name (shape_of c.args.source.now.types.now c.slot_of-member.result.ty) _ is.shapes in (
      omega (arith, deep),
      (
        c.requires.one_origin,
        (
          is.known,
          (
            next_aligned enc bytes _ _ _ _ _ c.canonical_abi.result.now c.args.at c.loop-k.end _ _ _ is.shapes c.canonical_abi.ensures c.requires.inside c.loop-k.invariant.0
                c.next_field32_size-start.result c.charge.new.fuel c.next_field32_size-start.ensures.start named,
            next_room enc bytes _ _ _ _ _ c.canonical_abi.result.now c.args.at c.loop-k.end _ _ _ is.shapes c.canonical_abi.ensures c.requires.inside c.loop-k.invariant.0 c.next_field32_size-start.result
                c.charge.new.fuel c.next_field32_size-start.ensures.start named,
          ),
        ),
      ),
    )

pub load_parts-returns-in_err-value-clause-err : goal.load_parts-returns-in_err-value-clause-err
load_parts-returns-in_err-value-clause-err t c =
    let enc = encoding_of c.args.source.now.encoding in
    let bytes = c.args.source.now.memory.now in
    let ms = shapes_of c.args.source.now.types.now c.args.members.now in
    let is = c.slot_of-member.ensures in
    let named : c.loop-k.fuel ≡ c.charge.new.fuel + length is.name = omega (arith, c.in_ok-charge.ensures, is.name_is) in
    handed_on c.from_residual-in_err-value.result c.in_err-value.field-0.0
    (LiftBlames (Exactly (MemberFault enc (narrow bytes) ms 0 c.args.at)) (c.args.fuel.now < charged_reach enc (narrow bytes) ms 0 c.args.at)) c.from_residual-in_err-value.ensures
    (next_refused enc bytes _ _ _ _ _ c.canonical_abi.result.now c.args.at c.loop-k.end _ _ _ is.shapes c.canonical_abi.ensures c.requires.inside c.loop-k.invariant.0
    c.next_field32_size-start.result c.charge.new.fuel c.next_field32_size-start.ensures.start named
    c.in_err-value.field-0.0 c.in_err-value.ensures.err)

pub load_parts-loop-k-preserved : goal.load_parts-loop-k-preserved
load_parts-loop-k-preserved t c =
    let is = c.slot_of-member.ensures in
    let named : c.loop-k.fuel ≡ c.charge.new.fuel + length is.name = omega (arith, c.in_ok-charge.ensures, is.name_is) in
    let enc = encoding_of c.args.source.now.encoding in
    let bytes = c.args.source.now.memory.now in
    rw c.in_ok-keep.ensures.ok (
      next_loaded enc bytes _ _ _ _ _ c.canonical_abi.result.now c.args.at c.loop-k.end _ _ _ is.shapes
          c.canonical_abi.ensures c.requires.inside c.loop-k.invariant.0
          c.next_field32_size-start.result c.charge.new.fuel c.next_field32_size-start.ensures.start named c.load_value.new.fuel c.next_field32_size-start.new.offset c.in_ok-value.value
          c.next_field32_size-start.ensures.end c.in_ok-value.ensures.ok,
      value_taken c.args.source.now.instance.now c.args.ledger.now c.loop-k.ledger c.load_value.new.ledger _ _ _ _ c.loop-k.values.items c.in_ok-value.value c.loop-k.invariant.1
          (next_leaves enc bytes _ _ _ _ _ c.canonical_abi.result.now c.args.at c.loop-k.end _ _ _ is.shapes c.canonical_abi.ensures c.requires.inside c.loop-k.invariant.0
          c.next_field32_size-start.result c.next_field32_size-start.new.offset c.next_field32_size-start.ensures.start c.next_field32_size-start.ensures.end)
          c.in_ok-value.ensures.handles,
    )

pub load_parts-returns-clause-ok : goal.load_parts-returns-clause-ok
load_parts-returns-clause-ok t c =
    let ms = shapes_of c.args.source.now.types.now c.args.members.now in
    let over : c.loop-k.k ≡ member_count ms = omega (arith, c.loop-k-test.false, c.loop-k.auto.k-end, c.slot_count-count.ensures) in
    loading_ends (encoding_of c.args.source.now.encoding) c.args.source.now.memory.now ms (members_from c.loop-k.k ms) c.args.at c.loop-k.end c.args.fuel.now c.loop-k.fuel c.loop-k.values.items
    (members_from-all ms c.loop-k.k over) c.loop-k.invariant.0

pub load_parts-returns-in_err-values-clause-handles : goal.load_parts-returns-in_err-values-clause-handles
load_parts-returns-in_err-values-clause-handles = steps.load_parts-returns-in_err-values-clause-handles

pub load_parts-returns-in_err-charge-clause-handles : goal.load_parts-returns-in_err-charge-clause-handles
load_parts-returns-in_err-charge-clause-handles = steps.load_parts-returns-in_err-charge-clause-handles

pub load_parts-returns-in_err-value-clause-handles : goal.load_parts-returns-in_err-value-clause-handles
load_parts-returns-in_err-value-clause-handles = steps.load_parts-returns-in_err-value-clause-handles

pub load_parts-returns-in_err-keep-clause-handles : goal.load_parts-returns-in_err-keep-clause-handles
load_parts-returns-in_err-keep-clause-handles = steps.load_parts-returns-in_err-keep-clause-handles

pub load_parts-returns-clause-handles : goal.load_parts-returns-clause-handles
load_parts-returns-clause-handles = steps.load_parts-returns-clause-handles

-- ---- elements of a list

pub load_items-load_parts-requires : goal.load_items-load_parts-requires
load_items-load_parts-requires = steps.load_items-load_parts-requires

pub load_items-returns-clause-ok : goal.load_items-returns-clause-ok
load_items-returns-clause-ok = steps.load_items-returns-clause-ok

pub load_items-returns-clause-err : goal.load_items-returns-clause-err
load_items-returns-clause-err = steps.load_items-returns-clause-err

pub load_items-returns-then-not-ends_inside-clause-handles : goal.load_items-returns-then-not-ends_inside-clause-handles
load_items-returns-then-not-ends_inside-clause-handles = steps.load_items-returns-then-not-ends_inside-clause-handles

pub load_items-returns-in_err-charge_each-clause-handles : goal.load_items-returns-in_err-charge_each-clause-handles
load_items-returns-in_err-charge_each-clause-handles = steps.load_items-returns-in_err-charge_each-clause-handles

pub load_items-returns-then-pointer-from-ne0-clause-handles : goal.load_items-returns-then-pointer-from-ne0-clause-handles
load_items-returns-then-pointer-from-ne0-clause-handles = steps.load_items-returns-then-pointer-from-ne0-clause-handles

pub load_items-returns-clause-handles : goal.load_items-returns-clause-handles
load_items-returns-clause-handles = steps.load_items-returns-clause-handles

pub load_list-returns-clause-handles : goal.load_list-returns-clause-handles
load_list-returns-clause-handles = steps.load_list-returns-clause-handles

pub load_list-returns-clause-ok : goal.load_list-returns-clause-ok
load_list-returns-clause-ok = steps.load_list-returns-clause-ok

pub load_list-returns-clause-err : goal.load_list-returns-clause-err
load_list-returns-clause-err = steps.load_list-returns-clause-err

-- ---- values

pub load_value-load_scalar-requires-clause-inside : goal.load_value-load_scalar-requires-clause-inside
load_value-load_scalar-requires-clause-inside t c = λ k e. scalar_room c.args.source.now.memory.now _ k c.args.at (scalar_shape c.args.source.now.types.now c.args.ty.now k e) c.requires.inside

pub load_value-returns-in-Scalar-clause-err : goal.load_value-returns-in-Scalar-clause-err
load_value-returns-in-Scalar-clause-err t c =
    let enc = encoding_of c.args.source.now.encoding in
    let bytes = c.args.source.now.memory.now in
    let (k, e) = c.in-Scalar.ensures in
    subst (λ (s : Shape). IfErr c.load_scalar.result (LiftBlames (Exactly (StoredFault enc (narrow bytes) s c.args.at)) (c.args.fuel.now < reach_cost enc (narrow bytes) s c.args.at)))
    (sym (scalar_shape c.args.source.now.types.now c.args.ty.now k e))
    (scalar_refused enc bytes k c.args.at c.args.fuel.now c.load_scalar.result (c.load_scalar.ensures.err k enc e))

pub load_value-load_string-requires : goal.load_value-load_string-requires
load_value-load_string-requires t c = record { inside = text_room c.args.source.now.memory.now (shape_of c.args.source.now.types.now c.args.ty.now) c.args.at c.in-Text.ensures c.requires.inside }

pub load_value-load_list-requires : goal.load_value-load_list-requires
load_value-load_list-requires t c =
    let t0 = c.args.source.now.types.now in
    let (known, e, kind) = c.in-List.ensures in
    let r = row t0 c.in-List.element known 0 in
    let falls : 4 * depth (list_shape t0 c.in-List.element) - 1 < 4 * depth (shape_of t0 c.args.ty.now) = omega (arith, r.shallow, ap depth e) in
    (omega (arith, falls), (c.requires.one_origin, (known, omega (arith, c.requires.inside, ap (size false) e, r.place))))

pub load_value-rebuild-requires-clause-count : goal.load_value-rebuild-requires-clause-count
load_value-rebuild-requires-clause-count t c =
    let enc = encoding_of c.args.source.now.encoding in
    let bytes = c.args.source.now.memory.now in
    let s = shape_of c.args.source.now.types.now c.args.ty.now in
    let (known, e, kind) = c.in-List.ensures in
    let vs = c.in-Ok.items.items in
    parts_count enc bytes s c.args.at c.args.fuel.now c.load_list.new.fuel vs (subst (λ (x : Shape). ArePartsLoaded enc (narrow bytes) x c.args.at c.args.fuel.now c.load_list.new.fuel vs) (sym e) c.in-Ok.ensures.ok)

pub load_value-returns-in-Ok-clause-ok : goal.load_value-returns-in-Ok-clause-ok
load_value-returns-in-Ok-clause-ok t c =
    let enc = encoding_of c.args.source.now.encoding in
    let bytes = c.args.source.now.memory.now in
    let s = shape_of c.args.source.now.types.now c.args.ty.now in
    let (known, e, kind) = c.in-List.ensures in
    let vs = c.in-Ok.items.items in
    let loaded = subst (λ (x : Shape). ArePartsLoaded enc (narrow bytes) x c.args.at c.args.fuel.now c.load_list.new.fuel vs) (sym e) c.in-Ok.ensures.ok in
    core_on_ok c.rebuild.result (IsRebuilt s vs) (IsLoaded enc (narrow bytes) s c.args.at c.args.fuel.now c.load_list.new.fuel)
    (λ v made. whole_loaded enc bytes s c.args.at c.args.fuel.now c.load_list.new.fuel vs v loaded made) c.rebuild.ensures.ok

pub load_value-returns-in_err-charge_each-in-Members-clause-err : goal.load_value-returns-in_err-charge_each-in-Members-clause-err
load_value-returns-in_err-charge_each-in-Members-clause-err t c =
    let enc = encoding_of c.args.source.now.encoding in
    let bytes = c.args.source.now.memory.now in
    let s = shape_of c.args.source.now.types.now c.args.ty.now in
    let (known, lies, kind, unnamed) = c.in-Members.ensures in
    let w = weighs enc bytes s (shapes_of c.args.source.now.types.now c.in-Members.members) c.args.at lies unnamed in
    exhausted c.from_residual.result c.in_err-charge_each-in-Members.field-0.0 (Exactly (StoredFault enc (narrow bytes) s c.args.at))
    (c.args.fuel.now < reach_cost enc (narrow bytes) s c.args.at) c.from_residual.ensures c.in_err-charge_each-in-Members.ensures.0
    (w.low c.args.fuel.now (omega (arith, c.in_err-charge_each-in-Members.ensures, c.slot_count.ensures)))

pub load_value-load_parts-requires : goal.load_value-load_parts-requires
load_value-load_parts-requires t c =
    let enc = encoding_of c.args.source.now.encoding in
    let bytes = c.args.source.now.memory.now in
    let s = shape_of c.args.source.now.types.now c.args.ty.now in
    let (known, lies, kind, unnamed) = c.in-Members.ensures in
    let these = shapes_of c.args.source.now.types.now c.in-Members.members in
    let w = weighs enc bytes s these c.args.at lies unnamed in
    (omega (arith, lies_depth s these lies), (c.requires.one_origin, (known, (w.aligned c.requires.aligned, omega (arith, lies_room s these lies, c.requires.inside)))))

-- the members that were loaded
parts_loaded : (t : ℕ) (c : load_value-In-Ok-load_parts t)
    → ArePartsLoaded (encoding_of c.args.source.now.encoding) (narrow c.args.source.now.memory.now) (shape_of c.args.source.now.types.now c.args.ty.now) c.args.at c.args.fuel.now c.load_parts.new.fuel
    c.in-Ok-load_parts.values.items
parts_loaded t c =
    let (known, lies, kind, unnamed) = c.in-Members.ensures in
    let these = shapes_of c.args.source.now.types.now c.in-Members.members in
    let w = weighs (encoding_of c.args.source.now.encoding) c.args.source.now.memory.now (shape_of c.args.source.now.types.now c.args.ty.now) these c.args.at lies unnamed in
    let charged : c.args.fuel.now ≡ c.charge_each.new.fuel + member_count these * val_cost = omega (arith, c.in_ok-charge_each-in-Members.ensures, c.slot_count.ensures) in
    w.loaded c.requires.inside c.args.fuel.now c.charge_each.new.fuel c.load_parts.new.fuel c.in-Ok-load_parts.values.items charged c.in-Ok-load_parts.ensures.ok

pub load_value-rebuild-requires-in-Ok-load_parts-clause-count : goal.load_value-rebuild-requires-in-Ok-load_parts-clause-count
load_value-rebuild-requires-in-Ok-load_parts-clause-count t c =
    parts_count (encoding_of c.args.source.now.encoding) c.args.source.now.memory.now _ c.args.at c.args.fuel.now c.load_parts.new.fuel c.in-Ok-load_parts.values.items
    (parts_loaded t (goal.at.load_value-rebuild-requires-in-Ok-load_parts-clause-count t c).In-Ok-load_parts)

pub load_value-returns-in-Ok-load_parts-clause-ok : goal.load_value-returns-in-Ok-load_parts-clause-ok
load_value-returns-in-Ok-load_parts-clause-ok t c =
    let enc = encoding_of c.args.source.now.encoding in
    let bytes = c.args.source.now.memory.now in
    let s = shape_of c.args.source.now.types.now c.args.ty.now in
    let vs = c.in-Ok-load_parts.values.items in
    let loaded = parts_loaded t (goal.at.load_value-returns-in-Ok-load_parts-clause-ok t c).In-Ok-load_parts in
    core_on_ok c.rebuild-in-Ok-load_parts.result (IsRebuilt s vs) (IsLoaded enc (narrow bytes) s c.args.at c.args.fuel.now c.load_parts.new.fuel)
    (λ v made. whole_loaded enc bytes s c.args.at c.args.fuel.now c.load_parts.new.fuel vs v loaded made) c.rebuild-in-Ok-load_parts.ensures.ok

pub load_value-returns-in-Err-load_parts-clause-err : goal.load_value-returns-in-Err-load_parts-clause-err
load_value-returns-in-Err-load_parts-clause-err t c =
    let enc = encoding_of c.args.source.now.encoding in
    let bytes = c.args.source.now.memory.now in
    let s = shape_of c.args.source.now.types.now c.args.ty.now in
    let (known, lies, kind, unnamed) = c.in-Members.ensures in
    let these = shapes_of c.args.source.now.types.now c.in-Members.members in
    let w = weighs enc bytes s these c.args.at lies unnamed in
    let charged : c.args.fuel.now ≡ c.charge_each.new.fuel + member_count these * val_cost = omega (arith, c.in_ok-charge_each-in-Members.ensures, c.slot_count.ensures) in
    parts_refused enc bytes s these c.args.at c.args.fuel.now c.charge_each.new.fuel w charged c.in-Err-load_parts.fault c.in-Err-load_parts.ensures.err

-- ---- handles

pub load_value-load_handle-requires : goal.load_value-load_handle-requires
load_value-load_handle-requires = steps.load_value-load_handle-requires

pub load_value-returns-in-Handle-clause-ok : goal.load_value-returns-in-Handle-clause-ok
load_value-returns-in-Handle-clause-ok = steps.load_value-returns-in-Handle-clause-ok

pub load_value-returns-in-Handle-clause-err : goal.load_value-returns-in-Handle-clause-err
load_value-returns-in-Handle-clause-err = steps.load_value-returns-in-Handle-clause-err

pub load_value-returns-in-Handle-clause-scalar : goal.load_value-returns-in-Handle-clause-scalar
load_value-returns-in-Handle-clause-scalar = steps.load_value-returns-in-Handle-clause-scalar

pub load_value-returns-in-Handle-clause-handles : goal.load_value-returns-in-Handle-clause-handles
load_value-returns-in-Handle-clause-handles = steps.load_value-returns-in-Handle-clause-handles

pub load_value-returns-in-Scalar-clause-handles : goal.load_value-returns-in-Scalar-clause-handles
load_value-returns-in-Scalar-clause-handles = steps.load_value-returns-in-Scalar-clause-handles

pub load_value-returns-in-Text-clause-handles : goal.load_value-returns-in-Text-clause-handles
load_value-returns-in-Text-clause-handles = steps.load_value-returns-in-Text-clause-handles

pub load_value-returns-in-Flags-clause-handles : goal.load_value-returns-in-Flags-clause-handles
load_value-returns-in-Flags-clause-handles = steps.load_value-returns-in-Flags-clause-handles

pub load_value-returns-in-Ok-clause-handles : goal.load_value-returns-in-Ok-clause-handles
load_value-returns-in-Ok-clause-handles = steps.load_value-returns-in-Ok-clause-handles

pub load_value-returns-in-Err-clause-handles : goal.load_value-returns-in-Err-clause-handles
load_value-returns-in-Err-clause-handles = steps.load_value-returns-in-Err-clause-handles

pub load_value-returns-in_err-charge_each-in-Members-clause-handles : goal.load_value-returns-in_err-charge_each-in-Members-clause-handles
load_value-returns-in_err-charge_each-in-Members-clause-handles = steps.load_value-returns-in_err-charge_each-in-Members-clause-handles

pub load_value-returns-in-Ok-load_parts-clause-handles : goal.load_value-returns-in-Ok-load_parts-clause-handles
load_value-returns-in-Ok-load_parts-clause-handles = steps.load_value-returns-in-Ok-load_parts-clause-handles

pub load_value-returns-in-Err-load_parts-clause-handles : goal.load_value-returns-in-Err-load_parts-clause-handles
load_value-returns-in-Err-load_parts-clause-handles = steps.load_value-returns-in-Err-load_parts-clause-handles

-- ---- cases

pub load_case-load_tag-tag-requires : goal.load_case-load_tag-tag-requires
load_case-load_tag-tag-requires = steps.load_case-load_tag-tag-requires

pub load_case-returns-in_err-charge_each-clause-err : goal.load_case-returns-in_err-charge_each-clause-err
load_case-returns-in_err-charge_each-clause-err = steps.load_case-returns-in_err-charge_each-clause-err

pub load_case-load_parts-requires : goal.load_case-load_parts-requires
load_case-load_parts-requires = steps.load_case-load_parts-requires

pub load_case-returns-in_err-charge-in-Ok-clause-err : goal.load_case-returns-in_err-charge-in-Ok-clause-err
load_case-returns-in_err-charge-in-Ok-clause-err = steps.load_case-returns-in_err-charge-in-Ok-clause-err

pub load_case-rebuild_case-requires-clause-count : goal.load_case-rebuild_case-requires-clause-count
load_case-rebuild_case-requires-clause-count = steps.load_case-rebuild_case-requires-clause-count

pub load_case-returns-in_ok-charge-in-Ok-clause-ok : goal.load_case-returns-in_ok-charge-in-Ok-clause-ok
load_case-returns-in_ok-charge-in-Ok-clause-ok = steps.load_case-returns-in_ok-charge-in-Ok-clause-ok

pub load_case-returns-in-Err-clause-err : goal.load_case-returns-in-Err-clause-err
load_case-returns-in-Err-clause-err = steps.load_case-returns-in-Err-clause-err

pub load_case-returns-in_default-clause-handles : goal.load_case-returns-in_default-clause-handles
load_case-returns-in_default-clause-handles = steps.load_case-returns-in_default-clause-handles

pub load_case-returns-in_err-charge_each-clause-handles : goal.load_case-returns-in_err-charge_each-clause-handles
load_case-returns-in_err-charge_each-clause-handles = steps.load_case-returns-in_err-charge_each-clause-handles

pub load_case-returns-in_err-charge-in-Ok-clause-handles : goal.load_case-returns-in_err-charge-in-Ok-clause-handles
load_case-returns-in_err-charge-in-Ok-clause-handles = steps.load_case-returns-in_err-charge-in-Ok-clause-handles

pub load_case-returns-in_ok-charge-in-Ok-clause-handles : goal.load_case-returns-in_ok-charge-in-Ok-clause-handles
load_case-returns-in_ok-charge-in-Ok-clause-handles = steps.load_case-returns-in_ok-charge-in-Ok-clause-handles

pub load_case-returns-in-Err-clause-handles : goal.load_case-returns-in-Err-clause-handles
load_case-returns-in-Err-clause-handles = steps.load_case-returns-in-Err-clause-handles
