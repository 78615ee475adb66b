use Rattle.std.proofs.Common.{Err, ap, arith, length, subst, sym, ◌*◌, ◌+◌, ◌<◌, ◌∙◌, ◌≡◌}
use Rattle.std.specs.Prelude.{slice_index}
use Rattle.canon_model.specs.Memory.{low}
use Rattle.canon_model.specs.Reach.{word}
use Rattle.canon_lowering.specs.Storing.{narrow}
use Rattle.canon_model.specs.Cost.{val_cost}
use Rattle.canon_model.specs.Shape.{Shape, member_count}
use Rattle.canon_types.specs.Table.{shape_of}
use Rattle.canon_abi.specs.Options.{encoding_of}
use Rattle.canon_value_parts.specs.Lifts.{ArePartsLifted, LiftsTo, PartsLiftTo}
use Rattle.canon_plan.specs.CasePlan.{name_charge}
use Rattle.canon_plan.specs.Plan.{shapes_of, members_from}
use Rattle.canon_context.proofs.Told.{handed_to}
use Rattle.canon_value_parts.proofs.LiftLoops.{lift_name_unpaid, lift_part_fits, lift_part_leaves, lift_part_refused, lift_parts_end, lift_parts_go_on}
use Rattle.canon_value_parts.proofs.LiftCases.{case_weighs_words, flat_case_missing, variant_word}
use Rattle.canon_value_parts.proofs.LiftSteps.{text_words, word_found}
use Rattle.canon_value_parts.proofs.LoadCases.{none_past}
use Rattle.canon_model.specs.Layout.{flat}
use Rattle.canon_value_parts.proofs.Listing.{row}
use Rattle.canon_value_parts.proofs.LiftingParts.{lifted_count, parts_told, weighs_words, whole_lifted}
use Rattle.canon_plan.proofs.ScalarTypes.{scalar_flat, scalar_known}
use Rattle.canon_plan.proofs.Lookups.{members_from-all}
use Rattle.canon_value_parts.proofs.Viewing.{lies_depth}
use Rattle.canon_value_parts.proofs.WalkLoops.{member_shallow}
use Rattle.canon_value_parts.proofs.Lifted.{value_taken}
use Rattle.canon_walks.proofs.lift.+lift.Goals as goal
use Rattle.canon_walks.proofs.lift.+lift.Answers.Handles as steps
mod Handles

-- ---- members

pub lift_parts-lift_value-requires : goal.lift_parts-lift_value-requires
lift_parts-lift_value-requires t c =
    let a = c.args in
    let s = a.source.now in
    let ms = shapes_of s.types.now a.members.now in
    let is = c.slot_of-member.ensures in
    let fits = lift_part_fits (encoding_of s.encoding) (narrow s.memory.now) a.src.now ms a.at.now a.fuel.now (members_from c.loop-k.k ms) c.loop-k.at c.loop-k.fuel c.loop-k.values.items c.loop-k.invariant.0 is.name _ _ is.shapes in
    (omega (arith, member_shallow ms c.loop-k.k is.name _ _ is.shapes), (c.requires.one_origin, (is.known, fits)))

pub lift_parts-returns-in_err-value-clause-lifts : goal.lift_parts-returns-in_err-value-clause-lifts
lift_parts-returns-in_err-value-clause-lifts t c =
    let a = c.args in
    let s = a.source.now in
    let enc = encoding_of s.encoding in
    let m = narrow s.memory.now in
    let ms = shapes_of s.types.now a.members.now in
    let is = c.slot_of-member.ensures in
    handed_to (PartsLiftTo enc m a.src.now a.at.now c.lift_value.new.at a.fuel.now c.lift_value.new.fuel ms) c.from_residual-in_err-value.result c.in_err-value.field-0.0 c.from_residual-in_err-value.ensures
    (lift_part_refused enc m a.src.now ms a.at.now a.fuel.now (members_from c.loop-k.k ms) c.loop-k.at c.loop-k.fuel c.loop-k.values.items c.loop-k.invariant.0 is.name _ _ is.shapes c.in_err-value.field-0.0 c.in_err-value.ensures.lifts)

pub lift_parts-returns-in_err-charge-clause-lifts : goal.lift_parts-returns-in_err-charge-clause-lifts
lift_parts-returns-in_err-charge-clause-lifts t c =
    let a = c.args in
    let s = a.source.now in
    let enc = encoding_of s.encoding in
    let m = narrow s.memory.now in
    let ms = shapes_of s.types.now a.members.now in
    let is = c.slot_of-member.ensures in
    let low : c.lift_value.new.fuel < length is.name = omega (arith, c.in_err-charge.ensures.1, is.name_is) in
    let blamed =
    lift_name_unpaid enc m a.src.now ms a.at.now a.fuel.now (members_from c.loop-k.k ms) c.loop-k.at c.loop-k.fuel c.loop-k.values.items c.loop-k.invariant.0 is.name _ _ is.shapes
    c.lift_value.new.at c.lift_value.new.fuel c.in_ok-value.value c.in_ok-value.ensures.lifts low in
    handed_to (PartsLiftTo enc m a.src.now a.at.now c.lift_value.new.at a.fuel.now c.charge.new.fuel ms) c.from_residual-in_err-charge.result c.in_err-charge.field-0.0 c.from_residual-in_err-charge.ensures
    (subst (λ e. PartsLiftTo enc m a.src.now a.at.now a.at.now a.fuel.now a.fuel.now ms (Err e)) (sym c.in_err-charge.ensures.0) blamed)

pub lift_parts-loop-k-preserved : goal.lift_parts-loop-k-preserved
lift_parts-loop-k-preserved t c =
    let a = c.args in
    let s = a.source.now in
    let ms = shapes_of s.types.now a.members.now in
    let is = c.slot_of-member.ensures in
    let charged : c.lift_value.new.fuel ≡ c.charge.new.fuel + length is.name = omega (arith, c.in_ok-charge.ensures, is.name_is) in
    rw c.in_ok-keep.ensures.ok (
      lift_parts_go_on (encoding_of s.encoding) (narrow s.memory.now) a.src.now ms a.at.now a.fuel.now (members_from c.loop-k.k ms) c.loop-k.at c.loop-k.fuel
          c.loop-k.values.items c.loop-k.invariant.0 is.name _ _ is.shapes
          c.lift_value.new.at c.lift_value.new.fuel c.in_ok-value.value c.in_ok-value.ensures.lifts c.charge.new.fuel charged,
      omega (arith, c.loop-k.invariant.1, c.in_ok-value.ensures.falls, charged),
      value_taken s.instance.now a.ledger.now c.loop-k.ledger c.lift_value.new.ledger _ _ _ _ c.loop-k.values.items c.in_ok-value.value c.loop-k.invariant.2
          (lift_part_leaves (encoding_of s.encoding) (narrow s.memory.now) a.src.now ms a.at.now a.fuel.now (members_from c.loop-k.k ms) c.loop-k.at c.loop-k.fuel c.loop-k.values.items c.loop-k.invariant.0 is.name _ _ is.shapes c.lift_value.new.at c.in_ok-value.ensures.lifts.1)
          c.in_ok-value.ensures.handles,
    )

pub lift_parts-returns-clause-lifts : goal.lift_parts-returns-clause-lifts
lift_parts-returns-clause-lifts t c =
    let a = c.args in
    let s = a.source.now in
    let ms = shapes_of s.types.now a.members.now in
    let over : c.loop-k.k ≡ member_count ms = omega (arith, c.loop-k-test.false, c.loop-k.auto.k-end, c.slot_count-count.ensures) in
    lift_parts_end (encoding_of s.encoding) (narrow s.memory.now) a.src.now ms a.at.now a.fuel.now (members_from c.loop-k.k ms) c.loop-k.at c.loop-k.fuel c.loop-k.values.items c.loop-k.invariant.0 (members_from-all ms c.loop-k.k over)

pub lift_parts-returns-in_err-values-clause-handles : goal.lift_parts-returns-in_err-values-clause-handles
lift_parts-returns-in_err-values-clause-handles = steps.lift_parts-returns-in_err-values-clause-handles

pub lift_parts-returns-in_err-value-clause-handles : goal.lift_parts-returns-in_err-value-clause-handles
lift_parts-returns-in_err-value-clause-handles = steps.lift_parts-returns-in_err-value-clause-handles

pub lift_parts-returns-in_err-charge-clause-handles : goal.lift_parts-returns-in_err-charge-clause-handles
lift_parts-returns-in_err-charge-clause-handles = steps.lift_parts-returns-in_err-charge-clause-handles

pub lift_parts-returns-in_err-keep-clause-handles : goal.lift_parts-returns-in_err-keep-clause-handles
lift_parts-returns-in_err-keep-clause-handles = steps.lift_parts-returns-in_err-keep-clause-handles

pub lift_parts-returns-clause-handles : goal.lift_parts-returns-clause-handles
lift_parts-returns-clause-handles = steps.lift_parts-returns-clause-handles

-- ---- values

pub lift_value-lift_scalar-requires-clause-room : goal.lift_value-lift_scalar-requires-clause-room
lift_value-lift_scalar-requires-clause-room t c = omega (arith, c.requires.room, scalar_flat c.args.source.now.types.now c.args.ty.now c.in-Scalar.ensures)

pub lift_value-returns-in-Scalar-clause-lifts : goal.lift_value-returns-in-Scalar-clause-lifts
lift_value-returns-in-Scalar-clause-lifts t c =
    let a = c.args in
    let s = a.source.now in
    let enc = encoding_of s.encoding in
    let m = narrow s.memory.now in
    subst (λ (x : Shape). LiftsTo enc m a.src.now a.at.now c.lift_scalar.new.at a.fuel.now a.fuel.now x c.lift_scalar.result) (scalar_known s.types.now a.ty.now c.in-Scalar.ensures) (c.lift_scalar.ensures.lifts enc m a.fuel.now)

pub lift_value-lift_string-requires : goal.lift_value-lift_string-requires
lift_value-lift_string-requires t c = record { room = omega (arith, c.requires.room, text_words (shape_of c.args.source.now.types.now c.args.ty.now) c.in-Text.ensures) }

pub lift_value-lift_list-requires-clause-room : goal.lift_value-lift_list-requires-clause-room
lift_value-lift_list-requires-clause-room t c =
    let (known, e, kind) = c.in-List.ensures in
    omega (arith, c.requires.room, ap flat e, (row c.args.source.now.types.now c.in-List.element known 0).words)

pub lift_value-rebuild-requires-clause-count : goal.lift_value-rebuild-requires-clause-count
lift_value-rebuild-requires-clause-count t c =
    let a = c.args in
    let enc = encoding_of a.source.now.encoding in
    let m = narrow a.source.now.memory.now in
    let (known, e, kind) = c.in-List.ensures in
    let vs = c.in-Ok.items.items in
    lifted_count enc m a.src.now (shape_of a.source.now.types.now a.ty.now) a.at.now c.lift_list.new.at a.fuel.now c.lift_list.new.fuel vs
    (subst (λ (x : Shape). ArePartsLifted enc m a.src.now a.at.now c.lift_list.new.at a.fuel.now c.lift_list.new.fuel x vs) (sym e) c.in-Ok.ensures.ok)

pub lift_value-returns-in-Ok-clause-lifts : goal.lift_value-returns-in-Ok-clause-lifts
lift_value-returns-in-Ok-clause-lifts t c =
    let a = c.args in
    let enc = encoding_of a.source.now.encoding in
    let m = narrow a.source.now.memory.now in
    let (known, e, kind) = c.in-List.ensures in
    let vs = c.in-Ok.items.items in
    whole_lifted enc m a.src.now (shape_of a.source.now.types.now a.ty.now) a.at.now c.lift_list.new.at a.fuel.now c.lift_list.new.fuel vs c.rebuild.result
    (subst (λ (x : Shape). ArePartsLifted enc m a.src.now a.at.now c.lift_list.new.at a.fuel.now c.lift_list.new.fuel x vs) (sym e) c.in-Ok.ensures.ok) c.rebuild.ensures.ok c.rebuild.ensures.err

pub lift_value-returns-in_err-charge_each-in-Members-clause-lifts : goal.lift_value-returns-in_err-charge_each-in-Members-clause-lifts
lift_value-returns-in_err-charge_each-in-Members-clause-lifts t c =
    let a = c.args in
    let enc = encoding_of a.source.now.encoding in
    let m = narrow a.source.now.memory.now in
    let s = shape_of a.source.now.types.now a.ty.now in
    let (known, lies, kind, unnamed) = c.in-Members.ensures in
    let w = weighs_words enc m a.src.now s (shapes_of a.source.now.types.now c.in-Members.members) a.at.now lies unnamed in
    handed_to (LiftsTo enc m a.src.now a.at.now a.at.now a.fuel.now c.charge_each.new.fuel s) c.from_residual.result c.in_err-charge_each-in-Members.field-0.0 c.from_residual.ensures
    (subst (λ e. LiftsTo enc m a.src.now a.at.now a.at.now a.fuel.now c.charge_each.new.fuel s (Err e)) (sym c.in_err-charge_each-in-Members.ensures.0)
    (w.low a.fuel.now (omega (arith, c.in_err-charge_each-in-Members.ensures, c.slot_count.ensures))))

pub lift_value-lift_parts-requires : goal.lift_value-lift_parts-requires
lift_value-lift_parts-requires t c =
    let a = c.args in
    let s = shape_of a.source.now.types.now a.ty.now in
    let (known, lies, kind, unnamed) = c.in-Members.ensures in
    let these = shapes_of a.source.now.types.now c.in-Members.members in
    let w = weighs_words (encoding_of a.source.now.encoding) (narrow a.source.now.memory.now) a.src.now s these a.at.now lies unnamed in
    (omega (arith, lies_depth s these lies), (c.requires.one_origin, (known, omega (arith, w.words, c.requires.room))))

pub lift_value-rebuild-requires-in-Ok-lift_parts-clause-count : goal.lift_value-rebuild-requires-in-Ok-lift_parts-clause-count
lift_value-rebuild-requires-in-Ok-lift_parts-clause-count t c =
    let a = c.args in
    let enc = encoding_of a.source.now.encoding in
    let m = narrow a.source.now.memory.now in
    let s = shape_of a.source.now.types.now a.ty.now in
    let (known, lies, kind, unnamed) = c.in-Members.ensures in
    let these = shapes_of a.source.now.types.now c.in-Members.members in
    let w = weighs_words enc m a.src.now s these a.at.now lies unnamed in
    let charged : a.fuel.now ≡ c.charge_each.new.fuel + member_count these * val_cost = omega (arith, c.in_ok-charge_each-in-Members.ensures, c.slot_count.ensures) in
    let vs = c.in-Ok-lift_parts.values.items in
    lifted_count enc m a.src.now s a.at.now c.lift_parts.new.at a.fuel.now c.lift_parts.new.fuel vs (w.lifted a.fuel.now c.charge_each.new.fuel c.lift_parts.new.at c.lift_parts.new.fuel vs charged c.in-Ok-lift_parts.ensures.lifts)

pub lift_value-returns-in-Ok-lift_parts-clause-lifts : goal.lift_value-returns-in-Ok-lift_parts-clause-lifts
lift_value-returns-in-Ok-lift_parts-clause-lifts t c =
    let a = c.args in
    let enc = encoding_of a.source.now.encoding in
    let m = narrow a.source.now.memory.now in
    let s = shape_of a.source.now.types.now a.ty.now in
    let (known, lies, kind, unnamed) = c.in-Members.ensures in
    let these = shapes_of a.source.now.types.now c.in-Members.members in
    let w = weighs_words enc m a.src.now s these a.at.now lies unnamed in
    let charged : a.fuel.now ≡ c.charge_each.new.fuel + member_count these * val_cost = omega (arith, c.in_ok-charge_each-in-Members.ensures, c.slot_count.ensures) in
    let vs = c.in-Ok-lift_parts.values.items in
    whole_lifted enc m a.src.now s a.at.now c.lift_parts.new.at a.fuel.now c.lift_parts.new.fuel vs c.rebuild-in-Ok-lift_parts.result
    (w.lifted a.fuel.now c.charge_each.new.fuel c.lift_parts.new.at c.lift_parts.new.fuel vs charged c.in-Ok-lift_parts.ensures.lifts) c.rebuild-in-Ok-lift_parts.ensures.ok c.rebuild-in-Ok-lift_parts.ensures.err

pub lift_value-returns-in-Err-lift_parts-clause-lifts : goal.lift_value-returns-in-Err-lift_parts-clause-lifts
lift_value-returns-in-Err-lift_parts-clause-lifts t c =
    let a = c.args in
    let enc = encoding_of a.source.now.encoding in
    let m = narrow a.source.now.memory.now in
    let s = shape_of a.source.now.types.now a.ty.now in
    let (known, lies, kind, unnamed) = c.in-Members.ensures in
    let these = shapes_of a.source.now.types.now c.in-Members.members in
    let w = weighs_words enc m a.src.now s these a.at.now lies unnamed in
    let charged : a.fuel.now ≡ c.charge_each.new.fuel + member_count these * val_cost = omega (arith, c.in_ok-charge_each-in-Members.ensures, c.slot_count.ensures) in
    parts_told enc m a.src.now s these a.at.now a.fuel.now c.charge_each.new.fuel w charged c.in-Err-lift_parts.fault c.in-Err-lift_parts.ensures.lifts

-- ---- handles

pub lift_value-lift_handle-requires : goal.lift_value-lift_handle-requires
lift_value-lift_handle-requires = steps.lift_value-lift_handle-requires

pub lift_value-returns-in-Handle-clause-lifts : goal.lift_value-returns-in-Handle-clause-lifts
lift_value-returns-in-Handle-clause-lifts = steps.lift_value-returns-in-Handle-clause-lifts

pub lift_value-returns-in-Handle-clause-scalar : goal.lift_value-returns-in-Handle-clause-scalar
lift_value-returns-in-Handle-clause-scalar = steps.lift_value-returns-in-Handle-clause-scalar

pub lift_value-returns-in-Handle-clause-handles : goal.lift_value-returns-in-Handle-clause-handles
lift_value-returns-in-Handle-clause-handles = steps.lift_value-returns-in-Handle-clause-handles

pub lift_value-returns-in-Scalar-clause-handles : goal.lift_value-returns-in-Scalar-clause-handles
lift_value-returns-in-Scalar-clause-handles = steps.lift_value-returns-in-Scalar-clause-handles

pub lift_value-returns-in-Text-clause-handles : goal.lift_value-returns-in-Text-clause-handles
lift_value-returns-in-Text-clause-handles = steps.lift_value-returns-in-Text-clause-handles

pub lift_value-returns-in-Flags-clause-handles : goal.lift_value-returns-in-Flags-clause-handles
lift_value-returns-in-Flags-clause-handles = steps.lift_value-returns-in-Flags-clause-handles

pub lift_value-returns-in-Ok-clause-handles : goal.lift_value-returns-in-Ok-clause-handles
lift_value-returns-in-Ok-clause-handles = steps.lift_value-returns-in-Ok-clause-handles

pub lift_value-returns-in-Err-clause-handles : goal.lift_value-returns-in-Err-clause-handles
lift_value-returns-in-Err-clause-handles = steps.lift_value-returns-in-Err-clause-handles

pub lift_value-returns-in_err-charge_each-in-Members-clause-handles : goal.lift_value-returns-in_err-charge_each-in-Members-clause-handles
lift_value-returns-in_err-charge_each-in-Members-clause-handles = steps.lift_value-returns-in_err-charge_each-in-Members-clause-handles

pub lift_value-returns-in-Ok-lift_parts-clause-handles : goal.lift_value-returns-in-Ok-lift_parts-clause-handles
lift_value-returns-in-Ok-lift_parts-clause-handles = steps.lift_value-returns-in-Ok-lift_parts-clause-handles

pub lift_value-returns-in-Err-lift_parts-clause-handles : goal.lift_value-returns-in-Err-lift_parts-clause-handles
lift_value-returns-in-Err-lift_parts-clause-handles = steps.lift_value-returns-in-Err-lift_parts-clause-handles

-- ---- cases

pub lift_case-bounds-src-index : goal.lift_case-bounds-src-index
lift_case-bounds-src-index t c = omega (arith, c.requires.room, variant_word (shape_of c.args.source.now.types.now c.args.ty.now) c.requires.variant)

pub lift_case-returns-in_default-clause-lifts : goal.lift_case-returns-in_default-clause-lifts
lift_case-returns-in_default-clause-lifts t c =
    let a = c.args in
    let enc = encoding_of a.source.now.encoding in
    let m = narrow a.source.now.memory.now in
    let types = a.source.now.types.now in
    let s = shape_of types a.ty.now in
    let tag = c.get_u32-tag.result in
    let read : tag ≡ low (slice_index a.src.now a.at.now) = c.get_u32-tag.ensures ∙ ap low (word_found a.src.now a.at.now _ c.index-src-index.is (omega (arith, c.requires.room, variant_word s c.requires.variant))) in
    (word a.at.now, c.word_at.ensures, flat_case_missing enc m a.src.now s a.at.now tag c.requires.variant read (none_past types s tag c.case_of.result c.case_of.ensures c.in_default.not-Some))

pub lift_case-returns-in_err-charge_each-clause-lifts : goal.lift_case-returns-in_err-charge_each-clause-lifts
lift_case-returns-in_err-charge_each-clause-lifts t c =
    let a = c.args in
    let enc = encoding_of a.source.now.encoding in
    let m = narrow a.source.now.memory.now in
    let types = a.source.now.types.now in
    let s = shape_of types a.ty.now in
    let tag = c.get_u32-tag.result in
    let read : tag ≡ low (slice_index a.src.now a.at.now) = c.get_u32-tag.ensures ∙ ap low (word_found a.src.now a.at.now _ c.index-src-index.is (omega (arith, c.requires.room, variant_word s c.requires.variant))) in
    let w = case_weighs_words enc m a.src.now s a.at.now tag c.requires.variant read types c.in-Some.case c.in-Some.ensures in
    handed_to (LiftsTo enc m a.src.now a.at.now a.at.now a.fuel.now c.charge_each.new.fuel s) c.from_residual.result c.in_err-charge_each.field-0.0 c.from_residual.ensures
    (subst (λ e. LiftsTo enc m a.src.now a.at.now a.at.now a.fuel.now c.charge_each.new.fuel s (Err e)) (sym c.in_err-charge_each.ensures.0) (w.unpaid a.fuel.now (omega (arith, c.in_err-charge_each.ensures, c.slot_count.ensures))))

pub lift_case-lift_parts-requires : goal.lift_case-lift_parts-requires
lift_case-lift_parts-requires t c =
    let a = c.args in
    let enc = encoding_of a.source.now.encoding in
    let m = narrow a.source.now.memory.now in
    let types = a.source.now.types.now in
    let s = shape_of types a.ty.now in
    let tag = c.get_u32-tag.result in
    let read : tag ≡ low (slice_index a.src.now a.at.now) = c.get_u32-tag.ensures ∙ ap low (word_found a.src.now a.at.now _ c.index-src-index.is (omega (arith, c.requires.room, variant_word s c.requires.variant))) in
    let w = case_weighs_words enc m a.src.now s a.at.now tag c.requires.variant read types c.in-Some.case c.in-Some.ensures in
    (omega (arith, w.shallow), (c.requires.one_origin, (c.in-Some.ensures.known, omega (arith, w.room, c.requires.room))))

pub lift_case-returns-in_err-charge-in-Ok-clause-lifts : goal.lift_case-returns-in_err-charge-in-Ok-clause-lifts
lift_case-returns-in_err-charge-in-Ok-clause-lifts t c =
    let a = c.args in
    let enc = encoding_of a.source.now.encoding in
    let m = narrow a.source.now.memory.now in
    let types = a.source.now.types.now in
    let s = shape_of types a.ty.now in
    let tag = c.get_u32-tag.result in
    let read : tag ≡ low (slice_index a.src.now a.at.now) = c.get_u32-tag.ensures ∙ ap low (word_found a.src.now a.at.now _ c.index-src-index.is (omega (arith, c.requires.room, variant_word s c.requires.variant))) in
    let w = case_weighs_words enc m a.src.now s a.at.now tag c.requires.variant read types c.in-Some.case c.in-Some.ensures in
    let charged : a.fuel.now ≡ c.charge_each.new.fuel + member_count (shapes_of types c.in-Some.case.payload) * val_cost = omega (arith, c.in_ok-charge_each.ensures, c.slot_count.ensures) in
    let low = w.nameless c.lift_parts.new.at a.fuel.now c.charge_each.new.fuel c.lift_parts.new.fuel c.in-Ok.values.items charged c.in-Ok.ensures.lifts (omega (arith, c.in_err-charge-in-Ok.ensures.1, c.in-Some.ensures.charge)) in
    handed_to (LiftsTo enc m a.src.now a.at.now a.at.now a.fuel.now c.charge.new.fuel s) c.from_residual-in_err-charge-in-Ok.result c.in_err-charge-in-Ok.field-0.0 c.from_residual-in_err-charge-in-Ok.ensures
    (subst (λ e. LiftsTo enc m a.src.now a.at.now a.at.now a.fuel.now c.charge.new.fuel s (Err e)) (sym c.in_err-charge-in-Ok.ensures.0) low)

pub lift_case-rebuild_case-requires-clause-count : goal.lift_case-rebuild_case-requires-clause-count
lift_case-rebuild_case-requires-clause-count t c =
    let a = c.args in
    let enc = encoding_of a.source.now.encoding in
    let m = narrow a.source.now.memory.now in
    let types = a.source.now.types.now in
    let s = shape_of types a.ty.now in
    let tag = c.get_u32-tag.result in
    let read : tag ≡ low (slice_index a.src.now a.at.now) = c.get_u32-tag.ensures ∙ ap low (word_found a.src.now a.at.now _ c.index-src-index.is (omega (arith, c.requires.room, variant_word s c.requires.variant))) in
    let w = case_weighs_words enc m a.src.now s a.at.now tag c.requires.variant read types c.in-Some.case c.in-Some.ensures in
    w.count c.lift_parts.new.at c.charge_each.new.fuel c.lift_parts.new.fuel c.in-Ok.values.items c.in-Ok.ensures.lifts

pub lift_case-returns-in_ok-charge-in-Ok-clause-lifts : goal.lift_case-returns-in_ok-charge-in-Ok-clause-lifts
lift_case-returns-in_ok-charge-in-Ok-clause-lifts t c =
    let a = c.args in
    let enc = encoding_of a.source.now.encoding in
    let m = narrow a.source.now.memory.now in
    let types = a.source.now.types.now in
    let s = shape_of types a.ty.now in
    let tag = c.get_u32-tag.result in
    let read : tag ≡ low (slice_index a.src.now a.at.now) = c.get_u32-tag.ensures ∙ ap low (word_found a.src.now a.at.now _ c.index-src-index.is (omega (arith, c.requires.room, variant_word s c.requires.variant))) in
    let w = case_weighs_words enc m a.src.now s a.at.now tag c.requires.variant read types c.in-Some.case c.in-Some.ensures in
    let charged : a.fuel.now ≡ c.charge_each.new.fuel + member_count (shapes_of types c.in-Some.case.payload) * val_cost = omega (arith, c.in_ok-charge_each.ensures, c.slot_count.ensures) in
    let named : c.lift_parts.new.fuel ≡ c.charge.new.fuel + name_charge s tag = omega (arith, c.in_ok-charge-in-Ok.ensures, c.in-Some.ensures.charge) in
    w.lifted c.lift_parts.new.at a.fuel.now c.charge_each.new.fuel c.lift_parts.new.fuel (a.at.now + c.flat_words.result) c.charge.new.fuel c.in-Ok.values.items charged c.in-Ok.ensures.lifts named
    (omega (arith, c.flat_words.ensures)) c.rebuild_case.result c.rebuild_case.ensures.ok c.rebuild_case.ensures.err

pub lift_case-returns-in-Err-clause-lifts : goal.lift_case-returns-in-Err-clause-lifts
lift_case-returns-in-Err-clause-lifts t c =
    let a = c.args in
    let enc = encoding_of a.source.now.encoding in
    let m = narrow a.source.now.memory.now in
    let types = a.source.now.types.now in
    let s = shape_of types a.ty.now in
    let tag = c.get_u32-tag.result in
    let read : tag ≡ low (slice_index a.src.now a.at.now) = c.get_u32-tag.ensures ∙ ap low (word_found a.src.now a.at.now _ c.index-src-index.is (omega (arith, c.requires.room, variant_word s c.requires.variant))) in
    let w = case_weighs_words enc m a.src.now s a.at.now tag c.requires.variant read types c.in-Some.case c.in-Some.ensures in
    let charged : a.fuel.now ≡ c.charge_each.new.fuel + member_count (shapes_of types c.in-Some.case.payload) * val_cost = omega (arith, c.in_ok-charge_each.ensures, c.slot_count.ensures) in
    w.refused a.fuel.now c.charge_each.new.fuel charged c.in-Err.fault c.in-Err.ensures.lifts

pub lift_case-returns-in_default-clause-handles : goal.lift_case-returns-in_default-clause-handles
lift_case-returns-in_default-clause-handles = steps.lift_case-returns-in_default-clause-handles

pub lift_case-returns-in_err-charge_each-clause-handles : goal.lift_case-returns-in_err-charge_each-clause-handles
lift_case-returns-in_err-charge_each-clause-handles = steps.lift_case-returns-in_err-charge_each-clause-handles

pub lift_case-returns-in_err-charge-in-Ok-clause-handles : goal.lift_case-returns-in_err-charge-in-Ok-clause-handles
lift_case-returns-in_err-charge-in-Ok-clause-handles = steps.lift_case-returns-in_err-charge-in-Ok-clause-handles

pub lift_case-returns-in_ok-charge-in-Ok-clause-handles : goal.lift_case-returns-in_ok-charge-in-Ok-clause-handles
lift_case-returns-in_ok-charge-in-Ok-clause-handles = steps.lift_case-returns-in_ok-charge-in-Ok-clause-handles

pub lift_case-returns-in-Err-clause-handles : goal.lift_case-returns-in-Err-clause-handles
lift_case-returns-in-Err-clause-handles = steps.lift_case-returns-in-Err-clause-handles
