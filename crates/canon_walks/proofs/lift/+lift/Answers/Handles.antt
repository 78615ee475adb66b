-- What lifting from words does with handles, step by step.
use Rattle.std.proofs.Common.{List, None, ap, arith, refl, subst, sym, ◌∙◌, ◌≡◌}
use Rattle.std.specs.Prelude.{slice_index}
use Rattle.canon_model.specs.Memory.{low}
use Rattle.canon_lowering.specs.Storing.{narrow}
use Rattle.canon_model.specs.Shape.{Shape, member_count}
use Rattle.canon_types.specs.Table.{Knows, shape_of}
use Rattle.canon_types.specs.declared.types.InterfaceType.{InterfaceType}
use Rattle.canon_context.specs.Told.{IsNoRefusal}
use Rattle.canon_context.specs.declared.fault.Fault.TheVariants as fault
use Rattle.canon_resources.specs.Parts.{LeavesLift, LeavesStop}
use Rattle.canon_model.specs.Leaves.{Leaf, flat_leaves}
use Rattle.canon_abi.specs.Options.{encoding_of}
use Rattle.canon_plan.specs.Plan.{shapes_of, members_from}
use Rattle.canon_context.proofs.Told.{core_on_err}
use Rattle.canon_value_parts.proofs.LiftLoops.{lift_part_leaves}
use Rattle.canon_value_parts.proofs.LiftCases.{case_weighs_words, variant_word}
use Rattle.canon_value_parts.proofs.LiftSteps.{word_found}
use Rattle.canon_value_parts.proofs.LiftingParts.{weighs_words}
use Rattle.canon_plan.proofs.ScalarTypes.{plain_scalar, scalar_shape}
use Rattle.canon_plan.proofs.Lookups.{members_from-all}
use Rattle.canon_value_parts.proofs.HandleLifting.{handle_flat_lifts, handle_lifted, handle_no_scalar, handle_words}
use Rattle.canon_value_parts.proofs.LeavesAt.{no_flat_left, scalar_flat_leaves, text_flat_leaves}
use Rattle.canon_value_parts.proofs.Lifted.{lifts_nothing, no_refusal, parts_of_leaves, put_together, refused_after, refused_before, stops_before, taking_ends, taking_goes_on, taking_stops_first, taking_stops_here}
use Rattle.canon_value_parts.proofs.LiftSteps.{lifted_scalar_none, lifted_text_none}
use Rattle.canon_value_parts.specs.Resources.{all_resources, resources}
use Rattle.canon_context.specs.Faults.{stop_of}
use Rattle.canon_walks.proofs.lift.+lift.Goals as goal

pub lift_parts-returns-in_err-values-clause-handles : goal.lift_parts-returns-in_err-values-clause-handles
lift_parts-returns-in_err-values-clause-handles t c = refused_before c.args.source.now.instance.now _ c.args.ledger.now _ c.from_residual.result _ c.from_residual.ensures refl

pub lift_parts-returns-in_err-value-clause-handles : goal.lift_parts-returns-in_err-value-clause-handles
lift_parts-returns-in_err-value-clause-handles t c =
    let a = c.args in
    let s = a.source.now in
    let ms = shapes_of s.types.now a.members.now in
    let is = c.slot_of-member.ensures in
    taking_stops_first s.instance.now a.ledger.now c.loop-k.ledger _ _ _ c.loop-k.invariant.2 _ _
    (lift_part_leaves (encoding_of s.encoding) (narrow s.memory.now) a.src.now ms a.at.now a.fuel.now (members_from c.loop-k.k ms) c.loop-k.at c.loop-k.fuel c.loop-k.values.items c.loop-k.invariant.0 is.name _ _ is.shapes _ refl)
    c.lift_value.new.ledger _ c.from_residual-in_err-value.result c.in_err-value.field-0.0 c.from_residual-in_err-value.ensures c.in_err-value.ensures.handles

pub lift_parts-returns-in_err-charge-clause-handles : goal.lift_parts-returns-in_err-charge-clause-handles
lift_parts-returns-in_err-charge-clause-handles t c =
    let a = c.args in
    let s = a.source.now in
    let ms = shapes_of s.types.now a.members.now in
    let is = c.slot_of-member.ensures in
    let taken =
    taking_goes_on s.instance.now a.ledger.now c.loop-k.ledger _ _ _ c.loop-k.invariant.2 _ _
    (lift_part_leaves (encoding_of s.encoding) (narrow s.memory.now) a.src.now ms a.at.now a.fuel.now (members_from c.loop-k.k ms) c.loop-k.at c.loop-k.fuel c.loop-k.values.items c.loop-k.invariant.0 is.name _ _ is.shapes c.lift_value.new.at c.in_ok-value.ensures.lifts.1)
    c.lift_value.new.ledger (resources c.in_ok-value.value) c.in_ok-value.ensures.handles in
    taking_stops_here s.instance.now a.ledger.now c.lift_value.new.ledger _ _ _ taken _ c.from_residual-in_err-charge.result c.in_err-charge.field-0.0 c.from_residual-in_err-charge.ensures (ap stop_of c.in_err-charge.ensures.0)

pub lift_parts-returns-in_err-keep-clause-handles : goal.lift_parts-returns-in_err-keep-clause-handles
lift_parts-returns-in_err-keep-clause-handles t c =
    let a = c.args in
    let s = a.source.now in
    let ms = shapes_of s.types.now a.members.now in
    let is = c.slot_of-member.ensures in
    let taken =
    taking_goes_on s.instance.now a.ledger.now c.loop-k.ledger _ _ _ c.loop-k.invariant.2 _ _
    (lift_part_leaves (encoding_of s.encoding) (narrow s.memory.now) a.src.now ms a.at.now a.fuel.now (members_from c.loop-k.k ms) c.loop-k.at c.loop-k.fuel c.loop-k.values.items c.loop-k.invariant.0 is.name _ _ is.shapes c.lift_value.new.at c.in_ok-value.ensures.lifts.1)
    c.lift_value.new.ledger (resources c.in_ok-value.value) c.in_ok-value.ensures.handles in
    taking_stops_here s.instance.now a.ledger.now c.lift_value.new.ledger _ _ _ taken _ c.from_residual-in_err-keep.result c.in_err-keep.field-0.0 c.from_residual-in_err-keep.ensures (ap stop_of c.in_err-keep.ensures.only_memory)

pub lift_parts-returns-clause-handles : goal.lift_parts-returns-clause-handles
lift_parts-returns-clause-handles t c =
    let a = c.args in
    let s = a.source.now in
    let ms = shapes_of s.types.now a.members.now in
    let over : c.loop-k.k ≡ member_count ms = omega (arith, c.loop-k-test.false, c.loop-k.auto.k-end, c.slot_count-count.ensures) in
    taking_ends s.instance.now a.ledger.now c.loop-k.ledger _ _ (all_resources c.loop-k.values.items) c.loop-k.invariant.2
    (no_flat_left (narrow s.memory.now) a.src.now c.loop-k.at (members_from c.loop-k.k ms) (members_from-all ms c.loop-k.k over))

pub lift_value-lift_handle-requires : goal.lift_value-lift_handle-requires
lift_value-lift_handle-requires t c =
    let ty0 = c.args.ty.now in
    let types = c.args.source.now.types.now in
    record {
      one_origin = c.requires.one_origin;
      known = subst (λ (x : InterfaceType). Knows types x) c.in-Handle.ensures c.requires.known;
      room = omega (arith, c.requires.room, handle_words types ty0 c.in-Handle.handle c.in-Handle.ensures);
    }

pub lift_value-returns-in-Handle-clause-lifts : goal.lift_value-returns-in-Handle-clause-lifts
lift_value-returns-in-Handle-clause-lifts t c =
    let a = c.args in
    let s = a.source.now in
    handle_lifted s.instance.now a.ledger.now c.lift_handle.new.ledger (narrow s.memory.now) a.src.now a.at.now s.types.now a.ty.now c.in-Handle.handle c.in-Handle.ensures (encoding_of s.encoding) a.fuel.now c.lift_handle.new.at
    c.lift_handle.result c.lift_handle.ensures.takes c.lift_handle.ensures.passes

pub lift_value-returns-in-Handle-clause-scalar : goal.lift_value-returns-in-Handle-clause-scalar
lift_value-returns-in-Handle-clause-scalar t c = λ scalar. absurd (handle_no_scalar c.args.ty.now c.in-Handle.handle c.in-Handle.ensures scalar)

pub lift_value-returns-in-Handle-clause-handles : goal.lift_value-returns-in-Handle-clause-handles
lift_value-returns-in-Handle-clause-handles t c =
    let a = c.args in
    let s = a.source.now in
    handle_flat_lifts s.instance.now a.ledger.now c.lift_handle.new.ledger (narrow s.memory.now) a.src.now a.at.now s.types.now a.ty.now c.in-Handle.handle c.in-Handle.ensures c.lift_handle.result c.lift_handle.ensures.takes

pub lift_value-returns-in-Scalar-clause-handles : goal.lift_value-returns-in-Scalar-clause-handles
lift_value-returns-in-Scalar-clause-handles t c =
    let a = c.args in
    let s = a.source.now in
    let (k, e) = c.in-Scalar.ensures in
    lifts_nothing s.instance.now resources a.ledger.now a.ledger.now _ c.lift_scalar.result (scalar_flat_leaves (narrow s.memory.now) a.src.now a.at.now k _ (scalar_shape s.types.now a.ty.now k e)) refl
    (lifted_scalar_none (encoding_of s.encoding) (narrow s.memory.now) a.src.now a.at.now c.lift_scalar.new.at a.fuel.now k _ (plain_scalar a.ty.now k e) c.lift_scalar.result (c.lift_scalar.ensures.lifts (encoding_of s.encoding) (narrow s.memory.now) a.fuel.now))
    (core_on_err c.lift_scalar.result IsNoRefusal (λ f. stop_of f ≡ None) no_refusal c.lift_scalar.ensures.unrefused)

pub lift_value-returns-in-Text-clause-handles : goal.lift_value-returns-in-Text-clause-handles
lift_value-returns-in-Text-clause-handles t c =
    let a = c.args in
    let s = a.source.now in
    lifts_nothing s.instance.now resources a.ledger.now a.ledger.now _ c.lift_string.result (text_flat_leaves (narrow s.memory.now) a.src.now a.at.now _ c.in-Text.ensures) refl
    (lifted_text_none (encoding_of s.encoding) (narrow s.memory.now) a.src.now a.at.now c.lift_string.new.at a.fuel.now c.lift_string.new.fuel c.lift_string.result c.lift_string.ensures.lifts)
    (core_on_err c.lift_string.result IsNoRefusal (λ f. stop_of f ≡ None) no_refusal c.lift_string.ensures.unrefused)

pub lift_value-returns-in-Flags-clause-handles : goal.lift_value-returns-in-Flags-clause-handles
lift_value-returns-in-Flags-clause-handles t c = rw c.in-Flags.ensures (c.lift_flags.ensures.handles c.args.ledger.now)

pub lift_value-returns-in-Ok-clause-handles : goal.lift_value-returns-in-Ok-clause-handles
lift_value-returns-in-Ok-clause-handles t c =
    let a = c.args in
    let (known, e, kind) = c.in-List.ensures in
    put_together a.source.now.instance.now a.ledger.now c.lift_list.new.ledger _ c.in-Ok.items.items c.rebuild.result
    (subst (λ (x : Shape). LeavesLift a.source.now.instance.now a.ledger.now (flat_leaves (narrow a.source.now.memory.now) a.src.now x a.at.now) (all_resources c.in-Ok.items.items) c.lift_list.new.ledger) (sym e) c.in-Ok.ensures.handles)
    c.rebuild.ensures.resources c.rebuild.ensures.err

pub lift_value-returns-in-Err-clause-handles : goal.lift_value-returns-in-Err-clause-handles
lift_value-returns-in-Err-clause-handles t c =
    let a = c.args in
    let (known, e, kind) = c.in-List.ensures in
    subst (λ (x : Shape). LeavesStop (stop_of c.in-Err.fault) a.ledger.now (parts_of_leaves a.source.now.instance.now (flat_leaves (narrow a.source.now.memory.now) a.src.now x a.at.now)) c.lift_list.new.ledger) (sym e) c.in-Err.ensures.handles

pub lift_value-returns-in_err-charge_each-in-Members-clause-handles : goal.lift_value-returns-in_err-charge_each-in-Members-clause-handles
lift_value-returns-in_err-charge_each-in-Members-clause-handles t c =
    refused_before c.args.source.now.instance.now _ c.args.ledger.now _ c.from_residual.result c.in_err-charge_each-in-Members.field-0.0 c.from_residual.ensures (ap stop_of c.in_err-charge_each-in-Members.ensures.0)

pub lift_value-returns-in-Ok-lift_parts-clause-handles : goal.lift_value-returns-in-Ok-lift_parts-clause-handles
lift_value-returns-in-Ok-lift_parts-clause-handles t c =
    let a = c.args in
    let (known, lies, kind, unnamed) = c.in-Members.ensures in
    let w = weighs_words (encoding_of a.source.now.encoding) (narrow a.source.now.memory.now) a.src.now (shape_of a.source.now.types.now a.ty.now) (shapes_of a.source.now.types.now c.in-Members.members) a.at.now lies unnamed in
    put_together a.source.now.instance.now a.ledger.now c.lift_parts.new.ledger _ c.in-Ok-lift_parts.values.items c.rebuild-in-Ok-lift_parts.result
    (subst (λ (ls : List Leaf). LeavesLift a.source.now.instance.now a.ledger.now ls (all_resources c.in-Ok-lift_parts.values.items) c.lift_parts.new.ledger) (sym w.leaves) c.in-Ok-lift_parts.ensures.handles)
    c.rebuild-in-Ok-lift_parts.ensures.resources c.rebuild-in-Ok-lift_parts.ensures.err

pub lift_value-returns-in-Err-lift_parts-clause-handles : goal.lift_value-returns-in-Err-lift_parts-clause-handles
lift_value-returns-in-Err-lift_parts-clause-handles t c =
    let a = c.args in
    let (known, lies, kind, unnamed) = c.in-Members.ensures in
    let w = weighs_words (encoding_of a.source.now.encoding) (narrow a.source.now.memory.now) a.src.now (shape_of a.source.now.types.now a.ty.now) (shapes_of a.source.now.types.now c.in-Members.members) a.at.now lies unnamed in
    subst (λ (ls : List Leaf). LeavesStop (stop_of c.in-Err-lift_parts.fault) a.ledger.now (parts_of_leaves a.source.now.instance.now ls) c.lift_parts.new.ledger) (sym w.leaves) c.in-Err-lift_parts.ensures.handles

pub lift_case-returns-in_default-clause-handles : goal.lift_case-returns-in_default-clause-handles
lift_case-returns-in_default-clause-handles t c = stops_before c.args.source.now.instance.now c.args.ledger.now _ _ (fault.BadDiscriminant c.word_at.result c.get_u32-tag.result) refl refl

pub lift_case-returns-in_err-charge_each-clause-handles : goal.lift_case-returns-in_err-charge_each-clause-handles
lift_case-returns-in_err-charge_each-clause-handles t c =
    refused_before c.args.source.now.instance.now _ c.args.ledger.now _ c.from_residual.result c.in_err-charge_each.field-0.0 c.from_residual.ensures (ap stop_of c.in_err-charge_each.ensures.0)

pub lift_case-returns-in_err-charge-in-Ok-clause-handles : goal.lift_case-returns-in_err-charge-in-Ok-clause-handles
lift_case-returns-in_err-charge-in-Ok-clause-handles t c =
    let a = c.args in
    let enc = encoding_of a.source.now.encoding in
    let m = narrow a.source.now.memory.now in
    let types = a.source.now.types.now in
    let s = shape_of types a.ty.now in
    let tag = c.get_u32-tag.result in
    let read : tag ≡ low (slice_index a.src.now a.at.now) = c.get_u32-tag.ensures ∙ ap low (word_found a.src.now a.at.now _ c.index-src-index.is (omega (arith, c.requires.room, variant_word s c.requires.variant))) in
    let w = case_weighs_words enc m a.src.now s a.at.now tag c.requires.variant read types c.in-Some.case c.in-Some.ensures in
    refused_after a.source.now.instance.now _ a.ledger.now c.lift_parts.new.ledger _ (all_resources c.in-Ok.values.items) c.from_residual-in_err-charge-in-Ok.result c.in_err-charge-in-Ok.field-0.0 c.from_residual-in_err-charge-in-Ok.ensures
    (ap stop_of c.in_err-charge-in-Ok.ensures.0)
    (subst (λ (ls : List Leaf). LeavesLift a.source.now.instance.now a.ledger.now ls (all_resources c.in-Ok.values.items) c.lift_parts.new.ledger) (sym w.leaves) c.in-Ok.ensures.handles)

pub lift_case-returns-in_ok-charge-in-Ok-clause-handles : goal.lift_case-returns-in_ok-charge-in-Ok-clause-handles
lift_case-returns-in_ok-charge-in-Ok-clause-handles t c =
    let a = c.args in
    let enc = encoding_of a.source.now.encoding in
    let m = narrow a.source.now.memory.now in
    let types = a.source.now.types.now in
    let s = shape_of types a.ty.now in
    let tag = c.get_u32-tag.result in
    let read : tag ≡ low (slice_index a.src.now a.at.now) = c.get_u32-tag.ensures ∙ ap low (word_found a.src.now a.at.now _ c.index-src-index.is (omega (arith, c.requires.room, variant_word s c.requires.variant))) in
    let w = case_weighs_words enc m a.src.now s a.at.now tag c.requires.variant read types c.in-Some.case c.in-Some.ensures in
    put_together a.source.now.instance.now a.ledger.now c.lift_parts.new.ledger _ c.in-Ok.values.items c.rebuild_case.result
    (subst (λ (ls : List Leaf). LeavesLift a.source.now.instance.now a.ledger.now ls (all_resources c.in-Ok.values.items) c.lift_parts.new.ledger) (sym w.leaves) c.in-Ok.ensures.handles)
    c.rebuild_case.ensures.resources c.rebuild_case.ensures.err

pub lift_case-returns-in-Err-clause-handles : goal.lift_case-returns-in-Err-clause-handles
lift_case-returns-in-Err-clause-handles t c =
    let a = c.args in
    let enc = encoding_of a.source.now.encoding in
    let m = narrow a.source.now.memory.now in
    let types = a.source.now.types.now in
    let s = shape_of types a.ty.now in
    let tag = c.get_u32-tag.result in
    let read : tag ≡ low (slice_index a.src.now a.at.now) = c.get_u32-tag.ensures ∙ ap low (word_found a.src.now a.at.now _ c.index-src-index.is (omega (arith, c.requires.room, variant_word s c.requires.variant))) in
    let w = case_weighs_words enc m a.src.now s a.at.now tag c.requires.variant read types c.in-Some.case c.in-Some.ensures in
    subst (λ (ls : List Leaf). LeavesStop (stop_of c.in-Err.fault) a.ledger.now (parts_of_leaves a.source.now.instance.now ls) c.lift_parts.new.ledger) (sym w.leaves) c.in-Err.ensures.handles
