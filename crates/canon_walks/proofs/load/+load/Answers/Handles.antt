-- What loading does with handles, step by step, and what it says of lists and cases.
use Rattle.std.proofs.Common.{◌≡◌, ◌≤◌, ◌<◌, ◌+◌, ◌-◌, ◌*◌, ◌%◌, ◌∙◌, [], List, None, Vec, ap, arith, false, length, refl, subst, sym}
use Rattle.std.proofs.lemmas.Bool.{leb-true}
use Rattle.std.specs.declared.alloc.Global.{Global}
use Rattle.canon_lowering.specs.Storing.{narrow}
use Rattle.canon_model.specs.Cost.{val_cost}
use Rattle.canon_model.specs.Layout.{align, members_align, members_end, size}
use Rattle.canon_model.specs.Reach.{MemberFault, StoredFault, address, reach_cost}
use Rattle.canon_model.specs.Leaves.{Leaf, members_reach_leaves, reach_leaves}
use Rattle.canon_model.specs.Shape.{Members, Shape, member_count, scalar, string}
use Rattle.canon_types.specs.Depth.{deepest, depth, element_shape}
use Rattle.canon_types.specs.Table.{Knows, shape_of}
use Rattle.canon_types.specs.declared.types.InterfaceType.{InterfaceType}
use Rattle.canon_abi.specs.Options.{encoding_of}
use Rattle.canon_context.specs.Told.{Exactly, IsNoRefusal, LiftBlames, place_of}
use Rattle.canon_context.specs.declared.fault.At.TheVariants as place
use Rattle.canon_context.specs.declared.fault.Fault.TheVariants as fault
use Rattle.canon_resources.specs.Parts.{LeavesLift, LeavesStop}
use Rattle.canon_value_parts.specs.Loads.{AreCharged, IsLoaded, charged_reach}
use Rattle.canon_plan.specs.CasePlan.{name_charge}
use Rattle.canon_value_parts.specs.Plan.{ArePartsLoaded, IsCaseRebuilt, IsListLoaded}
use Rattle.canon_plan.specs.Plan.{shapes_of, members_from}
use Rattle.canon_plan.specs.Element.{ItemsFault, element_cost, items_reach, list_shape}
use Rattle.canon_val.specs.declared.val.Val.{Val}
use Rattle.canon_value_parts.proofs.LoadCases.{case_weighs, tag_inside}
use Rattle.canon_context.proofs.Told.{exhausted, core_on_err, core_on_ok}
use Rattle.canon_value_parts.proofs.Loading.{next_leaves}
use Rattle.canon_value_parts.proofs.ListLoading.{list_inside, list_parts, list_refused, row_refused, row_weighs}
use Rattle.canon_value_parts.proofs.Listing.{row}
use Rattle.canon_value_parts.proofs.LoadingParts.{weighs}
use Rattle.canon_plan.proofs.Lookups.{members_from-all}
use Rattle.canon_plan.proofs.ScalarTypes.{scalar_shape}
use Rattle.canon_value_parts.proofs.HandleLifting.{handle_blamed, handle_bytes, handle_lifts, handle_loaded, handle_no_scalar}
use Rattle.canon_value_parts.proofs.LeavesAt.{items_leaves, no_members_left, scalar_leaves, stored_leaves, text_leaves}
use Rattle.canon_value_parts.proofs.Lifted.{lifts_nothing, no_refusal, parts_of_leaves, put_together, refused_after, refused_before, stops_before, taking_ends, taking_goes_on, taking_stops_first, taking_stops_here}
use Rattle.canon_value_parts.proofs.ResourcesOf.{scalar_has_none, text_has_none}
use Rattle.canon_passing.specs.Passed.{LiftsHandles}
use Rattle.canon_value_parts.specs.Resources.{all_resources, resources}
use Rattle.canon_context.specs.Faults.{stop_of}
use Rattle.canon_walks.proofs.load.+load.Goals as goal

pub load_parts-returns-in_err-values-clause-handles : goal.load_parts-returns-in_err-values-clause-handles
load_parts-returns-in_err-values-clause-handles t c = refused_before c.args.source.now.instance.now _ c.args.ledger.now _ c.from_residual.result _ c.from_residual.ensures refl

pub load_parts-returns-in_err-charge-clause-handles : goal.load_parts-returns-in_err-charge-clause-handles
load_parts-returns-in_err-charge-clause-handles t c =
    taking_stops_here c.args.source.now.instance.now c.args.ledger.now c.loop-k.ledger _ _ _ c.loop-k.invariant.1 _ c.from_residual-in_err-charge.result c.in_err-charge.field-0.0 c.from_residual-in_err-charge.ensures
    (ap stop_of c.in_err-charge.ensures.0)

pub load_parts-returns-in_err-value-clause-handles : goal.load_parts-returns-in_err-value-clause-handles
load_parts-returns-in_err-value-clause-handles t c =
    let is = c.slot_of-member.ensures in
    taking_stops_first c.args.source.now.instance.now c.args.ledger.now c.loop-k.ledger _ _ _ c.loop-k.invariant.1 _ _
    (next_leaves (encoding_of c.args.source.now.encoding) c.args.source.now.memory.now _ _ _ _ _ c.canonical_abi.result.now c.args.at c.loop-k.end _ _ _ is.shapes c.canonical_abi.ensures c.requires.inside c.loop-k.invariant.0
    c.next_field32_size-start.result c.next_field32_size-start.new.offset c.next_field32_size-start.ensures.start c.next_field32_size-start.ensures.end)
    c.load_value.new.ledger _ c.from_residual-in_err-value.result c.in_err-value.field-0.0 c.from_residual-in_err-value.ensures c.in_err-value.ensures.handles

pub load_parts-returns-in_err-keep-clause-handles : goal.load_parts-returns-in_err-keep-clause-handles
load_parts-returns-in_err-keep-clause-handles t c =
    let is = c.slot_of-member.ensures in
    let taken =
    taking_goes_on c.args.source.now.instance.now c.args.ledger.now c.loop-k.ledger _ _ _ c.loop-k.invariant.1 _ _
    (next_leaves (encoding_of c.args.source.now.encoding) c.args.source.now.memory.now _ _ _ _ _ c.canonical_abi.result.now c.args.at c.loop-k.end _ _ _ is.shapes c.canonical_abi.ensures c.requires.inside c.loop-k.invariant.0
    c.next_field32_size-start.result c.next_field32_size-start.new.offset c.next_field32_size-start.ensures.start c.next_field32_size-start.ensures.end)
    c.load_value.new.ledger (resources c.in_ok-value.value) c.in_ok-value.ensures.handles in
    taking_stops_here c.args.source.now.instance.now c.args.ledger.now c.load_value.new.ledger _ _ _ taken _ c.from_residual-in_err-keep.result c.in_err-keep.field-0.0 c.from_residual-in_err-keep.ensures (ap stop_of c.in_err-keep.ensures.only_memory)

pub load_parts-returns-clause-handles : goal.load_parts-returns-clause-handles
load_parts-returns-clause-handles t c =
    let ms = shapes_of c.args.source.now.types.now c.args.members.now in
    let over : c.loop-k.k ≡ member_count ms = omega (arith, c.loop-k-test.false, c.loop-k.auto.k-end, c.slot_count-count.ensures) in
    taking_ends c.args.source.now.instance.now c.args.ledger.now c.loop-k.ledger _ _ (all_resources c.loop-k.values.items) c.loop-k.invariant.1
    (no_members_left c.args.source.now.memory.now c.loop-k.end c.args.at (members_from c.loop-k.k ms) (members_from-all ms c.loop-k.k over))

pub load_items-load_parts-requires : goal.load_items-load_parts-requires
load_items-load_parts-requires t0 c =
    let enc = encoding_of c.args.source.now.encoding in
    let bytes = c.args.source.now.memory.now in
    let t = c.args.source.now.types.now in
    let e = c.args.element.now in
    let s = list_shape t e in
    let n = c.args.length in
    let p = c.args.pointer in
    let w = row_weighs enc bytes t e c.requires.known n p in
    let shapes = c.slots_of-members.ensures.shapes t in
    let abi = c.element_abi-abi.ensures in
    let inside : p + n * size false (element_shape s) ≤ length bytes =
    subst (λ k. p + n * k ≤ length bytes) (abi.size false) (leb-true _ _ (sym c.ends_inside.ensures ∙ c.if-not-ends_inside.false)) in
    let aligned : p % align false (element_shape s) ≡ 0 = subst (λ k. p % k ≡ 0) (c.from.ensures ∙ (abi.align false)) c.if-pointer-from-ne0.false in
    let these = shapes_of t c.slots_of-members.result in
    let r = row t e c.requires.known n in
    let falls : 4 * deepest these + 1 < 4 * depth s - 2 = omega (arith, r.shallow, ap deepest shapes) in (
      omega (arith, falls),
      (
        c.requires.one_origin,
        (
          c.slots_of-members.ensures.known t c.requires.known,
          (subst (λ (x : Members). p % members_align false x ≡ 0) (sym shapes) (w.aligned aligned), omega (arith, r.room p bytes inside, ap (members_end false 0) shapes)),
        ),
      ),
    )

pub load_items-returns-clause-ok : goal.load_items-returns-clause-ok
load_items-returns-clause-ok t0 c =
    let enc = encoding_of c.args.source.now.encoding in
    let bytes = c.args.source.now.memory.now in
    let t = c.args.source.now.types.now in
    let e = c.args.element.now in
    let s = list_shape t e in
    let n = c.args.length in
    let p = c.args.pointer in
    let w = row_weighs enc bytes t e c.requires.known n p in
    let shapes = c.slots_of-members.ensures.shapes t in
    let abi = c.element_abi-abi.ensures in
    let inside : p + n * size false (element_shape s) ≤ length bytes =
    subst (λ k. p + n * k ≤ length bytes) (abi.size false) (leb-true _ _ (sym c.ends_inside.ensures ∙ c.if-not-ends_inside.false)) in
    let aligned : p % align false (element_shape s) ≡ 0 = subst (λ k. p % k ≡ 0) (c.from.ensures ∙ (abi.align false)) c.if-pointer-from-ne0.false in
    let charged : c.args.fuel.now ≡ c.charge_each.new.fuel + n * element_cost s = c.in_ok-charge_each.ensures ∙ ap (λ k. c.charge_each.new.fuel + n * k) (c.element_cost.ensures t c.requires.known) in
    let mid = c.charge_each.new.fuel in
    let these = shapes_of t c.slots_of-members.result in
    let last = c.load_parts.new.fuel in
    core_on_ok c.load_parts.result (λ (vs : Vec Val Global). AreCharged enc (narrow bytes) these 0 p mid last vs.items) (λ (vs : Vec Val Global). IsListLoaded enc (narrow bytes) s p n c.args.fuel.now last vs.items)
    (λ vs h. w.loaded aligned inside c.args.fuel.now mid last vs.items charged (subst (λ (x : Members). AreCharged enc (narrow bytes) x 0 p mid last vs.items) shapes h)) c.load_parts.ensures.ok

pub load_items-returns-clause-err : goal.load_items-returns-clause-err
load_items-returns-clause-err t0 c =
    let enc = encoding_of c.args.source.now.encoding in
    let bytes = c.args.source.now.memory.now in
    let t = c.args.source.now.types.now in
    let e = c.args.element.now in
    let s = list_shape t e in
    let n = c.args.length in
    let p = c.args.pointer in
    let w = row_weighs enc bytes t e c.requires.known n p in
    let shapes = c.slots_of-members.ensures.shapes t in
    let abi = c.element_abi-abi.ensures in
    let inside : p + n * size false (element_shape s) ≤ length bytes =
    subst (λ k. p + n * k ≤ length bytes) (abi.size false) (leb-true _ _ (sym c.ends_inside.ensures ∙ c.if-not-ends_inside.false)) in
    let aligned : p % align false (element_shape s) ≡ 0 = subst (λ k. p % k ≡ 0) (c.from.ensures ∙ (abi.align false)) c.if-pointer-from-ne0.false in
    let charged : c.args.fuel.now ≡ c.charge_each.new.fuel + n * element_cost s = c.in_ok-charge_each.ensures ∙ ap (λ k. c.charge_each.new.fuel + n * k) (c.element_cost.ensures t c.requires.known) in
    let mid = c.charge_each.new.fuel in
    let these = shapes_of t c.slots_of-members.result in
    core_on_err c.load_parts.result (LiftBlames (Exactly (MemberFault enc (narrow bytes) these 0 p)) (mid < charged_reach enc (narrow bytes) these 0 p))
    (LiftBlames (Exactly (ItemsFault enc (narrow bytes) s (place_of c.args.at) p n)) (c.args.fuel.now < items_reach enc (narrow bytes) s p n))
    (λ f h. row_refused enc bytes s n p c.args.fuel.now mid (place_of c.args.at) f w aligned inside charged
    (subst (λ (x : Members). LiftBlames (Exactly (MemberFault enc (narrow bytes) x 0 p)) (mid < charged_reach enc (narrow bytes) x 0 p) f) shapes h)) c.load_parts.ensures.err

pub load_items-returns-then-not-ends_inside-clause-handles : goal.load_items-returns-then-not-ends_inside-clause-handles
load_items-returns-then-not-ends_inside-clause-handles t0 c = stops_before c.args.source.now.instance.now c.args.ledger.now _ _ (fault.PointerOutOfBounds c.args.at) refl refl

pub load_items-returns-in_err-charge_each-clause-handles : goal.load_items-returns-in_err-charge_each-clause-handles
load_items-returns-in_err-charge_each-clause-handles t0 c =
    refused_before c.args.source.now.instance.now _ c.args.ledger.now _ c.from_residual.result c.in_err-charge_each.field-0.0 c.from_residual.ensures (ap stop_of c.in_err-charge_each.ensures.0)

pub load_items-returns-then-pointer-from-ne0-clause-handles : goal.load_items-returns-then-pointer-from-ne0-clause-handles
load_items-returns-then-pointer-from-ne0-clause-handles t0 c = stops_before c.args.source.now.instance.now c.args.ledger.now _ _ (fault.PointerMisaligned c.args.at) refl refl

pub load_items-returns-clause-handles : goal.load_items-returns-clause-handles
load_items-returns-clause-handles t0 c =
    let bytes = c.args.source.now.memory.now in
    let t = c.args.source.now.types.now in
    let e = c.args.element.now in
    let s = list_shape t e in
    let n = c.args.length in
    let p = c.args.pointer in
    let shapes = c.slots_of-members.ensures.shapes t in
    let abi = c.element_abi-abi.ensures in
    let inside : p + n * size false (element_shape s) ≤ length bytes =
    subst (λ k. p + n * k ≤ length bytes) (abi.size false) (leb-true _ _ (sym c.ends_inside.ensures ∙ c.if-not-ends_inside.false)) in
    let aligned : p % align false (element_shape s) ≡ 0 = subst (λ k. p % k ≡ 0) (c.from.ensures ∙ (abi.align false)) c.if-pointer-from-ne0.false in
    subst (λ (ls : List Leaf). LiftsHandles (λ (vs : Vec Val Global). all_resources vs.items) c.args.source.now.instance.now c.args.ledger.now c.load_parts.new.ledger ls c.load_parts.result)
    (ap (λ (x : Members). members_reach_leaves (narrow bytes) x 0 p) shapes ∙ sym (items_leaves bytes t e c.requires.known n p aligned inside)) c.load_parts.ensures.handles

pub load_list-returns-clause-handles : goal.load_list-returns-clause-handles
load_list-returns-clause-handles t0 c =
    let bytes = c.args.source.now.memory.now in
    let t = c.args.source.now.types.now in
    let s = list_shape t c.args.element.now in
    let w = row_weighs (encoding_of c.args.source.now.encoding) bytes t c.args.element.now c.requires.known 0 0 in
    subst (λ (ls : List Leaf). LiftsHandles (λ (vs : Vec Val Global). all_resources vs.items) c.args.source.now.instance.now c.args.ledger.now c.load_items.new.ledger ls c.load_items.result)
    (stored_leaves bytes s w.part w.kind w.is c.from-pointer.result c.from-length.result c.args.at (c.from-pointer.ensures ∙ c.load_u32.ensures) (c.from-length.ensures ∙ c.load_u32-2.ensures)) c.load_items.ensures.handles

pub load_list-returns-clause-ok : goal.load_list-returns-clause-ok
load_list-returns-clause-ok t0 c =
    let enc = encoding_of c.args.source.now.encoding in
    let m = narrow c.args.source.now.memory.now in
    let t = c.args.source.now.types.now in
    let s = list_shape t c.args.element.now in
    let w = row_weighs enc c.args.source.now.memory.now t c.args.element.now c.requires.known 0 0 in
    let p = c.from-pointer.result in
    let n = c.from-length.result in
    core_on_ok c.load_items.result (λ (vs : Vec Val Global). IsListLoaded enc m s p n c.args.fuel.now c.load_items.new.fuel vs.items) (λ (vs : Vec Val Global). ArePartsLoaded enc m s c.args.at c.args.fuel.now c.load_items.new.fuel vs.items)
    (λ vs h. list_parts enc m s w.part w.kind w.is p n c.args.fuel.now c.args.at (c.from-pointer.ensures ∙ c.load_u32.ensures) (c.from-length.ensures ∙ c.load_u32-2.ensures) c.load_items.new.fuel vs.items
    (list_inside c.args.source.now.memory.now w.part w.kind c.args.at c.requires.inside) h) c.load_items.ensures.ok

pub load_list-returns-clause-err : goal.load_list-returns-clause-err
load_list-returns-clause-err t0 c =
    let enc = encoding_of c.args.source.now.encoding in
    let m = narrow c.args.source.now.memory.now in
    let t = c.args.source.now.types.now in
    let s = list_shape t c.args.element.now in
    let w = row_weighs enc c.args.source.now.memory.now t c.args.element.now c.requires.known 0 0 in
    let p = c.from-pointer.result in
    let n = c.from-length.result in
    core_on_err c.load_items.result (LiftBlames (Exactly (ItemsFault enc m s (address c.args.at) p n)) (c.args.fuel.now < items_reach enc m s p n))
    (LiftBlames (Exactly (StoredFault enc m s c.args.at)) (c.args.fuel.now < reach_cost enc m s c.args.at))
    (list_refused enc m s w.part w.kind w.is p n c.args.fuel.now c.args.at (c.from-pointer.ensures ∙ c.load_u32.ensures) (c.from-length.ensures ∙ c.load_u32-2.ensures)) c.load_items.ensures.err

pub load_value-load_handle-requires : goal.load_value-load_handle-requires
load_value-load_handle-requires t c =
    let ty0 = c.args.ty.now in
    let types = c.args.source.now.types.now in
    let h = c.in-Handle.handle in
    record {
      one_origin = c.requires.one_origin;
      known = subst (λ (x : InterfaceType). Knows types x) c.in-Handle.ensures c.requires.known;
      inside = omega (arith, c.requires.inside, handle_bytes types ty0 h c.in-Handle.ensures);
    }

pub load_value-returns-in-Handle-clause-ok : goal.load_value-returns-in-Handle-clause-ok
load_value-returns-in-Handle-clause-ok t c =
    handle_loaded c.args.source.now.instance.now c.args.ledger.now c.load_handle.new.ledger c.args.source.now.memory.now c.args.at c.args.source.now.types.now c.args.ty.now c.in-Handle.handle c.in-Handle.ensures c.load_handle.result
    c.load_handle.ensures.takes (encoding_of c.args.source.now.encoding) c.args.fuel.now c.requires.inside

pub load_value-returns-in-Handle-clause-err : goal.load_value-returns-in-Handle-clause-err
load_value-returns-in-Handle-clause-err t c =
    let enc = encoding_of c.args.source.now.encoding in
    let m = narrow c.args.source.now.memory.now in
    let s = shape_of c.args.source.now.types.now c.args.ty.now in
    handle_blamed c.args.source.now.instance.now c.args.ledger.now c.load_handle.new.ledger (Exactly (StoredFault enc m s c.args.at)) (c.args.fuel.now < reach_cost enc m s c.args.at) _ c.load_handle.result c.load_handle.ensures.takes

pub load_value-returns-in-Handle-clause-scalar : goal.load_value-returns-in-Handle-clause-scalar
load_value-returns-in-Handle-clause-scalar t c = λ scalar. absurd (handle_no_scalar c.args.ty.now c.in-Handle.handle c.in-Handle.ensures scalar)

pub load_value-returns-in-Handle-clause-handles : goal.load_value-returns-in-Handle-clause-handles
load_value-returns-in-Handle-clause-handles t c =
    handle_lifts c.args.source.now.instance.now c.args.ledger.now c.load_handle.new.ledger c.args.source.now.memory.now c.args.at c.args.source.now.types.now c.args.ty.now c.in-Handle.handle c.in-Handle.ensures c.load_handle.result
    c.load_handle.ensures.takes

pub load_value-returns-in-Scalar-clause-handles : goal.load_value-returns-in-Scalar-clause-handles
load_value-returns-in-Scalar-clause-handles t c =
    let bytes = c.args.source.now.memory.now in
    let enc = encoding_of c.args.source.now.encoding in
    let (k, e) = c.in-Scalar.ensures in
    lifts_nothing c.args.source.now.instance.now resources c.args.ledger.now c.args.ledger.now _ c.load_scalar.result (scalar_leaves bytes k _ c.args.at (scalar_shape c.args.source.now.types.now c.args.ty.now k e)) refl
    (core_on_ok c.load_scalar.result (IsLoaded enc (narrow bytes) (scalar k) c.args.at c.args.fuel.now c.args.fuel.now) (λ v. resources v ≡ []) (λ v h. scalar_has_none k v h.0 h.2) (c.load_scalar.ensures.ok k enc c.args.fuel.now e))
    (core_on_err c.load_scalar.result (λ f. f ≡ fault.InvalidChar (place.Address c.args.at)) (λ f. stop_of f ≡ None) (λ f is. ap stop_of is) c.load_scalar.ensures.only_char)

pub load_value-returns-in-Text-clause-handles : goal.load_value-returns-in-Text-clause-handles
load_value-returns-in-Text-clause-handles t c =
    let bytes = c.args.source.now.memory.now in
    let enc = encoding_of c.args.source.now.encoding in
    lifts_nothing c.args.source.now.instance.now resources c.args.ledger.now c.args.ledger.now _ c.load_string.result (text_leaves bytes _ c.args.at c.in-Text.ensures) refl
    (core_on_ok c.load_string.result (IsLoaded enc (narrow bytes) string c.args.at c.args.fuel.now c.load_string.new.fuel) (λ v. resources v ≡ []) (λ v h. text_has_none h.2.0 v h.2.2) c.load_string.ensures.ok)
    (core_on_err c.load_string.result IsNoRefusal (λ f. stop_of f ≡ None) no_refusal c.load_string.ensures.unrefused)

pub load_value-returns-in-Flags-clause-handles : goal.load_value-returns-in-Flags-clause-handles
load_value-returns-in-Flags-clause-handles t c = rw c.in-Flags.ensures (c.load_flags.ensures.handles c.args.ledger.now)

pub load_value-returns-in-Ok-clause-handles : goal.load_value-returns-in-Ok-clause-handles
load_value-returns-in-Ok-clause-handles t c =
    let (known, e, kind) = c.in-List.ensures in
    put_together c.args.source.now.instance.now c.args.ledger.now c.load_list.new.ledger _ c.in-Ok.items.items c.rebuild.result
    (subst (λ (x : Shape). LeavesLift c.args.source.now.instance.now c.args.ledger.now (reach_leaves (narrow c.args.source.now.memory.now) x c.args.at) (all_resources c.in-Ok.items.items) c.load_list.new.ledger) (sym e) c.in-Ok.ensures.handles)
    c.rebuild.ensures.resources c.rebuild.ensures.err

pub load_value-returns-in-Err-clause-handles : goal.load_value-returns-in-Err-clause-handles
load_value-returns-in-Err-clause-handles t c =
    let (known, e, kind) = c.in-List.ensures in
    subst (λ (x : Shape). LeavesStop (stop_of c.in-Err.fault) c.args.ledger.now (parts_of_leaves c.args.source.now.instance.now (reach_leaves (narrow c.args.source.now.memory.now) x c.args.at)) c.load_list.new.ledger) (sym e) c.in-Err.ensures.handles

pub load_value-returns-in_err-charge_each-in-Members-clause-handles : goal.load_value-returns-in_err-charge_each-in-Members-clause-handles
load_value-returns-in_err-charge_each-in-Members-clause-handles t c =
    refused_before c.args.source.now.instance.now _ c.args.ledger.now _ c.from_residual.result c.in_err-charge_each-in-Members.field-0.0 c.from_residual.ensures (ap stop_of c.in_err-charge_each-in-Members.ensures.0)

pub load_value-returns-in-Ok-load_parts-clause-handles : goal.load_value-returns-in-Ok-load_parts-clause-handles
load_value-returns-in-Ok-load_parts-clause-handles t c =
    let (known, lies, kind, unnamed) = c.in-Members.ensures in
    let w = weighs (encoding_of c.args.source.now.encoding) c.args.source.now.memory.now (shape_of c.args.source.now.types.now c.args.ty.now) (shapes_of c.args.source.now.types.now c.in-Members.members) c.args.at lies unnamed in
    put_together c.args.source.now.instance.now c.args.ledger.now c.load_parts.new.ledger _ c.in-Ok-load_parts.values.items c.rebuild-in-Ok-load_parts.result
    (subst (λ (ls : List Leaf). LeavesLift c.args.source.now.instance.now c.args.ledger.now ls (all_resources c.in-Ok-load_parts.values.items) c.load_parts.new.ledger) (sym w.leaves) c.in-Ok-load_parts.ensures.handles)
    c.rebuild-in-Ok-load_parts.ensures.resources c.rebuild-in-Ok-load_parts.ensures.err

pub load_value-returns-in-Err-load_parts-clause-handles : goal.load_value-returns-in-Err-load_parts-clause-handles
load_value-returns-in-Err-load_parts-clause-handles t c =
    let (known, lies, kind, unnamed) = c.in-Members.ensures in
    let w = weighs (encoding_of c.args.source.now.encoding) c.args.source.now.memory.now (shape_of c.args.source.now.types.now c.args.ty.now) (shapes_of c.args.source.now.types.now c.in-Members.members) c.args.at lies unnamed in
    subst (λ (ls : List Leaf). LeavesStop (stop_of c.in-Err-load_parts.fault) c.args.ledger.now (parts_of_leaves c.args.source.now.instance.now ls) c.load_parts.new.ledger) (sym w.leaves) c.in-Err-load_parts.ensures.handles

pub load_case-load_tag-tag-requires : goal.load_case-load_tag-tag-requires
load_case-load_tag-tag-requires t c =
    tag_inside (shape_of c.args.source.now.types.now c.args.ty.now) c.args.info.now c.args.at (length c.args.source.now.memory.now) c.requires.variant c.requires.info c.requires.inside

pub load_case-returns-in_err-charge_each-clause-err : goal.load_case-returns-in_err-charge_each-clause-err
load_case-returns-in_err-charge_each-clause-err t c =
    let a = c.args in
    let r = c.requires in
    let enc = encoding_of a.source.now.encoding in
    let bytes = a.source.now.memory.now in
    let types = a.source.now.types.now in
    let s = shape_of types a.ty.now in
    let w = case_weighs enc bytes s a.at c.load_tag-tag.result r.variant a.info.now r.info c.load_tag-tag.ensures r.aligned r.inside types c.in-Some.case c.in-Some.ensures a.info.now.payload_offset32 refl in
    exhausted c.from_residual.result c.in_err-charge_each.field-0.0 (Exactly (StoredFault enc (narrow bytes) s a.at)) (a.fuel.now < reach_cost enc (narrow bytes) s a.at) c.from_residual.ensures c.in_err-charge_each.ensures.0
    (w.unpaid a.fuel.now (omega (arith, c.in_err-charge_each.ensures, c.slot_count.ensures)))

pub load_case-load_parts-requires : goal.load_case-load_parts-requires
load_case-load_parts-requires t c =
    let a = c.args in
    let r = c.requires in
    let enc = encoding_of a.source.now.encoding in
    let bytes = a.source.now.memory.now in
    let types = a.source.now.types.now in
    let s = shape_of types a.ty.now in
    let w = case_weighs enc bytes s a.at c.load_tag-tag.result r.variant a.info.now r.info c.load_tag-tag.ensures r.aligned r.inside types c.in-Some.case c.in-Some.ensures c.from.result c.from.ensures in
    (omega (arith, w.shallow), (c.requires.one_origin, (c.in-Some.ensures.known, (w.aligned, w.inside))))

pub load_case-returns-in_err-charge-in-Ok-clause-err : goal.load_case-returns-in_err-charge-in-Ok-clause-err
load_case-returns-in_err-charge-in-Ok-clause-err t c =
    let a = c.args in
    let r = c.requires in
    let enc = encoding_of a.source.now.encoding in
    let bytes = a.source.now.memory.now in
    let types = a.source.now.types.now in
    let s = shape_of types a.ty.now in
    let is = c.in-Some.ensures in
    let w = case_weighs enc bytes s a.at c.load_tag-tag.result r.variant a.info.now r.info c.load_tag-tag.ensures r.aligned r.inside types c.in-Some.case is c.from.result c.from.ensures in
    let charged : a.fuel.now ≡ c.charge_each.new.fuel + member_count (shapes_of types c.in-Some.case.payload) * val_cost = omega (arith, c.in_ok-charge_each.ensures, c.slot_count.ensures) in
    exhausted c.from_residual-in_err-charge-in-Ok.result c.in_err-charge-in-Ok.field-0.0 (Exactly (StoredFault enc (narrow bytes) s a.at)) (a.fuel.now < reach_cost enc (narrow bytes) s a.at) c.from_residual-in_err-charge-in-Ok.ensures
    c.in_err-charge-in-Ok.ensures.0 (w.nameless a.fuel.now c.charge_each.new.fuel c.load_parts.new.fuel c.in-Ok.values.items charged c.in-Ok.ensures.ok (omega (arith, c.in_err-charge-in-Ok.ensures.1, is.charge)))

pub load_case-rebuild_case-requires-clause-count : goal.load_case-rebuild_case-requires-clause-count
load_case-rebuild_case-requires-clause-count t c =
    let a = c.args in
    let r = c.requires in
    let types = a.source.now.types.now in
    let w = case_weighs (encoding_of a.source.now.encoding) a.source.now.memory.now (shape_of types a.ty.now) a.at c.load_tag-tag.result r.variant a.info.now r.info c.load_tag-tag.ensures r.aligned r.inside types
    c.in-Some.case c.in-Some.ensures c.from.result c.from.ensures in
    w.count c.charge_each.new.fuel c.load_parts.new.fuel c.in-Ok.values.items c.in-Ok.ensures.ok

pub load_case-returns-in_ok-charge-in-Ok-clause-ok : goal.load_case-returns-in_ok-charge-in-Ok-clause-ok
load_case-returns-in_ok-charge-in-Ok-clause-ok t c =
    let a = c.args in
    let r = c.requires in
    let enc = encoding_of a.source.now.encoding in
    let bytes = a.source.now.memory.now in
    let types = a.source.now.types.now in
    let s = shape_of types a.ty.now in
    let is = c.in-Some.ensures in
    let tag = c.load_tag-tag.result in
    let vs = c.in-Ok.values.items in
    let w = case_weighs enc bytes s a.at tag r.variant a.info.now r.info c.load_tag-tag.ensures r.aligned r.inside types c.in-Some.case is c.from.result c.from.ensures in
    let charged : a.fuel.now ≡ c.charge_each.new.fuel + member_count (shapes_of types c.in-Some.case.payload) * val_cost = omega (arith, c.in_ok-charge_each.ensures, c.slot_count.ensures) in
    let named : c.load_parts.new.fuel ≡ c.charge.new.fuel + name_charge s tag = omega (arith, c.in_ok-charge-in-Ok.ensures, is.charge) in
    core_on_ok c.rebuild_case.result (IsCaseRebuilt s tag vs) (IsLoaded enc (narrow bytes) s a.at a.fuel.now c.charge.new.fuel)
    (w.loaded a.fuel.now c.charge_each.new.fuel c.load_parts.new.fuel c.charge.new.fuel vs charged c.in-Ok.ensures.ok named) c.rebuild_case.ensures.ok

pub load_case-returns-in-Err-clause-err : goal.load_case-returns-in-Err-clause-err
load_case-returns-in-Err-clause-err t c =
    let a = c.args in
    let r = c.requires in
    let types = a.source.now.types.now in
    let w = case_weighs (encoding_of a.source.now.encoding) a.source.now.memory.now (shape_of types a.ty.now) a.at c.load_tag-tag.result r.variant a.info.now r.info c.load_tag-tag.ensures r.aligned r.inside types
    c.in-Some.case c.in-Some.ensures c.from.result c.from.ensures in
    let charged : a.fuel.now ≡ c.charge_each.new.fuel + member_count (shapes_of types c.in-Some.case.payload) * val_cost = omega (arith, c.in_ok-charge_each.ensures, c.slot_count.ensures) in
    w.refused a.fuel.now c.charge_each.new.fuel charged c.in-Err.fault c.in-Err.ensures.err

pub load_case-returns-in_default-clause-handles : goal.load_case-returns-in_default-clause-handles
load_case-returns-in_default-clause-handles t c = stops_before c.args.source.now.instance.now c.args.ledger.now _ _ (fault.BadDiscriminant (place.Address c.args.at) c.load_tag-tag.result) refl refl

pub load_case-returns-in_err-charge_each-clause-handles : goal.load_case-returns-in_err-charge_each-clause-handles
load_case-returns-in_err-charge_each-clause-handles t c =
    refused_before c.args.source.now.instance.now _ c.args.ledger.now _ c.from_residual.result c.in_err-charge_each.field-0.0 c.from_residual.ensures (ap stop_of c.in_err-charge_each.ensures.0)

pub load_case-returns-in_err-charge-in-Ok-clause-handles : goal.load_case-returns-in_err-charge-in-Ok-clause-handles
load_case-returns-in_err-charge-in-Ok-clause-handles t c =
    let a = c.args in
    let r = c.requires in
    let types = a.source.now.types.now in
    let w = case_weighs (encoding_of a.source.now.encoding) a.source.now.memory.now (shape_of types a.ty.now) a.at c.load_tag-tag.result r.variant a.info.now r.info c.load_tag-tag.ensures r.aligned r.inside types
    c.in-Some.case c.in-Some.ensures c.from.result c.from.ensures in
    refused_after a.source.now.instance.now _ a.ledger.now c.load_parts.new.ledger _ (all_resources c.in-Ok.values.items) c.from_residual-in_err-charge-in-Ok.result c.in_err-charge-in-Ok.field-0.0 c.from_residual-in_err-charge-in-Ok.ensures
    (ap stop_of c.in_err-charge-in-Ok.ensures.0)
    (subst (λ (ls : List Leaf). LeavesLift a.source.now.instance.now a.ledger.now ls (all_resources c.in-Ok.values.items) c.load_parts.new.ledger) (sym w.leaves) c.in-Ok.ensures.handles)

pub load_case-returns-in_ok-charge-in-Ok-clause-handles : goal.load_case-returns-in_ok-charge-in-Ok-clause-handles
load_case-returns-in_ok-charge-in-Ok-clause-handles t c =
    let a = c.args in
    let r = c.requires in
    let types = a.source.now.types.now in
    let w = case_weighs (encoding_of a.source.now.encoding) a.source.now.memory.now (shape_of types a.ty.now) a.at c.load_tag-tag.result r.variant a.info.now r.info c.load_tag-tag.ensures r.aligned r.inside types
    c.in-Some.case c.in-Some.ensures c.from.result c.from.ensures in
    put_together a.source.now.instance.now a.ledger.now c.load_parts.new.ledger _ c.in-Ok.values.items c.rebuild_case.result
    (subst (λ (ls : List Leaf). LeavesLift a.source.now.instance.now a.ledger.now ls (all_resources c.in-Ok.values.items) c.load_parts.new.ledger) (sym w.leaves) c.in-Ok.ensures.handles)
    c.rebuild_case.ensures.resources c.rebuild_case.ensures.err

pub load_case-returns-in-Err-clause-handles : goal.load_case-returns-in-Err-clause-handles
load_case-returns-in-Err-clause-handles t c =
    let a = c.args in
    let r = c.requires in
    let types = a.source.now.types.now in
    let w = case_weighs (encoding_of a.source.now.encoding) a.source.now.memory.now (shape_of types a.ty.now) a.at c.load_tag-tag.result r.variant a.info.now r.info c.load_tag-tag.ensures r.aligned r.inside types
    c.in-Some.case c.in-Some.ensures c.from.result c.from.ensures in
    subst (λ (ls : List Leaf). LeavesStop (stop_of c.in-Err.fault) a.ledger.now (parts_of_leaves a.source.now.instance.now ls) c.load_parts.new.ledger) (sym w.leaves) c.in-Err.ensures.handles
