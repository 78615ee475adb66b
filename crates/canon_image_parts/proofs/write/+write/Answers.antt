use Rattle.std.proofs.Common.{ap, arith, length, refl, rules, subst, sym, ◌<◌, ◌^◌, ◌∙◌, ◌≡◌}
use Rattle.canon_model.specs.Shape.{Shape, string}
use Rattle.canon_types.specs.Depth.{depth, element_shape}
use Rattle.canon_types.specs.Table.{shape_of}
use Rattle.canon_types.specs.declared.types.InterfaceType.TheVariants as ty
use Rattle.canon_plan.specs.Plan.{shape_of_handle}
use Rattle.canon_plan.proofs.Lookups.{copies_count}
use Rattle.canon_plan.proofs.Pairs.{key_known, map_shape, value_known}
use Rattle.canon_val.specs.declared.val.Val.{Val}
use Rattle.canon_value_parts.specs.View.{viewed_names, viewed_shapes, viewed_values}
use Rattle.canon_value_parts.proofs.HandleLifting.{handle_shape}
use Rattle.canon_value_parts.proofs.Viewing.{lies_depth, names_count}
use Rattle.canon_value_parts.proofs.WalkCases.{case_wants}
use Rattle.canon_value_parts.proofs.WalkLoops.{member_shallow}
use Rattle.canon_value_parts.proofs.Walks.{copies_deepest}
use Rattle.canon_value_parts.proofs.Steps.{blocks_none}
use Rattle.canon_image_parts.proofs.PairsWriting.{key_stops, map_told, pair_goes_on, pair_here, image_pairs_end, value_stops}
use Rattle.canon_image_parts.proofs.Writing.{image_case_told, image_end, image_go_on, items_told, members_written, image_misnamed, image_parts_told, refused, image_stop}
use Rattle.canon_image_parts.specs.Written.{WritesTo, sink}
use Rattle.canon_image_parts.proofs.write.+write.Goals as goal

-- ---- a case

pub write_case-write_parts-requires : goal.write_case-write_parts-requires
write_case-write_parts-requires t c =
    let a = c.args in
    let s = shape_of a.types.now a.ty.now in
    let w = case_wants a.types.now s a.value.now a.case.now 0 c.requires.seen in
    (omega (arith, w.falls), (w.known, w.count))

pub write_case-returns-in-Ok : goal.write_case-returns-in-Ok
write_case-returns-in-Ok t c =
    let a = c.args in
    record {
      writes = image_case_told a.types.now (sink a.bytes.now.items a.resources.now.items) (sink c.put_number.new.bytes.items a.resources.now.items)
          (sink c.write_parts.new.bytes.items c.write_parts.new.resources.items) a.place c.byte_size-size.result c.from.result c.saturating_add.result
          (shape_of a.types.now a.ty.now) a.case.now a.value.now
          c.write_parts.result c.requires.seen c.byte_size-size.ensures c.from.ensures (c.in-Ok.ensures.ok, refl) c.saturating_add.ensures c.write_parts.ensures.writes;
    }

-- ---- a list

pub write_items-write_parts-requires : goal.write_items-write_parts-requires
write_items-write_parts-requires t c =
    let s = shape_of c.args.types.now c.args.ty.now in
    let n = length c.deref.result.now in
    (omega (arith, copies_deepest n s), (c.requires.known, sym (copies_count n s)))

pub write_items-returns-in-Ok : goal.write_items-returns-in-Ok
write_items-returns-in-Ok t c =
    let a = c.args in
    let many : c.len.result ≡ length a.items.now.items = search rules in
    let few : c.len.result < 2 ^ 64 = search rules in
    record {
      writes = items_told (sink a.bytes.now.items a.resources.now.items) (sink c.put_number.new.bytes.items a.resources.now.items)
          (sink c.write_parts.new.bytes.items c.write_parts.new.resources.items) a.place c.len.result c.saturating_add.result
          (shape_of a.types.now a.ty.now) a.items.now c.deref.result.now c.write_parts.result
          c.deref.ensures.value many few (c.in-Ok.ensures.ok, refl) c.saturating_add.ensures c.write_parts.ensures.writes;
    }

-- ---- a map

pub write_map-returns-in-Ok : goal.write_map-returns-in-Ok
write_map-returns-in-Ok t c =
    let a = c.args in
    let many : c.len.result ≡ length a.pairs.now.items = search rules in
    let few : c.len.result < 2 ^ 64 = search rules in
    record {
      writes = map_told (sink a.bytes.now.items a.resources.now.items) (sink c.put_number.new.bytes.items a.resources.now.items)
          (sink c.write_pairs.new.bytes.items c.write_pairs.new.resources.items) a.place c.len.result c.saturating_add.result
          (shape_of a.types.now (ty.Map a.i)) a.pairs.now c.write_pairs.result c.requires.map many few (c.in-Ok.ensures.ok, refl)
          c.saturating_add.ensures c.write_pairs.ensures.writes;
    }

pub write_pairs-write_value-requires : goal.write_pairs-write_value-requires
write_pairs-write_value-requires t c =
    let types = c.args.types.now in
    let m = c.map-map.result.now in
    let is = map_shape types c.args.i m c.map-map.ensures.entry in
    (omega (arith, ap depth is), key_known types c.args.i m c.map-map.ensures.entry)

pub write_pairs-write_value-requires-in-loop-key : goal.write_pairs-write_value-requires-in-loop-key
write_pairs-write_value-requires-in-loop-key t c =
    let types = c.args.types.now in
    let m = c.map-map.result.now in
    let is = map_shape types c.args.i m c.map-map.ensures.entry in
    (omega (arith, ap depth is), value_known types c.args.i m c.map-map.ensures.entry)

pub write_pairs-returns-in-Err : goal.write_pairs-returns-in-Err
write_pairs-returns-in-Err t c =
    let a = c.args in
    let m = c.map-map.result.now in
    let here = pair_here a.pairs.now.items c.deref-key-items.result.now c.loop-key.key-index c.loop-key-item.result c.deref-key-items.ensures.value (omega arith) c.loop-key-item.is in
    record {
      writes = key_stops (sink a.bytes.now.items a.resources.now.items) _ (shape_of a.types.now m.key) (shape_of a.types.now m.value)
          (ap element_shape (map_shape a.types.now a.i m c.map-map.ensures.entry)) a.pairs.now.items a.first (sink c.loop-key.bytes.items c.loop-key.resources.items) c.loop-key.next
          c.loop-key.key-index c.loop-key.invariant.written c.loop-key-item.result here (sink c.write_value.new.bytes.items c.write_value.new.resources.items) c.in-Err.fault c.in-Err.ensures.writes;
    }

pub write_pairs-returns-in-Err-write_value : goal.write_pairs-returns-in-Err-write_value
write_pairs-returns-in-Err-write_value t c =
    let a = c.args in
    let m = c.map-map.result.now in
    let here = pair_here a.pairs.now.items c.deref-key-items.result.now c.loop-key.key-index c.loop-key-item.result c.deref-key-items.ensures.value (omega arith) c.loop-key-item.is in
    record {
      writes = value_stops (sink a.bytes.now.items a.resources.now.items) _ (shape_of a.types.now m.key) (shape_of a.types.now m.value)
          (ap element_shape (map_shape a.types.now a.i m c.map-map.ensures.entry)) a.pairs.now.items a.first (sink c.loop-key.bytes.items c.loop-key.resources.items) c.loop-key.next
          c.loop-key.key-index c.loop-key.invariant.written c.loop-key-item.result here (sink c.write_value.new.bytes.items c.write_value.new.resources.items)
          (sink c.write_value-in-loop-key.new.bytes.items c.write_value-in-loop-key.new.resources.items) c.in-Ok.after c.in-Err-write_value.fault c.in-Ok.ensures.writes c.in-Err-write_value.ensures.writes;
    }

pub write_pairs-loop-key-preserved : goal.write_pairs-loop-key-preserved
write_pairs-loop-key-preserved t c =
    let a = c.args in
    let m = c.map-map.result.now in
    let here = pair_here a.pairs.now.items c.deref-key-items.result.now c.loop-key.key-index c.loop-key-item.result c.deref-key-items.ensures.value (omega arith) c.loop-key-item.is in
    record {
      written = pair_goes_on (sink a.bytes.now.items a.resources.now.items) _ (shape_of a.types.now m.key) (shape_of a.types.now m.value)
          (ap element_shape (map_shape a.types.now a.i m c.map-map.ensures.entry)) a.pairs.now.items a.first (sink c.loop-key.bytes.items c.loop-key.resources.items) c.loop-key.next
          c.loop-key.key-index c.loop-key.invariant.written c.loop-key-item.result here (sink c.write_value.new.bytes.items c.write_value.new.resources.items)
          (sink c.write_value-in-loop-key.new.bytes.items c.write_value-in-loop-key.new.resources.items) c.in-Ok.after c.in-Ok-write_value.after
          (omega (arith, c.in-Ok-write_value.ensures.writes.counted))
          c.in-Ok.ensures.writes c.in-Ok-write_value.ensures.writes;
    }

pub write_pairs-returns : goal.write_pairs-returns
write_pairs-returns t c =
    let a = c.args in
    let m = c.map-map.result.now in
    let all : c.loop-key.key-index ≡ length a.pairs.now.items = omega (arith, c.loop-key-test.false, c.loop-key.auto.key-index-end, ap length c.deref-key-items.ensures.value) in
    record {
      writes = image_pairs_end (sink a.bytes.now.items a.resources.now.items) _ (shape_of a.types.now m.key) (shape_of a.types.now m.value)
          (ap element_shape (map_shape a.types.now a.i m c.map-map.ensures.entry)) a.pairs.now.items a.first (sink c.loop-key.bytes.items c.loop-key.resources.items) c.loop-key.next
          c.loop-key.key-index c.loop-key.invariant.written all;
    }

-- ---- members

pub write_parts-returns-then-not-member : goal.write_parts-returns-then-not-member
write_parts-returns-then-not-member t c =
    let a = c.args in
    let ms = a.members.now in
    record {
      writes = image_misnamed (sink a.bytes.now.items a.resources.now.items) a.place (viewed_shapes a.types.now ms) (viewed_names ms) (viewed_values ms) a.first
          (sink c.loop-k.bytes.items c.loop-k.resources.items) c.loop-k.next c.loop-k.k c.loop-k.invariant.written a.types.now c.member_of-member.result c.member_of-member.ensures
          (λ h. blocks_none _ h c.if-not-member.true);
    }

pub write_parts-write_value-requires : goal.write_parts-write_value-requires
write_parts-write_value-requires t c =
    let a = c.args in
    let ms = viewed_shapes a.types.now a.members.now in
    let is = c.member_of-member.ensures in
    let s = shape_of a.types.now c.member_of-member.result.ty in
    (omega (arith, member_shallow ms c.loop-k.k is.name s _ is.shapes), is.known)

pub write_parts-returns-in-Err : goal.write_parts-returns-in-Err
write_parts-returns-in-Err t c =
    let a = c.args in
    let ms = a.members.now in
    record {
      writes = image_stop (sink a.bytes.now.items a.resources.now.items) a.place (viewed_shapes a.types.now ms) (viewed_names ms) (viewed_values ms) a.first
          (sink c.loop-k.bytes.items c.loop-k.resources.items) c.loop-k.next c.loop-k.k c.loop-k.invariant.written a.types.now c.member_of-member.result c.member_of-member.ensures
          (sink c.write_value.new.bytes.items c.write_value.new.resources.items) c.in-Err.fault c.in-Err.ensures.writes;
    }

pub write_parts-loop-k-preserved : goal.write_parts-loop-k-preserved
write_parts-loop-k-preserved t c =
    let a = c.args in
    let ms = a.members.now in
    record {
      written = image_go_on (sink a.bytes.now.items a.resources.now.items) a.place (viewed_shapes a.types.now ms) (viewed_names ms) (viewed_values ms) a.first
          (sink c.loop-k.bytes.items c.loop-k.resources.items) c.loop-k.next c.loop-k.k c.loop-k.invariant.written a.types.now c.member_of-member.result c.member_of-member.ensures
          (sink c.write_value.new.bytes.items c.write_value.new.resources.items) c.in-Ok.after c.if-not-member.false (omega (arith, c.in-Ok.ensures.writes.counted)) c.in-Ok.ensures.writes;
    }

pub write_parts-returns : goal.write_parts-returns
write_parts-returns t c =
    let a = c.args in
    let ms = a.members.now in
    let all : c.loop-k.k ≡ length (viewed_values ms) = omega (arith, c.loop-k-test.false, c.loop-k.auto.k-end, c.count_of-k-end.ensures) in
    record {
      writes = image_end (sink a.bytes.now.items a.resources.now.items) a.place (viewed_shapes a.types.now ms) (viewed_names ms) (viewed_values ms) a.first
          (sink c.loop-k.bytes.items c.loop-k.resources.items) c.loop-k.next c.loop-k.k c.loop-k.invariant.written (all ∙ c.requires.count)
          (all ∙ sym (names_count ms)) all;
    }

-- ---- a value

pub write_value-write_parts-requires : goal.write_value-write_parts-requires
write_value-write_parts-requires t c =
    let s = shape_of c.args.types.now c.args.ty.now in
    let (known, lies, has, count) = rw c.in-Ok-Members.field-0-is at c.in-Ok-Members.ensures in
    let ms = viewed_shapes c.args.types.now c.in-Ok-Members.members in
    (omega (arith, lies_depth s ms lies), (known, count))

pub write_value-returns-in-Ok-Members : goal.write_value-returns-in-Ok-Members
write_value-returns-in-Ok-Members t c =
    let a = c.args in
    let s = shape_of a.types.now a.ty.now in
    let (known, lies, has, count) = rw c.in-Ok-Members.field-0-is at c.in-Ok-Members.ensures in
    let ms = c.in-Ok-Members.members in
    record {
      writes = members_written (sink a.bytes.now.items a.resources.now.items) (sink c.write_parts.new.bytes.items c.write_parts.new.resources.items) a.place s (viewed_shapes a.types.now ms)
          (viewed_names ms) (viewed_values ms) a.value.now c.write_parts.result (omega arith) lies has count
          (image_parts_told (sink a.bytes.now.items a.resources.now.items) (sink c.write_parts.new.bytes.items c.write_parts.new.resources.items) a.place c.saturating_add.result (viewed_shapes a.types.now ms) (viewed_names ms) (viewed_values ms) c.write_parts.result c.saturating_add.ensures
          c.write_parts.ensures.writes);
    }

pub write_value-returns-in-Err : goal.write_value-returns-in-Err
write_value-returns-in-Err t c =
    let a = c.args in
    record { writes = refused (sink a.bytes.now.items a.resources.now.items) (shape_of a.types.now a.ty.now) a.value.now a.place c.in-Err.fault (omega arith) c.in-Err.ensures }

pub write_value-returns-in-Ok-Scalar : goal.write_value-returns-in-Ok-Scalar
write_value-returns-in-Ok-Scalar t c = record { writes = c.write_scalar.ensures.writes c.args.resources.now.items }

pub write_value-returns-in-Ok-Handle : goal.write_value-returns-in-Ok-Handle
write_value-returns-in-Ok-Handle t c =
    let a = c.args in
    let (is, value) = rw c.in-Ok-Handle.field-0-is at c.in-Ok-Handle.ensures in
    let before = sink a.bytes.now.items a.resources.now.items in
    let after = sink c.write_handle.new.bytes.items c.write_handle.new.resources.items in
    record {
      writes = subst (λ (s : Shape). WritesTo before after s a.value.now a.place c.write_handle.result) (sym (handle_shape a.types.now a.ty.now c.in-Ok-Handle._handle is))
          (subst (λ (v : Val). WritesTo before after (shape_of_handle c.in-Ok-Handle._handle) v a.place c.write_handle.result) (sym value) (c.write_handle.ensures.writes c.in-Ok-Handle._handle));
    }

pub write_value-returns-in-Ok-Text : goal.write_value-returns-in-Ok-Text
write_value-returns-in-Ok-Text t c =
    let a = c.args in
    let (is, value) = rw c.in-Ok-Text.field-0-is at c.in-Ok-Text.ensures in
    let before = sink a.bytes.now.items a.resources.now.items in
    let after = sink c.write_text.new.bytes.items a.resources.now.items in
    record {
      writes = subst (λ (s : Shape). WritesTo before after s a.value.now a.place c.write_text.result) (sym is)
          (subst (λ (v : Val). WritesTo before after string v a.place c.write_text.result) (sym value) (c.write_text.ensures.writes a.resources.now.items));
    }

pub write_value-returns-in-Ok-Flags : goal.write_value-returns-in-Ok-Flags
write_value-returns-in-Ok-Flags t c =
    let a = c.args in
    let (kind, value) = rw c.in-Ok-Flags.field-0-is at c.in-Ok-Flags.ensures in
    let before = sink a.bytes.now.items a.resources.now.items in
    let after = sink c.write_names.new.bytes.items a.resources.now.items in
    record { writes = subst (λ (v : Val). WritesTo before after (shape_of a.types.now a.ty.now) v a.place c.write_names.result) (sym value) (c.write_names.ensures.writes a.resources.now.items) }
