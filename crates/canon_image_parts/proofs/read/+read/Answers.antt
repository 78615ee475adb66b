use Rattle.std.proofs.Common.{List, ap, arith, drop, length, subst, sym, ℕ, ◌+◌, ◌<◌, ◌∙◌, ◌≡◌, ◌≤◌}
use Rattle.canon_lowering.specs.Copies.{case_members}
use Rattle.canon_lowering.specs.Storing.{narrow}
use Rattle.canon_model.specs.Layout.{tag_size}
use Rattle.canon_model.specs.Memory.{num}
use Rattle.canon_model.specs.Shape.{Members, Shape, case_count, member_count}
use Rattle.canon_types.specs.Depth.{depth, element_shape, variant_cases}
use Rattle.canon_types.specs.Table.{shape_of}
use Rattle.canon_types.specs.declared.types.InterfaceType.TheVariants as ty
use Rattle.canon_plan.specs.Plan.{shapes_of}
use Rattle.canon_plan.proofs.Pairs.{key_known, map_shape, value_known}
use Rattle.canon_val.specs.declared.val.Val.{Val}
use Rattle.canon_value_parts.proofs.HandleLifting.{handle_shape}
use Rattle.canon_value_parts.proofs.Viewing.{lies_depth}
use Rattle.canon_value_parts.proofs.WalkLoops.{member_shallow}
use Rattle.canon_value_parts.proofs.Walks.{copies_deepest}
use Rattle.canon_image_parts.proofs.CaseReading.{case_cut, case_falls, case_none, payload_count, tag_here}
use Rattle.canon_image_parts.proofs.Fetching.{left_short}
use Rattle.canon_image_parts.proofs.PairsReading.{PairsAreRead, key_stop, map_read, map_stops, pair_read, pairs_begin, pairs_done, value_stop}
use Rattle.canon_image_parts.proofs.Reading.{AreRead, PartsRead, all_read, begin_read, image_case_read, image_case_stopped, items_read, items_stop, member_read, whole_count, whole_read, whole_stops}
use Rattle.canon_image_parts.specs.Numbered.{numbered_members}
use Rattle.canon_image_parts.specs.Read.{ReadsTo, StopsFrom}
use Rattle.canon_image_parts.specs.Stops.{MembersStop}
use Rattle.canon_image_parts.proofs.read.+read.Goals as goal

-- ---- members

pub read_parts-read_value-requires : goal.read_parts-read_value-requires
read_parts-read_value-requires t c =
    let a = c.args in
    let ms = shapes_of a.types.now a.members.now in
    let is = c.slot_of-member.ensures in
    let s = shape_of a.types.now c.slot_of-member.result.ty in
    (omega (arith, member_shallow ms c.loop-k.k is.name s _ is.shapes), (is.known, c.loop-k.invariant.read.inside))

pub read_parts-loop-k-init : goal.read_parts-loop-k-init
read_parts-loop-k-init t c =
    let a = c.args in
    let ms = shapes_of a.types.now a.members.now in
    record { read = subst (λ (vs : List Val). AreRead a.bytes.now a.at.now ms a.at.now vs 0) (sym c.in-Ok.ensures.items) (begin_read a.bytes.now a.at.now ms c.requires.inside) }

pub read_parts-loop-k-preserved : goal.read_parts-loop-k-preserved
read_parts-loop-k-preserved t c =
    let a = c.args in
    let ms = shapes_of a.types.now a.members.now in
    record {
      read = member_read a.bytes.now a.at.now ms c.loop-k.at c.loop-k.values.items c.loop-k.k c.loop-k.invariant.read a.types.now c.slot_of-member.result c.slot_of-member.ensures c.read_value.new.at c.in-Ok-read_value.value c.keep.new.items.items
          c.in-Ok-read_value.ensures.reads c.in-Ok-keep.ensures.ok;
    }

pub read_parts-returns : goal.read_parts-returns
read_parts-returns t c =
    let a = c.args in
    let ms = shapes_of a.types.now a.members.now in
    let all : c.loop-k.k ≡ member_count ms = omega (arith, c.loop-k-test.false, c.loop-k.auto.k-end, c.slot_count-count.ensures) in
    record { reads = all_read a.bytes.now a.at.now ms c.loop-k.at c.loop-k.values.items c.loop-k.k c.loop-k.invariant.read all }

-- ---- a list

pub read_items-read_parts-requires : goal.read_items-read_parts-requires
read_items-read_parts-requires t c =
    let s = shape_of c.args.types.now c.args.ty.now in
    let n = c.in-Ok.count in
    (omega (arith, copies_deepest n s), (c.requires.known, c.in-Ok.ensures.reads.2))

pub read_items-returns-in-Ok-read_parts : goal.read_items-returns-in-Ok-read_parts
read_items-returns-in-Ok-read_parts t c =
    let a = c.args in
    record { reads = items_read a.bytes.now a.at.now c.read_count.new.at c.read_parts.new.at c.in-Ok.count (shape_of a.types.now a.ty.now) c.in-Ok-read_parts.items c.in-Ok.ensures.reads c.in-Ok-read_parts.ensures.reads }

pub read_items-returns-in-Err-read_parts : goal.read_items-returns-in-Err-read_parts
read_items-returns-in-Err-read_parts t c =
    let a = c.args in
    record { reads = items_stop a.bytes.now a.at.now c.read_count.new.at c.read_parts.new.at c.in-Ok.count (shape_of a.types.now a.ty.now) c.in-Err-read_parts.error c.in-Ok.ensures.reads c.in-Err-read_parts.ensures.reads }

-- ---- a map

pub read_map-returns-in-Ok-read_pairs : goal.read_map-returns-in-Ok-read_pairs
read_map-returns-in-Ok-read_pairs t c =
    let a = c.args in
    record { reads = map_read a.bytes.now a.at.now c.read_count.new.at c.read_pairs.new.at c.in-Ok.count (shape_of a.types.now (ty.Map a.i)) c.in-Ok-read_pairs.pairs c.requires.map c.in-Ok.ensures.reads c.in-Ok-read_pairs.ensures.reads }

pub read_map-returns-in-Err-read_pairs : goal.read_map-returns-in-Err-read_pairs
read_map-returns-in-Err-read_pairs t c =
    let a = c.args in
    record { reads = map_stops a.bytes.now a.at.now c.read_count.new.at c.read_pairs.new.at c.in-Ok.count (shape_of a.types.now (ty.Map a.i)) c.in-Err-read_pairs.error c.requires.map c.in-Ok.ensures.reads c.in-Err-read_pairs.ensures.reads }

pub read_pairs-read_value-requires : goal.read_pairs-read_value-requires
read_pairs-read_value-requires t c =
    let types = c.args.types.now in
    let m = c.map-map.result.now in
    let is = map_shape types c.args.i m c.map-map.ensures.entry in
    (omega (arith, ap depth is), (key_known types c.args.i m c.map-map.ensures.entry, c.loop.invariant.read.inside))

pub read_pairs-loop-init : goal.read_pairs-loop-init
read_pairs-loop-init t c =
    let a = c.args in
    let s = element_shape (shape_of a.types.now (ty.Map a.i)) in
    record { read = subst (λ (ps : List (Val × Val)). PairsAreRead a.bytes.now a.at.now s a.count a.at.now ps 0) (sym c.in-Ok.ensures.items) (pairs_begin a.bytes.now a.at.now s a.count c.requires.inside) }

pub read_pairs-loop-preserved : goal.read_pairs-loop-preserved
read_pairs-loop-preserved t c =
    let a = c.args in
    let m = c.map-map.result.now in
    let k = shape_of a.types.now m.key in
    let u = shape_of a.types.now m.value in
    let s = element_shape (shape_of a.types.now (ty.Map a.i)) in
    let is = ap element_shape (map_shape a.types.now a.i m c.map-map.ensures.entry) in
    let more : c.loop.counter < a.count = omega (arith, c.loop-test.true, c.loop.auto.counter-end) in
    record {
      read = pair_read a.bytes.now a.at.now s k u is a.count c.loop.at c.loop.pairs.items c.loop.counter c.loop.invariant.read more c.read_value.new.at c.read_value-in-loop.new.at c.in-Ok-read_value.key c.in-Ok-read_value-2.value
          c.keep.new.items.items c.in-Ok-read_value.ensures.reads c.in-Ok-read_value-2.ensures.reads c.in-Ok-keep.ensures.ok;
    }

pub read_pairs-returns : goal.read_pairs-returns
read_pairs-returns t c =
    let a = c.args in
    let m = c.map-map.result.now in
    let k = shape_of a.types.now m.key in
    let u = shape_of a.types.now m.value in
    let s = element_shape (shape_of a.types.now (ty.Map a.i)) in
    let is = ap element_shape (map_shape a.types.now a.i m c.map-map.ensures.entry) in
    let all : c.loop.counter ≡ a.count = omega (arith, c.loop-test.false, c.loop.auto.counter-end, c.loop.invariant.read.many) in
    record { reads = pairs_done a.bytes.now a.at.now s k u is a.count c.loop.at c.loop.pairs.items c.loop.counter c.loop.invariant.read all }

pub read_pairs-read_value-requires-in-loop : goal.read_pairs-read_value-requires-in-loop
read_pairs-read_value-requires-in-loop t c =
    let types = c.args.types.now in
    let m = c.map-map.result.now in
    let is = map_shape types c.args.i m c.map-map.ensures.entry in
    let (t1, xs, span, image, lifted, numbers) = c.in-Ok-read_value.ensures.reads in
    (omega (arith, ap depth is), (value_known types c.args.i m c.map-map.ensures.entry, span.inside))

pub read_pairs-returns-in-Err-read_value : goal.read_pairs-returns-in-Err-read_value
read_pairs-returns-in-Err-read_value t c =
    let a = c.args in
    let m = c.map-map.result.now in
    let k = shape_of a.types.now m.key in
    let u = shape_of a.types.now m.value in
    let s = element_shape (shape_of a.types.now (ty.Map a.i)) in
    let is = ap element_shape (map_shape a.types.now a.i m c.map-map.ensures.entry) in
    let more : c.loop.counter < a.count = omega (arith, c.loop-test.true, c.loop.auto.counter-end) in
    record { reads = key_stop a.bytes.now a.at.now s k u is a.count c.loop.at c.loop.pairs.items c.loop.counter c.loop.invariant.read more c.read_value.new.at c.in-Err-read_value.error c.in-Err-read_value.ensures.reads }

pub read_pairs-returns-in-Err-read_value-2 : goal.read_pairs-returns-in-Err-read_value-2
read_pairs-returns-in-Err-read_value-2 t c =
    let a = c.args in
    let m = c.map-map.result.now in
    let k = shape_of a.types.now m.key in
    let u = shape_of a.types.now m.value in
    let s = element_shape (shape_of a.types.now (ty.Map a.i)) in
    let is = ap element_shape (map_shape a.types.now a.i m c.map-map.ensures.entry) in
    let more : c.loop.counter < a.count = omega (arith, c.loop-test.true, c.loop.auto.counter-end) in
    record {
      reads = value_stop a.bytes.now a.at.now s k u is a.count c.loop.at c.loop.pairs.items c.loop.counter c.loop.invariant.read more c.read_value.new.at c.read_value-in-loop.new.at c.in-Ok-read_value.key c.in-Err-read_value-2.error
          c.in-Ok-read_value.ensures.reads c.in-Err-read_value-2.ensures.reads;
    }

-- ---- a case

pub read_case-returns-then-bytes-at : goal.read_case-returns-then-bytes-at
read_case-returns-then-bytes-at t c =
    let a = c.args in
    let s = shape_of a.types.now a.ty.now in
    let (kind, is) = c.requires.variant in
    let n = c.from-size.result in
    let w = tag_size (case_count (variant_cases s)) in
    let width : n ≡ w = c.from-size.ensures ∙ (c.byte_size.ensures ∙ c.requires.info.size) in
    record { reads = case_cut s kind is a.bytes.now a.at.now a.at.now (left_short a.bytes.now a.at.now w (omega (arith, c.if-bytes-at.true, width)) c.requires.inside) }

pub read_case-returns-in_default : goal.read_case-returns-in_default
read_case-returns-in_default t c =
    let a = c.args in
    let s = shape_of a.types.now a.ty.now in
    let (kind, is) = c.requires.variant in
    let n = c.from-size.result in
    let w = tag_size (case_count (variant_cases s)) in
    let width : n ≡ w = c.from-size.ensures ∙ (c.byte_size.ensures ∙ c.requires.info.size) in
    let room : a.at.now + n ≤ length a.bytes.now = omega (arith, c.if-bytes-at.false, c.requires.inside) in
    let d = c.load_tag-tag.result in
    let here = tag_here a.bytes.now a.at.now n w d width room (λ i. omega (arith, c.type_inv.bytes i)) (c.load_tag-tag.ensures ∙ ap (λ (j : ℕ). num (narrow a.bytes.now) a.at.now j) c.requires.info.size) in
    record { reads = case_none s kind is a.bytes.now a.at.now a.at.now n d here.0 c.in_default.ensures }

pub read_case-read_parts-requires : goal.read_case-read_parts-requires
read_case-read_parts-requires t c =
    let a = c.args in
    let s = shape_of a.types.now a.ty.now in
    let (kind, is) = c.requires.variant in
    let d = c.load_tag-tag.result in
    let ms = shapes_of a.types.now c.in-Some.case.payload in
    let inside : a.at.now + c.from-size.result ≤ length a.bytes.now = omega (arith, c.if-bytes-at.false, c.requires.inside) in
    let falls = case_falls s kind is a.bytes.now a.at.now d ms c.in-Some.ensures.shapes in
    (omega (arith, falls), (c.in-Some.ensures.known, inside))

pub read_case-rebuild_case-requires-clause-count : goal.read_case-rebuild_case-requires-clause-count
read_case-rebuild_case-requires-clause-count t c =
    let a = c.args in
    let cs = variant_cases (shape_of a.types.now a.ty.now) in
    payload_count a.bytes.now (a.at.now + c.from-size.result) c.read_parts.new.at (shapes_of a.types.now c.in-Some.case.payload) (case_members cs c.load_tag-tag.result) c.in-Ok.values.items c.in-Some.ensures.shapes c.in-Ok.ensures.reads

pub read_case-returns-in-Ok-rebuild_case : goal.read_case-returns-in-Ok-rebuild_case
read_case-returns-in-Ok-rebuild_case t c =
    let a = c.args in
    let s = shape_of a.types.now a.ty.now in
    let (kind, is) = c.requires.variant in
    let n = c.from-size.result in
    let w = tag_size (case_count (variant_cases s)) in
    let width : n ≡ w = c.from-size.ensures ∙ (c.byte_size.ensures ∙ c.requires.info.size) in
    let room : a.at.now + n ≤ length a.bytes.now = omega (arith, c.if-bytes-at.false, c.requires.inside) in
    let d = c.load_tag-tag.result in
    let here = tag_here a.bytes.now a.at.now n w d width room (λ i. omega (arith, c.type_inv.bytes i)) (c.load_tag-tag.ensures ∙ ap (λ (j : ℕ). num (narrow a.bytes.now) a.at.now j) c.requires.info.size) in
    let parts = subst (λ (ms : Members). PartsRead a.bytes.now (a.at.now + n) c.read_parts.new.at ms c.in-Ok.values.items) c.in-Some.ensures.shapes c.in-Ok.ensures.reads in
    record {
      reads = image_case_read a.bytes.now a.at.now (a.at.now + n) c.read_parts.new.at d s kind c.in-Ok.values.items c.in-Ok-rebuild_case.value is c.in-Some.ensures.there here.0 here.1 parts c.in-Ok-rebuild_case.ensures.ok c.in-Ok-rebuild_case.ensures.resources;
    }

pub read_case-returns-in-Err : goal.read_case-returns-in-Err
read_case-returns-in-Err t c =
    let a = c.args in
    let s = shape_of a.types.now a.ty.now in
    let (kind, is) = c.requires.variant in
    let n = c.from-size.result in
    let w = tag_size (case_count (variant_cases s)) in
    let width : n ≡ w = c.from-size.ensures ∙ (c.byte_size.ensures ∙ c.requires.info.size) in
    let room : a.at.now + n ≤ length a.bytes.now = omega (arith, c.if-bytes-at.false, c.requires.inside) in
    let d = c.load_tag-tag.result in
    let here = tag_here a.bytes.now a.at.now n w d width room (λ i. omega (arith, c.type_inv.bytes i)) (c.load_tag-tag.ensures ∙ ap (λ (j : ℕ). num (narrow a.bytes.now) a.at.now j) c.requires.info.size) in
    let stops = subst (λ (ms : Members). StopsFrom (MembersStop (numbered_members ms) (drop (a.at.now + n) a.bytes.now)) (a.at.now + n) c.in-Err.error) c.in-Some.ensures.shapes c.in-Err.ensures.reads in
    record { reads = image_case_stopped a.bytes.now a.at.now (a.at.now + n) c.read_parts.new.at d s kind c.in-Err.error is here.0 here.1 stops }

-- ---- a value

pub read_value-read_parts-requires : goal.read_value-read_parts-requires
read_value-read_parts-requires t c =
    let s = shape_of c.args.types.now c.args.ty.now in
    let (known, lies, kind, unnamed) = c.in-Members.ensures in
    let ms = shapes_of c.args.types.now c.in-Members.members in
    (omega (arith, lies_depth s ms lies), (known, c.requires.inside))

pub read_value-rebuild-requires-clause-count : goal.read_value-rebuild-requires-clause-count
read_value-rebuild-requires-clause-count t c =
    let a = c.args in
    let (known, lies, kind, unnamed) = c.in-Members.ensures in
    whole_count a.bytes.now a.at.now c.read_parts.new.at (shape_of a.types.now a.ty.now) (shapes_of a.types.now c.in-Members.members) c.in-Ok.values.items lies c.in-Ok.ensures.reads

pub read_value-returns-in-Ok-rebuild : goal.read_value-returns-in-Ok-rebuild
read_value-returns-in-Ok-rebuild t c =
    let a = c.args in
    let (known, lies, kind, unnamed) = c.in-Members.ensures in
    record { reads = whole_read a.bytes.now a.at.now c.read_parts.new.at (shape_of a.types.now a.ty.now) (shapes_of a.types.now c.in-Members.members) c.in-Ok.values.items c.in-Ok-rebuild.value lies c.in-Ok.ensures.reads c.in-Ok-rebuild.ensures.ok c.in-Ok-rebuild.ensures.resources }

pub read_value-returns-in-Err : goal.read_value-returns-in-Err
read_value-returns-in-Err t c =
    let a = c.args in
    let (known, lies, kind, unnamed) = c.in-Members.ensures in
    record { reads = whole_stops a.bytes.now a.at.now c.read_parts.new.at (shape_of a.types.now a.ty.now) (shapes_of a.types.now c.in-Members.members) c.in-Err.error lies c.in-Err.ensures.reads }

pub read_value-returns-in-Handle : goal.read_value-returns-in-Handle
read_value-returns-in-Handle t c =
    let a = c.args in
    record { reads = subst (λ (s : Shape). ReadsTo a.bytes.now a.at.now c.read_handle.new.at s c.read_handle.result) (sym (handle_shape a.types.now a.ty.now c.in-Handle._handle c.in-Handle.ensures)) (c.read_handle.ensures.reads c.in-Handle._handle) }
