use Rattle.std.proofs.Common.{◌≡◌, ◌+◌, ◌∙◌, ◌∷◌, [], ap, false, subst, sym}
use Rattle.canon_abi.specs.Abi.{HasLayout}
use Rattle.canon_context.specs.Core.{component_types}
use Rattle.canon_model.specs.Layout.{begins, ends}
use Rattle.canon_model.specs.Shape.{tuple}
use Rattle.canon_types.specs.Depth.{element_shape}
use Rattle.canon_types.specs.Table.{Knows, shape_of}
use Rattle.canon_model.specs.Memory.{cap}
use Rattle.canon_reading.specs.MapsOfTrees.{pairs_reading}
use Rattle.canon_reading.specs.Reading.{Lifts, setting_in}
use Rattle.canon_reading.specs.Spots.{stored}
use Rattle.canon_lift_parts.proofs.Lookups.{IsPairThere, map_element, map_layout, map_offset, map_there}
use Rattle.canon_lift.proofs.MapLifting.{map_lifts}
use Rattle.canon_lift.proofs.Pairs.{map_range_refused, named_so, refused_list}
use Rattle.canon_lift.proofs.maps.lift_map.Given.{Over}
use Rattle.canon_lift.proofs.maps.lift_map.Goals.{After-map-map}
use Rattle.canon_lift.proofs.maps.lift_map.Goals as goal

-- the keys and values that were looked up
module _ (g : Over) (c : After-map-map g) where
  pair : IsPairThere g.K.ComponentType.fits g.V.ComponentType.fits c.args.cx.now.core.now.component.types c.args.ty c.map-map.result.now.key c.map-map.result.now.value
  pair =
      let m = c.map-map in
      map_there g.K.ComponentType.fits g.V.ComponentType.fits c.args.cx.now.core.now.component.types c.types.result.now c.in-Map.i c.args.ty m.result.now.key m.result.now.value
      c.types.ensures c.in-Map.is m.ensures.entry c.requires.fits

  pair_layout : HasLayout c.map-map.result.now.entry_abi
      (tuple (shape_of (component_types c.args.cx.now.core.now) c.map-map.result.now.key ∷ shape_of (component_types c.args.cx.now.core.now) c.map-map.result.now.value ∷ []))
  pair_layout =
      let m = c.map-map.result.now in
      map_layout (component_types c.args.cx.now.core.now) c.types.result.now c.in-Map.i c.args.ty m.key m.value m c.types.ensures c.in-Map.is pair.shape c.map-map.ensures.pair

  pair_element : tuple (shape_of (component_types c.args.cx.now.core.now) c.map-map.result.now.key ∷ shape_of (component_types c.args.cx.now.core.now) c.map-map.result.now.value ∷ [])
      ≡ element_shape (shape_of (component_types c.args.cx.now.core.now) c.args.ty)
  pair_element =
      let m = c.map-map.result.now in
      map_element (component_types c.args.cx.now.core.now) c.types.result.now c.in-Map.i c.args.ty m.key m.value m c.types.ensures c.in-Map.is pair.shape c.map-map.ensures.pair

pub lift_pairs-requires-clause-key : goal.lift_pairs-requires-clause-key
lift_pairs-requires-clause-key g c =
    let core = c.args.cx.now.core.now in
    let m = c.map-map.result.now in
    let there = pair g (goal.at.lift_pairs-requires-clause-key g c).After-map-map in
    subst (λ z. Knows (component_types z.core.now) m.key) (sym c.in-Ok.ensures.same) there.key_known

pub lift_pairs-requires-clause-value : goal.lift_pairs-requires-clause-value
lift_pairs-requires-clause-value g c =
    let core = c.args.cx.now.core.now in
    let m = c.map-map.result.now in
    let there = pair g (goal.at.lift_pairs-requires-clause-value g c).After-map-map in
    subst (λ z. Knows (component_types z.core.now) m.value) (sym c.in-Ok.ensures.same) there.value_known

pub lift_pairs-requires-clause-offset : goal.lift_pairs-requires-clause-offset
lift_pairs-requires-clause-offset g c =
    let core = c.args.cx.now.core.now in
    let t = component_types core in
    let m = c.map-map.result.now in
    let there = pair g (goal.at.lift_pairs-requires-clause-offset g c).After-map-map in
    let offset = map_offset t c.types.result.now c.in-Map.i c.args.ty m.key m.value m c.types.ensures c.in-Map.is there.shape c.map-map.ensures.pair in
    subst (λ z. c.from.result ≡ begins false (ends false 0 (shape_of (component_types z.core.now) m.key)) (shape_of (component_types z.core.now) m.value)) (sym c.in-Ok.ensures.same)
    (c.from.ensures ∙ offset)

pub returns-in-Err-clause-lifts : goal.returns-in-Err-clause-lifts
returns-in-Err-clause-lifts g c = λ spot there room.
    let cx = c.args.cx.now in
    let core = cx.core.now in
    let t = component_types core in
    let m = c.map-map.result.now in
    let map = (goal.at.returns-in-Err-clause-lifts g c).After-map-map in
    let w = setting_in core cx.options in
    let s = shape_of t c.args.ty in
    let e = tuple (shape_of t m.key ∷ shape_of t m.value ∷ []) in
    let bytes = cap (g.K.ComponentType.host_bytes + g.V.ComponentType.host_bytes) in
    let mid = c.test_range.new.cx in
    map_range_refused g.K.PartialEq.eq bytes g.K.Lift.reading g.V.Lift.reading w spot s core.ledger mid.core.now.ledger cx.fuel mid.fuel c.in-Err.fault
    (refused_list bytes w e spot s c.args.pointer c.args.count (pair_element g map) there.pointer there.count (λ i t. ⊥) c.args.at cx.fuel (named_so spot c.args.at there.place_is) core.ledger mid.core.now.ledger
    (ap (λ z. z.core.now.ledger) c.in-Err.ensures.same) c.in-Err.fault mid.fuel (c.in-Err.ensures.tested e (pair_layout g map)))

pub returns-in-Ok-clause-lifts : goal.returns-in-Ok-clause-lifts
returns-in-Ok-clause-lifts g c = λ spot there room.
    let cx = c.args.cx.now in
    let core = cx.core.now in
    let t = component_types core in
    let m = c.map-map.result.now in
    let map = (goal.at.returns-in-Ok-clause-lifts g c).After-map-map in
    let w = setting_in core cx.options in
    let s = shape_of t c.args.ty in
    let e = tuple (shape_of t m.key ∷ shape_of t m.value ∷ []) in
    let bytes = cap (g.K.ComponentType.host_bytes + g.V.ComponentType.host_bytes) in
    let mid = c.test_range.new.cx in
    let after = c.lift_pairs.new.cx in
    let (good, spent) = c.in-Ok.ensures.tested e (pair_layout g map) in
    let h = subst (λ z. Lifts (pairs_reading g.K.PartialEq.eq c.args.count g.K.Lift.reading g.V.Lift.reading) (setting_in z.core.now z.options) (stored c.args.pointer)
    (tuple (shape_of (component_types z.core.now) m.key ∷ shape_of (component_types z.core.now) m.value ∷ [])) z.core.now.ledger mid.fuel c.lift_pairs.result after.core.now.ledger after.fuel)
    c.in-Ok.ensures.same c.lift_pairs.ensures.lifts in
    map_lifts g.K.PartialEq.eq bytes g.K.Lift.reading g.V.Lift.reading w spot s core.ledger after.core.now.ledger cx.fuel mid.fuel after.fuel c.lift_pairs.result e c.args.pointer c.args.count (pair_element g map)
    there.pointer there.count room good spent h
