use Rattle.std.proofs.Common.{length, refl, subst}
use Rattle.canon_context.proofs.Moves.{GuestLaws}
use Rattle.canon_context.specs.Core.{component_types}
use Rattle.canon_model.specs.Shape.{list, of_items}
use Rattle.canon_types.specs.Instance.{Instance}
use Rattle.canon_types.specs.Table.{shape_of}
use Rattle.canon_lower_parts.specs.Lists.{IsElementOf}
use Rattle.canon_lower_parts.proofs.ListSteps.{items_filled, items_stopped, items_ungiven}
use Rattle.canon_lower_parts.proofs.Types.{layout_here}
use Rattle.canon_lower.proofs.lists.place_list.Goals as goal

pub returns-in-Err-clause-places : goal.returns-in-Err-clause-places
returns-in-Err-clause-places g c =
    let L : GuestLaws _ = record { seen = g.G.Guest.seen; moves = g.G.Guest.moves; stays = g.met.G.Guest.stays; goes_on = g.met.G.Guest.goes_on } in
    let a = c.args in
    let of = subst (λ (i : Instance). IsElementOf (λ s. list of_items s) g.T.ComponentType.fits i a.ty.now c.list_element-element.result) c.instance_type.ensures c.list_element-element.ensures in
    items_ungiven L a.cx.now.options g.T.ComponentType.walks g.T.Lower.gives g.T.ComponentType.fits a.cx.now.core.now c.ask_items.new.cx.core.now a.ty.now c.list_element-element.result a.items.now (length a.items.now) of refl
    c.in-Err.fault (c.in-Err.ensures.asked (shape_of (component_types a.cx.now.core.now) c.list_element-element.result) (layout_here (component_types a.cx.now.core.now) c.types.result.now c.list_element-element.result c.canonical_abi.result.now c.types.ensures c.canonical_abi.ensures))

pub returns-in-Ok-linear_store_list_to_memory-clause-places : goal.returns-in-Ok-linear_store_list_to_memory-clause-places
returns-in-Ok-linear_store_list_to_memory-clause-places g c =
    let L : GuestLaws _ = record { seen = g.G.Guest.seen; moves = g.G.Guest.moves; stays = g.met.G.Guest.stays; goes_on = g.met.G.Guest.goes_on } in
    let a = c.args in
    let of = subst (λ (i : Instance). IsElementOf (λ s. list of_items s) g.T.ComponentType.fits i a.ty.now c.list_element-element.result) c.instance_type.ensures c.list_element-element.ensures in
    items_filled L a.cx.now.options g.T.ComponentType.walks g.T.Lower.gives g.T.ComponentType.fits a.cx.now.core.now c.ask_items.new.cx.core.now a.ty.now c.list_element-element.result a.items.now (length a.items.now) of refl
    c.linear_store_list_to_memory.new.cx.core.now c.in-Ok.pointer c.ask_items.new.cx.options c.in-Ok.ensures.same_options
    (c.in-Ok.ensures.asked (shape_of (component_types a.cx.now.core.now) c.list_element-element.result)
    (layout_here (component_types a.cx.now.core.now) c.types.result.now c.list_element-element.result c.canonical_abi.result.now c.types.ensures
    c.canonical_abi.ensures)) c.in-Ok-linear_store_list_to_memory.ensures.stores

pub returns-in-Err-linear_store_list_to_memory-clause-places : goal.returns-in-Err-linear_store_list_to_memory-clause-places
returns-in-Err-linear_store_list_to_memory-clause-places g c =
    let L : GuestLaws _ = record { seen = g.G.Guest.seen; moves = g.G.Guest.moves; stays = g.met.G.Guest.stays; goes_on = g.met.G.Guest.goes_on } in
    let a = c.args in
    let of = subst (λ (i : Instance). IsElementOf (λ s. list of_items s) g.T.ComponentType.fits i a.ty.now c.list_element-element.result) c.instance_type.ensures c.list_element-element.ensures in
    items_stopped L a.cx.now.options g.T.ComponentType.walks g.T.Lower.gives g.T.ComponentType.fits a.cx.now.core.now c.ask_items.new.cx.core.now a.ty.now c.list_element-element.result a.items.now (length a.items.now) of refl
    c.linear_store_list_to_memory.new.cx.core.now c.in-Ok.pointer c.ask_items.new.cx.options c.in-Ok.ensures.same_options
    (c.in-Ok.ensures.asked (shape_of (component_types a.cx.now.core.now) c.list_element-element.result)
    (layout_here (component_types a.cx.now.core.now) c.types.result.now c.list_element-element.result c.canonical_abi.result.now c.types.ensures
    c.canonical_abi.ensures)) c.in-Err-linear_store_list_to_memory.fault c.in-Err-linear_store_list_to_memory.ensures.stores
