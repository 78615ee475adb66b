use Rattle.std.proofs.Common.{List, length, subst, sym, ◌*◌, ◌+◌, ◌≤◌, false}
use Rattle.std.specs.Prelude.{flat_map}
use Rattle.canon_context.proofs.Moves.{GuestLaws}
use Rattle.canon_context.specs.Core.{component_types}
use Rattle.canon_lowering.specs.Copies.{copies}
use Rattle.canon_model.specs.Layout.{size}
use Rattle.canon_model.specs.Shape.{fixed}
use Rattle.canon_types.specs.Instance.{Instance}
use Rattle.canon_types.specs.Table.{shape_of}
use Rattle.canon_typed.specs.Meaning.{EachMeans}
use Rattle.canon_lower_parts.proofs.FixedSteps.{fixed_room, fixed_stores}
use Rattle.canon_lower_parts.specs.Lists.{IsElementOf}
use Rattle.canon_lower_parts.specs.Stores.{TypedMembersStore}
use Rattle.canon_lower.proofs.fixed_list.FixedListLower.linear_lower_to_memory.Goals as goal

pub linear_store_list_to_memory-requires-clause-room : goal.linear_store_list_to_memory-requires-clause-room
linear_store_list_to_memory-requires-clause-room g c =
    let L : GuestLaws _ = record { seen = g.G.Guest.seen; moves = g.G.Guest.moves; stays = g.met.G.Guest.stays; goes_on = g.met.G.Guest.goes_on } in
    let a = c.args in
    let core = a.cx.now.core.now in
    let xs = a.self.now.items.items in
    let element = c.fixed_element-element.result in
    let of = subst (λ (i : Instance). IsElementOf (λ s. fixed g.row.N s) g.T.ComponentType.fits i a.ty element) c.instance_type.ensures c.fixed_element-element.ensures in
    subst (λ (ys : List g.row.T.Denot). a.offset + length ys * size false (shape_of (component_types core) element) ≤ length core.memory) (sym c.items_mut.ensures.items)
    (fixed_room L a.cx.now.options g.T.ComponentType.walks g.T.Lower.gives g.T.ComponentType.fits core a.ty element xs g.row.N of a.self.now.count a.offset c.requires.room)

pub returns-clause-stores : goal.returns-clause-stores
returns-clause-stores g c =
    let L : GuestLaws _ = record { seen = g.G.Guest.seen; moves = g.G.Guest.moves; stays = g.met.G.Guest.stays; goes_on = g.met.G.Guest.goes_on } in
    let a = c.args in
    let core = a.cx.now.core.now in
    let xs = a.self.now.items.items in
    let element = c.fixed_element-element.result in
    let s = shape_of (component_types core) element in
    let b = c.linear_store_list_to_memory.new.cx.core.now in
    let r = c.linear_store_list_to_memory.result in
    let of = subst (λ (i : Instance). IsElementOf (λ s. fixed g.row.N s) g.T.ComponentType.fits i a.ty element) c.instance_type.ensures c.fixed_element-element.ensures in
    fixed_stores L a.cx.now.options g.T.ComponentType.walks g.T.Lower.gives g.T.ComponentType.fits core a.ty element xs g.row.N of a.self.now.count a.offset c.requires.room b r
    (subst (λ (ys : List g.row.T.Denot). TypedMembersStore L.seen L.moves a.cx.now.options core b (copies (length ys) s) 0 a.offset (EachMeans g.T.ComponentType.walks ys) (flat_map (g.T.Lower.gives core.component.types s) ys) r) c.items_mut.ensures.items
    c.linear_store_list_to_memory.ensures.stores)
