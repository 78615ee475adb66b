use Rattle.std.proofs.Common.{◌∙◌, ap, length, subst, sym}
use Rattle.std.specs.Prelude.{flat_map}
use Rattle.canon_context.proofs.Moves.{GuestLaws}
use Rattle.canon_context.specs.Core.{component_types}
use Rattle.canon_lower_parts.proofs.WordRows.{fixed_lowers, fixed_room}
use Rattle.canon_lower_parts.specs.Gives.{item_shape}
use Rattle.canon_lower_parts.specs.Lists.{IsElementOf}
use Rattle.canon_lower_parts.specs.Words.{TypedLowers, TypedMembersLower}
use Rattle.canon_lowering.specs.Copies.{copies}
use Rattle.canon_model.specs.Shape.{Shape, fixed}
use Rattle.canon_types.specs.Instance.{Instance}
use Rattle.canon_types.specs.Table.{shape_of}
use Rattle.canon_typed.specs.Meaning.{EachMeans, RowMeans}
use Rattle.canon_lower.proofs.fixed_list.FixedListLower.linear_lower_to_flat.Goals as goal

pub lower_items-requires-clause-room : goal.lower_items-requires-clause-room
lower_items-requires-clause-room g c =
    let t = component_types c.args.cx.now.core.now in
    let of = subst (λ (i : Instance). IsElementOf (λ s. fixed g.row.N s) g.T.ComponentType.fits i c.args.ty c.fixed_element-element.result) c.instance_type.ensures c.fixed_element-element.ensures in
    fixed_room (shape_of t c.args.ty) (shape_of t c.fixed_element-element.result) _ (length c.items_mut.result.now) c.args.dst.now of.shape (ap length c.items_mut.ensures.items ∙ c.args.self.now.count) c.requires.words

pub returns-clause-lowers : goal.returns-clause-lowers
returns-clause-lowers g c =
    let L : GuestLaws _ = record { seen = g.G.Guest.seen; moves = g.G.Guest.moves; stays = g.met.G.Guest.stays; goes_on = g.met.G.Guest.goes_on } in
    let a = c.args in
    let core = a.cx.now.core.now in
    let i = core.component.types in
    let s = shape_of i.types a.ty in
    let u = shape_of i.types c.fixed_element-element.result in
    let W = g.T.ComponentType.walks in
    let f = g.T.Lower.gives in
    let low = c.lower_items in
    let of = subst (λ (i : Instance). IsElementOf (λ s. fixed g.row.N s) g.T.ComponentType.fits i a.ty c.fixed_element-element.result) c.instance_type.ensures c.fixed_element-element.ensures in
    let here = subst (λ xs. TypedMembersLower L.seen L.moves a.cx.now.options core low.new.cx.core.now (copies (length xs) u) low.new.dst 0 (EachMeans W xs) (flat_map (f i u) xs) low.result) c.items_mut.ensures.items low.ensures.lowers in
    subst (λ (z : Shape). TypedLowers L.seen L.moves a.cx.now.options core low.new.cx.core.now s low.new.dst 0 (RowMeans W a.self.now.items.items) (flat_map (f i z) a.self.now.items.items) low.result) (sym (ap item_shape of.shape))
    (fixed_lowers L a.cx.now.options core low.new.cx.core.now s u _ W a.self.now.items.items low.new.dst (flat_map (f i u) a.self.now.items.items) low.result of.shape a.self.now.count here)
