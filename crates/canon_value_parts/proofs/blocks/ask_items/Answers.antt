use Rattle.std.proofs.Common.{◌≡◌, ◌∙◌, ap, false, refl, subst, ℕ}
use Rattle.canon_lowering.specs.Attempt.{items_call}
use Rattle.canon_memory.specs.Realloc.{call}
use Rattle.canon_model.specs.Layout.{align}
use Rattle.canon_model.specs.Requests.{Call}
use Rattle.canon_types.specs.Depth.{element_shape}
use Rattle.canon_context.specs.Core.{component_types}
use Rattle.canon_plan.specs.Element.{list_shape}
use Rattle.canon_context.specs.Asks.{AsksFor}
use Rattle.canon_value_parts.proofs.Listing.{element_align}
use Rattle.canon_value_parts.proofs.blocks.ask_items.Goals as goal

pub returns : goal.returns
returns g c =
    let a = c.args in
    let t = component_types a.core.now in
    let e = a.element.now in
    let s = element_shape (list_shape t e) in
    let align_is = element_align t c.types.result.now e e c.element_abi.result.now c.types.ensures refl c.element_abi.ensures in
    let same : call 0 0 c.element_abi.result.now.align32 a.bytes ≡ items_call false s a.length =
    ap (λ (n : ℕ). call 0 0 n a.bytes) align_is ∙ ap (λ (n : ℕ). call 0 0 (align false s) n) c.requires.whole in
    record { asked = subst (λ (x : Call). AsksFor g.G.Guest.seen g.G.Guest.moves a.core.now c.ask.new.core x c.ask.result) same c.ask.ensures.asked }
