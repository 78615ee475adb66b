use Rattle.std.proofs.Common.{◌≡◌, ◌+◌, ◌*◌, ◌%◌, ◌∙◌, ap, false, subst, sym}
use Rattle.canon_context.specs.Core.{Parts, component_types}
use Rattle.canon_model.specs.Layout.{align, size}
use Rattle.canon_types.specs.Table.{TypeTable, shape_of}
use Rattle.canon_lift_parts.proofs.Settings.{element_aligned}
use Rattle.canon_lift.proofs.wasm_list.WasmList.get.Goals as goal

pub linear_lift_from_memory-requires-clause-aligned : goal.linear_lift_from_memory-requires-clause-aligned
linear_lift_from_memory-requires-clause-aligned g c =
    let core = c.args.core.now in
    let list = c.args.self.now in
    let s = shape_of (component_types core) list.element in
    let same : c.types.result.now ≡ component_types core = c.types.ensures ∙ ap (λ x. x.types.types) c.component.ensures.component in
    let bytes : c.from.result ≡ size false s = c.from.ensures ∙ (c.canonical_abi.ensures.size false) ∙ ap (λ (x : TypeTable). size false (shape_of x list.element)) same in
    subst (λ n. (list.pointer + c.args.index * n) % align false (shape_of (component_types c.new-cx.result.core.now) list.element) ≡ 0) (sym bytes)
    (subst (λ (z : Parts g.row.U.Denot g.row.G.Denot). (list.pointer + c.args.index * size false s) % align false (shape_of (component_types z) list.element) ≡ 0) (sym c.new-cx.ensures.core)
    (element_aligned s list.pointer c.args.index c.requires.items.good.0))
