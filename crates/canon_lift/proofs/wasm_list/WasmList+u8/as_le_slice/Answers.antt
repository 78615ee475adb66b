use Rattle.std.proofs.Common.{◌+◌, ◌-◌, ◌*◌, ◌≤◌, ◌∙◌, ap, arith, drop, length, refl, rules, take}
use Rattle.canon_string.proofs.TextLoading.{read_there}
use Rattle.canon_model.specs.Shape.{u8}
use Rattle.canon_types.specs.declared.types.InterfaceType.TheVariants as ty
use Rattle.canon_lift.proofs.IntegerRows.{integers_inside}
use Rattle.canon_lift.proofs.wasm_list.WasmList+u8.as_le_slice.Goals as goal

pub overflow_add-result : goal.overflow_add-result
overflow_add-result c =
    let v = c.args.self.now in
    let inside : v.pointer + v.count * 1 ≤ length c.memory.result.now = integers_inside ty.U8 u8 (λ t. refl) c.args.view.now v c.memory.result.now c.memory.ensures c.requires in
    let here : v.pointer + v.count ≤ length c.memory.result.now = omega (arith, inside) in
    search (rules, here)

pub slice_bounds-result-end : goal.slice_bounds-result-end
slice_bounds-result-end c =
    let v = c.args.self.now in
    let inside : v.pointer + v.count * 1 ≤ length c.memory.result.now = integers_inside ty.U8 u8 (λ t. refl) c.args.view.now v c.memory.result.now c.memory.ensures c.requires in
    omega (arith, inside)

pub returns : goal.returns
returns c =
    let v = c.args.self.now in
    ap (λ ms. take (v.pointer + v.count - v.pointer) (drop v.pointer ms)) c.memory.ensures ∙ read_there c.args.view.now.bytes.now v.pointer v.count
