-- Integers of a list end inside memory.
use Rattle.std.proofs.Common.{◌≡◌, ◌+◌, ◌*◌, List, length, subst, ℕ, ◌≤◌, ◌∙◌, ap, false, refl, sym}
use Rattle.canon_context.specs.declared.host.MemoryView.{MemoryView}
use Rattle.canon_model.specs.Layout.{scalar_size, size}
use Rattle.canon_model.specs.Shape.{Scalar, scalar}
use Rattle.canon_types.specs.Table.{TypeTable, shape_of}
use Rattle.canon_types.specs.declared.types.InterfaceType.{InterfaceType}
use Rattle.canon_lift.specs.Views.{ListFits}
use Rattle.canon_lift.specs.declared.wasm_list.WasmList.{WasmList}

-- so many integers end inside memory
scalar_bytes : (k : Scalar) → size false (scalar k) ≡ scalar_size k
unfolding size
scalar_bytes k = refl

module _ {A : Type 0} (type : InterfaceType) (k : Scalar) (is : (t : TypeTable) → shape_of t type ≡ scalar k) (view : MemoryView) (v : WasmList A) (memory : List ℕ) (same : memory ≡ view.bytes.now) where
  pub integers_inside : ListFits (λ i t. t ≡ type) view v → v.pointer + v.count * scalar_size k ≤ length memory
  integers_inside h =
      let t = view.component.now.types.types in
      let bytes : size false (shape_of t v.element) ≡ scalar_size k = ap (λ x. size false (shape_of t x)) h.fits ∙ ap (size false) (is t) ∙ scalar_bytes k in
      subst (λ (xs : List ℕ). v.pointer + v.count * scalar_size k ≤ length xs) (sym same) (subst (λ n. v.pointer + v.count * n ≤ length view.bytes.now) bytes h.good.1)
