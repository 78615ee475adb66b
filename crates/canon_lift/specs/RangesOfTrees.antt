-- Texts and lists that stay in memory: their faults are those of their pointers, and their charges are those of the trees that stand there.
use Rattle.std.proofs.Common.{◌≡◌, ◌+◌, ◌*◌, ◌∙◌, ap, inl, le-leb, refl, subst, subst₂, sym, ℕ, add-zero, zero-add}
use Rattle.std.proofs.lemmas.Bool.{cond-true}
use Rattle.canon_model.specs.Layout.{size}
use Rattle.canon_model.specs.Memory.{Memory}
use Rattle.canon_model.specs.Reach.{At, Kind, is_inside}
use Rattle.canon_model.specs.Shape.{Shape, list, of_items, string}
use Rattle.canon_model.specs.Tree.{Tree, Trees, no_trees, sum_of, tree, tree_count}
use Rattle.canon_types.specs.Depth.{element_shape}
use Rattle.canon_types.specs.Instance.{Instance}
use Rattle.canon_types.specs.Table.{shape_of}
use Rattle.canon_types.specs.declared.types.InterfaceType.{InterfaceType}
use Rattle.canon_types.specs.declared.types.InterfaceType.TheVariants as ty
use Rattle.canon_typed.specs.Charges.{free, list_cost}
use Rattle.canon_typed.specs.Types.{IsListOf}
use Rattle.canon_reading.specs.Apart.{AreApart, IsApart, pointer_apart}
use Rattle.canon_reading.specs.OfTrees.{IsFaulted, IsPriced}
use Rattle.canon_reading.specs.Reading.{Setting}
use Rattle.canon_reading.specs.Readings.{IsGoodList, ListPointerFault}
use Rattle.canon_reading.specs.RowsOfTrees.{represented_list}
use Rattle.canon_reading.specs.Spots.{Faulty, Represents, Spot, flat_in, length_in, pointer_in, stored}
use Rattle.canon_lift.specs.Ranges.{list_range_reach, wasm_list_reading, wasm_str_reading}

-- ---- texts

pointer_faults : (w : Setting) (at : Spot) (k : Kind) (x : At) → wasm_str_reading.faults w at string k x → Faulty w.memory w.encoding at string k x
pointer_faults w (stored a) k x h = inl h
pointer_faults w (flat_in ws i) k x h = inl h

pub wasm_str_faulted : IsFaulted (λ i t. t ≡ ty.String) wasm_str_reading
wasm_str_faulted = record {
  faults = λ w at type k x f h. subst (λ y. Faulty w.memory w.encoding at (shape_of w.types.types y) k x) (sym f) (pointer_faults w at k x h);
}

wasm_str_by : AreApart wasm_str_reading
wasm_str_by w at s before after v k x (from, place, good, same) f = pointer_apart w.memory _ _ _ _ k x good f

pub wasm_str_apart : IsApart wasm_str_reading
wasm_str_apart = record { apart = wasm_str_by }

-- ---- lists

-- the list itself is charged where its items are not lifted
no_sum : (ts : Trees) → 0 ≡ sum_of free ts
no_sum no_trees = refl
no_sum (tree t ts) = no_sum ts ∙ sym (zero-add (sum_of free ts))

module _ (bytes : ℕ) (Fit : Instance → InterfaceType → Type 0) where
  range_price : (w : Setting) (at : Spot) (s : Shape) (t : Tree) → Represents w.memory w.encoding at (list of_items s) t → list_range_reach bytes w at (list of_items s) ≡ list_cost bytes free t
  range_price w at s t rep =
      let m = w.memory in
      let p : ℕ = pointer_in m at in
      let n : ℕ = length_in m at in
      let h = represented_list m w.encoding of_items s at t rep in
      cond-true (is_inside m p (n * size m.wide s)) (n * bytes) 0 (le-leb _ _ h.inside)
      ∙ ap (λ k. k * bytes) (sym h.count) ∙ sym (add-zero (tree_count h.trees * bytes)) ∙ ap (λ k. tree_count h.trees * bytes + k) (no_sum h.trees)
      ∙ ap (λ (u : Tree). list_cost bytes free u) (sym h.is)

  range_reached : (w : Setting) (at : Spot) (type : InterfaceType) (t : Tree) → IsListOf Fit w.types type → Represents w.memory w.encoding at (shape_of w.types.types type) t
      → list_range_reach bytes w at (shape_of w.types.types type) ≡ list_cost bytes free t
  range_reached w at (ty.List i) t (element, d, f) rep =
      subst (λ (z : Shape). list_range_reach bytes w at z ≡ list_cost bytes free t) (sym d.shape)
      (range_price w at _ t (subst (λ (z : Shape). Represents w.memory w.encoding at z t) d.shape rep))
  range_reached w at _ t f rep = absurd f

  pub wasm_list_priced : {A : Type 0} → IsPriced (IsListOf Fit) (wasm_list_reading {A = A} Fit bytes) (list_cost bytes free)
  wasm_list_priced = record { reach = range_reached }

  range_faulty : (w : Setting) (at : Spot) (s : Shape) (k : Kind) (x : At) → ListPointerFault w.memory s at k x → Faulty w.memory w.encoding at (list of_items s) k x
  range_faulty w (stored a) s k x h = inl h
  range_faulty w (flat_in ws i) s k x h = inl h

  -- its faults are those of its pointer
  range_faults : (w : Setting) (at : Spot) (type : InterfaceType) (k : Kind) (x : At) → IsListOf Fit w.types type → ListPointerFault w.memory (element_shape (shape_of w.types.types type)) at k x
      → Faulty w.memory w.encoding at (shape_of w.types.types type) k x
  range_faults w at (ty.List i) k x (element, d, f) h =
      subst (λ (z : Shape). Faulty w.memory w.encoding at z k x) (sym d.shape) (range_faulty w at _ k x (subst (λ (z : Shape). ListPointerFault w.memory (element_shape z) at k x) d.shape h))
  range_faults w at _ k x f h = absurd f

  pub wasm_list_faulted : {A : Type 0} → IsFaulted (IsListOf Fit) (wasm_list_reading {A = A} Fit bytes)
  wasm_list_faulted = record { faults = range_faults }

list_good : (m : Memory) (s u : Shape) (p q n k : ℕ) → s ≡ u → p ≡ q → n ≡ k → IsGoodList m s p n → IsGoodList m u q k
list_good m s u p q n k e f g good = subst (λ z. IsGoodList m z q k) e (subst₂ (λ x y. IsGoodList m s x y) f g good)

wasm_list_by : {A : Type 0} (Fit : Instance → InterfaceType → Type 0) (bytes : ℕ) → AreApart (wasm_list_reading {A = A} Fit bytes)
wasm_list_by Fit bytes w at s before after v k x (there, same) f =
    pointer_apart w.memory _ _ _ _ k x (list_good w.memory _ _ _ _ _ _ there.shape there.pointer there.count there.items.good) f

pub wasm_list_apart : {A : Type 0} (Fit : Instance → InterfaceType → Type 0) (bytes : ℕ) → IsApart (wasm_list_reading {A = A} Fit bytes)
wasm_list_apart Fit bytes = record { apart = wasm_list_by Fit bytes }
