-- Lists of fixed length.
use Rattle.std.proofs.Common.{◌≡◌, ◌≤◌, ◌+◌, ◌*◌, ◌∙◌, List, Result, Some, ap, arith, false, length, refl, subst, sym, ℕ}
use Rattle.std.specs.Prelude.{flat_map}
use Rattle.canon_model.specs.Homes.{host_texts}
use Rattle.canon_context.proofs.Moves.{GuestLaws}
use Rattle.canon_context.specs.Core.{Parts, component_types, encoding_by, stage_of}
use Rattle.canon_context.specs.declared.fault.Fault.{Fault}
use Rattle.canon_resources.specs.Parts.{Part}
use Rattle.canon_lowering.proofs.AimedAt as aimed
use Rattle.canon_lowering.specs.Copies.{copies}
use Rattle.canon_model.specs.Layout.{size}
use Rattle.canon_model.specs.Shape.{Shape, fixed}
use Rattle.canon_model.specs.Tree.{Tree}
use Rattle.canon_types.specs.Instance.{Instance}
use Rattle.canon_types.specs.Table.{FixedListType, IsDefined, TypeTable, shape_of}
use Rattle.canon_types.specs.declared.types.InterfaceType.{InterfaceType}
use Rattle.canon_types.specs.declared.types.InterfaceType.TheVariants as ty
use Rattle.canon_typed.specs.Meaning.{EachMeans, RowMeans}
use Rattle.canon_typed.specs.Types.{IsFixedOf}
use Rattle.canon_lower_parts.proofs.Items.{lower_each_count, row_trees}
use Rattle.canon_passing.proofs.Shapes.{copies_quiet}
use Rattle.canon_lower_parts.proofs.Attempts.{cause_as, small_as}
use Rattle.canon_lower_parts.proofs.TooLarge.{fixed_large}
use Rattle.canon_lower_parts.specs.Blames.{HasLarge, HaveLarge}
use Rattle.canon_lower_parts.specs.Gives.{item_shape}
use Rattle.canon_lower_parts.specs.Lists.{IsElementOf}
use Rattle.canon_lower_parts.specs.Stores.{TypedMembersStore, TypedStores}

same_item : (x y : InterfaceType) (n m : ℕ) → Some (FixedListType x n) ≡ Some (FixedListType y m) → x ≡ y
same_item x y n m e = cc

same_count : (x y : InterfaceType) (n m : ℕ) → Some (FixedListType x n) ≡ Some (FixedListType y m) → n ≡ m
same_count x y n m e = cc

pub fixed_found : (count : ℕ) (Fits : Instance → InterfaceType → Type 0) (i : Instance) (t2 : TypeTable) (type : InterfaceType) (j : ℕ) (element : InterfaceType) (n : ℕ) → t2 ≡ i.types → type ≡ ty.FixedLengthList j
    → IsFixedOf count Fits i type
    → IsDefined t2 (ty.FixedLengthList j) (FixedListType element n) → IsElementOf (λ s. fixed count s) Fits i type element
fixed_found count Fits i t2 type j element n e is fits defined =
    let here : IsDefined i.types (ty.FixedLengthList j) (FixedListType element n) = subst (λ (x : TypeTable). IsDefined x (ty.FixedLengthList j) (FixedListType element n)) e defined in
    let (some, (other, d, f)) = subst (IsFixedOf count Fits i) is fits in
    let both = sym d.definition ∙ here.definition in
    subst (λ (x : InterfaceType). IsElementOf (λ s. fixed count s) Fits i x element) (sym is) (record {
      shape = here.shape ∙ ap (λ (k : ℕ). fixed k (shape_of i.types element)) (sym (same_count other element count n both));
      known = here.known 0 element (omega arith);
      fits = subst (Fits i) (same_item other element count n both) f;
    })

module _ {D G : Type 0} (L : GuestLaws G) (options : ℕ) {A : Type 0} (Walks : A → Tree → Type 0) (gives : Instance → Shape → A → List (List Part)) (Fits : Instance → InterfaceType → Type 0)
    (a : Parts D G) (type element : InterfaceType) (xs : List A) (n : ℕ)
    (of : IsElementOf (λ s. fixed n s) Fits a.component.types type element) (is : length xs ≡ n) (at : ℕ) (room : at + size false (shape_of (component_types a) type) ≤ length a.memory) where
  abbrev s : Shape
  s = shape_of (component_types a) element

  abbrev z : Shape
  z = shape_of (component_types a) type

  pub fixed_room : at + length xs * size false s ≤ length a.memory
  unfolding size
  fixed_room = omega (arith, room, ap (size false) of.shape, ap (λ (k : ℕ). k * size false s) is)

  pub fixed_stores : (c : Parts D G) (r : Result (Unit {0}) Fault) → TypedMembersStore L.seen L.moves options a c (copies (length xs) s) 0 at (EachMeans Walks xs) (flat_map (gives a.component.types s) xs) r
      → TypedStores L.seen L.moves options a c z at (RowMeans Walks xs) (flat_map (gives a.component.types (item_shape z)) xs) r
  fixed_stores c r g =
      let part : s ≡ item_shape z = sym (ap item_shape of.shape) in
      let h : TypedMembersStore L.seen L.moves options a c (copies n s) 0 at (EachMeans Walks xs) (flat_map (gives a.component.types (item_shape z)) xs) r =
      subst (λ (u : Shape). TypedMembersStore L.seen L.moves options a c (copies n s) 0 at (EachMeans Walks xs) (flat_map (gives a.component.types u) xs) r) part
      (subst (λ (k : ℕ). TypedMembersStore L.seen L.moves options a c (copies k s) 0 at (EachMeans Walks xs) (flat_map (gives a.component.types s) xs) r) is g) in
      subst (λ (y : Shape). TypedStores L.seen L.moves options a c y at (RowMeans Walks xs) (flat_map (gives a.component.types (item_shape z)) xs) r) (sym of.shape) (record {
        handles = h.handles;
        ending = h.ending;
        ends = h.ends;
        attempt = aimed.fixed_stored false (stage_of L.seen L.moves a) (stage_of L.seen L.moves c) (host_texts (encoding_by a options)) n s at (EachMeans Walks xs) (RowMeans Walks xs)
            (omega (arith, room, ap (size false) of.shape, h.attempt.lowering.goes.no_shorter))
            (λ ts each. ((ts, refl, each), lower_each_count Walks xs ts each ∙ is)) (row_trees Walks xs) h.ending h.attempt;
        passed = h.passed;
        same = h.same;
        quiet = λ none. h.quiet (copies_quiet n s none);
        cause = cause_as (EachMeans Walks xs) (RowMeans Walks xs) (HaveLarge (encoding_by a options) (copies n s)) (HasLarge (encoding_by a options) (fixed n s)) r (fixed_large (encoding_by a options) n s Walks xs is) h.cause;
        small = small_as (EachMeans Walks xs) (RowMeans Walks xs) (HaveLarge (encoding_by a options) (copies n s)) (HasLarge (encoding_by a options) (fixed n s)) r (fixed_large (encoding_by a options) n s Walks xs is) h.small;
      })
