-- Lists of typed values.
use Rattle.std.proofs.Common.{◌≡◌, ◌≤◌, ◌+◌, ◌*◌, ◌∙◌, Err, List, Ok, Result, Some, ap, arith, false, length, refl, subst, sym, true, ℕ}
use Rattle.std.specs.Prelude.{flat_map}
use Rattle.canon_context.proofs.Moves.{GuestLaws}
use Rattle.canon_context.specs.Core.{Parts, component_types}
use Rattle.canon_context.specs.Quiet.{has_block}
use Rattle.canon_context.specs.declared.fault.Fault.{Fault}
use Rattle.canon_resources.specs.Parts.{Part}
use Rattle.canon_lowering.proofs.AimedPairs.{copies_row}
use Rattle.canon_lowering.specs.Copies.{copies}
use Rattle.canon_model.specs.Homes.{host_texts}
use Rattle.canon_model.specs.Layout.{size}
use Rattle.canon_model.specs.Shape.{ListKind, Shape, list, of_items}
use Rattle.canon_model.specs.Text.{Encoding}
use Rattle.canon_model.specs.Tree.{Tree, tree_count, trees_of}
use Rattle.canon_types.specs.Instance.{Instance}
use Rattle.canon_types.specs.Table.{IsDefined, Knows, ListType, TypeTable, shape_of}
use Rattle.canon_types.specs.declared.types.InterfaceType.{InterfaceType}
use Rattle.canon_types.specs.declared.types.InterfaceType.TheVariants as ty
use Rattle.canon_typed.specs.Meaning.{EachMeans, ListMeans}
use Rattle.canon_typed.specs.Types.{IsListOf}
use Rattle.canon_lower_parts.proofs.Items.{lower_each_count, lower_list_trees, row_some, some_row}
use Rattle.canon_lower_parts.proofs.BlockSteps.{AsItems, lower_list_broken, lower_list_placed, lower_list_refused, list_put, placed_stops}
use Rattle.canon_passing.proofs.Passing.{handles_instance, same_handles}
use Rattle.canon_lower_parts.specs.Blames.{IsTooLarge}
use Rattle.canon_lower_parts.specs.Gives.{item_shape}
use Rattle.canon_lower_parts.specs.Lists.{IsElementOf}
use Rattle.canon_lower_parts.specs.Places.{IsGivenBlock, IsNoBlock, IsPairPut, IsPlacedPut, TypedPlaces, without_value}
use Rattle.canon_lower_parts.specs.Stores.{TypedMembersStore, TypedStores}
use Rattle.canon_lower_parts.specs.declared.blocks.Placed.{Placed}

same_list : (x y : InterfaceType) → Some (ListType x) ≡ Some (ListType y) → x ≡ y
same_list x y e = cc

pub list_found : (Fits : Instance → InterfaceType → Type 0) (i : Instance) (t2 : TypeTable) (type : InterfaceType) (j : ℕ) (element : InterfaceType) → t2 ≡ i.types → type ≡ ty.List j
    → IsListOf Fits i type → IsDefined t2 (ty.List j) (ListType element)
    → IsElementOf (λ s. list of_items s) Fits i type element
list_found Fits i t2 type j element e is fits defined =
    let here : IsDefined i.types (ty.List j) (ListType element) = subst (λ (x : TypeTable). IsDefined x (ty.List j) (ListType element)) e defined in
    let (other, d, f) = subst (IsListOf Fits i) is fits in
    subst (λ (x : InterfaceType). IsElementOf (λ s. list of_items s) Fits i x element) (sym is) (record {
      shape = here.shape;
      known = here.known 0 element (omega arith);
      fits = subst (Fits i) (same_list other element (sym d.definition ∙ here.definition)) f;
    })

-- ---- in a block

-- values in a row, in a block that is a list's
module _ {D G : Type 0} (L : GuestLaws G) (options : ℕ) {A : Type 0} (Walks : A → Tree → Type 0) (give : A → List (List Part)) (a b : Parts D G) (z s : Shape) (k : ListKind) (shape : z ≡ list k s)
    (xs : List A) (n : ℕ) (is : n ≡ length xs) where
  counts : (t : Tree) → ListMeans Walks xs t → tree_count (trees_of t) ≡ n
  counts t has = lower_each_count Walks xs (trees_of t) (lower_list_trees Walks xs t has) ∙ sym is

  items_large : (enc : Encoding) → AsItems enc s (copies n s) (ListMeans Walks xs) (λ t. trees_of t)
  items_large enc t has e = (row_some (IsTooLarge enc e) n s (trees_of t), some_row (IsTooLarge enc e) n s (trees_of t) (counts t has))

  pub lower_list_ungiven : (e : Fault) → IsNoBlock L.seen L.moves a b s n e → TypedPlaces L.seen L.moves options a b z (ListMeans Walks xs) (flat_map give xs) (Err e)
  lower_list_ungiven e h = lower_list_refused L options z s k n (ListMeans Walks xs) (flat_map give xs) shape counts a b e h

  module _ (c : Parts D G) (p : ℕ) (g : IsGivenBlock L.seen L.moves a b s n p) where
    abbrev pub Filled : Result (Unit {0}) Fault → Type 0
    Filled r = TypedMembersStore L.seen L.moves options b c (copies (length xs) s) 0 p (EachMeans Walks xs) (flat_map give xs) r

    as_many : (r : Result (Unit {0}) Fault) → Filled r → TypedMembersStore L.seen L.moves options b c (copies n s) 0 p (EachMeans Walks xs) (flat_map give xs) r
    as_many r h = subst (λ (m : ℕ). TypedMembersStore L.seen L.moves options b c (copies m s) 0 p (EachMeans Walks xs) (flat_map give xs) r) (sym is) h

    pub list_filled : Filled (Ok tt) → TypedPlaces L.seen L.moves options a c z (ListMeans Walks xs) (flat_map give xs) (Ok (record { pointer = p; length = n }))
    list_filled h = lower_list_placed L options z s k n (ListMeans Walks xs) (flat_map give xs) shape counts n (copies n s) (λ ts. ts) (λ t. trees_of t) (λ enc. copies_row false (host_texts enc) s n) (EachMeans Walks xs)
        (λ ts each. ((ts, refl, each), lower_each_count Walks xs ts each ∙ sym is)) (λ t has. (lower_list_trees Walks xs t has, refl)) items_large a b c p g (as_many (Ok tt) h)

    pub list_stopped : (e : Fault) → Filled (Err e) → TypedPlaces L.seen L.moves options a c z (ListMeans Walks xs) (flat_map give xs) (Err e)
    list_stopped e h = lower_list_broken L options z s k n (ListMeans Walks xs) (flat_map give xs) shape counts n (copies n s) (λ ts. ts) (λ t. trees_of t) (λ enc. copies_row false (host_texts enc) s n) (EachMeans Walks xs)
        (λ ts each. ((ts, refl, each), lower_each_count Walks xs ts each ∙ sym is)) (λ t has. (lower_list_trees Walks xs t has, refl)) items_large a b c p g e (as_many (Err e) h)

-- the same of the items that a list's type has, said of the types of the start
module _ {D G : Type 0} (L : GuestLaws G) (options : ℕ) {A : Type 0} (Walks : A → Tree → Type 0) (gives : Instance → Shape → A → List (List Part)) (Fits : Instance → InterfaceType → Type 0)
    (a b : Parts D G) (type element : InterfaceType) (xs : List A) (n : ℕ)
    (of : IsElementOf (λ s. list of_items s) Fits a.component.types type element) (is : n ≡ length xs) where
  abbrev s : Shape
  s = shape_of (component_types a) element

  abbrev z : Shape
  z = shape_of (component_types a) type

  abbrev all_gives : List (List Part)
  all_gives = flat_map (gives a.component.types (item_shape z)) xs

  pub items_ungiven : (e : Fault) → IsNoBlock L.seen L.moves a b s n e → TypedPlaces L.seen L.moves options a b z (ListMeans Walks xs) all_gives (Err e)
  items_ungiven e h = lower_list_ungiven L options Walks (gives a.component.types (item_shape z)) a b z s of_items of.shape xs n is e h

  module _ (c : Parts D G) (p options2 : ℕ) (eo : options2 ≡ options) (g : IsGivenBlock L.seen L.moves a b s n p) where
    instance : b.component.types ≡ a.component.types
    instance = handles_instance a b (same_handles a b g.asked.same)

    pub items_known : Knows (component_types b) element
    items_known = subst (λ (i : Instance). Knows i.types element) (sym instance) of.known

    pub items_fits : Fits b.component.types element
    items_fits = subst (λ (i : Instance). Fits i element) (sym instance) of.fits

    pub items_room : p + length xs * size false (shape_of (component_types b) element) ≤ length b.memory
    items_room =
        let same : length xs * size false (shape_of (component_types b) element) ≡ n * size false s = ap (λ (i : Instance). length xs * size false (shape_of i.types element)) instance ∙ ap (λ (k : ℕ). k * size false s) (sym is) in
        omega (arith, same, g.asked.does.inside)

    abbrev pub Items : Result (Unit {0}) Fault → Type 0
    Items r = TypedMembersStore L.seen L.moves options2 b c (copies (length xs) (shape_of (component_types b) element)) 0 p (EachMeans Walks xs) (flat_map (gives b.component.types (shape_of (component_types b) element)) xs) r

    stood : (r : Result (Unit {0}) Fault) → Items r → TypedMembersStore L.seen L.moves options b c (copies (length xs) s) 0 p (EachMeans Walks xs) all_gives r
    stood r h =
        let part : s ≡ item_shape z = sym (ap item_shape of.shape) in
        subst (λ (u : Shape). TypedMembersStore L.seen L.moves options b c (copies (length xs) s) 0 p (EachMeans Walks xs) (flat_map (gives a.component.types u) xs) r) part
        (subst (λ (i : Instance). TypedMembersStore L.seen L.moves options b c (copies (length xs) (shape_of i.types element)) 0 p (EachMeans Walks xs) (flat_map (gives i (shape_of i.types element)) xs) r) instance
        (subst (λ (o : ℕ). TypedMembersStore L.seen L.moves o b c (copies (length xs) (shape_of (component_types b) element)) 0 p (EachMeans Walks xs) (flat_map (gives b.component.types (shape_of (component_types b) element)) xs) r) eo h))

    pub items_filled : Items (Ok tt) → TypedPlaces L.seen L.moves options a c z (ListMeans Walks xs) all_gives (Ok (record { pointer = p; length = n }))
    items_filled h = list_filled L options Walks (gives a.component.types (item_shape z)) a b z s of_items of.shape xs n is c p g (stood (Ok tt) h)

    pub items_stopped : (e : Fault) → Items (Err e) → TypedPlaces L.seen L.moves options a c z (ListMeans Walks xs) all_gives (Err e)
    items_stopped e h = list_stopped L options Walks (gives a.component.types (item_shape z)) a b z s of_items of.shape xs n is c p g e (stood (Err e) h)

-- ---- in memory: a pointer and a length

pub lower_list_shape : (Fits : Instance → InterfaceType → Type 0) (i : Instance) (type : InterfaceType) → IsListOf Fits i type → (s : Shape) × (shape_of i.types type ≡ list of_items s)
lower_list_shape Fits i (ty.List j) (element, d, f) = (shape_of i.types element, d.shape)
lower_list_shape Fits i _ h = absurd h

pub list_bytes : (z s : Shape) (k : ListKind) → z ≡ list k s → size false z ≡ 8
unfolding size
list_bytes z s k e = ap (size false) e

pub list_blocks : (z s : Shape) (k : ListKind) → z ≡ list k s → has_block z ≡ true
list_blocks z s k e = ap has_block e

module _ {D G : Type 0} (L : GuestLaws G) (options : ℕ) (a b : Parts D G) (z s : Shape) (k : ListKind) (shape : z ≡ list k s) (at : ℕ) (room : at + size false z ≤ length a.memory) (Has : Tree → Type 0) (gs : List (List Part)) where
  pub pair_room : (r : Result Placed Fault) → TypedPlaces L.seen L.moves options a b z Has gs r → at + 8 ≤ length b.memory
  pair_room r h = omega (arith, room, list_bytes z s k shape, h.placed.attempt.lowering.goes.no_shorter)

  list_stores : (c : Parts D G) (x : Placed) → TypedPlaces L.seen L.moves options a b z Has gs (Ok x) → IsPairPut b c at x.pointer x.length → TypedStores L.seen L.moves options a c z at Has gs (Ok tt)
  list_stores c x h w = list_put L options a b c at Has gs x (pair_room (Ok x) h) w z s k shape h

  list_stops : (e : Fault) → TypedPlaces L.seen L.moves options a b z Has gs (Err e) → TypedStores L.seen L.moves options a b z at Has gs (Err e)
  list_stops e h = placed_stops L options a b z at Has gs e (list_blocks z s k shape) h

  pub list_done : (c : Parts D G) (r : Result Placed Fault) (q : Result (Unit {0}) Fault) → q ≡ without_value r → IsPlacedPut b c at r → TypedPlaces L.seen L.moves options a b z Has gs r
      → TypedStores L.seen L.moves options a c z at Has gs q
  list_done c (Ok x) q e w h = subst (λ (y : Result (Unit {0}) Fault). TypedStores L.seen L.moves options a c z at Has gs y) (sym e) (list_stores c x h w)
  list_done c (Err f) q e w h = subst (λ (y : Result (Unit {0}) Fault). TypedStores L.seen L.moves options a c z at Has gs y) (sym e)
      (subst (λ (x : Parts D G). TypedStores L.seen L.moves options a x z at Has gs (Err f)) (sym w) (list_stops f h))
