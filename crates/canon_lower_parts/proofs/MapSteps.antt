-- Maps: the types of their pairs, and these one after another.
use Rattle.std.proofs.Common.{◌≡◌, ◌≤◌, ◌<◌, ◌+◌, ◌*◌, ◌∙◌, Err, List, Ok, Result, Some, ap, arith, false, length, subst, suc, suc-mul, sym, zero, ℕ}
use Rattle.std.specs.Prelude.{flat_map}
use Rattle.canon_context.proofs.Moves.{GuestLaws}
use Rattle.canon_context.specs.Core.{Parts, component_types}
use Rattle.canon_context.specs.declared.fault.Fault.{Fault}
use Rattle.canon_resources.specs.Parts.{Part}
use Rattle.canon_lowering.specs.Copies.{copies}
use Rattle.canon_memory.specs.Guest.{GuestIn, Seen}
use Rattle.canon_memory.specs.declared.event.Event.{Event}
use Rattle.canon_model.specs.Layout.{size}
use Rattle.canon_model.specs.Shape.{Shape, map_of, of_pairs}
use Rattle.canon_model.specs.Tree.{Tree}
use Rattle.canon_types.specs.Instance.{Instance}
use Rattle.canon_types.specs.Keeps.{HasPair}
use Rattle.canon_types.specs.Table.{IsDefined, MapType, TypeTable, shape_of}
use Rattle.canon_types.specs.declared.types.InterfaceType.{InterfaceType}
use Rattle.canon_types.specs.declared.types.InterfaceType.TheVariants as ty
use Rattle.canon_types.specs.declared.types.TypeMap.{TypeMap}
use Rattle.canon_typed.specs.Meaning.{EachMeans, ListMeans}
use Rattle.canon_typed.specs.Types.{IsMapOf}
use Rattle.canon_passing.proofs.Passing.{handles_instance, same_handles}
use Rattle.canon_lower_parts.proofs.ListSteps.{list_filled, list_stopped, lower_list_ungiven}
use Rattle.canon_lower_parts.proofs.PairSteps.{second_place}
use Rattle.canon_lower_parts.specs.Gives.{item_shape}
use Rattle.canon_lower_parts.specs.Pairs.{IsPairType, pair_in}
use Rattle.canon_lower_parts.specs.Places.{IsGivenBlock, IsNoBlock, TypedPlaces}
use Rattle.canon_lower_parts.specs.Stores.{TypedMembersStore, TypedStores}
use Rattle.canon_lower_parts.specs.declared.maps.PairType.{PairType}

same_key : (a b c d : InterfaceType) → Some (MapType a b) ≡ Some (MapType c d) → a ≡ c
same_key a b c d e = cc

same_value : (a b c d : InterfaceType) → Some (MapType a b) ≡ Some (MapType c d) → b ≡ d
same_value a b c d e = cc

pub pair_found : (Key Value : Instance → InterfaceType → Type 0) (i : Instance) (t2 : TypeTable) (type : InterfaceType) (j : ℕ) (m : TypeMap) → t2 ≡ i.types → type ≡ ty.Map j
    → IsMapOf Key Value i type → IsDefined t2 (ty.Map j) (MapType m.key m.value)
    → HasPair m (shape_of t2 (ty.Map j)) → IsPairType Key Value i (record { key = m.key; value = m.value; second = m.value_offset32; abi = m.entry_abi })
pair_found Key Value i t2 type j m e is fits defined pair =
    let here : IsDefined i.types (ty.Map j) (MapType m.key m.value) = subst (λ (x : TypeTable). IsDefined x (ty.Map j) (MapType m.key m.value)) e defined in
    let there : HasPair m (map_of (shape_of i.types m.key) (shape_of i.types m.value)) = subst (HasPair m) here.shape (subst (λ (x : TypeTable). HasPair m (shape_of x (ty.Map j))) e pair) in
    let (key, value, d, f, f2) = subst (IsMapOf Key Value i) is fits in
    record {
      key_known = here.known 0 m.key (omega arith);
      value_known = here.known 1 m.value (omega arith);
      key_fits = subst (Key i) (same_key key value m.key m.value (sym d.definition ∙ here.definition)) f;
      value_fits = subst (Value i) (same_value key value m.key m.value (sym d.definition ∙ here.definition)) f2;
      second = there.value false ∙ second_place (shape_of i.types m.key) (shape_of i.types m.value);
      layout = there.abi;
    }

-- ---- one of them, said of the types of the start

module _ {D G A : Type 0} (seen : G → Seen) (moves : GuestIn G → List Event → GuestIn G → Type 0) (options : ℕ) (Walks : A → Tree → Type 0) (gives : Instance → Shape → A → List (List Part)) where
  pub pair_stood : (i : Instance) (now now2 : Parts D G) (options2 : ℕ) (p : PairType) (at place : ℕ) (x : A) (r : Result (Unit {0}) Fault) → options2 ≡ options → now.component.types ≡ i → at ≡ place
      → TypedStores seen moves options2 now now2 (pair_in (component_types now) p) at (Walks x) (gives now.component.types (pair_in (component_types now) p) x) r
      → TypedStores seen moves options now now2 (pair_in i.types p) place (Walks x) (gives i (pair_in i.types p) x) r
  pair_stood i now now2 options2 p at place x r eo ei is h =
      subst (λ (n : ℕ). TypedStores seen moves options now now2 (pair_in i.types p) n (Walks x) (gives i (pair_in i.types p) x) r) is
      (subst (λ (z : Instance). TypedStores seen moves options now now2 (pair_in z.types p) at (Walks x) (gives z (pair_in z.types p) x) r) ei
      (subst (λ (n : ℕ). TypedStores seen moves n now now2 (pair_in (component_types now) p) at (Walks x) (gives now.component.types (pair_in (component_types now) p) x) r) eo h))

-- room for one more of so many
pub one_inside : (k n bytes : ℕ) → k < n → k * bytes + bytes ≤ n * bytes
one_inside k zero bytes h = absurd (omega (arith, h))
one_inside zero (suc n) bytes h = omega (arith, suc-mul n bytes)
one_inside (suc k) (suc n) bytes h = omega (arith, suc-mul k bytes, suc-mul n bytes, one_inside k n bytes (omega (arith, h)))

-- ---- a map in a block of its own

pub map_is : (Key Value : Instance → InterfaceType → Type 0) (i : Instance) (type : InterfaceType) → IsMapOf Key Value i type → (k v : Shape) × (shape_of i.types type ≡ map_of k v)
map_is Key Value i (ty.Map j) (key, value, d, f, f2) = (shape_of i.types key, shape_of i.types value, d.shape)
map_is Key Value i _ h = absurd h

module _ {D G : Type 0} (L : GuestLaws G) (options : ℕ) {K V : Type 0} (Walks : K × V → Tree → Type 0) (gives : Instance → Shape → K × V → List (List Part))
    (Key Value : Instance → InterfaceType → Type 0) (a b : Parts D G) (type : InterfaceType) (pair : PairType)
    (xs : List (K × V)) (n : ℕ) (shape : shape_of (component_types a) type ≡ map_of (shape_of (component_types a) pair.key) (shape_of (component_types a) pair.value)) (is : n ≡ length xs) where
  abbrev s : Shape
  s = pair_in (component_types a) pair

  abbrev z : Shape
  z = shape_of (component_types a) type

  abbrev all_gives : List (List Part)
  all_gives = flat_map (gives a.component.types (item_shape z)) xs

  pub pairs_ungiven : (e : Fault) → IsNoBlock L.seen L.moves a b s n e → TypedPlaces L.seen L.moves options a b z (ListMeans Walks xs) all_gives (Err e)
  pairs_ungiven e h = lower_list_ungiven L options Walks (gives a.component.types (item_shape z)) a b z s of_pairs shape xs n is e h

  module _ (c : Parts D G) (p options2 : ℕ) (eo : options2 ≡ options) (g : IsGivenBlock L.seen L.moves a b s n p) where
    instance : b.component.types ≡ a.component.types
    instance = handles_instance a b (same_handles a b g.asked.same)

    pub lower_pairs_fit : IsPairType Key Value a.component.types pair → IsPairType Key Value b.component.types pair
    lower_pairs_fit h = subst (λ (i : Instance). IsPairType Key Value i pair) (sym instance) h

    pub pairs_room : p + length xs * size false (pair_in (component_types b) pair) ≤ length b.memory
    pairs_room =
        let same : length xs * size false (pair_in (component_types b) pair) ≡ n * size false s = ap (λ (i : Instance). length xs * size false (pair_in i.types pair)) instance ∙ ap (λ (k : ℕ). k * size false s) (sym is) in
        omega (arith, same, g.asked.does.inside)

    abbrev pub Pairs : Result (Unit {0}) Fault → Type 0
    Pairs r = TypedMembersStore L.seen L.moves options2 b c (copies (length xs) (pair_in (component_types b) pair)) 0 p (EachMeans Walks xs) (flat_map (gives b.component.types (pair_in (component_types b) pair)) xs) r

    stood : (r : Result (Unit {0}) Fault) → Pairs r → TypedMembersStore L.seen L.moves options b c (copies (length xs) s) 0 p (EachMeans Walks xs) all_gives r
    stood r h =
        let part : s ≡ item_shape z = sym (ap item_shape shape) in
        subst (λ (u : Shape). TypedMembersStore L.seen L.moves options b c (copies (length xs) s) 0 p (EachMeans Walks xs) (flat_map (gives a.component.types u) xs) r) part
        (subst (λ (i : Instance). TypedMembersStore L.seen L.moves options b c (copies (length xs) (pair_in i.types pair)) 0 p (EachMeans Walks xs) (flat_map (gives i (pair_in i.types pair)) xs) r) instance
        (subst (λ (o : ℕ). TypedMembersStore L.seen L.moves o b c (copies (length xs) (pair_in (component_types b) pair)) 0 p (EachMeans Walks xs) (flat_map (gives b.component.types (pair_in (component_types b) pair)) xs) r) eo h))

    pub pairs_filled : Pairs (Ok tt) → TypedPlaces L.seen L.moves options a c z (ListMeans Walks xs) all_gives (Ok (record { pointer = p; length = n }))
    pairs_filled h = list_filled L options Walks (gives a.component.types (item_shape z)) a b z s of_pairs shape xs n is c p g (stood (Ok tt) h)

    pub pairs_stopped : (e : Fault) → Pairs (Err e) → TypedPlaces L.seen L.moves options a c z (ListMeans Walks xs) all_gives (Err e)
    pairs_stopped e h = list_stopped L options Walks (gives a.component.types (item_shape z)) a b z s of_pairs shape xs n is c p g e (stood (Err e) h)
