-- The members of a tuple, stored one after another.
use Rattle.std.proofs.Common.{◌≡◌, ◌≤◌, ◌+◌, ◌^◌, ◌∙◌, Err, List, Ok, Result, [], ◌∷◌, ap, arith, false, length, refl, subst, sym, ℕ}
use Rattle.canon_context.proofs.Moves.{GuestLaws}
use Rattle.canon_context.specs.Asks.{SameButHandles}
use Rattle.canon_context.specs.Core.{Parts, component_types}
use Rattle.canon_context.specs.declared.fault.Fault.{Fault}
use Rattle.canon_resources.specs.Parts.{Part}
use Rattle.canon_lower_parts.proofs.MemberSteps.{members_end as members_stop, members_more, members_nothing, product_stores}
use Rattle.canon_lower_parts.proofs.TupleTypes.{IsNextType, next_of, none_after, tuple_seen}
use Rattle.canon_lower_parts.specs.Gives.{product_gives, row_gives}
use Rattle.canon_lower_parts.specs.Stores.{TypedMembersStore, TypedStores}
use Rattle.canon_lower_parts.specs.Tuples.{member_type, members_after, types_from}
use Rattle.canon_model.proofs.Layouts.{members_end-le, members_end-le-size}
use Rattle.canon_model.specs.Layout.{begins, ends, members_end, size}
use Rattle.canon_model.specs.Shape.{Members, Shape, member, no_members, of_places}
use Rattle.canon_model.specs.Tree.{Tree, Trees}
use Rattle.canon_types.specs.Instance.{Instance}
use Rattle.canon_types.specs.Table.{TypeTable, shape_of}
use Rattle.canon_types.specs.declared.types.InterfaceType.{InterfaceType}
use Rattle.canon_typed.specs.Meaning.{FirstAnd, NoTrees, ProductMeans}
use Rattle.canon_typed.specs.Types.{AreOf, IsTupleOf}
use Rattle.canon_passing.proofs.Passing.{handles_instance, handles_types}

-- ---- the first member, and the others

module _ {D G : Type 0} (L : GuestLaws G) (options : ℕ) (a : Parts D G) (type : InterfaceType) (k : ℕ) (Fit : Instance → InterfaceType → Type 0) (all : List (Instance → InterfaceType → Type 0))
    (are : AreOf (Fit ∷ all) a.component.types (types_from (component_types a) type k)) where
  abbrev s : Shape
  s = shape_of (component_types a) (member_type (component_types a) type k)

  next : IsNextType Fit a.component.types type k
  next = next_of Fit all a.component.types type k are

  pub first_room : (at o m : ℕ) → at + members_end false o (members_after (component_types a) type k) ≤ m → at + ends false o s ≤ m
  unfolding size
  first_room at o m room = omega (arith, room, ap (members_end false o) next.members, members_end-le false (ends false o s) (members_after (component_types a) type (k + 1)))

  module _ (b : Parts D G) (same : SameButHandles a b) (k2 : ℕ) (e : k2 ≡ k + 1) (at o o2 : ℕ) (end : o2 ≡ ends false o s) where
    pub later_room : (m m2 : ℕ) → m ≤ m2 → at + members_end false o (members_after (component_types a) type k) ≤ m → at + members_end false o2 (members_after (component_types b) type k2) ≤ m2
    unfolding size
    later_room m m2 longer room = omega (
      arith,
      longer,
      room,
      ap (members_end false o) next.members,
      ap (λ (n : ℕ). members_end false n (members_after (component_types b) type k2)) end,
      ap (λ (t : TypeTable). members_end false (ends false o s) (members_after t type k2)) (handles_types a b same),
      ap (λ (n : ℕ). members_end false (ends false o s) (members_after (component_types a) type n)) e,
    )

    module _ (Has : Tree → Type 0) (Have : Trees → Type 0) (f : Instance → Shape → List (List Part)) (fs : Instance → List (Shape → List (List Part))) where
      pub lower_stored_more : (c : Parts D G) (options2 : ℕ) (r : Result (Unit {0}) Fault) → options2 ≡ options
          → TypedStores L.seen L.moves options a b s (at + begins false o s) Has (f a.component.types s) (Ok tt)
          → TypedMembersStore L.seen L.moves options2 b c (members_after (component_types b) type k2) o2 at Have (row_gives (members_after (component_types b) type k2) (fs b.component.types)) r
          → TypedMembersStore L.seen L.moves options a c (members_after (component_types a) type k) o at (FirstAnd Has Have) (row_gives (members_after (component_types a) type k) (f a.component.types ∷ fs a.component.types)) r
      lower_stored_more c options2 r eo one more =
          let rest : TypedMembersStore L.seen L.moves options b c (members_after (component_types a) type (k + 1)) (ends false o s) at Have (row_gives (members_after (component_types a) type (k + 1)) (fs a.component.types)) r =
          subst (λ (i : Instance). TypedMembersStore L.seen L.moves options b c (members_after i.types type (k + 1)) (ends false o s) at Have (row_gives (members_after i.types type (k + 1)) (fs i)) r) (handles_instance a b same)
          (subst (λ (n : ℕ). TypedMembersStore L.seen L.moves options b c (members_after (component_types b) type n) (ends false o s) at Have (row_gives (members_after (component_types b) type n) (fs b.component.types)) r) e
          (subst (λ (n : ℕ). TypedMembersStore L.seen L.moves options b c (members_after (component_types b) type k2) n at Have (row_gives (members_after (component_types b) type k2) (fs b.component.types)) r) end
          (subst (λ (n : ℕ). TypedMembersStore L.seen L.moves n b c (members_after (component_types b) type k2) o2 at Have (row_gives (members_after (component_types b) type k2) (fs b.component.types)) r) eo more))) in
          subst (λ (ms : Members). TypedMembersStore L.seen L.moves options a c ms o at (FirstAnd Has Have) (row_gives ms (f a.component.types ∷ fs a.component.types)) r) (sym next.members)
          (members_more L options a b c s (members_after (component_types a) type (k + 1)) o at Has Have (f a.component.types s) (row_gives (members_after (component_types a) type (k + 1)) (fs a.component.types)) r one rest)

  pub stored_stop : (b : Parts D G) (at o : ℕ) (Has : Tree → Type 0) (Have : Trees → Type 0) (f : Instance → Shape → List (List Part)) (fs : Instance → List (Shape → List (List Part))) (e : Fault)
      → TypedStores L.seen L.moves options a b s (at + begins false o s) Has (f a.component.types s) (Err e)
      → TypedMembersStore L.seen L.moves options a b (members_after (component_types a) type k) o at (FirstAnd Has Have) (row_gives (members_after (component_types a) type k) (f a.component.types ∷ fs a.component.types)) (Err e)
  stored_stop b at o Has Have f fs e one =
      subst (λ (ms : Members). TypedMembersStore L.seen L.moves options a b ms o at (FirstAnd Has Have) (row_gives ms (f a.component.types ∷ fs a.component.types)) (Err e)) (sym next.members)
      (members_stop L options a b s (members_after (component_types a) type (k + 1)) o at Has Have (f a.component.types s) (row_gives (members_after (component_types a) type (k + 1)) (fs a.component.types)) e one)

pub stored_none : {D G : Type 0} (L : GuestLaws G) (options : ℕ) (a : Parts D G) (type : InterfaceType) (k o at : ℕ) → length a.memory ≤ 2 ^ 32 → AreOf [] a.component.types (types_from (component_types a) type k)
    → TypedMembersStore L.seen L.moves options a a (members_after (component_types a) type k) o at NoTrees (row_gives (members_after (component_types a) type k) []) (Ok tt)
stored_none L options a type k o at small are = subst (λ (ms : Members). TypedMembersStore L.seen L.moves options a a ms o at NoTrees (row_gives ms []) (Ok tt)) (sym (none_after a.component.types type k are))
    (members_nothing L options a o at small)

-- ---- the whole tuple

module _ {D G : Type 0} (L : GuestLaws G) (options : ℕ) (a : Parts D G) (type : InterfaceType) (all : List (Instance → InterfaceType → Type 0)) (of : IsTupleOf all a.component.types type) (at : ℕ)
    (room : at + size false (shape_of (component_types a) type) ≤ length a.memory) where
  pub tuple_room : at + members_end false 0 (members_after (component_types a) type 0) ≤ length a.memory
  tuple_room = omega (arith, room, ap (size false) (tuple_seen all a.component.types type of).shape, members_end-le-size false of_places (members_after (component_types a) type 0))

  pub tuple_stored : (c : Parts D G) (Have : Trees → Type 0) (fs : List (Shape → List (List Part))) (r : Result (Unit {0}) Fault)
      → TypedMembersStore L.seen L.moves options a c (members_after (component_types a) type 0) 0 at Have (row_gives (members_after (component_types a) type 0) fs) r
      → TypedStores L.seen L.moves options a c (shape_of (component_types a) type) at (ProductMeans Have) (product_gives fs (shape_of (component_types a) type)) r
  tuple_stored c Have fs r h =
      let shape = (tuple_seen all a.component.types type of).shape in
      product_stores L options a c (shape_of (component_types a) type) of_places (members_after (component_types a) type 0) at Have (product_gives fs (shape_of (component_types a) type)) r shape room
      (subst (λ (gs : List (List Part)). TypedMembersStore L.seen L.moves options a c (members_after (component_types a) type 0) 0 at Have gs r) (sym (ap (product_gives fs) shape)) h)

-- a tuple of none
no_gives : (ms : Members) → row_gives ms [] ≡ []
no_gives no_members = refl
no_gives (member name s ms) = refl

pub no_tuple_gives : (i : Instance) (type : InterfaceType) → IsTupleOf [] i type → product_gives [] (shape_of i.types type) ≡ []
no_tuple_gives i type of = ap (product_gives []) (tuple_seen [] i type of).shape ∙ no_gives (members_after i.types type 0)

pub unit_stores : {D G : Type 0} (L : GuestLaws G) (options : ℕ) (start : Parts D G) (type : InterfaceType) (at : ℕ) → length start.memory ≤ 2 ^ 32
    → at + size false (shape_of (component_types start) type) ≤ length start.memory → IsTupleOf [] start.component.types type
    → TypedStores L.seen L.moves options start start (shape_of (component_types start) type) at (ProductMeans NoTrees) [] (Ok tt)
unit_stores L options start type at small room of =
    subst (λ (gs : List (List Part)). TypedStores L.seen L.moves options start start (shape_of (component_types start) type) at (ProductMeans NoTrees) gs (Ok tt)) (no_tuple_gives start.component.types type of)
    (tuple_stored L options start type [] of at room start NoTrees [] (Ok tt) (stored_none L options start type 0 0 at small (tuple_seen [] start.component.types type of).are))
