-- The pairs of a map, each stored as a tuple of key and value.
use Rattle.std.proofs.Common.{◌≡◌, ◌≤◌, ◌+◌, ◌++◌, Err, List, Ok, Result, [], ◌∷◌, arith, false, length, refl, subst, ℕ}
use Rattle.canon_context.proofs.Moves.{GuestLaws}
use Rattle.canon_context.specs.Core.{Parts}
use Rattle.canon_context.specs.declared.fault.Fault.{Fault}
use Rattle.canon_resources.specs.Parts.{Part}
use Rattle.canon_model.proofs.Layouts.{members_end-le, members_end-le-size}
use Rattle.canon_model.specs.Layout.{begins, ends, offset, size}
use Rattle.canon_model.specs.Shape.{Members, Shape, member, no_members, of_places, tuple, unnamed_members}
use Rattle.canon_model.specs.Tree.{Tree}
use Rattle.canon_typed.specs.Meaning.{FirstAnd, NoTrees, ProductMeans}
use Rattle.canon_lower_parts.proofs.MemberSteps.{begins_zero, members_end as members_stop, members_last, members_more, product_stores}
use Rattle.canon_lower_parts.specs.Stores.{TypedStores}

module _ (s u : Shape) where
  abbrev lower_pair : Shape
  lower_pair = tuple (s ∷ u ∷ [])

  abbrev lower_both : Members
  lower_both = member [] s (member [] u no_members)

  pub second_inside : begins false (ends false 0 s) u + size false u ≤ size false lower_pair
  unfolding size
  second_inside = omega (arith, members_end-le-size false of_places lower_both)

  pub first_inside : size false s ≤ size false lower_pair
  unfolding size
  first_inside = omega (arith, members_end-le-size false of_places lower_both, members_end-le false (ends false 0 s) (member [] u no_members), begins_zero s)

  module _ {D G : Type 0} (L : GuestLaws G) (options : ℕ) (a b : Parts D G) (at : ℕ) (Has Has2 : Tree → Type 0) (gs fs : List (List Part)) (room : at + size false lower_pair ≤ length a.memory) where
    abbrev Pair : Parts D G → Result (Unit {0}) Fault → Type 0
    Pair c r = TypedStores L.seen L.moves options a c lower_pair at (ProductMeans (FirstAnd Has (FirstAnd Has2 NoTrees))) (gs ++ (fs ++ [])) r

    first_place : at ≡ at + begins false 0 s
    first_place = omega (arith, begins_zero s)

    pub pair_stores : (c : Parts D G) (r : Result (Unit {0}) Fault) → TypedStores L.seen L.moves options a b s at Has gs (Ok tt) → TypedStores L.seen L.moves options b c u (at + begins false (ends false 0 s) u) Has2 fs r → Pair c r
    pair_stores c r h k = product_stores L options a c lower_pair of_places lower_both at (FirstAnd Has (FirstAnd Has2 NoTrees)) (gs ++ (fs ++ [])) r refl room
        (members_more L options a b c s (member [] u no_members) 0 at Has (FirstAnd Has2 NoTrees) gs (fs ++ []) r (subst (λ (n : ℕ). TypedStores L.seen L.moves options a b s n Has gs (Ok tt)) first_place h)
        (members_last L options b c u (ends false 0 s) at Has2 fs r k))

    -- the key ends it
    pub pair_stops : (e : Fault) → TypedStores L.seen L.moves options a b s at Has gs (Err e) → Pair b (Err e)
    pair_stops e h = product_stores L options a b lower_pair of_places lower_both at (FirstAnd Has (FirstAnd Has2 NoTrees)) (gs ++ (fs ++ [])) (Err e) refl room
        (members_stop L options a b s (member [] u no_members) 0 at Has (FirstAnd Has2 NoTrees) gs (fs ++ []) e (subst (λ (n : ℕ). TypedStores L.seen L.moves options a b s n Has gs (Err e)) first_place h))

-- where a value begins in a pair
pub second_place : (s u : Shape) → offset false (unnamed_members (s ∷ u ∷ [])) 1 ≡ begins false (ends false 0 s) u
second_place s u = refl
