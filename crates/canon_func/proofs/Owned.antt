-- Where types reach no borrow, each handle that is reached is an own handle.
use Rattle.std.proofs.Common.{List, [], refl, suc, zero, ℕ, ◌++◌, ◌+◌, ◌∷◌, ◌≡◌}
use Rattle.std.specs.Prelude.{Bool, false, if◌then◌else◌, nat_le, slice_index, true, ⊤}
use Rattle.canon_model.specs.Leaves.{Leaf, case_flat_leaves, case_reach_leaves, flat_leaves, list_at, list_leaves, members_flat_leaves, members_reach_leaves, reach_leaves, values_leaves}
use Rattle.canon_model.specs.Layout.{members_align, members_flat, size}
use Rattle.canon_model.specs.Memory.{Memory, ptr}
use Rattle.canon_model.specs.Reach.{is_good}
use Rattle.canon_model.specs.Shape.{Cases, Members, Shape, bare, borrow, fixed, flags, list, member, no_cases, no_members, of_places, own, payload, product, scalar, string, variant}
use Rattle.canon_types.specs.Depth.{case_borrows, has_borrow, member_borrows}
use Rattle.canon_passing.proofs.Shapes.{no_first, no_later}

abbrev pub AreOwned : List Leaf → Type 0
AreOwned [] = ⊤
AreOwned (x ∷ xs) = (x.owned ≡ true) × AreOwned xs

owned_then : (xs ys : List Leaf) → AreOwned xs → AreOwned ys → AreOwned (xs ++ ys)
owned_then [] ys h g = g
owned_then (x ∷ xs) ys h g = (h.0, owned_then xs ys h.1 g)

owned_at : (f : ℕ → List Leaf) → ((b : ℕ) → AreOwned (f b)) → (step a n : ℕ) → AreOwned (list_at f step a n)
owned_at f owned step a zero = tt
owned_at f owned step a (suc n) = owned_then (f a) (list_at f step (a + step) n) (owned a) (owned_at f owned step (a + step) n)

this_or_other : (c : Bool) (xs ys : List Leaf) → AreOwned xs → AreOwned ys → AreOwned (if c then xs else ys)
this_or_other true xs ys h g = h
this_or_other false xs ys h g = g

module _ (m : Memory) where
  list_owned : (f : ℕ → List Leaf) → ((b : ℕ) → AreOwned (f b)) → (s : Shape) (p n : ℕ) → AreOwned (list_leaves m f s p n)
  list_owned f owned s p n = this_or_other _ _ [] (owned_at f owned _ p n) tt

  mutual
    unfolding reach_leaves

    reach_owned : (s : Shape) (a : ℕ) → has_borrow s ≡ false → AreOwned (reach_leaves m s a)
    reach_owned (scalar k) a e = tt
    reach_owned string a e = tt
    reach_owned (own r) a e = (refl, tt)
    reach_owned (borrow r) a e = cc
    reach_owned (list k s) a e = list_owned (λ b. reach_leaves m s b) (λ b. reach_owned s b e) s _ _
    reach_owned (fixed n s) a e = owned_at (λ b. reach_leaves m s b) (λ b. reach_owned s b e) _ a n
    reach_owned (product k ms) a e = members_reach_owned ms 0 a e
    reach_owned (variant k cs) a e = case_reach_owned cs _ _ e
    reach_owned (flags names) a e = tt

    members_reach_owned : (ms : Members) (o a : ℕ) → member_borrows ms ≡ false → AreOwned (members_reach_leaves m ms o a)
    members_reach_owned no_members o a e = tt
    members_reach_owned (member name s ms) o a e = owned_then _ _ (reach_owned s _ (no_first (has_borrow s) (member_borrows ms) e)) (members_reach_owned ms _ a (no_later (has_borrow s) (member_borrows ms) e))

    case_reach_owned : (cs : Cases) (i a : ℕ) → case_borrows cs ≡ false → AreOwned (case_reach_leaves m cs i a)
    case_reach_owned no_cases i a e = tt
    case_reach_owned (bare name cs) zero a e = tt
    case_reach_owned (bare name cs) (suc i) a e = case_reach_owned cs i a e
    case_reach_owned (payload name s cs) zero a e = reach_owned s a (no_first (has_borrow s) (case_borrows cs) e)
    case_reach_owned (payload name s cs) (suc i) a e = case_reach_owned cs i a (no_later (has_borrow s) (case_borrows cs) e)

  module _ (ws : List ℕ) where
    mutual
      unfolding flat_leaves

      flat_owned : (s : Shape) (i : ℕ) → has_borrow s ≡ false → AreOwned (flat_leaves m ws s i)
      flat_owned (scalar k) i e = tt
      flat_owned string i e = tt
      flat_owned (own r) i e = (refl, tt)
      flat_owned (borrow r) i e = cc
      flat_owned (list k s) i e = list_owned (reach_leaves m s) (λ b. reach_owned s b e) s _ _
      flat_owned (fixed n s) i e = owned_at (λ j. flat_leaves m ws s j) (λ j. flat_owned s j e) _ i n
      flat_owned (product k ms) i e = members_flat_owned ms i e
      flat_owned (variant k cs) i e = case_flat_owned cs _ _ e
      flat_owned (flags names) i e = tt

      members_flat_owned : (ms : Members) (i : ℕ) → member_borrows ms ≡ false → AreOwned (members_flat_leaves m ws ms i)
      members_flat_owned no_members i e = tt
      members_flat_owned (member name s ms) i e = owned_then _ _ (flat_owned s i (no_first (has_borrow s) (member_borrows ms) e)) (members_flat_owned ms _ (no_later (has_borrow s) (member_borrows ms) e))

      case_flat_owned : (cs : Cases) (i j : ℕ) → case_borrows cs ≡ false → AreOwned (case_flat_leaves m ws cs i j)
      case_flat_owned no_cases i j e = tt
      case_flat_owned (bare name cs) zero j e = tt
      case_flat_owned (bare name cs) (suc i) j e = case_flat_owned cs i j e
      case_flat_owned (payload name s cs) zero j e = flat_owned s j (no_first (has_borrow s) (case_borrows cs) e)
      case_flat_owned (payload name s cs) (suc i) j e = case_flat_owned cs i j (no_later (has_borrow s) (case_borrows cs) e)

    pub values_owned : (most : ℕ) (ms : Members) → member_borrows ms ≡ false → AreOwned (values_leaves m ws most ms)
    values_owned most ms e =
        let p = ptr m (slice_index ws 0) in
        let good = is_good m p (size m.wide (product of_places ms)) (members_align m.wide ms) in
        this_or_other (nat_le (members_flat ms) most) (members_flat_leaves m ws ms 0) (if good then members_reach_leaves m ms 0 p else []) (members_flat_owned ms 0 e)
        (this_or_other good (members_reach_leaves m ms 0 p) [] (members_reach_owned ms 0 p e) tt)
