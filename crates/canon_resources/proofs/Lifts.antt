-- Handles that are lifted, one after another.
use Rattle.std.proofs.Common.{List, Ok, [], ap, map, refl, subst, sym, ℕ, ◌++◌, ◌≡◌, ◌∷◌}
use Rattle.canon_ledger.specs.Ledger.{LedgerState}
use Rattle.canon_model.specs.Leaves.{Leaf}
use Rattle.canon_resources.specs.Held.{Any}
use Rattle.canon_types.specs.Instance.{Instance}
use Rattle.canon_resources.specs.Laws.{LiftsAreTakes}
use Rattle.canon_resources.specs.Parts.{LeafLifts, LeavesLift, LeavesTake, lift_parts, lifted_any}

pub lifts_then : (i : Instance) (l m n : LedgerState) (xs ys : List Leaf) (as2 bs : List Any) → LeavesLift i l xs as2 m → LeavesLift i m ys bs n → LeavesLift i l (xs ++ ys) (as2 ++ bs) n
lifts_then i l m n [] ys as2 bs h k = subst (λ zs. LeavesLift i l ys (zs ++ bs) n) (sym h.0) (subst (λ x. LeavesLift i x ys bs n) h.1 k)
lifts_then i l m n (x ∷ xs) ys as2 bs (h, rest, mid, is, leaf, more) k = (h, rest ++ bs, mid, ap (λ zs. zs ++ bs) is, leaf, lifts_then i mid m n xs ys rest bs more k)

pub lifts_none : (i : Instance) (l : LedgerState) → LeavesLift i l [] [] l
lifts_none i l = (refl, refl)

pub lifts_one : (i : Instance) (l n : LedgerState) (leaf : Leaf) (x : Any) → LeafLifts i l n leaf (Ok x) → LeavesLift i l (leaf ∷ []) (x ∷ []) n
lifts_one i l n leaf x (h, is, takes) = (h, [], n, ap (λ y. y ∷ []) is, takes, (refl, refl))

pub lifts_take : LiftsAreTakes
lifts_take i l n [] xs h = ([], (refl, h.1))
lifts_take i l n (leaf ∷ leaves) xs (h, rest, mid, is, takes, more) =
    let (hs, crossed) = lifts_take i mid n leaves rest more in
    (h ∷ hs, (h, hs, mid, refl, takes, crossed))
