-- What one or two parts do.
use Rattle.std.proofs.Common.{Bool, Err, List, None, Ok, Option, Result, Some, [], ap, false, if◌then◌else◌, inl, inr, refl, subst, sym, true, ℕ, ◌∙◌, ◌≡◌, ◌∷◌}
use Rattle.canon_ledger.specs.declared.fault.ResourceFault.{ResourceFault}
use Rattle.canon_ledger.specs.declared.fault.ResourceFault.TheVariants as fault
use Rattle.canon_ledger.specs.Index.{GivenIndex}
use Rattle.canon_ledger.specs.Ledger.{Did, Done, LedgerState}
use Rattle.canon_resources.specs.Held.{Any, host_index}
use Rattle.canon_resources.specs.declared.any.ResourceAnyHandle.{ResourceAnyHandle}
use Rattle.canon_resources.specs.declared.any.ResourceAnyHandle.TheVariants as handle
use Rattle.canon_types.specs.Instance.{Instance}
use Rattle.canon_types.specs.Resource.{resource_type_at}
use Rattle.canon_types.specs.declared.resource.ResourceType.{ResourceType}
use Rattle.canon_resources.specs.Parts.{LeafMoves, Part, Stops, borrow_in, borrow_parts, do_part, is_of_type, lent_part, lower_parts, own_in, own_parts, passed, passed_parts, refusal_of, refuse, take_host}

-- one that no answer changes, and what it did
abbrev pub Does : Part → LedgerState → LedgerState → Result ℕ ResourceFault → Type 0
Does p l m r = (last : ℕ) → Did (do_part last p l) r l m

pub leaf_stopped : (last : ℕ) (p : Part) (ps : List Part) (l n : LedgerState) (e : ResourceFault) → Did (do_part last p l) (Err e) l n → Stops (refusal_of e) last l (p ∷ ps) n
leaf_stopped last p ps l n e (inl d) = inr (inl (e, refl, d.0, d.1))
leaf_stopped last p ps l n e (inr d) = inl (ap refusal_of d.0, d.1)

-- alone
pub moves_one : (l n : LedgerState) (p : Part) (r : Result ℕ ResourceFault) → Does p l n r → LeafMoves l n (p ∷ []) r
moves_one l n p (Ok a) d = record { answers = a ∷ []; takes = λ last. (a, [], refl, (d last).0, (refl, (d last).1)); handle = λ last. refl }
moves_one l n p (Err e) d = λ last. leaf_stopped last p [] l n e (d last)

-- the first was refused
pub moves_not : (l n : LedgerState) (p : Part) (ps : List Part) (e : ResourceFault) → Does p l n (Err e) → LeafMoves l n (p ∷ ps) (Err e)
moves_not l n p ps e d last = leaf_stopped last p ps l n e (d last)

-- the second on what the first answered
module _ (l m n : LedgerState) (p q : Part) (a : ℕ) (first : Does p l m (Ok a)) where
  after_first : (last : ℕ) → m ≡ (do_part last p l).after
  after_first last = (first last).1

  second_at : (last : ℕ) (r : Result ℕ ResourceFault) → Did (do_part a q m) r m n → Did (do_part a q (do_part last p l).after) r (do_part last p l).after n
  second_at last r d = subst (λ (k : LedgerState). Did (do_part a q k) r k n) (after_first last) d

  pub moves_both : (r : Result ℕ ResourceFault) → Did (do_part a q m) r m n → LeafMoves l n (p ∷ q ∷ []) r
  moves_both (Ok h) d = record {
    answers = a ∷ h ∷ [];
    takes = λ last. (a, h ∷ [], refl, (first last).0, (h, [], refl, (second_at last (Ok h) d).0, (refl, (second_at last (Ok h) d).1)));
    handle = λ last. refl;
  }
  moves_both (Err e) d = λ last. inr (inr (a, (first last).0, leaf_stopped a q [] _ n e (second_at last (Err e) d)))

-- ---- what is passed

-- a test of its type
pub is_given : (wanted : Option ResourceType) (b : Bool) (given ty : ResourceType) → given ≡ ty → b ≡ is_of_type wanted given → is_of_type wanted ty ≡ b
is_given wanted b given ty e f = ap (λ (t : ResourceType). is_of_type wanted t) (sym e) ∙ sym f

module _ (i : Instance) (owned : Bool) (ty : ℕ) (a : Any) (l n : LedgerState) (r : Result ℕ ResourceFault) where
  -- of the wanted type, it goes by its handle
  pub lowered_by : is_of_type (resource_type_at i ty) a.ty ≡ true → LeafMoves l n (passed_parts owned i ty a.handle) r → LeafMoves l n (lower_parts i (passed owned ty a)) r
  lowered_by e h = subst (λ (b : Bool). LeafMoves l n (if b then passed_parts owned i ty a.handle else refuse fault.ResourceTypeMismatch ∷ []) r) (sym e) h

  -- of another, it is refused
  pub lowered_not : is_of_type (resource_type_at i ty) a.ty ≡ false → n ≡ l → r ≡ Err fault.ResourceTypeMismatch → LeafMoves l n (lower_parts i (passed owned ty a)) r
  lowered_not e same is =
      let refused : LeafMoves l n (refuse fault.ResourceTypeMismatch ∷ []) (Err fault.ResourceTypeMismatch) = moves_one l n (refuse fault.ResourceTypeMismatch) (Err fault.ResourceTypeMismatch) (λ last. inl (refl, same)) in
      subst (λ (x : Result ℕ ResourceFault). LeafMoves l n (lower_parts i (passed owned ty a)) x) (sym is)
      (subst (λ (b : Bool). LeafMoves l n (if b then passed_parts owned i ty a.handle else refuse fault.ResourceTypeMismatch ∷ []) (Err fault.ResourceTypeMismatch)) (sym e) refused)

-- an own handle by the index of the host's table
pub own_parts_at : (p ty : ℕ) (h : ResourceAnyHandle) (x : GivenIndex) → host_index h ≡ Some x → own_parts p ty h ≡ take_host x ∷ own_in p ty ∷ []
own_parts_at p ty (handle.Own y) x e = let f : y ≡ x = cc in ap (λ (z : GivenIndex). take_host z ∷ own_in p ty ∷ []) f
own_parts_at p ty (handle.Borrow y) x e = let f : y ≡ x = cc in ap (λ (z : GivenIndex). take_host z ∷ own_in p ty ∷ []) f
own_parts_at p ty (handle.Synthetic rep) x e = cc

pub own_parts_none : (p ty : ℕ) (h : ResourceAnyHandle) → host_index h ≡ None → own_parts p ty h ≡ refuse fault.BorrowAsOwn ∷ []
own_parts_none p ty (handle.Own y) e = cc
own_parts_none p ty (handle.Borrow y) e = cc
own_parts_none p ty (handle.Synthetic rep) e = refl

-- a borrow that wasn't lent
pub borrow_not : (here : Bool) (p ty : ℕ) (h : ResourceAnyHandle) (l n : LedgerState) (e : ResourceFault) → Does (lent_part h) l n (Err e) → LeafMoves l n (borrow_parts here p ty h) (Err e)
borrow_not true p ty h l n e d = moves_not l n (lent_part h) [] e d
borrow_not false p ty h l n e d = moves_not l n (lent_part h) (borrow_in p ty ∷ []) e d
