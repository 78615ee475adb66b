-- Handles that cross as steps of the ledger.
use Rattle.std.proofs.Common.{Err, List, None, Ok, Option, Result, Some, [], ap, inl, inr, refl, subst, sym, ℕ, ◌++◌, ◌∙◌, ◌≡◌, ◌⊎◌, ◌∷◌}
use Rattle.canon_ledger.specs.declared.fault.ResourceFault.{ResourceFault}
use Rattle.canon_ledger.specs.Ledger.{Done, LedgerState, LedgerStep, Partway, Through, do_step}
use Rattle.canon_ledger.proofs.LedgerLemmas.{compose, compose_parts}
use Rattle.canon_resources.specs.Laws.{LeavesAreSteps, StopsArePartway}
use Rattle.canon_resources.specs.Parts.{LeafTakes, LeavesStop, LeavesTake, Part, Stops, TakesParts, borrow_in, do_part, host_borrow, host_own, lend, lend_host, lend_inserted, own_in, refuse, take, take_host, tell}
use Rattle.canon_resources.specs.Steps.{after_parts, if_told, leaves_steps, step_of, steps_of}

-- ---- one part

-- it is a step, or leaves the ledger
abbrev IsStep : ℕ → Part → LedgerState → Type 0
IsStep last p l = ((s : LedgerStep) × (step_of last p l ≡ s ∷ []) × (do_part last p l ≡ do_step s l)) ⊎ ((step_of last p l ≡ []) × ((do_part last p l).after ≡ l))

is_step : (last : ℕ) (p : Part) (l : LedgerState) → IsStep last p l
is_step last (take_host x) l = inl (_, refl, refl)
is_step last (lend_host x) l = inl (_, refl, refl)
is_step last lend_inserted l = inl (_, refl, refl)
is_step last (take p ty i) l = inl (_, refl, refl)
is_step last (lend p ty i) l = inl (_, refl, refl)
is_step last (own_in p ty) l = inl (_, refl, refl)
is_step last (borrow_in p ty) l = inl (_, refl, refl)
is_step last (host_own dtor instance) l = inl (_, refl, refl)
is_step last host_borrow l = inl (_, refl, refl)
is_step last (refuse e) l = inr (refl, refl)
is_step last (tell n) l = inr (refl, refl)

pub partway_none : (l n : LedgerState) (steps : List LedgerStep) → n ≡ l → Partway l steps n
partway_none l n [] e = e
partway_none l n (s ∷ steps) e = inl e

module _ (last : ℕ) (p : Part) (l n : LedgerState) (rest : List LedgerStep) where
  accepted : (a : ℕ) → IsStep last p l → (do_part last p l).answer ≡ Ok a → Through (do_part last p l).after rest n → Through l (step_of last p l ++ rest) n
  accepted a (inl (s, is, same)) ok t =
      let step : Through l (s ∷ rest) n = (a, subst (λ (d : Done ℕ). d.answer ≡ Ok a) same ok, subst (λ (d : Done ℕ). Through d.after rest n) same t) in
      subst (λ (xs : List LedgerStep). Through l (xs ++ rest) n) (sym is) step
  accepted a (inr (is, same)) ok t = subst (λ (xs : List LedgerStep). Through l (xs ++ rest) n) (sym is) (subst (λ (k : LedgerState). Through k rest n) same t)

  accepted_part : (a : ℕ) → IsStep last p l → (do_part last p l).answer ≡ Ok a → Partway (do_part last p l).after rest n → Partway l (step_of last p l ++ rest) n
  accepted_part a (inl (s, is, same)) ok t =
      let step : Partway l (s ∷ rest) n = inr (inr (a, subst (λ (d : Done ℕ). d.answer ≡ Ok a) same ok, subst (λ (d : Done ℕ). Partway d.after rest n) same t)) in
      subst (λ (xs : List LedgerStep). Partway l (xs ++ rest) n) (sym is) step
  accepted_part a (inr (is, same)) ok t = subst (λ (xs : List LedgerStep). Partway l (xs ++ rest) n) (sym is) (subst (λ (k : LedgerState). Partway k rest n) same t)

  refused_part : (e : ResourceFault) → IsStep last p l → (do_part last p l).answer ≡ Err e → n ≡ (do_part last p l).after → Partway l (step_of last p l ++ rest) n
  refused_part e (inl (s, is, same)) err left =
      let step : Partway l (s ∷ rest) n = inr (inl (e, subst (λ (d : Done ℕ). d.answer ≡ Err e) same err, subst (λ (d : Done ℕ). n ≡ d.after) same left)) in
      subst (λ (xs : List LedgerStep). Partway l (xs ++ rest) n) (sym is) step
  refused_part e (inr (is, same)) err left = subst (λ (xs : List LedgerStep). Partway l (xs ++ rest) n) (sym is) (partway_none l n rest (left ∙ same))

-- ---- parts

told : {A : Type 0} (r : Result ℕ ResourceFault) (a : ℕ) (f : ℕ → A) (x : A) → r ≡ Ok a → if_told r f x ≡ f a
told r a f x e = ap (λ (y : Result ℕ ResourceFault). if_told y f x) e

steps_told : (last a : ℕ) (l : LedgerState) (p : Part) (ps : List Part) → (do_part last p l).answer ≡ Ok a → steps_of last l (p ∷ ps) ≡ step_of last p l ++ steps_of a (do_part last p l).after ps
steps_told last a l p ps ok = ap (λ (xs : List LedgerStep). step_of last p l ++ xs) (told _ a (λ (b : ℕ). steps_of b (do_part last p l).after ps) [] ok)

-- what was taken is one run through the ledger's steps
pub takes_through : (last : ℕ) (l n : LedgerState) (ps : List Part) (answers : List ℕ) → TakesParts last l ps answers n → Through l (steps_of last l ps) n
takes_through last l n [] answers h = h.1
takes_through last l n (p ∷ ps) answers (a, rest, is, ok, more) =
    subst (λ (xs : List LedgerStep). Through l xs n) (sym (steps_told last a l p ps ok)) (accepted last p l n _ a (is_step last p l) ok (takes_through a _ n ps rest more))

pub takes_after : (last : ℕ) (l n : LedgerState) (ps : List Part) (answers : List ℕ) → TakesParts last l ps answers n → n ≡ after_parts last l ps
takes_after last l n [] answers h = h.1
takes_after last l n (p ∷ ps) answers (a, rest, is, ok, more) =
    takes_after a _ n ps rest more ∙ sym (told _ a (λ (b : ℕ). after_parts b (do_part last p l).after ps) (do_part last p l).after ok)

pub stops_partway : (why : Option ResourceFault) (last : ℕ) (l n : LedgerState) (ps : List Part) → Stops why last l ps n → Partway l (steps_of last l ps) n
stops_partway None last l n [] h = h
stops_partway (Some e) last l n [] h = absurd h
stops_partway why last l n (p ∷ ps) (inl (none, e)) = partway_none l n _ e
stops_partway why last l n (p ∷ ps) (inr (inl (e, is, err, left))) = refused_part last p l n _ e (is_step last p l) err left
stops_partway why last l n (p ∷ ps) (inr (inr (a, ok, more))) =
    subst (λ (xs : List LedgerStep). Partway l xs n) (sym (steps_told last a l p ps ok)) (accepted_part last p l n _ a (is_step last p l) ok (stops_partway why a _ n ps more))

-- ---- handles

leaf_through : (l n : LedgerState) (leaf : List Part) (h : ℕ) → LeafTakes l leaf h n → Through l (steps_of 0 l leaf) n
leaf_through l n leaf h a = takes_through 0 l n leaf a.answers (a.takes 0)

leaf_after : (l n : LedgerState) (leaf : List Part) (h : ℕ) → LeafTakes l leaf h n → n ≡ after_parts 0 l leaf
leaf_after l n leaf h a = takes_after 0 l n leaf a.answers (a.takes 0)

pub leaves_through : LeavesAreSteps
leaves_through l n [] hs h = h.1
leaves_through l n (x ∷ xs) hs (h, rest, mid, is, leaf, more) =
    let e : mid ≡ after_parts 0 l x = leaf_after l mid x h leaf in
    compose l mid n _ _ (leaf_through l mid x h leaf) (subst (λ (k : LedgerState). Through mid (leaves_steps k xs) n) e (leaves_through mid n xs rest more))

pub partway_first : (l n : LedgerState) (steps more : List LedgerStep) → Partway l steps n → Partway l (steps ++ more) n
partway_first l n [] more h = partway_none l n more h
partway_first l n (s ∷ steps) more (inl e) = inl e
partway_first l n (s ∷ steps) more (inr (inl refused)) = inr (inl refused)
partway_first l n (s ∷ steps) more (inr (inr (a, ok, rest))) = inr (inr (a, ok, partway_first (do_step s l).after n steps more rest))

pub leaves_partway : StopsArePartway
leaves_partway None l n [] h = h
leaves_partway (Some e) l n [] h = absurd h
leaves_partway why l n (x ∷ xs) (inl stops) = partway_first l n _ _ (stops_partway why 0 l n x (stops 0))
leaves_partway why l n (x ∷ xs) (inr (h, mid, leaf, more)) =
    let e : mid ≡ after_parts 0 l x = leaf_after l mid x h leaf in
    compose_parts l mid n _ _ (leaf_through l mid x h leaf) (subst (λ (k : LedgerState). Partway mid (leaves_steps k xs) n) e (leaves_partway why mid n xs more))
