-- Handles, one after another.
use Rattle.std.proofs.Common.{Err, List, None, Ok, Option, Result, Some, [], ap, inl, inr, refl, subst, sym, ℕ, ◌++◌, ◌∙◌, ◌≡◌, ◌∷◌}
use Rattle.canon_ledger.specs.declared.fault.ResourceFault.{ResourceFault}
use Rattle.canon_ledger.specs.Ledger.{LedgerState}
use Rattle.canon_resources.specs.Laws.{LeavesAreDetermined, LeavesCompose, StopsCompose, StopsExclude, StopsStay}
use Rattle.canon_resources.specs.Parts.{LeafTakes, LeavesStop, LeavesTake, Part, Stops, TakesParts, do_part, last_of}

-- ---- parts

pub takes_then : (last : ℕ) (l m n : LedgerState) (ps qs : List Part) (xs ys : List ℕ) → TakesParts last l ps xs m → ((k : ℕ) → TakesParts k m qs ys n) → TakesParts last l (ps ++ qs) (xs ++ ys) n
takes_then last l m n [] qs xs ys h k = subst (λ zs. TakesParts last l qs (zs ++ ys) n) (sym h.0) (subst (λ x. TakesParts last x qs ys n) h.1 (k last))
takes_then last l m n (p ∷ ps) qs xs ys (a, rest, is, ok, more) k = (a, rest ++ ys, ap (λ zs. zs ++ ys) is, ok, takes_then a _ m n ps qs rest ys more k)

pub stops_then : (why : Option ResourceFault) (last : ℕ) (l m n : LedgerState) (ps qs : List Part) (xs : List ℕ) → TakesParts last l ps xs m → ((k : ℕ) → Stops why k m qs n) → Stops why last l (ps ++ qs) n
stops_then why last l m n [] qs xs h k = subst (λ x. Stops why last x qs n) h.1 (k last)
stops_then None last l m n (p ∷ ps) qs xs (a, rest, is, ok, more) k = inr (inr (a, ok, stops_then None a _ m n ps qs rest more k))
stops_then (Some e) last l m n (p ∷ ps) qs xs (a, rest, is, ok, more) k = inr (inr (a, ok, stops_then (Some e) a _ m n ps qs rest more k))

same_ok : (r : Result ℕ ResourceFault) (a b : ℕ) → r ≡ Ok a → r ≡ Ok b → a ≡ b
same_ok r a b e f = cc

takes_along : (last k : ℕ) (l n : LedgerState) (ps : List Part) (ys : List ℕ) → last ≡ k → TakesParts k l ps ys n → TakesParts last l ps ys n
takes_along last k l n ps ys e h = subst (λ x. TakesParts x l ps ys n) (sym e) h

-- what is answered and left is one
pub takes_same : (last : ℕ) (l m n : LedgerState) (ps : List Part) (xs ys : List ℕ) → TakesParts last l ps xs m → TakesParts last l ps ys n → (xs ≡ ys) × (m ≡ n)
takes_same last l m n [] xs ys h k = (h.0 ∙ sym k.0, h.1 ∙ sym k.1)
takes_same last l m n (p ∷ ps) xs ys (a, as2, is, ok, more) (b, bs, is2, ok2, more2) =
    let e : a ≡ b = same_ok _ a b ok ok2 in
    let (f, g) = takes_same a _ m n ps as2 bs more (takes_along a b _ n ps bs e more2) in
    (is ∙ ap (λ x. x ∷ as2) e ∙ ap (λ zs. b ∷ zs) f ∙ sym is2, g)

-- what is accepted isn't refused
ok_refused : (r : Result ℕ ResourceFault) (a : ℕ) (e : ResourceFault) → r ≡ Ok a → r ≡ Err e → ⊥
ok_refused r a e h g = cc

some_none : (e : ResourceFault) → Some e ≡ None → ⊥
some_none e h = cc

stops_excluded : (e : ResourceFault) (last : ℕ) (l n m : LedgerState) (ps : List Part) (xs : List ℕ) → Stops (Some e) last l ps n → TakesParts last l ps xs m → ⊥
stops_excluded e last l n m [] xs h takes = h
stops_excluded e last l n m (p ∷ ps) xs (inl h) takes = some_none e h.0
stops_excluded e last l n m (p ∷ ps) xs (inr (inl (d, why, is, left))) (a, rest, are, ok, more) = ok_refused (do_part last p l).answer a d ok is
stops_excluded e last l n m (p ∷ ps) xs (inr (inr (b, is, stops))) (a, rest, are, ok, more) =
    stops_excluded e a (do_part last p l).after n m ps rest (subst (λ k. Stops (Some e) k (do_part last p l).after ps n) (same_ok (do_part last p l).answer b a is ok) stops) more

-- ---- handles

pub leaves_then : LeavesCompose
leaves_then l m n [] ys hs ks h k = subst (λ zs. LeavesTake l ys (zs ++ ks) n) (sym h.0) (subst (λ x. LeavesTake x ys ks n) h.1 k)
leaves_then l m n (x ∷ xs) ys hs ks (h, rest, mid, is, leaf, more) k = (h, rest ++ ks, mid, ap (λ zs. zs ++ ks) is, leaf, leaves_then mid m n xs ys rest ks more k)

pub leaves_stop_then : StopsCompose
leaves_stop_then why l m n [] ys hs h k = subst (λ x. LeavesStop why x ys n) h.1 k
leaves_stop_then why l m n (x ∷ xs) ys hs (h, rest, mid, is, leaf, more) k = inr (h, mid, leaf, leaves_stop_then why mid m n xs ys rest more k)

-- nothing was done yet
pub stops_at_once : (l n : LedgerState) (ys : List (List Part)) → n ≡ l → LeavesStop None l ys n
stops_at_once l n [] e = e
stops_at_once l n ([] ∷ ys) e = inl (λ last. e)
stops_at_once l n ((p ∷ ps) ∷ ys) e = inl (λ last. inl (refl, e))

pub leaves_stop_first : StopsStay
leaves_stop_first None l n [] ys h = stops_at_once l n ys h
leaves_stop_first (Some e) l n [] ys h = absurd h
leaves_stop_first why l n (x ∷ xs) ys (inl h) = inl h
leaves_stop_first why l n (x ∷ xs) ys (inr (h, mid, leaf, more)) = inr (h, mid, leaf, leaves_stop_first why mid n xs ys more)

pub leaves_one : (l n : LedgerState) (leaf : List Part) (h : ℕ) → LeafTakes l leaf h n → LeavesTake l (leaf ∷ []) (h ∷ []) n
leaves_one l n leaf h takes = (h, [], n, refl, takes, (refl, refl))

pub leaves_stop_one : (why : Option ResourceFault) (l n : LedgerState) (leaf : List Part) → ((last : ℕ) → Stops why last l leaf n) → LeavesStop why l (leaf ∷ []) n
leaves_stop_one why l n leaf stops = inl stops

pub leaf_same : (l m n : LedgerState) (leaf : List Part) (h k : ℕ) → LeafTakes l leaf h m → LeafTakes l leaf k n → (h ≡ k) × (m ≡ n)
leaf_same l m n leaf h k a b =
    let (e, f) = takes_same 0 l m n leaf a.answers b.answers (a.takes 0) (b.takes 0) in
    (sym (a.handle 0) ∙ ap (λ xs. last_of 0 xs) e ∙ b.handle 0, f)

pub leaves_same : LeavesAreDetermined
leaves_same l m n [] hs ks h k = (h.0 ∙ sym k.0, h.1 ∙ sym k.1)
leaves_same l m n (x ∷ xs) hs ks (h, rest, mid, is, leaf, more) (k, rest2, mid2, is2, leaf2, more2) =
    let (e, f) = leaf_same l mid mid2 x h k leaf leaf2 in
    let (g, j) = leaves_same mid m n xs rest rest2 more (subst (λ (y : LedgerState). LeavesTake y xs rest2 n) (sym f) more2) in
    (is ∙ ap (λ y. y ∷ rest) e ∙ ap (λ zs. k ∷ zs) g ∙ sym is2, j)

-- what is refused does not cross
pub leaves_excluded : StopsExclude
leaves_excluded e l n m [] hs h takes = h
leaves_excluded e l n m (leaf ∷ leaves) hs (inl stops) (h, rest, mid, are, takes, more) = stops_excluded e 0 l n mid leaf takes.answers (stops 0) (takes.takes 0)
leaves_excluded e l n m (leaf ∷ leaves) hs (inr (k, there, took, stops)) (h, rest, mid, are, takes, more) =
    leaves_excluded e mid n m leaves rest (subst (λ q. LeavesStop (Some e) q leaves n) (leaf_same l there mid leaf k h took takes).1 stops) more
