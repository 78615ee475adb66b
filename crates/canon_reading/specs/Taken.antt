-- The handles of what is read are taken by their steps, since it is so of the parts.
use Rattle.std.proofs.Common.{◌≡◌, ◌++◌, ◌==◌, ◌∙◌, Err, List, None, Ok, Some, Bool, [], ◌∷◌, ap, eq-eqb, false, length, refl, subst, sym, true, ℕ}
use Rattle.std.proofs.lemmas.Bool.{and_from, cond-false, cond-true, le-leb}
use Rattle.canon_resources.proofs.Leaves.{leaves_then}
use Rattle.canon_resources.specs.Parts.{LeavesTake, Part}
use Rattle.canon_ledger.specs.Ledger.{LedgerState}
use Rattle.canon_model.specs.Shape.{Members, Shape, member, no_members}
use Rattle.canon_model.specs.Tree.{Tree}
use Rattle.canon_types.specs.Depth.{element_shape}
use Rattle.canon_reading.specs.Reading.{AreTaken, Reading, Setting}
use Rattle.canon_reading.specs.Readings.{CaseReads, EachReads, RestReading, boxed_reading, cases_steps, each_steps, first_reading, fixed_reading, list_reading}
use Rattle.canon_reading.specs.Readings.{none_reading, nothing_reading, option_reading, payload_reading, product_reading, read_as, result_reading, scalar_reading, tree_reading}
use Rattle.canon_reading.specs.Spots.{Rest, Spot, behind, first_spot, length_in, others, pointer_in, stored}

-- nothing is taken
pub none_taken : (before after : LedgerState) → after ≡ before → (hs : List ℕ) × LeavesTake before [] hs after
none_taken before after e = ([], (refl, e))

-- one after the other
taken_then : (before mid after : LedgerState) (ps qs : List (List Part)) → ((hs : List ℕ) × LeavesTake before ps hs mid) → ((hs : List ℕ) × LeavesTake mid qs hs after) → (hs : List ℕ) × LeavesTake before (ps ++ qs) hs after
taken_then before mid after ps qs (hs, h) (ks, k) = (hs ++ ks, leaves_then before mid after ps qs hs ks h k)

taken_by : (before after : LedgerState) (ps qs : List (List Part)) → ps ≡ qs → ((hs : List ℕ) × LeavesTake before qs hs after) → (hs : List ℕ) × LeavesTake before ps hs after
taken_by before after ps qs e h = subst (λ xs. (hs : List ℕ) × LeavesTake before xs hs after) (sym e) h

pub tree_taken : {A : Type 0} (Lifts : A → Tree → Type 0) (charge : Setting → Spot → ℕ) (allocates : Bool) → AreTaken (tree_reading Lifts charge allocates)
tree_taken Lifts charge allocates w at s before after v (t, rep, lifts, same) = none_taken before after same

pub scalar_taken : {A : Type 0} (Lifts : A → Tree → Type 0) → AreTaken (scalar_reading Lifts)
scalar_taken Lifts = tree_taken Lifts (λ w at. 0) false

pub as_taken : {A B : Type 0} (f : B → A) (R : Reading A) → AreTaken R → AreTaken (read_as f R)
as_taken f R law w at s before after v h = law w at s before after (f v) h

pub boxed_taken : {A B : Type 0} (f : B → A) (R : Reading A) → AreTaken R → AreTaken (boxed_reading f R)
boxed_taken f R law w at s before after v h = law w at s before after (f v) h

-- ---- cases

nothing_taken : {A : Type 0} → AreTaken (nothing_reading {A = A})
nothing_taken w at s before after v same = none_taken before after same

payload_taken : {A : Type 0} (unit : Bool) (R : Reading A) → AreTaken R → AreTaken (payload_reading unit R)
payload_taken true R law = nothing_taken
payload_taken false R law = law

module _ {A B : Type 0} (R : Reading A) (S : Reading B) (law : AreTaken R) (law2 : AreTaken S) (w : Setting) (at : Spot) (s : Shape) (before after : LedgerState) where
  first_taken : (x : A) → CaseReads 0 R w at s before x after → (hs : List ℕ) × LeavesTake before (cases_steps R S w at s) hs after
  first_taken x (room, is, h) = taken_by before after _ _ (cond-true _ _ _ (eq-eqb _ _ is)) (law w _ _ before after x h)

  second_taken : (x : B) → CaseReads 1 S w at s before x after → (hs : List ℕ) × LeavesTake before (cases_steps R S w at s) hs after
  second_taken x (room, is, h) = taken_by before after _ _
      (cond-false _ _ _ (ap (λ n. n == 0) is) ∙ cond-true _ _ _ (eq-eqb _ _ is)) (law2 w _ _ before after x h)

pub option_taken : {A : Type 0} (R : Reading A) → AreTaken R → AreTaken (option_reading R)
option_taken R law w at s before after None h = first_taken (nothing_reading {A = Unit {0}}) R nothing_taken law w at s before after tt h
option_taken R law w at s before after (Some x) h = second_taken (nothing_reading {A = Unit {0}}) R nothing_taken law w at s before after x h

pub result_taken : {A B : Type 0} (unit : Bool) (R : Reading A) (unit2 : Bool) (S : Reading B) → AreTaken R → AreTaken S → AreTaken (result_reading unit R unit2 S)
result_taken unit R unit2 S law law2 w at s before after (Ok x) h = first_taken (payload_reading unit R) (payload_reading unit2 S) (payload_taken unit R law) (payload_taken unit2 S law2) w at s before after x h
result_taken unit R unit2 S law law2 w at s before after (Err y) h = second_taken (payload_reading unit R) (payload_reading unit2 S) (payload_taken unit R law) (payload_taken unit2 S law2) w at s before after y h

-- ---- values in a row

pub each_taken : {A : Type 0} (R : Reading A) → AreTaken R → (w : Setting) (s : Shape) (at : Spot) (before after : LedgerState) (xs : List A) → EachReads R w s at before xs after
    → (hs : List ℕ) × LeavesTake before (each_steps R w s at (length xs)) hs after
each_taken R law w s at before after [] same = none_taken before after same
each_taken R law w s at before after (x ∷ xs) (mid, first, rest) =
    taken_then before mid after _ _ (law w at s before mid x first) (each_taken R law w s (behind w.memory s at) mid after xs rest)

-- as many as there are
pub each_counted : {A : Type 0} (R : Reading A) → AreTaken R → (w : Setting) (s : Shape) (at : Spot) (n : ℕ) (before after : LedgerState) (xs : List A) → length xs ≡ n → EachReads R w s at before xs after
    → (hs : List ℕ) × LeavesTake before (each_steps R w s at n) hs after
each_counted R law w s at n before after xs count h = taken_by before after _ _ (ap (λ k. each_steps R w s at k) (sym count)) (each_taken R law w s at before after xs h)

pub list_taken : {A : Type 0} (bytes : ℕ) (R : Reading A) → AreTaken R → AreTaken (list_reading bytes R)
list_taken bytes R law w at s before after xs (room, (aligned, inside), count, each) =
    taken_by before after _ _ (cond-true _ _ _ (and_from _ _ (le-leb _ _ inside) (eq-eqb _ _ aligned)))
    (each_counted R law w (element_shape s) (stored (pointer_in w.memory at)) (length_in w.memory at) before after xs count each)

pub fixed_taken : {A : Type 0} (n : ℕ) (R : Reading A) → AreTaken R → AreTaken (fixed_reading n R)
fixed_taken n R law w at s before after xs (room, count, each) = each_counted R law w _ at n before after xs count each

-- ---- tuples

abbrev pub RestTaken : {A : Type 0} → RestReading A → Type 0
RestTaken {A} S = (w : Setting) (at : Rest) (ms : Members) (before after : LedgerState) (v : A) → S.reads w at ms before v after → (hs : List ℕ) × LeavesTake before (S.steps w at ms) hs after

pub end_taken : {A : Type 0} → RestTaken (none_reading {A = A})
end_taken w at no_members before after v same = none_taken before after same
end_taken w at (member name s ms) before after v h = absurd h

pub more_taken : {A B C : Type 0} (f : C → A) (g : C → B) (R : Reading A) (S : RestReading B) → AreTaken R → RestTaken S → RestTaken (first_reading f g R S)
more_taken f g R S law more w at no_members before after v h = absurd h
more_taken f g R S law more w at (member name s ms) before after v (mid, first, rest) =
    taken_then before mid after _ _ (law w (first_spot w.memory s at) s before mid (f v) first) (more w (others w.memory s at) ms mid after (g v) rest)

pub product_taken : {A B : Type 0} (f : B → A) (S : RestReading A) → RestTaken S → AreTaken (product_reading f S)
product_taken f S law w at s before after v (room, h) = law w _ _ before after (f v) h
