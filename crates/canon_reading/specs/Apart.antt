-- What is read at a spot has no fault there, since it is so of the parts.
use Rattle.std.proofs.Common.{◌≡◌, ◌≤◌, ◌<◌, ◌+◌, ◌*◌, ◌∙◌, Bool, Err, List, None, Ok, Some, [], ◌∷◌, ap, false, inl, inr, length, subst, suc, suc-mul, sym, true, zero, zero-mul, add-zero, add_assoc, add_comm, ℕ}
use Rattle.std.proofs.Math.Nat.{le_of_suc-le-suc, not-suc-le-zero, suc-ne-zero}
use Rattle.canon_ledger.specs.Ledger.{LedgerState}
use Rattle.canon_model.proofs.Faults.{fault_excludes}
use Rattle.canon_model.specs.Layout.{flat, size}
use Rattle.canon_model.specs.Memory.{Memory}
use Rattle.canon_model.specs.Reach.{At, IsGood, Kind, PointerFault}
use Rattle.canon_model.specs.Shape.{Members, Shape, member, no_members}
use Rattle.canon_model.specs.Tree.{Tree}
use Rattle.canon_types.specs.Depth.{element_shape, product_members}
use Rattle.canon_reading.specs.MapsOfTrees.{map_reading, pair_reading}
use Rattle.canon_reading.specs.Reading.{Reading, Setting}
use Rattle.canon_reading.specs.Readings.{EachReads, RestReading, boxed_reading, first_reading, fixed_reading, item_spot, list_reading, none_reading, nothing_reading}
use Rattle.canon_reading.specs.Readings.{option_reading, payload_reading, product_reading, read_as, result_reading, tree_reading, CaseReads, CasesFault, EachFault, TreeReads, fixed_element}
use Rattle.canon_reading.specs.Spots.{Faulty, Represents, behind, Rest, Spot, flat_in, pointer_in, stored, length_in, first_spot, others, spot_members}

abbrev pub AreApart : {A : Type 0} → Reading A → Type 0
AreApart {A} R = (w : Setting) (at : Spot) (s : Shape) (before after : LedgerState) (v : A) (k : Kind) (x : At) → R.reads w at s before v after → R.faults w at s k x → ⊥

-- What is read has no fault.
pub record IsApart {A : Type 0} (R : Reading A) : Type 0 where
  pub apart : AreApart R

-- ---- what is represented, and pointers

represented_apart : (w : Setting) (at : Spot) (s : Shape) (t : Tree) (k : Kind) (x : At) → Represents w.memory w.encoding at s t → Faulty w.memory w.encoding at s k x → ⊥
represented_apart w (stored a) s t k x h f = fault_excludes.memory false w.encoding w.memory a s t k x f h
represented_apart w (flat_in ws i) s t k x h f = fault_excludes.flat false w.encoding w.memory ws i s t k x f h

tree_by : {A : Type 0} (Lifts : A → Tree → Type 0) (w : Setting) (at : Spot) (s : Shape) (before after : LedgerState) (v : A) (k : Kind) (x : At)
    → TreeReads Lifts w at s before v after → Faulty w.memory w.encoding at s k x → ⊥
tree_by Lifts w at s before after v k x (t, rep, lifts, same) f = represented_apart w at s t k x rep f

pub tree_apart : {A : Type 0} {Lifts : A → Tree → Type 0} {charge : Setting → Spot → ℕ} {allocates : Bool} → IsApart (tree_reading Lifts charge allocates)
tree_apart {A} {Lifts} = record { apart = tree_by Lifts }

pub as_apart : {A B : Type 0} (f : B → A) {R : Reading A} → IsApart R → IsApart (read_as f R)
as_apart f law = record { apart = λ w at s before after v. law.apart w at s before after (f v) }

pub boxed_apart : {A B : Type 0} (f : B → A) {R : Reading A} → IsApart R → IsApart (boxed_reading f R)
boxed_apart f law = record { apart = λ w at s before after v. law.apart w at s before after (f v) }

pub pointer_apart : (m : Memory) (at : At) (p n a : ℕ) (k : Kind) (x : At) → IsGood m p n a → PointerFault m at p n a k x → ⊥
pointer_apart m at p n a k x good (inl f) = f.1 good.0
pointer_apart m at p n a k x good (inr f) = f.1 good.1

-- ---- cases

payload_by : {A : Type 0} (unit : Bool) (R : Reading A) → IsApart R → AreApart (payload_reading unit R)
payload_by true R law w at s before after v k x h f = f
payload_by false R law w at s before after v k x h f = law.apart w at s before after v k x h f

-- a number isn't two, and 0 and 1 aren't above 1
not_both : (n : ℕ) → n ≡ 0 → n ≡ 1 → ⊥
not_both n is are = suc-ne-zero 0 (sym are ∙ is)

not_many : (n : ℕ) → n ≡ 0 → 2 ≤ n → ⊥
not_many n is many = not-suc-le-zero (subst (λ k. 2 ≤ k) is many)

not_more : (n : ℕ) → n ≡ 1 → 2 ≤ n → ⊥
not_more n is many = not-suc-le-zero (le_of_suc-le-suc (subst (λ k. 2 ≤ k) is many))

module _ {A B : Type 0} (R : Reading A) (S : Reading B) (w : Setting) (at : Spot) (s : Shape) (before after : LedgerState) (k : Kind) (x : At) where
  first_by : AreApart R → (v : A) → CaseReads 0 R w at s before v after → CasesFault R S w at s k x → ⊥
  first_by law v (room, is, h) (inl (f, many)) = not_many _ is many
  first_by law v (room, is, h) (inr (inl (also, f))) = law w _ _ before after v k x h f
  first_by law v (room, is, h) (inr (inr (also, f))) = not_both _ is also

  second_by : AreApart S → (v : B) → CaseReads 1 S w at s before v after → CasesFault R S w at s k x → ⊥
  second_by law v (room, is, h) (inl (f, many)) = not_more _ is many
  second_by law v (room, is, h) (inr (inl (also, f))) = not_both _ also is
  second_by law v (room, is, h) (inr (inr (also, f))) = law w _ _ before after v k x h f

option_by : {A : Type 0} (R : Reading A) → IsApart R → AreApart (option_reading R)
option_by R law w at s before after None k x h f = first_by (nothing_reading {A = Unit {0}}) R w at s before after k x (λ w at s before after v k x h f. f) tt h f
option_by R law w at s before after (Some v) k x h f = second_by (nothing_reading {A = Unit {0}}) R w at s before after k x law.apart v h f

pub option_apart : {A : Type 0} {R : Reading A} → IsApart R → IsApart (option_reading R)
option_apart {A} {R} law = record { apart = option_by R law }

result_by : {A B : Type 0} (unit unit2 : Bool) (R : Reading A) (S : Reading B) → IsApart R → IsApart S → AreApart (result_reading unit R unit2 S)
result_by unit unit2 R S law law2 w at s before after (Ok v) k x h f = first_by (payload_reading unit R) (payload_reading unit2 S) w at s before after k x (payload_by unit R law) v h f
result_by unit unit2 R S law law2 w at s before after (Err v) k x h f = second_by (payload_reading unit R) (payload_reading unit2 S) w at s before after k x (payload_by unit2 S law2) v h f

pub result_apart : {A B : Type 0} (unit unit2 : Bool) {R : Reading A} {S : Reading B} → IsApart R → IsApart S → IsApart (result_reading unit R unit2 S)
result_apart unit unit2 {R} {S} law law2 = record { apart = result_by unit unit2 R S law law2 }

-- ---- values in a row

item_zero : (m : Memory) (s : Shape) (at : Spot) → item_spot m s at 0 ≡ at
item_zero m s (stored a) = ap stored (ap (λ k. a + k) (zero-mul (size m.wide s)) ∙ add-zero a)
item_zero m s (flat_in ws i) = ap (λ j. flat_in ws j) (ap (λ k. i + k) (zero-mul (flat s)) ∙ add-zero i)

one_on : (a i n : ℕ) → (a + n) + i * n ≡ a + suc i * n
one_on a i n = add_assoc a n (i * n) ∙ ap (λ k. a + k) (add_comm n (i * n) ∙ sym (suc-mul i n))

item_next : (m : Memory) (s : Shape) (at : Spot) (i : ℕ) → item_spot m s (behind m s at) i ≡ item_spot m s at (suc i)
item_next m s (stored a) i = ap stored (one_on a i (size m.wide s))
item_next m s (flat_in ws j) i = ap (λ l. flat_in ws l) (one_on j i (flat s))

each_by : {A : Type 0} (R : Reading A) → IsApart R → (w : Setting) (s : Shape) (at : Spot) (before after : LedgerState) (xs : List A) (i : ℕ) (k : Kind) (x : At)
    → EachReads R w s at before xs after → i < length xs → R.faults w (item_spot w.memory s at i) s k x → ⊥
each_by R law w s at before after [] i k x same few f = not-suc-le-zero few
each_by R law w s at before after (v ∷ vs) zero k x (mid, first, rest) few f = law.apart w at s before mid v k x first (subst (λ p. R.faults w p s k x) (item_zero w.memory s at) f)
each_by R law w s at before after (v ∷ vs) (suc i) k x (mid, first, rest) few f =
    each_by R law w s (behind w.memory s at) mid after vs i k x rest (le_of_suc-le-suc few) (subst (λ p. R.faults w p s k x) (sym (item_next w.memory s at i)) f)

counted_by : {A : Type 0} (R : Reading A) → IsApart R → (w : Setting) (s : Shape) (at : Spot) (n : ℕ) (before after : LedgerState) (xs : List A) (k : Kind) (x : At)
    → length xs ≡ n → EachReads R w s at before xs after → EachFault R w s at n k x → ⊥
counted_by R law w s at n before after xs k x count each (i, few, f) = each_by R law w s at before after xs i k x each (subst (λ j. i < j) (sym count) few) f

list_by : {A : Type 0} (bytes : ℕ) (R : Reading A) → IsApart R → AreApart (list_reading bytes R)
list_by bytes R law w at s before after xs k x (room, good, count, each) (inl f) = pointer_apart w.memory _ _ _ _ k x good f
list_by bytes R law w at s before after xs k x (room, good, count, each) (inr (also, f)) =
    counted_by R law w (element_shape s) (stored (pointer_in w.memory at)) (length_in w.memory at) before after xs k x count each f

pub list_apart : {A : Type 0} (bytes : ℕ) {R : Reading A} → IsApart R → IsApart (list_reading bytes R)
list_apart bytes {R} law = record { apart = list_by bytes R law }

fixed_by : {A : Type 0} (n : ℕ) (R : Reading A) → IsApart R → AreApart (fixed_reading n R)
fixed_by n R law w at s before after xs k x (room, count, each) f = counted_by R law w (fixed_element s) at n before after xs k x count each f

pub fixed_apart : {A : Type 0} (n : ℕ) {R : Reading A} → IsApart R → IsApart (fixed_reading n R)
fixed_apart n {R} law = record { apart = fixed_by n R law }

-- ---- tuples

abbrev RestsApart : {A : Type 0} → RestReading A → Type 0
RestsApart {A} S = (w : Setting) (at : Rest) (ms : Members) (before after : LedgerState) (v : A) (k : Kind) (x : At) → S.reads w at ms before v after → S.faults w at ms k x → ⊥

pub record RestIsApart {A : Type 0} (S : RestReading A) : Type 0 where
  pub apart : RestsApart S

pub end_apart : {A : Type 0} → RestIsApart (none_reading {A = A})
end_apart = record { apart = λ w at ms before after v k x h f. f }

more_by : {A B C : Type 0} (first : C → A) (others_of : C → B) (R : Reading A) (S : RestReading B) → IsApart R → RestIsApart S → RestsApart (first_reading first others_of R S)
more_by first others_of R S law more w at no_members before after v k x h f = h
more_by first others_of R S law more w at (member name s ms) before after v k x (mid, h, hs) (inl f) = law.apart w (first_spot w.memory s at) s before mid (first v) k x h f
more_by first others_of R S law more w at (member name s ms) before after v k x (mid, h, hs) (inr f) = more.apart w (others w.memory s at) ms mid after (others_of v) k x hs f

pub more_apart : {A B C : Type 0} {first : C → A} {others_of : C → B} {R : Reading A} {S : RestReading B} → IsApart R → RestIsApart S → RestIsApart (first_reading first others_of R S)
more_apart {A} {B} {C} {first} {others_of} {R} {S} law more = record { apart = more_by first others_of R S law more }

product_by : {A B : Type 0} (f : B → A) (S : RestReading A) → RestIsApart S → AreApart (product_reading f S)
product_by f S law w at s before after v k x (room, h) g = law.apart w (spot_members at) (product_members s) before after (f v) k x h g

pub product_apart : {A B : Type 0} (f : B → A) {S : RestReading A} → RestIsApart S → IsApart (product_reading f S)
product_apart f {S} law = record { apart = product_by f S law }

-- ---- maps

pub pair_apart : {K V : Type 0} {R : Reading K} {S : Reading V} → IsApart R → IsApart S → IsApart (pair_reading R S)
pair_apart law law2 = product_apart (λ p. p) (more_apart law (more_apart law2 end_apart))

map_by : {K V Z : Type 0} (eq : K → K → Bool) (bytes : ℕ) (R : Reading K) (S : Reading V) → IsApart R → IsApart S → AreApart (map_reading {Z = Z} eq bytes R S)
map_by eq bytes R S law law2 w at s before after m k x (pairs, read, filled) f = list_by bytes (pair_reading R S) (pair_apart law law2) w at s before after pairs k x read f

pub map_apart : {K V Z : Type 0} (eq : K → K → Bool) (bytes : ℕ) {R : Reading K} {S : Reading V} → IsApart R → IsApart S → IsApart (map_reading {Z = Z} eq bytes R S)
map_apart eq bytes {R} {S} law law2 = record { apart = map_by eq bytes R S law law2 }
