-- The readings of the implementations, by their parts.
use Rattle.std.specs.Prelude.{◌≡◌, ◌≤◌, ◌<◌, ◌*◌, ◌+◌, ◌%◌, ◌==◌, ◌++◌, ◌||◌, ◌⊎◌, Bool, Err, List, None, Ok, Option, Result, Some, [], ◌∷◌, false, if◌then◌else◌, length, suc, true, zero, ℕ}
use Rattle.canon_resources.specs.Parts.{Part}
use Rattle.canon_ledger.specs.Ledger.{LedgerState}
use Rattle.canon_model.specs.Layout.{align, flat, size}
use Rattle.canon_model.specs.Memory.{Memory}
use Rattle.canon_model.specs.Reach as reach
use Rattle.canon_model.specs.Reach.{IsFault, IsGood, Kind, PointerFault, is_good, is_inside, no_case, text_reach}
use Rattle.canon_model.specs.Shape.{Members, Shape, fixed, member, no_members}
use Rattle.canon_model.specs.Layout.{payload_shape}
use Rattle.canon_model.specs.Tree.{Tree}
use Rattle.canon_types.specs.Depth.{element_shape, product_members, variant_cases}
use Rattle.canon_reading.specs.Reading.{Reading, Setting}
use Rattle.canon_reading.specs.Spots.{Faulty, HasRoom, Represents, Rest, Spot, at_of, behind, first_spot, flat_in, length_in, others, payload_spot, pointer_in, spot_members, stored, tag_in}

-- ---- a value of what is represented

-- what the tree that stands there is lifted to
abbrev pub TreeReads : {A : Type 0} → (A → Tree → Type 0) → Setting → Spot → Shape → LedgerState → A → LedgerState → Type 0
TreeReads Lifts w at s before v after = (t : Tree) × Represents w.memory w.encoding at s t × Lifts v t × (after ≡ before)

abbrev pub tree_reading : {A : Type 0} → (A → Tree → Type 0) → (Setting → Spot → ℕ) → Bool → Reading A
tree_reading Lifts charge allocates = record {
  reads = TreeReads Lifts;
  faults = λ w at s. Faulty w.memory w.encoding at s;
  reach = λ w at s. charge w at;
  steps = λ w at s. [];
  allocates = allocates;
}

abbrev pub scalar_reading : {A : Type 0} → (A → Tree → Type 0) → Reading A
scalar_reading Lifts = tree_reading Lifts (λ w at. 0) false

-- a text, whose spelled bytes are charged
abbrev pub text_charge : Setting → Spot → ℕ
text_charge w at = text_reach w.encoding w.memory (pointer_in w.memory at) (length_in w.memory at)

abbrev pub text_reading : {A : Type 0} → (A → Tree → Type 0) → Reading A
text_reading Lifts = tree_reading Lifts text_charge true

-- ---- cases

-- no payload
abbrev pub nothing_reading : {A : Type 0} → Reading A
nothing_reading = record {
  reads = λ w at s before v after. after ≡ before;
  faults = λ w at s k x. ⊥;
  reach = λ w at s. 0;
  steps = λ w at s. [];
  allocates = false;
}

abbrev pub payload_reading : {A : Type 0} → Bool → Reading A → Reading A
payload_reading true R = nothing_reading
payload_reading false R = R

-- case d with its payload
abbrev pub CaseReads : {A : Type 0} → ℕ → Reading A → Setting → Spot → Shape → LedgerState → A → LedgerState → Type 0
CaseReads d R w at s before v after = HasRoom w.memory at s × (tag_in w.memory at (variant_cases s) ≡ d)
    × R.reads w (payload_spot w.memory at (variant_cases s)) (payload_shape (variant_cases s) d) before v after

-- of two cases, by their payloads
module _ {A B : Type 0} (R : Reading A) (S : Reading B) (w : Setting) (at : Spot) (s : Shape) where
  abbrev tag : ℕ
  tag = tag_in w.memory at (variant_cases s)

  abbrev spot : Spot
  spot = payload_spot w.memory at (variant_cases s)

  abbrev pub CasesFault : Kind → reach.At → Type 0
  CasesFault k x = (IsFault (no_case tag) (at_of at) k x × (2 ≤ tag))
      ⊎ ((tag ≡ 0) × R.faults w spot (payload_shape (variant_cases s) 0) k x)
      ⊎ ((tag ≡ 1) × S.faults w spot (payload_shape (variant_cases s) 1) k x)

  abbrev pub cases_reach : ℕ
  cases_reach = if tag == 0 then R.reach w spot (payload_shape (variant_cases s) 0) else if tag == 1 then S.reach w spot (payload_shape (variant_cases s) 1) else 0

  abbrev pub cases_steps : List (List Part)
  cases_steps = if tag == 0 then R.steps w spot (payload_shape (variant_cases s) 0) else if tag == 1 then S.steps w spot (payload_shape (variant_cases s) 1) else []

abbrev pub cases_reading : {A B C : Type 0} → Reading A → Reading B → (Setting → Spot → Shape → LedgerState → C → LedgerState → Type 0) → Reading C
cases_reading R S Reads = record {
  reads = Reads;
  faults = CasesFault R S;
  reach = cases_reach R S;
  steps = cases_steps R S;
  allocates = R.allocates || S.allocates;
}

abbrev pub OptionReads : {A : Type 0} → Reading A → Setting → Spot → Shape → LedgerState → Option A → LedgerState → Type 0
OptionReads R w at s before None after = CaseReads {A = Unit {0}} 0 nothing_reading w at s before tt after
OptionReads R w at s before (Some x) after = CaseReads 1 R w at s before x after

abbrev pub option_reading : {A : Type 0} → Reading A → Reading (Option A)
option_reading R = cases_reading {A = Unit {0}} nothing_reading R (OptionReads R)

abbrev pub ResultReads : {A B : Type 0} → Reading A → Reading B → Setting → Spot → Shape → LedgerState → Result A B → LedgerState → Type 0
ResultReads R S w at s before (Ok x) after = CaseReads 0 R w at s before x after
ResultReads R S w at s before (Err y) after = CaseReads 1 S w at s before y after

-- a payload whose type is the unit isn't there
abbrev pub result_reading : {A B : Type 0} → Bool → Reading A → Bool → Reading B → Reading (Result A B)
result_reading unit R unit2 S = cases_reading (payload_reading unit R) (payload_reading unit2 S) (ResultReads (payload_reading unit R) (payload_reading unit2 S))

-- ---- the same value in another Rust type

abbrev pub read_as : {A B : Type 0} → (B → A) → Reading A → Reading B
read_as f R = record {
  reads = λ w at s before v after. R.reads w at s before (f v) after;
  faults = R.faults;
  reach = R.reach;
  steps = R.steps;
  allocates = R.allocates;
}

-- the same, in a block of the host's memory
abbrev pub boxed_reading : {A B : Type 0} → (B → A) → Reading A → Reading B
boxed_reading f R = record {
  reads = λ w at s before v after. R.reads w at s before (f v) after;
  faults = R.faults;
  reach = R.reach;
  steps = R.steps;
  allocates = true;
}

-- ---- values of one type in a row

module _ {A : Type 0} (R : Reading A) (w : Setting) (s : Shape) where
  abbrev pub EachReads : Spot → LedgerState → List A → LedgerState → Type 0
  EachReads at before [] after = after ≡ before
  EachReads at before (x ∷ xs) after = (mid : LedgerState) × R.reads w at s before x mid × EachReads (behind w.memory s at) mid xs after

  abbrev pub each_reach : Spot → ℕ → ℕ
  each_reach at zero = 0
  each_reach at (suc n) = R.reach w at s + each_reach (behind w.memory s at) n

  abbrev pub each_steps : Spot → ℕ → List (List Part)
  each_steps at zero = []
  each_steps at (suc n) = R.steps w at s ++ each_steps (behind w.memory s at) n

-- the spot of item i of a row
abbrev pub item_spot : Memory → Shape → Spot → ℕ → Spot
item_spot m s (stored a) i = stored (a + i * size m.wide s)
item_spot m s (flat_in ws j) i = flat_in ws (j + i * flat s)

abbrev pub EachFault : {A : Type 0} → Reading A → Setting → Shape → Spot → ℕ → Kind → reach.At → Type 0
EachFault R w s at n k x = (i : ℕ) × (i < n) × R.faults w (item_spot w.memory s at i) s k x

-- ---- lists

-- n items of the shape at p lie inside memory, where they are aligned
abbrev pub IsGoodList : Memory → Shape → ℕ → ℕ → Type 0
IsGoodList m s p n = IsGood m p (n * size m.wide s) (align m.wide s)

abbrev pub ListPointerFault : Memory → Shape → Spot → Kind → reach.At → Type 0
ListPointerFault m s at k x = PointerFault m (at_of at) (pointer_in m at) (length_in m at * size m.wide s) (align m.wide s) k x

module _ {A : Type 0} (bytes : ℕ) (R : Reading A) (w : Setting) (at : Spot) (s : Shape) where
  abbrev element : Shape
  element = element_shape s

  abbrev p : ℕ
  p = pointer_in w.memory at

  abbrev n : ℕ
  n = length_in w.memory at

  abbrev pub ListReads : LedgerState → List A → LedgerState → Type 0
  ListReads before xs after = HasRoom w.memory at s × IsGoodList w.memory element p n × (length xs ≡ n) × EachReads R w element (stored p) before xs after

  abbrev pub ListReadingFault : Kind → reach.At → Type 0
  ListReadingFault k x = ListPointerFault w.memory element at k x ⊎ (IsGoodList w.memory element p n × EachFault R w element (stored p) n k x)

  -- an item is charged by its bytes in the host, where the list is inside memory; its own charges come where it is aligned too
  abbrev pub list_reading_reach : ℕ
  list_reading_reach = if is_inside w.memory p (n * size w.memory.wide element) then n * bytes + (if p % align w.memory.wide element == 0 then each_reach R w element (stored p) n else 0) else 0

  abbrev pub list_steps : List (List Part)
  list_steps = if is_good w.memory p (n * size w.memory.wide element) (align w.memory.wide element) then each_steps R w element (stored p) n else []

abbrev pub list_reading : {A : Type 0} → ℕ → Reading A → Reading (List A)
list_reading bytes R = record {
  reads = ListReads bytes R;
  faults = ListReadingFault bytes R;
  reach = list_reading_reach bytes R;
  steps = list_steps bytes R;
  allocates = true;
}

-- ---- lists of fixed length

abbrev pub fixed_element : Shape → Shape
fixed_element (fixed n s) = s
fixed_element s = s

abbrev pub fixed_reading : {A : Type 0} → ℕ → Reading A → Reading (List A)
fixed_reading n R = record {
  reads = λ w at s before xs after. HasRoom w.memory at s × (length xs ≡ n) × EachReads R w (fixed_element s) at before xs after;
  faults = λ w at s. EachFault R w (fixed_element s) at n;
  reach = λ w at s. each_reach R w (fixed_element s) at n;
  steps = λ w at s. each_steps R w (fixed_element s) at n;
  allocates = true;
}

-- ---- tuples, a member at a time

-- of the members from one on
pub record RestReading (A : Type 0) : Type 1 where
  pub reads : Setting → Rest → Members → LedgerState → A → LedgerState → Type 0
  pub faults : Setting → Rest → Members → Kind → reach.At → Type 0
  pub reach : Setting → Rest → Members → ℕ
  pub steps : Setting → Rest → Members → List (List Part)
  pub allocates : Bool

abbrev pub NoneReads : {A : Type 0} → Members → LedgerState → A → LedgerState → Type 0
NoneReads no_members before v after = after ≡ before
NoneReads (member name s ms) before v after = ⊥

abbrev pub none_reading : {A : Type 0} → RestReading A
none_reading = record {
  reads = λ w at ms before v after. NoneReads ms before v after;
  faults = λ w at ms k x. ⊥;
  reach = λ w at ms. 0;
  steps = λ w at ms. [];
  allocates = false;
}

-- a first one, and others
module _ {A B C : Type 0} (first : C → A) (others_of : C → B) (R : Reading A) (S : RestReading B) where
  abbrev pub FirstReads : Setting → Rest → Members → LedgerState → C → LedgerState → Type 0
  FirstReads w at no_members before v after = ⊥
  FirstReads w at (member name s ms) before v after = (mid : LedgerState) × R.reads w (first_spot w.memory s at) s before (first v) mid × S.reads w (others w.memory s at) ms mid (others_of v) after

  abbrev pub FirstFault : Setting → Rest → Members → Kind → reach.At → Type 0
  FirstFault w at no_members k x = ⊥
  FirstFault w at (member name s ms) k x = R.faults w (first_spot w.memory s at) s k x ⊎ S.faults w (others w.memory s at) ms k x

  abbrev pub first_reach : Setting → Rest → Members → ℕ
  first_reach w at no_members = 0
  first_reach w at (member name s ms) = R.reach w (first_spot w.memory s at) s + S.reach w (others w.memory s at) ms

  abbrev pub first_steps : Setting → Rest → Members → List (List Part)
  first_steps w at no_members = []
  first_steps w at (member name s ms) = R.steps w (first_spot w.memory s at) s ++ S.steps w (others w.memory s at) ms

  abbrev pub first_reading : RestReading C
  first_reading = record {
    reads = FirstReads;
    faults = FirstFault;
    reach = first_reach;
    steps = first_steps;
    allocates = R.allocates || S.allocates;
  }

abbrev pub product_reading : {A B : Type 0} → (B → A) → RestReading A → Reading B
product_reading f S = record {
  reads = λ w at s before v after. HasRoom w.memory at s × S.reads w (spot_members at) (product_members s) before (f v) after;
  faults = λ w at s. S.faults w (spot_members at) (product_members s);
  reach = λ w at s. S.reach w (spot_members at) (product_members s);
  steps = λ w at s. S.steps w (spot_members at) (product_members s);
  allocates = S.allocates;
}
