-- Items of one type in a row, as a reading of their list.
use Rattle.std.specs.Prelude.{◌≡◌, ◌++◌, List, Vec, length, true, ℕ}
use Rattle.std.specs.declared.alloc.Global.{Global}
use Rattle.canon_reading.specs.Reading.{Reading}
use Rattle.canon_reading.specs.Readings.{EachFault, EachReads, each_reach, each_steps, read_as}

abbrev pub items_reading : {A : Type 0} → ℕ → Reading A → Reading (List A)
items_reading n R = record {
  reads = λ w at s before xs after. (length xs ≡ n) × EachReads R w s at before xs after;
  faults = λ w at s. EachFault R w s at n;
  reach = λ w at s. each_reach R w s at n;
  steps = λ w at s. each_steps R w s at n;
  allocates = true;
}

abbrev pub vec_reading : {A : Type 0} → ℕ → Reading A → Reading (Vec A Global)
vec_reading n R = read_as (λ v. v.items) (items_reading n R)

-- the items came to be behind those that were there; a refusal leaves them
abbrev pub into_reading : {A : Type 0} → List A → List A → ℕ → Reading A → Reading (Unit {0})
into_reading {A} old new n R = record {
  reads = λ w at s before v after. (xs : List A) × (new ≡ old ++ xs) × (length xs ≡ n) × EachReads R w s at before xs after;
  faults = λ w at s. EachFault R w s at n;
  reach = λ w at s. each_reach R w s at n;
  steps = λ w at s. each_steps R w s at n;
  allocates = true;
}
