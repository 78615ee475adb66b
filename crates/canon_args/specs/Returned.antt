-- What is read from words that are in a row, or one that points to a tuple.
use Rattle.std.specs.Prelude.{Bool, [], false, if◌then◌else◌, nat_le, true, ℕ, ◌⊎◌}
use Rattle.canon_reading.specs.Reading.{Reading, Setting}
use Rattle.canon_reading.specs.Spots.{Spot, at_of, pointer_in, stored}
use Rattle.canon_model.specs.Flat.{max_results}
use Rattle.canon_model.specs.Layout.{align, flat, members_flat, size}
use Rattle.canon_model.specs.Reach.{AlignedFault, At, IsGood, Kind, is_good}
use Rattle.canon_model.specs.Shape.{Members, Shape}

-- whether what a pointer points to is aligned and inside memory
abbrev pub IsGoodArea : Setting → Spot → Shape → Type 0
IsGoodArea w at s = IsGood w.memory (pointer_in w.memory at) (size w.memory.wide s) (align w.memory.wide s)

abbrev pub is_good_area : Setting → Spot → Shape → Bool
is_good_area w at s = is_good w.memory (pointer_in w.memory at) (size w.memory.wide s) (align w.memory.wide s)

-- where the pointer points to
abbrev pub area_in : Setting → Spot → Spot
area_in w at = stored (pointer_in w.memory at)

-- it isn't: misaligned, or aligned and not inside memory
abbrev pub AreaFault : Setting → Spot → Shape → Kind → At → Type 0
AreaFault w at s = AlignedFault w.memory (at_of at) (pointer_in w.memory at) (size w.memory.wide s) (align w.memory.wide s)

-- what the pointer at a spot points to, where it is aligned and inside memory
abbrev pub area_reading : {A : Type 0} → Reading A → Reading A
area_reading R = record {
  reads = λ w at s before v after. IsGoodArea w at s × R.reads w (area_in w at) s before v after;
  faults = λ w at s k x. AreaFault w at s k x ⊎ (IsGoodArea w at s × R.faults w (area_in w at) s k x);
  reach = λ w at s. if is_good_area w at s then R.reach w (area_in w at) s else 0;
  steps = λ w at s. if is_good_area w at s then R.steps w (area_in w at) s else [];
  allocates = R.allocates;
}

-- in a row, or by a pointer
abbrev pub reading_by : {A : Type 0} → Bool → Reading A → Reading A
reading_by true R = R
reading_by false R = area_reading R

-- in a row up to `most` words (CanonicalABI.md, "lift_flat_values")
abbrev pub passed_reading : {A : Type 0} → ℕ → Shape → Reading A → Reading A
passed_reading most s R = reading_by (nat_le (flat s) most) R

-- how many words that is, of the members of a tuple: theirs in a row, or one that points to the tuple
abbrev pub passed_count : ℕ → Members → ℕ
passed_count most ms = if nat_le (members_flat ms) most then members_flat ms else 1

-- of results
abbrev pub result_count : Members → ℕ
result_count ms = passed_count max_results ms
