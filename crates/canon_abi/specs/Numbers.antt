-- Numbers apart from the types that have them: the form in which the code goes over a list of them.
-- `Abi` says what they are of a type.
use Rattle.std.specs.Prelude.{Bool, false, true, ℕ, ◌+◌, ◌*◌, max, List, [], ◌∷◌, length, map, ◌≡◌, ◌≤◌, ◌^◌, Option, Some, None, unwrap_or, MatchOption, nat_le, if◌then◌else◌}
use Rattle.std.specs.Int.{next_multiple_of}
use Rattle.canon_model.specs.Layout.{tag_size}
use Rattle.canon_abi.specs.Sizes.{tag_bytes}
use Rattle.canon_abi.specs.declared.abi.CanonicalAbiInfo.{CanonicalAbiInfo}
use Rattle.canon_abi.specs.declared.abi.Extent.{Extent}
use Rattle.canon_abi.specs.declared.abi.VariantInfo.{VariantInfo}

-- bytes in memory and their alignment, for pointers of one width
pub record Numbers : Type 0 where
  pub size : ℕ
  pub align : ℕ

-- a count of words, which is told up to 16
abbrev pub flat_within : ℕ → Option ℕ
flat_within n = if nat_le n 16 then Some n else None

-- a count that is told, where it is at most so many
abbrev pub told_within : Option ℕ → ℕ → Option ℕ
told_within None most = None
told_within (Some n) most = if nat_le n most then Some n else None

-- what is told for a width
abbrev pub size_in : Bool → CanonicalAbiInfo → ℕ
size_in wide abi = if wide then abi.size64 else abi.size32

abbrev pub align_in : Bool → CanonicalAbiInfo → ℕ
align_in wide abi = if wide then abi.align64 else abi.align32

abbrev pub payload_offset_in : Bool → VariantInfo → ℕ
payload_offset_in wide info = if wide then info.payload_offset64 else info.payload_offset32

abbrev pub numbers_in : Bool → CanonicalAbiInfo → Numbers
numbers_in wide abi = record { size = size_in wide abi; align = align_in wide abi }

-- words, where 17 stand for more than 16
abbrev pub words_of : CanonicalAbiInfo → ℕ
words_of abi = unwrap_or abi.flat 17

-- a case without a payload takes no room
abbrev pub nothing : Numbers
nothing = record { size = 0; align = 1 }

abbrev pub case_numbers_in : Bool → Option CanonicalAbiInfo → Numbers
case_numbers_in wide None = nothing
case_numbers_in wide (Some abi) = numbers_in wide abi

abbrev pub case_words_of : Option CanonicalAbiInfo → ℕ
case_words_of None = 0
case_words_of (Some abi) = words_of abi

-- ---- products: each member at the next multiple of its alignment

abbrev pub start_after : ℕ → Numbers → ℕ
start_after at m = next_multiple_of at m.align

abbrev pub end_after : ℕ → Numbers → ℕ
end_after at m = start_after at m + m.size

-- where the last of the members ends, the first of which comes after a place
abbrev pub end_of : ℕ → List Numbers → ℕ
end_of at [] = at
end_of at (m ∷ ms) = end_of (end_after at m) ms

abbrev pub largest_align : List Numbers → ℕ
largest_align [] = 1
largest_align (m ∷ ms) = max m.align (largest_align ms)

abbrev pub of_product : List Numbers → Numbers
of_product ms = record { size = next_multiple_of (end_of 0 ms) (largest_align ms); align = largest_align ms }

abbrev pub sum_of_numbers : List ℕ → ℕ
sum_of_numbers [] = 0
sum_of_numbers (n ∷ ns) = n + sum_of_numbers ns

-- ---- variants: the number of the case, and room for the largest payload

abbrev pub largest_size : List Numbers → ℕ
largest_size [] = 0
largest_size (c ∷ cs) = max c.size (largest_size cs)

abbrev pub largest_of : List ℕ → ℕ
largest_of [] = 0
largest_of (n ∷ ns) = max n (largest_of ns)

abbrev pub payload_place : List Numbers → ℕ
payload_place cs = next_multiple_of (tag_size (length cs)) (largest_align cs)

abbrev pub variant_align : List Numbers → ℕ
variant_align cs = max (tag_size (length cs)) (largest_align cs)

abbrev pub of_variant : List Numbers → Numbers
of_variant cs = record { size = next_multiple_of (payload_place cs + largest_size cs) (variant_align cs); align = variant_align cs }

abbrev pub of_row : Numbers → ℕ → Numbers
of_row m n = record { size = n * m.size; align = m.align }

-- ---- what is told of them

-- there are numbers for a width, unless a size of 32 bits cannot tell them
abbrev pub IsExtent : Extent → Numbers → Type 0
IsExtent e l = (e.size ≡ l.size) × (e.align ≡ l.align)

abbrev pub TellsExtent : Option Extent → Numbers → Type 0
TellsExtent told l = MatchOption told (2 ^ 32 ≤ l.size) (λ e. IsExtent e l)

-- the same of a choice, and where its payloads begin
abbrev pub TellsChoice : Option (ℕ × Extent) → List Numbers → Type 0
TellsChoice told cases = MatchOption told (2 ^ 32 ≤ (of_variant cases).size) (λ p. (p.0 ≡ payload_place cases) × IsExtent p.1 (of_variant cases))

-- the size and the alignment are the same for each width
pub record IsFixed (abi : CanonicalAbiInfo) (size align : ℕ) (flat : Option ℕ) : Type 0 where
  pub size32 : abi.size32 ≡ size
  pub align32 : abi.align32 ≡ align
  pub size64 : abi.size64 ≡ size
  pub align64 : abi.align64 ≡ align
  pub words : abi.flat ≡ flat

-- these are the numbers for each width, and the words
pub record AreTold (abi : CanonicalAbiInfo) (numbers : Bool → Numbers) (words : ℕ) : Type 0 where
  pub size : (wide : Bool) → size_in wide abi ≡ (numbers wide).size
  pub align : (wide : Bool) → align_in wide abi ≡ (numbers wide).align
  pub flat : abi.flat ≡ flat_within words

-- the larger of the sizes for the two widths
abbrev pub larger : (Bool → Numbers) → ℕ
larger numbers = max (numbers false).size (numbers true).size

-- there are numbers, unless a size of 32 bits cannot tell them for both widths
abbrev pub TellsNumbers : Option CanonicalAbiInfo → (Bool → Numbers) → ℕ → Type 0
TellsNumbers told numbers words = MatchOption told (2 ^ 32 ≤ larger numbers) (λ abi. AreTold abi numbers words)

pub record IsInfo (info : VariantInfo) (cases : Bool → List Numbers) (count : ℕ) : Type 0 where
  pub size : tag_bytes info.size ≡ tag_size count
  pub offset : (wide : Bool) → payload_offset_in wide info ≡ payload_place (cases wide)
  pub few : count ≤ 2 ^ 32

abbrev pub TellsCases : Option (CanonicalAbiInfo × VariantInfo) → List (Option CanonicalAbiInfo) → Type 0
TellsCases told cases = MatchOption told (2 ^ 32 ≤ larger (λ wide. of_variant (map (case_numbers_in wide) cases)))
    (λ p. AreTold p.0 (λ wide. of_variant (map (case_numbers_in wide) cases)) (1 + largest_of (map case_words_of cases)) × IsInfo p.1 (λ wide. map (case_numbers_in wide) cases) (length cases))
