-- The numbers of lists are those of the types whose parts the lists tell.
use Rattle.std.proofs.Common.{◌≡◌, Bool, ℕ, inl, inr, ◌+◌, ◌*◌, ◌^◌, ◌≤◌, ◌<◌, max, false, true, length, Option, Some, None, List, [], ◌∷◌, map, refl, sym, ap, ◌∙◌, subst, arith}
use Rattle.canon_model.specs.Laws.{IsAlignment}
use Rattle.std.specs.Int.{next_multiple_of}
use Rattle.std.proofs.lemmas.List.{length-map}
use Rattle.canon_model.specs.Shape.{Cases, Members, Name, ProductKind, Shape, VariantKind, of_names, bare, bare_cases, case_count, fixed, flags, member, no_cases, no_members, payload, product, variant}
use Rattle.canon_model.specs.Layout.{align, align_to, cases_align, cases_flat, cases_size, ends, flat, flag_words, flags_align, flags_size, members_align, members_end, members_flat, payload_offset, size, tag_size}
use Rattle.canon_model.proofs.Layouts.{align_pos, align_to-next_multiple_of, alignment_positive, alignment-max, cases_align_pos, cases_alignment, members_alignment, tag_alignment}
use Rattle.canon_abi.specs.declared.abi.CanonicalAbiInfo.{CanonicalAbiInfo}
use Rattle.canon_abi.specs.declared.abi.VariantInfo.{VariantInfo}
use Rattle.canon_abi.specs.Numbers.{Numbers, IsFixed, TellsCases, TellsNumbers, align_in, case_numbers_in, case_words_of, end_of, flat_within, largest_align, largest_of, largest_size, nothing, numbers_in, of_product, of_row, of_variant, payload_offset_in, payload_place, size_in, sum_of_numbers, variant_align, words_of}
use Rattle.canon_abi.specs.Sizes.{tag_bytes}
use Rattle.canon_abi.specs.Abi.{AreOfCases, AreOfMembers, HasInfo, HasLayout, TellsLayout, TellsVariant}
use Rattle.canon_abi.proofs.Capped.{capped, largest_told, sum_told, times_told, words_told}

-- ---- what the parts' numbers are

abbrev pub shape_numbers : Bool → Shape → Numbers
shape_numbers wide s = record { size = size wide s; align = align wide s }

abbrev pub members_numbers : Bool → Members → List Numbers
members_numbers wide no_members = []
members_numbers wide (member name s ms) = shape_numbers wide s ∷ members_numbers wide ms

abbrev pub members_words : Members → List ℕ
members_words no_members = []
members_words (member name s ms) = flat s ∷ members_words ms

abbrev pub cases_numbers : Bool → Cases → List Numbers
cases_numbers wide no_cases = []
cases_numbers wide (bare name cs) = nothing ∷ cases_numbers wide cs
cases_numbers wide (payload name s cs) = shape_numbers wide s ∷ cases_numbers wide cs

abbrev pub cases_words : Cases → List ℕ
cases_words no_cases = []
cases_words (bare name cs) = 0 ∷ cases_words cs
cases_words (payload name s cs) = flat s ∷ cases_words cs

told : (wide : Bool) (abi : CanonicalAbiInfo) (s : Shape) → HasLayout abi s → numbers_in wide abi ≡ shape_numbers wide s
told wide abi s h =
    let size = h.size wide in
    let align = h.align wide in
    cc

told_words : (abi : CanonicalAbiInfo) (s : Shape) → HasLayout abi s → words_of abi ≡ capped (flat s)
told_words abi s h = words_told abi.flat (flat s) h.flat

members_told : (wide : Bool) (abis : List CanonicalAbiInfo) (ms : Members) → AreOfMembers abis ms → map (numbers_in wide) abis ≡ members_numbers wide ms
members_told wide [] no_members h = refl
members_told wide (abi ∷ abis) (member name s ms) h =
    let head = told wide abi s h.0 in
    let tail = members_told wide abis ms h.1 in
    cc
members_told wide [] (member name s ms) h = absurd h
members_told wide (abi ∷ abis) no_members h = absurd h

members_words_told : (abis : List CanonicalAbiInfo) (ms : Members) → AreOfMembers abis ms → map words_of abis ≡ map capped (members_words ms)
members_words_told [] no_members h = refl
members_words_told (abi ∷ abis) (member name s ms) h =
    let head = told_words abi s h.0 in
    let tail = members_words_told abis ms h.1 in
    cc
members_words_told [] (member name s ms) h = absurd h
members_words_told (abi ∷ abis) no_members h = absurd h

cases_told : (wide : Bool) (abis : List (Option CanonicalAbiInfo)) (cs : Cases) → AreOfCases abis cs → map (case_numbers_in wide) abis ≡ cases_numbers wide cs
cases_told wide [] no_cases h = refl
cases_told wide (None ∷ abis) (bare name cs) h = ap (λ (ns : List Numbers). nothing ∷ ns) (cases_told wide abis cs h)
cases_told wide (Some abi ∷ abis) (payload name s cs) h =
    let head = told wide abi s h.0 in
    let tail = cases_told wide abis cs h.1 in
    cc
cases_told wide [] (bare name cs) h = absurd h
cases_told wide [] (payload name s cs) h = absurd h
cases_told wide (None ∷ abis) no_cases h = absurd h
cases_told wide (None ∷ abis) (payload name s cs) h = absurd h
cases_told wide (Some abi ∷ abis) no_cases h = absurd h
cases_told wide (Some abi ∷ abis) (bare name cs) h = absurd h

cases_words_told : (abis : List (Option CanonicalAbiInfo)) (cs : Cases) → AreOfCases abis cs → map case_words_of abis ≡ map capped (cases_words cs)
cases_words_told [] no_cases h = refl
cases_words_told (None ∷ abis) (bare name cs) h = ap (λ (ns : List ℕ). 0 ∷ ns) (cases_words_told abis cs h)
cases_words_told (Some abi ∷ abis) (payload name s cs) h =
    let head = told_words abi s h.0 in
    let tail = cases_words_told abis cs h.1 in
    cc
cases_words_told [] (bare name cs) h = absurd h
cases_words_told [] (payload name s cs) h = absurd h
cases_words_told (None ∷ abis) no_cases h = absurd h
cases_words_told (None ∷ abis) (payload name s cs) h = absurd h
cases_words_told (Some abi ∷ abis) no_cases h = absurd h
cases_words_told (Some abi ∷ abis) (bare name cs) h = absurd h

-- ---- products

end_of-members : (wide : Bool) (o : ℕ) (ms : Members) → end_of o (members_numbers wide ms) ≡ members_end wide o ms
unfolding size
end_of-members wide o no_members = refl
end_of-members wide o (member name s ms) =
    ap (λ (at : ℕ). end_of (at + size wide s) (members_numbers wide ms)) (sym (align_to-next_multiple_of o (align wide s) (align_pos wide s)))
    ∙ end_of-members wide (ends wide o s) ms

largest_align-members : (wide : Bool) (ms : Members) → largest_align (members_numbers wide ms) ≡ members_align wide ms
unfolding align
largest_align-members wide no_members = refl
largest_align-members wide (member name s ms) = ap (max (align wide s)) (largest_align-members wide ms)

words-members : (ms : Members) → sum_of_numbers (members_words ms) ≡ members_flat ms
unfolding flat
words-members no_members = refl
words-members (member name s ms) = ap (λ (n : ℕ). flat s + n) (words-members ms)

product_size : (wide : Bool) (k : ProductKind) (ms : Members) → (of_product (members_numbers wide ms)).size ≡ size wide (product k ms)
unfolding size
product_size wide k ms =
    ap (next_multiple_of (end_of 0 (members_numbers wide ms))) (largest_align-members wide ms)
    ∙ sym (align_to-next_multiple_of (end_of 0 (members_numbers wide ms)) (members_align wide ms) (alignment_positive _ (members_alignment wide ms)))
    ∙ ap (λ (n : ℕ). align_to n (members_align wide ms)) (end_of-members wide 0 ms)

product_numbers : (wide : Bool) (fields : List CanonicalAbiInfo) (k : ProductKind) (ms : Members) → AreOfMembers fields ms
    → (of_product (map (numbers_in wide) fields)).size ≡ size wide (product k ms)
product_numbers wide fields k ms are = ap (λ (ls : List Numbers). (of_product ls).size) (members_told wide fields ms are) ∙ product_size wide k ms

pub product_answer : (answer : Option CanonicalAbiInfo) (fields : List CanonicalAbiInfo)
    → TellsNumbers answer (λ wide. of_product (map (numbers_in wide) fields)) (sum_of_numbers (map words_of fields))
    → (k : ProductKind) (ms : Members) → AreOfMembers fields ms → TellsLayout answer (product k ms)
unfolding align flat
product_answer None fields h k ms are = omega (arith, h, product_numbers false fields k ms are, product_numbers true fields k ms are)
product_answer (Some abi) fields h k ms are = record {
  size = λ wide. h.size wide ∙ product_numbers wide fields k ms are;
  align = λ wide. h.align wide ∙ ap largest_align (members_told wide fields ms are) ∙ largest_align-members wide ms;
  flat = h.flat ∙ sum_told (map words_of fields) (members_words ms) (members_words_told fields ms are) ∙ ap flat_within (words-members ms);
}

-- ---- variants

length-cases : (wide : Bool) (cs : Cases) → length (cases_numbers wide cs) ≡ case_count cs
length-cases wide no_cases = refl
length-cases wide (bare name cs) = omega (arith, length-cases wide cs)
length-cases wide (payload name s cs) = omega (arith, length-cases wide cs)

count-cases : (abis : List (Option CanonicalAbiInfo)) (cs : Cases) → AreOfCases abis cs → length abis ≡ case_count cs
count-cases abis cs are = sym (length-map abis (case_numbers_in false)) ∙ ap length (cases_told false abis cs are) ∙ length-cases false cs

largest_align-cases : (wide : Bool) (cs : Cases) → largest_align (cases_numbers wide cs) ≡ cases_align wide cs
unfolding align
largest_align-cases wide no_cases = refl
largest_align-cases wide (bare name cs) = omega (arith, largest_align-cases wide cs, cases_align_pos wide cs)
largest_align-cases wide (payload name s cs) = ap (max (align wide s)) (largest_align-cases wide cs)

largest_size-cases : (wide : Bool) (cs : Cases) → largest_size (cases_numbers wide cs) ≡ cases_size wide cs
unfolding size
largest_size-cases wide no_cases = refl
largest_size-cases wide (bare name cs) = omega (arith, largest_size-cases wide cs)
largest_size-cases wide (payload name s cs) = ap (max (size wide s)) (largest_size-cases wide cs)

largest_of-cases : (cs : Cases) → largest_of (cases_words cs) ≡ cases_flat cs
unfolding flat
largest_of-cases no_cases = refl
largest_of-cases (bare name cs) = omega (arith, largest_of-cases cs)
largest_of-cases (payload name s cs) = ap (max (flat s)) (largest_of-cases cs)

place-cases : (wide : Bool) (cs : Cases) → payload_place (cases_numbers wide cs) ≡ payload_offset wide cs
place-cases wide cs =
    ap (λ (n : ℕ). next_multiple_of (tag_size n) (largest_align (cases_numbers wide cs))) (length-cases wide cs)
    ∙ ap (next_multiple_of (tag_size (case_count cs))) (largest_align-cases wide cs)
    ∙ sym (align_to-next_multiple_of (tag_size (case_count cs)) (cases_align wide cs) (cases_align_pos wide cs))

abbrev both_align : Bool → Cases → ℕ
both_align wide cs = max (tag_size (case_count cs)) (cases_align wide cs)

align-cases : (wide : Bool) (cs : Cases) → variant_align (cases_numbers wide cs) ≡ both_align wide cs
align-cases wide cs =
    ap (λ (n : ℕ). max (tag_size n) (largest_align (cases_numbers wide cs))) (length-cases wide cs)
    ∙ ap (max (tag_size (case_count cs))) (largest_align-cases wide cs)

both_positive : (wide : Bool) (cs : Cases) → 0 < both_align wide cs
both_positive wide cs = alignment_positive _ (alignment-max _ _ (tag_alignment (case_count cs)) (cases_alignment wide cs))

variant_size : (wide : Bool) (k : VariantKind) (cs : Cases) → (of_variant (cases_numbers wide cs)).size ≡ size wide (variant k cs)
unfolding size
variant_size wide k cs =
    ap (λ (x : ℕ). next_multiple_of (x + largest_size (cases_numbers wide cs)) (variant_align (cases_numbers wide cs))) (place-cases wide cs)
    ∙ ap (λ (x : ℕ). next_multiple_of (payload_offset wide cs + x) (variant_align (cases_numbers wide cs))) (largest_size-cases wide cs)
    ∙ ap (next_multiple_of (payload_offset wide cs + cases_size wide cs)) (align-cases wide cs)
    ∙ sym (align_to-next_multiple_of (payload_offset wide cs + cases_size wide cs) (both_align wide cs) (both_positive wide cs))

variant_numbers : (wide : Bool) (abis : List (Option CanonicalAbiInfo)) (k : VariantKind) (cs : Cases) → AreOfCases abis cs
    → (of_variant (map (case_numbers_in wide) abis)).size ≡ size wide (variant k cs)
variant_numbers wide abis k cs are = ap (λ (ls : List Numbers). (of_variant ls).size) (cases_told wide abis cs are) ∙ variant_size wide k cs

pub variant_answer : (answer : Option (CanonicalAbiInfo × VariantInfo)) (abis : List (Option CanonicalAbiInfo)) → TellsCases answer abis
    → (k : VariantKind) (cs : Cases) → AreOfCases abis cs → TellsVariant answer k cs
unfolding align flat
variant_answer None abis h k cs are = omega (arith, h, variant_numbers false abis k cs are, variant_numbers true abis k cs are)
variant_answer (Some (abi, info)) abis h k cs are = (
  record {
    size = λ wide. h.0.size wide ∙ variant_numbers wide abis k cs are;
    align = λ wide. h.0.align wide ∙ ap variant_align (cases_told wide abis cs are) ∙ align-cases wide cs;
    flat = h.0.flat ∙ largest_told (map case_words_of abis) (cases_words cs) (cases_words_told abis cs are) ∙ ap (λ (n : ℕ). flat_within (1 + n)) (largest_of-cases cs);
  },
  record {
    size = h.1.size ∙ ap tag_size (count-cases abis cs are);
    offset = λ wide. h.1.offset wide ∙ ap payload_place (cases_told wide abis cs are) ∙ place-cases wide cs;
    few = omega (arith, h.1.few, count-cases abis cs are);
  },
)

-- ---- lists of fixed length

pub row_answer : (answer : Option CanonicalAbiInfo) (element : CanonicalAbiInfo) (n : ℕ)
    → TellsNumbers answer (λ wide. of_row (numbers_in wide element) n) (n * words_of element)
    → (s : Shape) → HasLayout element s → TellsLayout answer (fixed n s)
unfolding size align flat
row_answer None element n h s is =
    subst (λ (x : ℕ). 2 ^ 32 ≤ max (n * x) (n * size true s)) (is.size false) (subst (λ (x : ℕ). 2 ^ 32 ≤ max (n * element.size32) (n * x)) (is.size true) h)
row_answer (Some abi) element n h s is = record {
  size = λ wide. h.size wide ∙ ap (λ (x : ℕ). n * x) (is.size wide);
  align = λ wide. h.align wide ∙ is.align wide;
  flat = h.flat ∙ times_told n (words_of element) (flat s) (told_words element s is);
}

-- ---- the same for each width

fixed_size : (abi : CanonicalAbiInfo) (n a : ℕ) (f : Option ℕ) → IsFixed abi n a f → (wide : Bool) → size_in wide abi ≡ n
fixed_size abi n a f h false = h.size32
fixed_size abi n a f h true = h.size64

fixed_align : (abi : CanonicalAbiInfo) (n a : ℕ) (f : Option ℕ) → IsFixed abi n a f → (wide : Bool) → align_in wide abi ≡ a
fixed_align abi n a f h false = h.align32
fixed_align abi n a f h true = h.align64

fixed_offset : (info : VariantInfo) (n : ℕ) → info.payload_offset32 ≡ n → info.payload_offset64 ≡ n → (wide : Bool) → payload_offset_in wide info ≡ n
fixed_offset info n h k false = h
fixed_offset info n h k true = k

-- ---- enums

case_count-bare : (names : List Name) → case_count (bare_cases names) ≡ length names
case_count-bare [] = refl
case_count-bare (n ∷ ns) = omega (arith, case_count-bare ns)

cases_align-bare : (wide : Bool) (names : List Name) → cases_align wide (bare_cases names) ≡ 1
unfolding align
cases_align-bare wide [] = refl
cases_align-bare wide (n ∷ ns) = cases_align-bare wide ns

cases_size-bare : (wide : Bool) (names : List Name) → cases_size wide (bare_cases names) ≡ 0
unfolding size
cases_size-bare wide [] = refl
cases_size-bare wide (n ∷ ns) = cases_size-bare wide ns

cases_flat-bare : (names : List Name) → cases_flat (bare_cases names) ≡ 0
unfolding flat
cases_flat-bare [] = refl
cases_flat-bare (n ∷ ns) = cases_flat-bare ns

abbrev enum_size : ℕ → ℕ
enum_size t = align_to (align_to t 1 + 0) (max t 1)

-- an alignment is a multiple of one and of itself
enum_sizes : (t : ℕ) → IsAlignment t → (enum_size t ≡ t) × (align_to t 1 ≡ t)
enum_sizes t (inl e) = (ap enum_size e ∙ sym e, ap (λ (x : ℕ). align_to x 1) e ∙ sym e)
enum_sizes t (inr (inl e)) = (ap enum_size e ∙ sym e, ap (λ (x : ℕ). align_to x 1) e ∙ sym e)
enum_sizes t (inr (inr (inl e))) = (ap enum_size e ∙ sym e, ap (λ (x : ℕ). align_to x 1) e ∙ sym e)
enum_sizes t (inr (inr (inr e))) = (ap enum_size e ∙ sym e, ap (λ (x : ℕ). align_to x 1) e ∙ sym e)

enum_tag : (names : List Name) → tag_size (case_count (bare_cases names)) ≡ tag_size (length names)
enum_tag names = ap tag_size (case_count-bare names)

enum_offset : (wide : Bool) (names : List Name) → payload_offset wide (bare_cases names) ≡ tag_size (length names)
enum_offset wide names =
    ap (λ (t : ℕ). align_to t (cases_align wide (bare_cases names))) (enum_tag names)
    ∙ ap (align_to (tag_size (length names))) (cases_align-bare wide names)
    ∙ (enum_sizes (tag_size (length names)) (tag_alignment (length names))).1

abbrev variant_size_by : ℕ → ℕ → ℕ → ℕ → ℕ
variant_size_by place largest tag most = align_to (place + largest) (max tag most)

enum_align : (wide : Bool) (names : List Name) → align wide (variant of_names (bare_cases names)) ≡ tag_size (length names)
unfolding align
enum_align wide names =
    let t = tag_alignment (length names) in
    omega (arith, enum_tag names, cases_align-bare wide names, alignment_positive (tag_size (length names)) t)

enum_whole : (wide : Bool) (names : List Name) → size wide (variant of_names (bare_cases names)) ≡ tag_size (length names)
unfolding size
enum_whole wide names =
    let place : payload_offset wide (bare_cases names) ≡ align_to (tag_size (length names)) 1 =
    enum_offset wide names ∙ sym (enum_sizes (tag_size (length names)) (tag_alignment (length names))).1 in
    ap (λ (x : ℕ). variant_size_by x (cases_size wide (bare_cases names)) (tag_size (case_count (bare_cases names))) (cases_align wide (bare_cases names))) place
    ∙ ap (λ (x : ℕ). variant_size_by (align_to (tag_size (length names)) 1) x (tag_size (case_count (bare_cases names))) (cases_align wide (bare_cases names))) (cases_size-bare wide names)
    ∙ ap (λ (x : ℕ). variant_size_by (align_to (tag_size (length names)) 1) 0 x (cases_align wide (bare_cases names))) (enum_tag names)
    ∙ ap (variant_size_by (align_to (tag_size (length names)) 1) 0 (tag_size (length names))) (cases_align-bare wide names)
    ∙ (enum_sizes (tag_size (length names)) (tag_alignment (length names))).0

pub enum_answer : (abi : CanonicalAbiInfo) (count : ℕ) → IsFixed abi (tag_size count) (tag_size count) (Some 1)
    → (k : VariantKind) (names : List Name) → length names ≡ count → HasLayout abi (variant k (bare_cases names))
unfolding size align flat
enum_answer abi count h k names e = record {
  size = λ wide. fixed_size abi _ _ _ h wide ∙ ap tag_size (sym e) ∙ sym (enum_whole wide names);
  align = λ wide. fixed_align abi _ _ _ h wide ∙ ap tag_size (sym e) ∙ sym (enum_align wide names);
  flat = h.words ∙ ap (λ (n : ℕ). flat_within (1 + n)) (sym (cases_flat-bare names));
}

-- the discriminant of an enum, and no payload past it
pub record IsTag (info : VariantInfo) (count : ℕ) : Type 0 where
  pub tag : tag_bytes info.size ≡ tag_size count
  pub offset : info.payload_offset32 ≡ tag_size count
  pub offset64 : info.payload_offset64 ≡ tag_size count

pub enum_info : (info : VariantInfo) (count : ℕ) → IsTag info count → count ≤ 2 ^ 32 → (names : List Name) → length names ≡ count → HasInfo info (bare_cases names)
enum_info info count h small names e = record {
  size = h.tag ∙ ap tag_size (sym e) ∙ sym (enum_tag names);
  offset = λ wide. fixed_offset info _ h.offset h.offset64 wide ∙ ap tag_size (sym e) ∙ sym (enum_offset wide names);
  few = omega (arith, small, e, case_count-bare names);
}

-- ---- flags

pub flags_answer : (abi : CanonicalAbiInfo) (count : ℕ) → IsFixed abi (flags_size count) (flags_align count) (flat_within (flag_words count))
    → (names : List Name) → length names ≡ count → HasLayout abi (flags names)
unfolding size align flat
flags_answer abi count h names e = record {
  size = λ wide. fixed_size abi _ _ _ h wide ∙ ap flags_size (sym e);
  align = λ wide. fixed_align abi _ _ _ h wide ∙ ap flags_align (sym e);
  flat = h.words ∙ ap (λ (n : ℕ). flat_within (flag_words n)) (sym e);
}
