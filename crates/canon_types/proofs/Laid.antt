-- The numbers of parts, in order, are those of the members or the cases that the parts make.
use Rattle.std.proofs.Common.{Bool, true, ◌≡◌, ℕ, suc, ◌+◌, ◌<◌, ◌≤◌, ◌^◌, max, false, Option, Some, None, List, [], ◌∷◌, ◌++◌, length, map, take, get_or, refl, sym, ap, ◌∙◌, subst, arith}
use Rattle.std.specs.List.{AllZip}
use Rattle.std.proofs.lemmas.List.{take_more}
use Rattle.canon_abi.specs.Numbers.{align_in, flat_within, size_in}
use Rattle.canon_abi.specs.Abi.{AreOfCases, AreOfMembers, HasInfo, HasLayout, TellsLayout, TellsVariant, wider_size}
use Rattle.canon_abi.specs.declared.abi.CanonicalAbiInfo.{CanonicalAbiInfo}
use Rattle.canon_abi.specs.declared.abi.VariantInfo.{VariantInfo}
use Rattle.canon_model.specs.Layout.{align, align_to, cases_align, cases_flat, cases_size, ends, flat, members_align, members_end, members_flat, payload_offset, size, tag_size}
use Rattle.canon_model.specs.Shape.{Cases, Members, Name, ProductKind, Shape, VariantKind, case_count, case_for, no_cases, of_option, of_places, of_result, result_of, product, tuple, unnamed_members, variant}
use Rattle.canon_model.proofs.Layouts.{members_end-le-size}
use Rattle.canon_types.specs.declared.types.InterfaceType.{InterfaceType}
use Rattle.canon_types.specs.Laid.{AreLaid, ArePayloadsLaid, IsPayloadLaid, unnamed_cases}
use Rattle.canon_types.specs.Table.{cases_in, fields_in, members_in, payload_in, shape_in}

-- ---- one part more

zip_push : {A B : Type 0} (R : A → B → Type 0) (xs : List A) (ys : List B) (x : A) (y : B) → AllZip R xs ys → R x y → AllZip R (xs ++ x ∷ []) (ys ++ y ∷ [])
zip_push R [] [] x y h r = (r, tt)
zip_push R [] (b ∷ ys) x y h r = absurd h
zip_push R (a ∷ xs) [] x y h r = absurd h
zip_push R (a ∷ xs) (b ∷ ys) x y h r = (h.0, zip_push R xs ys x y h.1 r)

zip_more : {A B : Type 0} (R : A → B → Type 0) (xs : List A) (ys : List B) (i : ℕ) (x : A) (y : B) → i < length ys → y ≡ get_or ys i y → AllZip R xs (take i ys) → R x y → AllZip R (xs ++ x ∷ []) (take (i + 1) ys)
zip_more {A} {B} R xs ys i x y lt is h r =
    let more : take (i + 1) ys ≡ take i ys ++ y ∷ [] = take_more ys i y lt ∙ ap (λ (v : B). take i ys ++ v ∷ []) (sym is) in
    subst (λ (zs : List B). AllZip R (xs ++ x ∷ []) zs) (sym more) (zip_push R xs (take i ys) x y h r)

pub laid_more : (known : List Shape) (abis : List CanonicalAbiInfo) (types : List InterfaceType) (i : ℕ) (abi : CanonicalAbiInfo) (t : InterfaceType) → i < length types → t ≡ get_or types i t
    → AreLaid known abis (take i types) → HasLayout abi (shape_in known t) → AreLaid known (abis ++ abi ∷ []) (take (i + 1) types)
laid_more known = zip_more (λ (a : CanonicalAbiInfo) (t : InterfaceType). HasLayout a (shape_in known t))

pub payloads_laid_more : (known : List Shape) (abis : List (Option CanonicalAbiInfo)) (ps : List (Option InterfaceType)) (i : ℕ) (abi : Option CanonicalAbiInfo) (p : Option InterfaceType) → i < length ps → p ≡ get_or ps i p
    → ArePayloadsLaid known abis (take i ps) → IsPayloadLaid known abi p → ArePayloadsLaid known (abis ++ abi ∷ []) (take (i + 1) ps)
payloads_laid_more known = zip_more (IsPayloadLaid known)

-- ---- members and cases

pub members_laid : (known : List Shape) (abis : List CanonicalAbiInfo) (types : List InterfaceType) → AreLaid known abis types → AreOfMembers abis (members_in known types)
members_laid known [] [] h = tt
members_laid known [] (t ∷ ts) h = absurd h
members_laid known (a ∷ abis) [] h = absurd h
members_laid known (a ∷ abis) (t ∷ ts) h = (h.0, members_laid known abis ts h.1)

pub cases_laid : (known : List Shape) (abis : List (Option CanonicalAbiInfo)) (ps : List (Option InterfaceType)) → ArePayloadsLaid known abis ps → AreOfCases abis (unnamed_cases known ps)
cases_laid known [] [] h = tt
cases_laid known [] (t ∷ ts) h = absurd h
cases_laid known (a ∷ abis) [] h = absurd h
cases_laid known (None ∷ abis) (None ∷ ps) h = cases_laid known abis ps h.1
cases_laid known (Some a ∷ abis) (Some t ∷ ps) h = (h.0, cases_laid known abis ps h.1)
cases_laid known (None ∷ abis) (Some t ∷ ps) h = absurd h.0
cases_laid known (Some a ∷ abis) (None ∷ ps) h = absurd h.0

-- ---- names are no part of a layout

wider_same : (s v : Shape) → ((wide : Bool) → size wide s ≡ size wide v) → wider_size s ≡ wider_size v
wider_same s v h = ap (λ (n : ℕ). max n (size true s)) (h false) ∙ ap (λ (n : ℕ). max (size false v) n) (h true)

fields_end : (wide : Bool) (known : List Shape) (o : ℕ) (fs : List (Name × InterfaceType)) → members_end wide o (fields_in known fs) ≡ members_end wide o (members_in known (map (λ f. f.1) fs))
unfolding size
fields_end wide known o [] = refl
fields_end wide known o (f ∷ fs) = fields_end wide known (ends wide o (shape_in known f.1)) fs

fields_align : (wide : Bool) (known : List Shape) (fs : List (Name × InterfaceType)) → members_align wide (fields_in known fs) ≡ members_align wide (members_in known (map (λ f. f.1) fs))
unfolding align
fields_align wide known [] = refl
fields_align wide known (f ∷ fs) = ap (max (align wide (shape_in known f.1))) (fields_align wide known fs)

fields_flat : (known : List Shape) (fs : List (Name × InterfaceType)) → members_flat (fields_in known fs) ≡ members_flat (members_in known (map (λ f. f.1) fs))
unfolding flat
fields_flat known [] = refl
fields_flat known (f ∷ fs) = ap (λ (n : ℕ). flat (shape_in known f.1) + n) (fields_flat known fs)

fields_size : (wide : Bool) (known : List Shape) (k j : ProductKind) (fs : List (Name × InterfaceType)) → size wide (product k (fields_in known fs)) ≡ size wide (product j (members_in known (map (λ f. f.1) fs)))
unfolding size
fields_size wide known k j fs =
    ap (λ (n : ℕ). align_to n (members_align wide (fields_in known fs))) (fields_end wide known 0 fs)
    ∙ ap (align_to (members_end wide 0 (members_in known (map (λ f. f.1) fs)))) (fields_align wide known fs)

pub fields_bytes : (known : List Shape) (k j : ProductKind) (fs : List (Name × InterfaceType)) → wider_size (product k (fields_in known fs)) ≡ wider_size (product j (members_in known (map (λ f. f.1) fs)))
fields_bytes known k j fs = wider_same _ _ (λ wide. fields_size wide known k j fs)

pub fields_laid : (known : List Shape) (abi : CanonicalAbiInfo) (k j : ProductKind) (fs : List (Name × InterfaceType)) → HasLayout abi (product j (members_in known (map (λ f. f.1) fs))) → HasLayout abi (product k (fields_in known fs))
unfolding align flat
fields_laid known abi k j fs h = record {
  size = λ wide. h.size wide ∙ sym (fields_size wide known k j fs);
  align = λ wide. h.align wide ∙ sym (fields_align wide known fs);
  flat = h.flat ∙ ap flat_within (sym (fields_flat known fs));
}

unnamed_count : (known : List Shape) (cs : List (Name × Option InterfaceType)) → case_count (cases_in known cs) ≡ case_count (unnamed_cases known (map (λ c. c.1) cs))
unnamed_count known [] = refl
unnamed_count known ((name, None) ∷ cs) = ap (λ (n : ℕ). suc n) (unnamed_count known cs)
unnamed_count known ((name, Some t) ∷ cs) = ap (λ (n : ℕ). suc n) (unnamed_count known cs)

unnamed_align : (wide : Bool) (known : List Shape) (cs : List (Name × Option InterfaceType)) → cases_align wide (cases_in known cs) ≡ cases_align wide (unnamed_cases known (map (λ c. c.1) cs))
unfolding align
unnamed_align wide known [] = refl
unnamed_align wide known ((name, None) ∷ cs) = unnamed_align wide known cs
unnamed_align wide known ((name, Some t) ∷ cs) = ap (max (align wide (shape_in known t))) (unnamed_align wide known cs)

unnamed_size : (wide : Bool) (known : List Shape) (cs : List (Name × Option InterfaceType)) → cases_size wide (cases_in known cs) ≡ cases_size wide (unnamed_cases known (map (λ c. c.1) cs))
unfolding size
unnamed_size wide known [] = refl
unnamed_size wide known ((name, None) ∷ cs) = unnamed_size wide known cs
unnamed_size wide known ((name, Some t) ∷ cs) = ap (max (size wide (shape_in known t))) (unnamed_size wide known cs)

unnamed_flat : (known : List Shape) (cs : List (Name × Option InterfaceType)) → cases_flat (cases_in known cs) ≡ cases_flat (unnamed_cases known (map (λ c. c.1) cs))
unfolding flat
unnamed_flat known [] = refl
unnamed_flat known ((name, None) ∷ cs) = unnamed_flat known cs
unnamed_flat known ((name, Some t) ∷ cs) = ap (max (flat (shape_in known t))) (unnamed_flat known cs)

-- cases of the same count, alignment, size and words
record SameCases (cs ds : Cases) : Type 0 where
  count : case_count cs ≡ case_count ds
  align : (wide : Bool) → cases_align wide cs ≡ cases_align wide ds
  size : (wide : Bool) → cases_size wide cs ≡ cases_size wide ds
  flat : cases_flat cs ≡ cases_flat ds

same_offset : (wide : Bool) (cs ds : Cases) → SameCases cs ds → payload_offset wide cs ≡ payload_offset wide ds
same_offset wide cs ds h =
    ap (λ (n : ℕ). align_to (tag_size n) (cases_align wide cs)) h.count ∙ ap (align_to (tag_size (case_count ds))) (h.align wide)

same_align : (wide : Bool) (k j : VariantKind) (cs ds : Cases) → SameCases cs ds → align wide (variant k cs) ≡ align wide (variant j ds)
unfolding align
same_align wide k j cs ds h =
    ap (λ (n : ℕ). max (tag_size n) (cases_align wide cs)) h.count ∙ ap (max (tag_size (case_count ds))) (h.align wide)

abbrev both : Bool → Cases → ℕ
both wide cs = max (tag_size (case_count cs)) (cases_align wide cs)

same_both : (wide : Bool) (cs ds : Cases) → SameCases cs ds → both wide cs ≡ both wide ds
same_both wide cs ds h = ap (λ (n : ℕ). max (tag_size n) (cases_align wide cs)) h.count ∙ ap (max (tag_size (case_count ds))) (h.align wide)

same_size : (wide : Bool) (k j : VariantKind) (cs ds : Cases) → SameCases cs ds → size wide (variant k cs) ≡ size wide (variant j ds)
unfolding size
same_size wide k j cs ds h =
    ap (λ (o : ℕ). align_to (o + cases_size wide cs) (both wide cs)) (same_offset wide cs ds h)
    ∙ ap (λ (n : ℕ). align_to (payload_offset wide ds + n) (both wide cs)) (h.size wide)
    ∙ ap (align_to (payload_offset wide ds + cases_size wide ds)) (same_both wide cs ds h)

same_laid : (abi : CanonicalAbiInfo) (k j : VariantKind) (cs ds : Cases) → SameCases cs ds → HasLayout abi (variant j ds) → HasLayout abi (variant k cs)
unfolding flat
same_laid abi k j cs ds h laid = record {
  size = λ wide. laid.size wide ∙ sym (same_size wide k j cs ds h);
  align = λ wide. laid.align wide ∙ sym (same_align wide k j cs ds h);
  flat = laid.flat ∙ ap (λ (n : ℕ). flat_within (1 + n)) (sym h.flat);
}

same_info : (info : VariantInfo) (cs ds : Cases) → SameCases cs ds → HasInfo info ds → HasInfo info cs
same_info info cs ds h has = record {
  size = has.size ∙ ap tag_size (sym h.count);
  offset = λ wide. has.offset wide ∙ sym (same_offset wide cs ds h);
  few = omega (arith, has.few, h.count);
}

named_same : (known : List Shape) (cs : List (Name × Option InterfaceType)) → SameCases (cases_in known cs) (unnamed_cases known (map (λ c. c.1) cs))
named_same known cs = record {
  count = unnamed_count known cs;
  align = λ wide. unnamed_align wide known cs;
  size = λ wide. unnamed_size wide known cs;
  flat = unnamed_flat known cs;
}

pub variant_bytes : (known : List Shape) (k j : VariantKind) (cs : List (Name × Option InterfaceType)) → wider_size (variant k (cases_in known cs)) ≡ wider_size (variant j (unnamed_cases known (map (λ c. c.1) cs)))
variant_bytes known k j cs = wider_same _ _ (λ wide. same_size wide k j _ _ (named_same known cs))

pub variant_laid : (known : List Shape) (abi : CanonicalAbiInfo) (k j : VariantKind) (cs : List (Name × Option InterfaceType)) → HasLayout abi (variant j (unnamed_cases known (map (λ c. c.1) cs)))
    → HasLayout abi (variant k (cases_in known cs))
variant_laid known abi k j cs = same_laid abi k j _ _ (named_same known cs)

pub variant_told : (known : List Shape) (info : VariantInfo) (cs : List (Name × Option InterfaceType)) → HasInfo info (unnamed_cases known (map (λ c. c.1) cs)) → HasInfo info (cases_in known cs)
variant_told known info cs = same_info info _ _ (named_same known cs)

-- the cases of a result
pub result_cases : (known : List Shape) (ok error : Option InterfaceType) → unnamed_cases known (ok ∷ error ∷ []) ≡ case_for (payload_in known ok) (case_for (payload_in known error) no_cases)
result_cases known None None = refl
result_cases known None (Some e) = refl
result_cases known (Some o) None = refl
result_cases known (Some o) (Some e) = refl

pub kind_laid : (abi : CanonicalAbiInfo) (k j : VariantKind) (cs : Cases) → HasLayout abi (variant j cs) → HasLayout abi (variant k cs)
unfolding size align flat
kind_laid abi k j cs h = record { size = h.size; align = h.align; flat = h.flat }

pub result_bytes : (known : List Shape) (ok error : Option InterfaceType) → wider_size (variant of_option (unnamed_cases known (ok ∷ error ∷ []))) ≡ wider_size (result_of (payload_in known ok) (payload_in known error))
unfolding size
result_bytes known ok error = ap (λ (cs : Cases). wider_size (variant of_result cs)) (result_cases known ok error)

pub result_laid : (known : List Shape) (abi : CanonicalAbiInfo) (ok error : Option InterfaceType) → HasLayout abi (variant of_option (unnamed_cases known (ok ∷ error ∷ [])))
    → HasLayout abi (result_of (payload_in known ok) (payload_in known error))
result_laid known abi ok error h =
    subst (λ (cs : Cases). HasLayout abi (variant of_result cs)) (result_cases known ok error) (kind_laid abi of_result of_option (unnamed_cases known (ok ∷ error ∷ [])) h)

-- ---- answers

pub product_told : (known : List Shape) (answer : Option CanonicalAbiInfo) (abis laid : List CanonicalAbiInfo) (types : List InterfaceType)
    → ((k : ProductKind) (ms : Members) → AreOfMembers abis ms → TellsLayout answer (product k ms)) → abis ≡ laid → AreLaid known laid types → TellsLayout answer (product of_places (members_in known types))
product_told known answer abis laid types h same are =
    h of_places (members_in known types) (subst (λ (xs : List CanonicalAbiInfo). AreOfMembers xs (members_in known types)) (sym same) (members_laid known laid types are))

pub variant_answered : (known : List Shape) (answer : Option (CanonicalAbiInfo × VariantInfo)) (abis laid : List (Option CanonicalAbiInfo)) (payloads : List (Option InterfaceType))
    → ((k : VariantKind) (cs : Cases) → AreOfCases abis cs → TellsVariant answer k cs) → abis ≡ laid → ArePayloadsLaid known laid payloads → TellsVariant answer of_option (unnamed_cases known payloads)
variant_answered known answer abis laid payloads h same are =
    h of_option (unnamed_cases known payloads) (subst (λ (xs : List (Option CanonicalAbiInfo)). AreOfCases xs (unnamed_cases known payloads)) (sym same) (cases_laid known laid payloads are))

-- a size that is told is below 2 ^ 32
pub told_below : (abi : CanonicalAbiInfo) (s : Shape) → HasLayout abi s → wider_size s < 2 ^ 32
told_below abi s h = omega (arith, h.size false, h.size true, abi.in_range, abi.in_range64)

pub length_laid : (known : List Shape) (abis : List (Option CanonicalAbiInfo)) (payloads : List (Option InterfaceType)) → ArePayloadsLaid known abis payloads → length abis ≡ length payloads
length_laid known [] [] h = refl
length_laid known [] (p ∷ ps) h = absurd h
length_laid known (a ∷ abis) [] h = absurd h
length_laid known (a ∷ abis) (p ∷ ps) h = ap (λ (n : ℕ). suc n) (length_laid known abis ps h.1)

-- ---- pairs

pair_at : (wide : Bool) (ka kb : CanonicalAbiInfo) (a b : Shape) (o : ℕ) → HasLayout ka a → HasLayout kb b → o ≡ align_to 0 (align_in wide ka) + size_in wide ka
    → align_to o (align_in wide kb) + size_in wide kb ≡ ends wide (ends wide 0 a) b
pair_at wide ka kb a b o ha hb e =
    let first : o ≡ ends wide 0 a = e ∙ ap (λ (n : ℕ). align_to 0 n + size_in wide ka) (ha.align wide) ∙ ap (λ (n : ℕ). align_to 0 (align wide a) + n) (ha.size wide) in
    ap (λ (n : ℕ). align_to n (align_in wide kb) + size_in wide kb) first
    ∙ ap (λ (n : ℕ). align_to (ends wide 0 a) n + size_in wide kb) (hb.align wide)
    ∙ ap (λ (n : ℕ). align_to (ends wide 0 a) (align wide b) + n) (hb.size wide)

pair_end : (wide : Bool) (a b : Shape) → ends wide (ends wide 0 a) b ≤ size wide (tuple (a ∷ b ∷ []))
unfolding size
pair_end wide a b = members_end-le-size wide of_places (unnamed_members (a ∷ b ∷ []))

-- the value of a pair ends inside it
pub pair_fits : (wide : Bool) (ka kb : CanonicalAbiInfo) (a b : Shape) (o : ℕ) → HasLayout ka a → HasLayout kb b → o ≡ align_to 0 (align_in wide ka) + size_in wide ka
    → size wide (tuple (a ∷ b ∷ [])) < 2 ^ 32 → align_to o (align_in wide kb) + size_in wide kb < 2 ^ 32
pair_fits wide ka kb a b o ha hb e small = omega (arith, pair_at wide ka kb a b o ha hb e, pair_end wide a b)
