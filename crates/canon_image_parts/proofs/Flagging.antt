-- Flags at the end of some bytes.
use Rattle.std.proofs.Common.{Err, List, Ok, Result, String, Vec, [], append-nil, ap, arith, drop, inl, inr, length, length-append, length-drop, length-take-le, refl, replicate, subst, sym, take, ℕ, ⊎_elim, ◌+◌, ◌++◌, ◌⊎◌, ◌<◌, ◌^◌, ◌∙◌, ◌≡◌, ◌≤◌}
use Rattle.std.specs.Prelude.{slice_index}
use Rattle.std.specs.declared.alloc.Global.{Global}
use Rattle.std.proofs.lemmas.Bool.{cases_lt, false≢true}
use Rattle.std.proofs.lemmas.List.{ext_get_or, get_or-drop, get_or-take, get_or_append_left, get_or_past, take-append-drop, take_all}
use Rattle.std.proofs.Math.Seq.{take-append_seam, take-length}
use Rattle.canon_lowering.specs.Storing.{narrow}
use Rattle.canon_model.specs.Image.{IsField, le_bytes}
use Rattle.canon_model.specs.Layout.{flags_size}
use Rattle.canon_model.specs.Memory.{bytes_in, cap, le_number, num}
use Rattle.canon_model.specs.Rep.{bits_of}
use Rattle.canon_model.specs.Shape.{Name, Shape, flags}
use Rattle.canon_model.specs.Tree.{bits}
use Rattle.canon_types.specs.Keeps.{names_of}
use Rattle.canon_value_parts.specs.Flags.{SomeUnknown}
use Rattle.canon_context.specs.declared.fault.Fault.{Fault}
use Rattle.canon_context.specs.declared.fault.Fault.TheVariants as fault
use Rattle.canon_val.specs.declared.val.Val.TheVariants as val
use Rattle.canon_value_parts.proofs.MapsAndFlags.{places_flags}
use Rattle.canon_model.proofs.NumberBytes.{le_number_bytes}
use Rattle.canon_resources.specs.Held.{Any}
use Rattle.canon_value_parts.proofs.ResourcesOf.{set_has_none}
use Rattle.canon_image_parts.proofs.Writing.{puts_plain}
use Rattle.canon_image_parts.specs.Written.{AreMarkedAt, MarksTo, WritesTo, sink}

-- what stands before them stays
front_kept : (old zeros now : List ℕ) (names set : List Name) → AreMarkedAt (old ++ zeros) now (length old) names set → length old ≤ length now → take (length old) now ≡ old
front_kept old zeros now names set h long = ext_get_or 0 (take (length old) now) old (length-take-le (length old) now long) (λ i l.
    let inside : i < length old = omega (arith, l, length-take-le (length old) now long) in
    get_or-take (length old) now i 0 inside ∙ (h.writes.kept i (λ b. outside i inside b) ∙ get_or_append_left old zeros 0 i inside))
  where
    outside : (i : ℕ) → i < length old → ((length old ≤ i) × (i < length old + flags_size (length names))) ⊎ ⊥ → ⊥
    outside i l (inl b) = omega (arith, l, b.0)
    outside i l (inr b) = b

module _ (old zeros now : List ℕ) (names : List Name) (set : Vec (String Global) Global) (s : Shape) (place : ℕ) (is : s ≡ flags names) (count : length zeros ≡ flags_size (length names)) where
  pub flags_written : (next : ℕ) → AreMarkedAt (old ++ zeros) now (length old) names (names_of set.items) → next ≡ cap (place + 1) → (l : List Any) → WritesTo (sink old l) (sink now l) s (val.Flags set) place (Ok next)
  unfolding bytes_in
  flags_written next h counted l =
      let at : ℕ = length old in
      let size : ℕ = flags_size (length names) in
      let bs : List ℕ = drop at now in
      let long : length now ≡ at + size = h.writes.same_length ∙ length-append old zeros ∙ ap (λ n. at + n) count in
      let split : now ≡ old ++ bs = sym (take-append-drop at now) ∙ ap (λ l. l ++ bs) (front_kept old zeros now names (names_of set.items) h (omega (arith, long))) in
      let width : length bs ≡ size = omega (arith, length-drop at now, long) in
      let here : num (narrow now) at size ≡ le_number bs = ap le_number (ap (λ n. take n bs) (sym width) ∙ take-length bs) in
      let small : (i : ℕ) → slice_index bs i < 256 = λ i. ⊎_elim
      (λ (l : i < size). subst (λ x. x < 256) (sym (get_or-drop at now i 0)) (h.below i l))
      (λ (l : size ≤ i). subst (λ x. x < 256) (sym (get_or_past bs i 0 (omega (arith, l, width)))) (omega arith))
      (cases_lt i size) in
      let bytes = le_number_bytes bs small in
      let n : ℕ = num (narrow now) at size in
      let (least, marked, known) = h.marked in
      let field : IsField (flags_size (length names)) n bs [] = record {
        fits = subst (λ k. n < 256 ^ k) width (subst (λ x. x < 256 ^ length bs) (sym here) bytes.1);
        is = sym bytes.0 ∙ (ap (λ k. le_bytes k (le_number bs)) width ∙ (ap (le_bytes (flags_size (length names))) (sym here) ∙ sym (append-nil _)));
      } in
      let adds = puts_plain (sink old l) (sink now l) bs (val.Flags set) (bits (bits_of (length names) n)) (split, refl) (set_has_none set) refl in
      subst (λ (x : Shape). WritesTo (sink old l) (sink now l) x (val.Flags set) place (Ok next)) (sym is) (record {
        written = (bits (bits_of (length names) n), bs, adds, (names_of set.items, bits_of (length names) n, (set, refl, refl), known, refl, marked, λ strict. absurd (false≢true strict)), (n, least, refl, field));
        counted = omega (arith, counted, places_flags (names_of set.items) (val.Flags set) (set, refl, refl));
        told = tt;
      })

pub flags_unknown : (old now : List ℕ) (names : List Name) (set : Vec (String Global) Global) (s : Shape) (place : ℕ) → s ≡ flags names → SomeUnknown names (names_of set.items) → place < 2 ^ 64
    → (l : List Any) → WritesTo (sink old l) (sink now l) s (val.Flags set) place (Err (fault.UnknownFlag place))
flags_unknown old now names set s place is unknown few l = subst (λ (x : Shape). WritesTo (sink old l) (sink now l) x (val.Flags set) place (Err (fault.UnknownFlag place))) (sym is) (record {
  written = tt;
  counted = (0, omega (arith, few), (refl, (names_of set.items, (set, refl, refl), unknown)));
  told = tt;
})

-- what was written to all bytes of a vector
pub whole : (n : ℕ) (xs ys zs : List ℕ) → zs ≡ xs → length ys ≡ length zs → n ≡ length xs → take n (ys ++ drop (length ys) xs) ≡ ys
whole n xs ys zs e l is =
    ap (λ k. take k (ys ++ drop (length ys) xs)) (let same : n ≡ length ys = omega (arith, l, is, ap length e) in same) ∙ take-append_seam ys (drop (length ys) xs)

-- bytes that were filled up with zeros
pub filled : (old new : List ℕ) (n m : ℕ) → length old ≤ n → new ≡ take n old ++ replicate m 0 → new ≡ old ++ replicate m 0
filled old new n m long e = e ∙ ap (λ l. l ++ replicate m 0) (take_all n old long)

-- the same, or a name that isn't the type's
pub flags_told : (old zeros mid after : List ℕ) (at place : ℕ) (names : List Name) (set : Vec (String Global) Global) (s : Shape) (r : Result ℕ Fault) → s ≡ flags names → mid ≡ old ++ zeros
    → length mid ≡ at + flags_size (length names) → at ≡ length old
    → place < 2 ^ 64 → MarksTo mid after at names (names_of set.items) place r → (l : List Any) → WritesTo (sink old l) (sink after l) s (val.Flags set) place r
flags_told old zeros mid after at place names set s (Err e) is em long ea few (same, unknown) l =
    subst (λ x. WritesTo (sink old l) (sink after l) s (val.Flags set) place (Err x)) (sym same) (flags_unknown old after names set s place is unknown few l)
flags_told old zeros mid after at place names set s (Ok next) is em long ea few (h, counted) l =
    flags_written old zeros after names set s place is (omega (arith, long, ea, ap length em, length-append old zeros)) next
    (subst (λ k. AreMarkedAt (old ++ zeros) after k names (names_of set.items)) ea (subst (λ xs. AreMarkedAt xs after at names (names_of set.items)) em h)) counted l
