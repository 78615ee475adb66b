-- Cases with payloads: where a payload stands, and what comes of it.
use Rattle.std.proofs.Common.{◌≡◌, ◌≤◌, ◌<◌, ◌+◌, ◌%◌, ◌||◌, ◌∙◌, Bool, List, ap, arith, false, length, refl, subst, sym, true, ℕ}
use Rattle.canon_abi.specs.Abi.{HasInfo}
use Rattle.canon_abi.specs.Sizes.{tag_bytes}
use Rattle.canon_abi.specs.declared.abi.VariantInfo.{VariantInfo}
use Rattle.canon_lowering.specs.Storing.{narrow}
use Rattle.canon_model.proofs.Layouts.{payloads_fit, tag-le-size, variant_room}
use Rattle.canon_model.specs.Layout.{align, payload_offset, payload_shape, size}
use Rattle.canon_model.specs.Memory.{num}
use Rattle.canon_model.specs.Shape.{Cases, Shape, VariantKind, case_count, variant}
use Rattle.canon_types.specs.Depth.{variant_cases}
use Rattle.canon_reading.specs.Spots.{payload_spot, stored, tag_in}

-- ---- the bytes of a discriminant and of a payload

-- a type of cases by its numbers
pub record IsOfCases (s : Shape) (info : VariantInfo) (memory : List ℕ) (at : ℕ) : Type 0 where
  pub kind : VariantKind
  pub is : s ≡ variant kind (variant_cases s)
  pub numbers : HasInfo info (variant_cases s)
  pub aligned : at % align false s ≡ 0
  pub inside : at + size false s ≤ length memory

module _ (s : Shape) (info : VariantInfo) (memory : List ℕ) (at : ℕ) (h : IsOfCases s info memory at) where
  abbrev cs : Cases
  cs = variant_cases s

  abbrev lift_whole : Shape
  lift_whole = variant h.kind cs

  room : at + size false lift_whole ≤ length memory
  room = subst (λ (z : Shape). at + size false z ≤ length memory) h.is h.inside

  even : at % align false lift_whole ≡ 0
  even = subst (λ (z : Shape). at % align false z ≡ 0) h.is h.aligned

  pub tag_room : (bytes : List ℕ) → bytes ≡ memory → at + tag_bytes info.size ≤ length bytes
  tag_room bytes same = omega (arith, room, tag-le-size false h.kind cs, h.numbers.size, ap length same)

  pub tag_is : (bytes : List ℕ) (n : ℕ) → bytes ≡ memory → n ≡ num (narrow bytes) at (tag_bytes info.size) → tag_in (narrow memory) (stored at) cs ≡ n
  tag_is bytes n same is = sym (is ∙ ap (λ xs. num (narrow xs) at (tag_bytes info.size)) same ∙ ap (λ k. num (narrow memory) at k) h.numbers.size)

  module _ (offset : ℕ) (off : offset ≡ info.payload_offset32) where
    offset_is : offset ≡ payload_offset false cs
    offset_is = off ∙ (h.numbers.offset false)

    pub place_is : stored (at + offset) ≡ payload_spot (narrow memory) (stored at) cs
    place_is = ap (λ n. stored (at + n)) offset_is

    pub place_small : at + offset ≤ length memory
    place_small = omega (arith, room, offset_is, variant_room false h.kind cs)

    module _ (d : ℕ) (few : d < case_count cs) where
      pub payload_aligned : (at + offset) % align false (payload_shape cs d) ≡ 0
      payload_aligned = subst (λ n. (at + n) % align false (payload_shape cs d) ≡ 0) (sym offset_is) ((payloads_fit false h.kind cs).aligned at d few even)

      pub payload_inside : at + offset + size false (payload_shape cs d) ≤ length memory
      payload_inside = omega (arith, room, offset_is, (payloads_fit false h.kind cs).inside d few)

-- ---- what comes of a payload

pub or_left : (a b : Bool) → a ≡ true → (a || b) ≡ true
or_left true b e = refl
or_left false b e = absurd (cc)

pub or_right : (a b : Bool) → b ≡ true → (a || b) ≡ true
or_right true b e = refl
or_right false b e = e
