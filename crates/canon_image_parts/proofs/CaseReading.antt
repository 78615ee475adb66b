-- A case that is read: its number, and then its payload.
use Rattle.std.proofs.Common.{Err, List, ap, arith, drop, inl, length, refl, subst, sym, ℕ, ◌*◌, ◌+◌, ◌-◌, ◌<◌, ◌∙◌, ◌≡◌, ◌≤◌}
use Rattle.std.specs.Prelude.{slice_index}
use Rattle.std.proofs.lemmas.List.{length-map}
use Rattle.canon_lowering.specs.Copies.{case_members}
use Rattle.canon_lowering.specs.Storing.{narrow}
use Rattle.canon_model.specs.Image.{IsField}
use Rattle.canon_model.specs.Layout.{tag_size}
use Rattle.canon_model.specs.Memory.{num}
use Rattle.canon_model.specs.Shape.{Members, Shape, VariantKind, case_count, member_count, variant}
use Rattle.canon_types.specs.Depth.{deepest, depth, variant_cases}
use Rattle.canon_types.specs.Keeps.{flags_type, names_of}
use Rattle.canon_types.specs.Table.{IsDefined, TypeTable}
use Rattle.canon_types.specs.declared.types.InterfaceType.TheVariants as ty
use Rattle.canon_types.specs.declared.types.TypeFlags.{TypeFlags}
use Rattle.canon_value_parts.specs.Flags.{flag_names}
use Rattle.canon_val.specs.declared.val.Val.{Val}
use Rattle.canon_value_parts.proofs.Cases.{case_shallow}
use Rattle.canon_value_parts.proofs.FlagNames.{names_are}
use Rattle.canon_image_parts.proofs.Fetching.{number_here}
use Rattle.canon_image_parts.proofs.Numbering.{numbered_count}
use Rattle.canon_image_parts.proofs.Reading.{PartsRead, image_have_count}
use Rattle.canon_image_parts.specs.Read.{ReadsTo}
use Rattle.canon_image_parts.specs.declared.error.ImageError.TheVariants as error

pub tag_here : (bs : List ℕ) (at n w d : ℕ) → n ≡ w → at + n ≤ length bs → ((i : ℕ) → slice_index bs i < 256) → d ≡ num (narrow bs) at w → IsField w d (drop at bs) (drop (at + n) bs) × (at + n ≡ at + w)
tag_here bs at n w d en room small ed =
    let here = number_here bs at w (omega (arith, room, en)) small in
    (subst (λ (j : ℕ). IsField w d (drop at bs) (drop (at + j) bs)) (sym en) (subst (λ (j : ℕ). IsField w j (drop at bs) (drop (at + w) bs)) (sym ed) here), omega (arith, en))

module _ (s : Shape) (k : VariantKind) (is : s ≡ variant k (variant_cases s)) (bs : List ℕ) (at : ℕ) where
  pub case_cut : (to : ℕ) → length (drop at bs) < tag_size (case_count (variant_cases s)) → ReadsTo bs at to s (Err (error.Truncated at))
  case_cut to short = subst (λ (x : Shape). ReadsTo bs at to x (Err (error.Truncated at))) (sym is) (0, omega arith, inl (refl, subst (λ n. length (drop at bs) < tag_size n) (sym (numbered_count (variant_cases s))) short))

  pub case_none : (to n d : ℕ) → IsField (tag_size (case_count (variant_cases s))) d (drop at bs) (drop (at + n) bs) → case_count (variant_cases s) ≤ d → ReadsTo bs at to s (Err (error.Malformed at))
  case_none to n d field past =
      let many = numbered_count (variant_cases s) in
      let spelled = subst (λ m. IsField (tag_size m) d (drop at bs) (drop (at + n) bs)) (sym many) field in
      subst (λ (x : Shape). ReadsTo bs at to x (Err (error.Malformed at))) (sym is) (0, omega arith, inl (refl, (d, drop (at + n) bs, spelled, λ l. omega (arith, l, past, many))))

  pub case_falls : (d : ℕ) (ms : Members) → ms ≡ case_members (variant_cases s) d → 4 * deepest ms + 1 < 4 * depth s - 1
  case_falls d ms e = omega (arith, ap deepest e, case_shallow (variant_cases s) d, ap depth is)

pub payload_count : (bs : List ℕ) (from to : ℕ) (ms ns : Members) (vs : List Val) → ms ≡ ns → PartsRead bs from to ms vs → length vs ≡ member_count ns
payload_count bs from to ms ns vs e (ts, xs, span, images, are, numbers) = image_have_count ms vs ts are ∙ ap member_count e

pub flags_many : (t : TypeTable) (i : ℕ) (f : TypeFlags) (n : ℕ) → IsDefined t (ty.Flags i) (flags_type f) → n ≡ length f.names.keys → n ≡ length (flag_names t i)
flags_many t i f n is e =
    let counted : length (names_of f.names.keys) ≡ length f.names.keys = simp length-map in
    e ∙ (sym counted ∙ ap length (sym (names_are t i f is)))
