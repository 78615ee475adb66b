-- Fields that are read from the bytes at a place.
use Rattle.std.proofs.Common.{Bool, Err, IsUtf8, List, [], Ok, Some, String, append-nil, ap, ap₂, arith, chars, drop, drop-drop, false, inr, length, length-drop, length-take-le, refl, string_bytes, subst, sym, take, true, ℕ, ⊎_elim, ◌+◌, ◌++◌, ◌-◌, ◌<◌, ◌^◌, ◌∙◌, ◌≡◌, ◌≤◌}
use Rattle.std.specs.Prelude.{slice_index}
use Rattle.std.specs.Str.{encode_utf8_all}
use Rattle.std.specs.declared.alloc.Global.{Global}
use Rattle.std.proofs.lemmas.Bool.{cases_lt}
use Rattle.std.proofs.lemmas.List.{get_or-drop, get_or-take, get_or_past, take-append-drop}
use Rattle.canon_lowering.specs.Storing.{narrow}
use Rattle.canon_model.proofs.Numbers.{num_1}
use Rattle.canon_model.proofs.Texts.{spells_chars}
use Rattle.canon_model.specs.Image.{Image, IsField, le_bytes}
use Rattle.canon_model.specs.Layout.{flags_size, scalar_size, size}
use Rattle.canon_model.specs.Memory.{bytes_in, le_number, num}
use Rattle.canon_model.specs.Rep.{IsLeast, ScalarIs, bits_of}
use Rattle.canon_model.specs.Shape.{Name, Scalar, Shape, bool, char, f32, f64, flags, s16, s32, s64, s8, scalar, string, u16, u32, u64, u8}
use Rattle.canon_context.specs.declared.fault.At.TheVariants as place
use Rattle.canon_context.specs.declared.fault.Fault.{Fault}
use Rattle.canon_context.specs.declared.fault.Fault.TheVariants as fault
use Rattle.canon_model.specs.Reach as reach
use Rattle.canon_model.specs.Reach.{StoredFault, no_scalar}
use Rattle.canon_context.specs.Told.{Exactly, LiftBlames}
use Rattle.canon_model.specs.Text.{Spells, in_utf8, utf8}
use Rattle.canon_model.specs.Tree.{Tree, bits, handle, text}
use Rattle.canon_types.specs.Table.{TypeTable, shape_of}
use Rattle.canon_types.specs.declared.types.InterfaceType.{InterfaceType}
use Rattle.canon_types.specs.declared.types.InterfaceType.TheVariants as ty
use Rattle.canon_plan.specs.NoHandle.{scalar_type}
use Rattle.canon_plan.proofs.ScalarTypes.{scalar_shape}
use Rattle.canon_val.specs.Value.{HasScalar, IsLiftedFrom}
use Rattle.canon_val.specs.declared.val.Val.{Val}
use Rattle.canon_val.specs.declared.val.Val.TheVariants as val
use Rattle.canon_model.proofs.NumberBytes.{le_number_bytes}
use Rattle.canon_model.proofs.ImageFields.{length-le_bytes}
use Rattle.canon_plan.specs.Plan.{shape_of_handle, shaped_handle}
use Rattle.canon_plan.specs.declared.plan.HandleType.{HandleType}
use Rattle.canon_resources.specs.Held.{Any}
use Rattle.canon_value_parts.proofs.ResourcesOf.{flags_have_none, resources_resource, scalar_has_none, text_has_none}
use Rattle.canon_value_parts.specs.Resources.{resources}
use Rattle.canon_image_parts.proofs.Numbering.{scalar_plain, stand_none}
use Rattle.canon_image_parts.proofs.Reading.{first_span}
use Rattle.canon_image_parts.specs.Numbered.{numbered_shape, stand_in}
use Rattle.canon_image_parts.specs.declared.error.ImageError.{ImageError}
use Rattle.canon_image_parts.specs.Read.{NumberReadTo, ReadsTo, Spans}
use Rattle.canon_image_parts.specs.Stops.{IsSpelling}
use Rattle.canon_image_parts.specs.declared.error.ImageError.TheVariants as error

-- ---- a number at a place

module _ (bs : List ℕ) (at k : ℕ) (room : at + k ≤ length bs) (small : (i : ℕ) → slice_index bs i < 256) where
  pub number_here : IsField k (num (narrow bs) at k) (drop at bs) (drop (at + k) bs)
  unfolding bytes_in
  number_here =
      let xs : List ℕ = take k (drop at bs) in
      let width : length xs ≡ k = length-take-le k (drop at bs) (omega (arith, length-drop at bs, room)) in
      let below : (i : ℕ) → slice_index xs i < 256 = λ i. ⊎_elim
      (λ (l : i < k). subst (λ x. x < 256) (sym (get_or-take k (drop at bs) i 0 l ∙ get_or-drop at bs i 0)) (small (at + i)))
      (λ (l : k ≤ i). subst (λ x. x < 256) (sym (get_or_past xs i 0 (omega (arith, l, width)))) (omega arith))
      (cases_lt i k) in
      let bytes = le_number_bytes xs below in
      record {
        fits = subst (λ j. le_number xs < 256 ^ j) width bytes.1;
        is = sym (take-append-drop k (drop at bs)) ∙ ap₂ ◌++◌ (sym bytes.0 ∙ ap (λ j. le_bytes j (le_number xs)) width) (drop-drop k at bs);
      }

  pub number_read : (n : ℕ) → n ≡ num (narrow bs) at k → NumberReadTo bs at (at + k) k (Ok n)
  number_read n e = (subst (λ i. IsField k i (drop at bs) (drop (at + k) bs)) (sym e) number_here, refl, room)

-- fewer bytes are left
pub left_short : (bs : List ℕ) (at k : ℕ) → length bs - at < k → at ≤ length bs → length (drop at bs) < k
left_short bs at k h l = omega (arith, h, length-drop at bs)

-- ---- a scalar

pub scalar_some : (k : Scalar) → 1 ≤ scalar_size k
scalar_some bool = omega arith
scalar_some s8 = omega arith
scalar_some u8 = omega arith
scalar_some s16 = omega arith
scalar_some u16 = omega arith
scalar_some s32 = omega arith
scalar_some u32 = omega arith
scalar_some s64 = omega arith
scalar_some u64 = omega arith
scalar_some f32 = omega arith
scalar_some f64 = omega arith
scalar_some char = omega arith

least_by : (k : Scalar) (n : ℕ) → (k ≡ bool → n < 2) → IsLeast k n
least_by bool n h = h refl
least_by s8 n h = tt
least_by u8 n h = tt
least_by s16 n h = tt
least_by u16 n h = tt
least_by s32 n h = tt
least_by u32 n h = tt
least_by s64 n h = tt
least_by u64 n h = tt
least_by f32 n h = tt
least_by f64 n h = tt
least_by char n h = tt

module _ (t : TypeTable) (type : InterfaceType) (k : Scalar) (e : scalar_type type ≡ Some k) (bs : List ℕ) (at : ℕ) where
  here : shape_of t type ≡ scalar k
  here = scalar_shape t type k e

  pub scalar_width : (n : ℕ) → n ≡ size false (shape_of t type) → n ≡ scalar_size k
  unfolding size
  scalar_width n en = en ∙ ap (size false) here

  pub scalar_cut : (to : ℕ) → length (drop at bs) < scalar_size k → ReadsTo bs at to (shape_of t type) (Err (error.Truncated at))
  scalar_cut to short = subst (λ (s : Shape). ReadsTo bs at to s (Err (error.Truncated at))) (sym here) (0, omega arith, (refl, short))

  pub scalar_bad : (to : ℕ) → at + scalar_size k ≤ length bs → ((i : ℕ) → slice_index bs i < 256) → ¬ IsSpelling k (num (narrow bs) at (scalar_size k)) → ReadsTo bs at to (shape_of t type) (Err (error.Malformed at))
  scalar_bad to room small bad = subst (λ (s : Shape). ReadsTo bs at to s (Err (error.Malformed at))) (sym here)
      (0, omega arith, (refl, (num (narrow bs) at (scalar_size k), drop (at + scalar_size k) bs, number_here bs at (scalar_size k) room small, bad)))

  pub scalar_good : (v : Val) (u : Tree) → at + scalar_size k ≤ length bs → ((i : ℕ) → slice_index bs i < 256) → ScalarIs k (num (narrow bs) at (scalar_size k)) u → HasScalar k v u → (k ≡ bool → num (narrow bs) at (scalar_size k) < 2)
      → ReadsTo bs at (at + scalar_size k) (shape_of t type) (Ok v)
  scalar_good v u room small is has least =
      let n = num (narrow bs) at (scalar_size k) in
      let field = number_here bs at (scalar_size k) room small in
      let plain = scalar_plain k v u has in
      let image : Image (scalar k) u (le_bytes (scalar_size k) n) = (n, record { fits = field.fits; is = sym (append-nil _) }, is, least_by k n least) in
      subst (λ (s : Shape). ReadsTo bs at (at + scalar_size k) s (Ok v)) (sym here) (
        u,
        le_bytes (scalar_size k) n,
        record { is = field.is; to_is = omega (arith, length-le_bytes (scalar_size k) n); inside = room },
        subst (λ (w : Tree). Image (scalar k) w (le_bytes (scalar_size k) n)) (sym plain.0) image,
        has,
        stand_none v u (scalar_has_none k v u has) plain.1,
      )

-- ---- a handle

module _ (bs : List ℕ) (from to : ℕ) where
  handle_so : (owned : Bool) (r n : ℕ) → NumberReadTo bs from to 4 (Ok n) → ReadsTo bs from to (shaped_handle owned r) (Ok (val.Resource (stand_in n)))
  handle_so true r n (field, em, inside) = (
    handle n,
    le_bytes 4 n,
    record { is = field.is; to_is = omega (arith, em, length-le_bytes 4 n); inside = inside },
    (n, record { fits = field.fits; is = sym (append-nil _) }, refl, tt),
    (stand_in n, n, refl, refl),
    resources_resource (stand_in n),
  )
  handle_so false r n (field, em, inside) = (
    handle n,
    le_bytes 4 n,
    record { is = field.is; to_is = omega (arith, em, length-le_bytes 4 n); inside = inside },
    (n, record { fits = field.fits; is = sym (append-nil _) }, refl, tt),
    (stand_in n, n, refl, refl),
    resources_resource (stand_in n),
  )

  pub handle_read : (h : HandleType) (n : ℕ) (x : Any) → x ≡ stand_in n → NumberReadTo bs from to 4 (Ok n) → ReadsTo bs from to (shape_of_handle h) (Ok (val.Resource x))
  handle_read h n x e g = subst (λ (y : Any). ReadsTo bs from to (shape_of_handle h) (Ok (val.Resource y))) (sym e) (handle_so h.owned h.resource n g)

  cut_so : (owned : Bool) (r : ℕ) → length (drop from bs) < 4 → ReadsTo bs from to (shaped_handle owned r) (Err (error.Truncated from))
  cut_so true r short = (0, omega arith, (refl, short))
  cut_so false r short = (0, omega arith, (refl, short))

  pub handle_cut : (h : HandleType) (e : ImageError) → NumberReadTo bs from to 4 (Err e) → ReadsTo bs from to (shape_of_handle h) (Err e)
  handle_cut h e (is, short) = subst (λ (x : ImageError). ReadsTo bs from to (shape_of_handle h) (Err x)) (sym is) (cut_so h.owned h.resource short)

-- ---- a text after its count

module _ (bs : List ℕ) (from mid n : ℕ) (count : NumberReadTo bs from mid 8 (Ok n)) where
  pub text_cut : (to : ℕ) → length (drop mid bs) < n → ReadsTo bs from to string (Err (error.Truncated mid))
  text_cut to short = (8, count.1, inr (n, drop mid bs, 0, count.0, omega arith, (refl, short)))

  pub text_bad : (to : ℕ) → mid + n ≤ length bs → ¬ IsUtf8 (take n (drop mid bs)) → ReadsTo bs from to string (Err (error.Malformed mid))
  text_bad to room bad = (8, count.1, inr (n, drop mid bs, 0, count.0, omega arith, (refl, (omega (arith, length-drop mid bs, room), λ cs all e. bad (cs, (all, sym e))))))

  pub text_good : (s : String Global) → mid + n ≤ length bs → IsUtf8 (take n (drop mid bs)) → string_bytes s ≡ take n (drop mid bs) → ReadsTo bs from (mid + n) string (Ok (val.String s))
  text_good s room good is =
      let xs : List ℕ = take n (drop mid bs) in
      let width : length xs ≡ n = length-take-le n (drop mid bs) (omega (arith, length-drop mid bs, room)) in
      let cs : List ℕ = chars xs in
      let spelled : Spells in_utf8 xs cs = spells_chars xs good in
      let same : encode_utf8_all cs ≡ xs = spelled.is in
      let many : length (encode_utf8_all cs) ≡ n = ap length same ∙ width in
      let span : Spans bs mid (mid + n) xs = record { is = sym (take-append-drop n (drop mid bs)) ∙ ap (λ l. xs ++ l) (drop-drop n mid bs); to_is = omega (arith, width); inside = room } in (
        text cs n,
        le_bytes 8 n ++ xs,
        first_span bs from mid 8 n count.0 count.1 (mid + n) xs span,
        (cs, n, refl, spelled.can, record { fits = subst (λ i. i < 256 ^ 8) (sym many) count.0.fits; is = ap₂ (λ i l. le_bytes 8 i ++ l) (sym many) (sym same) }),
        (cs, n, (s, refl, subst (λ l. Spells in_utf8 l cs) (sym is) spelled), refl),
        text_has_none cs (val.String s) (s, refl, subst (λ l. Spells in_utf8 l cs) (sym is) spelled),
      )

-- ---- flags

flags_none : (names : List Name) (v : Val) (t : Tree) → IsLiftedFrom (flags names) v t → resources v ≡ []
flags_none names v t (set, bs, of, all, et, marked, order) = flags_have_none set v of

module _ (s : Shape) (names : List Name) (is : s ≡ flags names) (bs : List ℕ) (at : ℕ) where
  pub flags_cut : (to : ℕ) → length (drop at bs) < flags_size (length names) → ReadsTo bs at to s (Err (error.Truncated at))
  flags_cut to short = subst (λ (x : Shape). ReadsTo bs at to x (Err (error.Truncated at))) (sym is) (0, omega arith, (refl, short))

  pub flags_bad : (to : ℕ) → at + flags_size (length names) ≤ length bs → ((i : ℕ) → slice_index bs i < 256) → 2 ^ length names ≤ num (narrow bs) at (flags_size (length names)) → ReadsTo bs at to s (Err (error.Malformed at))
  flags_bad to room small high = subst (λ (x : Shape). ReadsTo bs at to x (Err (error.Malformed at))) (sym is)
      (0, omega arith, (refl, (num (narrow bs) at (flags_size (length names)), drop (at + flags_size (length names)) bs, number_here bs at (flags_size (length names)) room small, λ l. omega (arith, l, high))))

  pub flags_good : (v : Val) → at + flags_size (length names) ≤ length bs → ((i : ℕ) → slice_index bs i < 256) → num (narrow bs) at (flags_size (length names)) < 2 ^ length names
      → IsLiftedFrom s v (bits (bits_of (length names) (num (narrow bs) at (flags_size (length names))))) → ReadsTo bs at (at + flags_size (length names)) s (Ok v)
  flags_good v room small low lifted =
      let n = num (narrow bs) at (flags_size (length names)) in
      let field = number_here bs at (flags_size (length names)) room small in (
        bits (bits_of (length names) n),
        le_bytes (flags_size (length names)) n,
        record { is = field.is; to_is = omega (arith, length-le_bytes (flags_size (length names)) n); inside = room },
        subst (λ (x : Shape). Image (numbered_shape x) (bits (bits_of (length names) n)) (le_bytes (flags_size (length names)) n)) (sym is) (n, low, refl, record { fits = field.fits; is = sym (append-nil _) }),
        lifted,
        flags_none names v (bits (bits_of (length names) n)) (subst (λ (x : Shape). IsLiftedFrom x v (bits (bits_of (length names) n))) is lifted),
      )

pub only_bool : (type : InterfaceType) → scalar_type type ≡ Some bool → type ≡ ty.Bool
only_bool ty.Bool e = refl
only_bool ty.S8 e = cc
only_bool ty.U8 e = cc
only_bool ty.S16 e = cc
only_bool ty.U16 e = cc
only_bool ty.S32 e = cc
only_bool ty.U32 e = cc
only_bool ty.S64 e = cc
only_bool ty.U64 e = cc
only_bool ty.Float32 e = cc
only_bool ty.Float64 e = cc
only_bool ty.Char e = cc
only_bool ty.String e = cc
only_bool (ty.Own i) e = cc
only_bool (ty.Borrow i) e = cc
only_bool (ty.List i) e = cc
only_bool (ty.Map i) e = cc
only_bool (ty.Record i) e = cc
only_bool (ty.Tuple i) e = cc
only_bool (ty.Variant i) e = cc
only_bool (ty.Enum i) e = cc
only_bool (ty.Option i) e = cc
only_bool (ty.Result i) e = cc
only_bool (ty.Flags i) e = cc
only_bool (ty.FixedLengthList i) e = cc

-- a bool's byte is its number
bool_number : (bs : List ℕ) (at : ℕ) → at + 1 ≤ length bs → num (narrow bs) at 1 ≡ slice_index bs at
bool_number bs at room = num_1 bs false at room

pub bool_high : (type : InterfaceType) (k : Scalar) → scalar_type type ≡ Some k → scalar_type type ≡ Some bool → (bs : List ℕ) (at : ℕ) → at + scalar_size k ≤ length bs → 2 ≤ slice_index bs at
    → ¬ IsSpelling k (num (narrow bs) at (scalar_size k))
bool_high type k e f bs at room high =
    let both : Some k ≡ Some bool = sym e ∙ f in
    let same : bool ≡ k = cc in
    subst (λ (j : Scalar). at + scalar_size j ≤ length bs → ¬ IsSpelling j (num (narrow bs) at (scalar_size j))) same (λ r (t, is, least). omega (arith, least, high, bool_number bs at r)) room

pub bool_low : (type : InterfaceType) (k : Scalar) → scalar_type type ≡ Some k → (bs : List ℕ) (at : ℕ) → at + scalar_size k ≤ length bs → (scalar_type type ≡ Some bool → slice_index bs at < 2)
    → k ≡ bool → num (narrow bs) at (scalar_size k) < 2
bool_low type k e bs at room low same =
    subst (λ (j : Scalar). at + scalar_size j ≤ length bs → num (narrow bs) at (scalar_size j) < 2) (sym same) (λ r. omega (arith, low (e ∙ ap Some same), bool_number bs at r)) room

-- no char
pub scalar_no_char : (k : Scalar) (bs : List ℕ) (at : ℕ) (e : Fault) → e ≡ fault.InvalidChar (place.Address at) → LiftBlames (Exactly (StoredFault utf8 (narrow bs) (scalar k) at)) ⊥ e → ¬ IsSpelling k (num (narrow bs) at (scalar_size k))
scalar_no_char k bs at e is h = no_char k (subst (LiftBlames (Exactly (StoredFault utf8 (narrow bs) (scalar k) at)) ⊥) is h)
  where
    no_char : (k : Scalar) → StoredFault utf8 (narrow bs) (scalar k) at no_scalar (reach.address at) → ¬ IsSpelling k (num (narrow bs) at (scalar_size k))
    no_char char h (t, is, least) = h.1 is.1
    no_char bool h g = absurd h
    no_char s8 h g = absurd h
    no_char u8 h g = absurd h
    no_char s16 h g = absurd h
    no_char u16 h g = absurd h
    no_char s32 h g = absurd h
    no_char u32 h g = absurd h
    no_char s64 h g = absurd h
    no_char u64 h g = absurd h
    no_char f32 h g = absurd h
    no_char f64 h g = absurd h
