-- The images of values, in a row.
use Rattle.std.proofs.Common.{All, Bool, List, [], ap, arith, false, inl, length, refl, subst, subst₂, suc, sym, true, zero, ℕ, ◌&&◌, ◌<◌, ◌∙◌, ◌∷◌, ◌≡◌}
use Rattle.std.specs.Prelude.{IsTrue, slice_index_or}
use Rattle.std.proofs.lemmas.List.Elements.{All-head, All-tail}
use Rattle.canon_model.proofs.Images.{image_bytes}
use Rattle.canon_model.specs.Shape.{Members, Shape, member, no_members}
use Rattle.canon_model.specs.Text.{utf8}
use Rattle.canon_model.specs.Tree.{no_trees, tree}
use Rattle.canon_types.specs.Table.{Knows, TypeTable, members_of, shape_of}
use Rattle.canon_types.specs.declared.types.InterfaceType.{InterfaceType}
use Rattle.canon_plan.specs.NoHandle.{HasNoHandle, HaveNoHandle, has_no_handle, have_no_handle}
use Rattle.canon_context.specs.declared.fault.Fault.{Fault}
use Rattle.canon_context.specs.declared.fault.Fault.TheVariants as fault
use Rattle.canon_value_parts.specs.Fails.{BlamesValue}
use Rattle.canon_value_parts.proofs.OneValue.{tree_one}
use Rattle.canon_value_parts.proofs.Values.{failure_excludes}
use Rattle.canon_val.specs.declared.val.Val.{Val}
use Rattle.canon_image_parts.specs.Written.{IsTypeFault}
use Rattle.canon_recording_parts.proofs.Formats.{before_sound, nothing_sound, sized_sound}
use Rattle.canon_recording_parts.specs.Format.{Format, IsFormat, before, for_each}
use Rattle.canon_recording.specs.Fits.{ArePlainValues, AreValuesOf, IsValueOf}
use Rattle.canon_recording.specs.Recordings.{SpellsValue, value, values}
use Rattle.canon_image_parts.proofs.Exact.{failing}

-- ---- a value has one image

pub spelled_once : (s : Shape) (v : Val) (xs ys : List ℕ) → SpellsValue false s v xs → SpellsValue false s v ys → xs ≡ ys
spelled_once s v xs ys (t, h, is) (u, g, is2) = image_bytes s t u xs ys is is2 (tree_one s v t u h g)

-- ---- a value of the type has no fault

pub recorded_no_fault : (s : Shape) (v : Val) (e : Fault) → IsTypeFault e → BlamesValue utf8 s v e → ¬ IsValueOf s v
recorded_no_fault s v e told blames (t, has) =
    let (how, j, kind, fails) = failing s v e told blames in
    failure_excludes how (member [] s no_members) (v ∷ []) j (tree t no_trees) kind (inl fails) (v, [], t, no_trees, refl, refl, has, (refl, refl))

-- ---- values by their types

abbrev pub typed : Bool → TypeTable → InterfaceType → Format Val
typed lifted t ty = value lifted (shape_of t ty)

pub values_each : (lifted : Bool) (t : TypeTable) (tys : List InterfaceType) → for_each (typed lifted t) tys ≡ values lifted (members_of t tys)
values_each lifted t [] = refl
values_each lifted t (ty ∷ tys) = ap (before (value lifted (shape_of t ty))) (values_each lifted t tys)

pub value_sound : (s : Shape) → IsFormat (value false s)
value_sound s = sized_sound (SpellsValue false s) (spelled_once s) 8

pub typed_sound : (t : TypeTable) (ty : InterfaceType) → IsFormat (typed false t ty)
typed_sound t ty = value_sound (shape_of t ty)

pub recorded_values_sound : (ms : Members) → IsFormat (values false ms)
recorded_values_sound no_members = nothing_sound
recorded_values_sound (member name s ms) = before_sound (value false s) (values false ms) (value_sound s) (recorded_values_sound ms)

-- what is said of one of the values
pub record IsGivenAt (t : TypeTable) (ty : InterfaceType) (v : Val) : Type 0 where
  pub known : Knows t ty
  pub no_handle : HasNoHandle (shape_of t ty)
  pub of : IsValueOf (shape_of t ty) v

pub given_count : (t : TypeTable) (tys : List InterfaceType) (vs : List Val) → AreValuesOf (members_of t tys) vs → length vs ≡ length tys
given_count t [] vs (ts, (e, f)) = ap length e
given_count t (ty ∷ tys) vs (ts, (v, others, u, us, e, f, h, g)) = ap length e ∙ ap suc (given_count t tys others (us, g))

and_left : (a b : Bool) → IsTrue (a && b) → IsTrue a
and_left true b h = refl
and_left false b h = h

and_right : (a b : Bool) → IsTrue (a && b) → IsTrue b
and_right true b h = h
and_right false b h = absurd (omega_no h)
  where
    omega_no : ¬ IsTrue false
    omega_no e = cc

pub given_at : (t : TypeTable) (tys : List InterfaceType) (vs : List Val) (k : ℕ) (ty : InterfaceType) (v : Val) → k < length tys → slice_index_or tys k ty ≡ ty → slice_index_or vs k v ≡ v
    → All (Knows t) tys → ArePlainValues (members_of t tys) vs → IsGivenAt t ty v
given_at t [] vs k ty v more te ve known given = absurd (omega (arith, more))
given_at t (x ∷ tys) vs zero ty v more te ve known given =
    let (ts, (w, others, u, us, e, f, h, g)) = given.are in
    let first : w ≡ v = ap (λ (l : List Val). slice_index_or l 0 v) (sym e) ∙ ve in
    record {
      known = subst (Knows t) te (All-head (Knows t) x tys known);
      no_handle = subst (λ i. HasNoHandle (shape_of t i)) te (and_left (has_no_handle (shape_of t x)) (have_no_handle (members_of t tys)) given.no_handle);
      of = subst₂ (λ i j. IsValueOf (shape_of t i) j) te first (u, h);
    }
given_at t (x ∷ tys) vs (suc k) ty v more te ve known given =
    let (ts, (w, others, u, us, e, f, h, g)) = given.are in
    let next : slice_index_or others k v ≡ v = ap (λ (l : List Val). slice_index_or l (suc k) v) (sym e) ∙ ve in
    given_at t tys others k ty v (omega (arith, more)) te next (All-tail (Knows t) x tys known) (record {
      no_handle = and_right (has_no_handle (shape_of t x)) (have_no_handle (members_of t tys)) given.no_handle;
      are = (us, g);
    })

pub known_at : (t : TypeTable) (tys : List InterfaceType) (k : ℕ) (ty : InterfaceType) → k < length tys → slice_index_or tys k ty ≡ ty → All (Knows t) tys → HaveNoHandle (members_of t tys) → Knows t ty × HasNoHandle (shape_of t ty)
known_at t [] k ty more te known free = absurd (omega (arith, more))
known_at t (x ∷ tys) zero ty more te known free =
    (subst (Knows t) te (All-head (Knows t) x tys known), subst (λ i. HasNoHandle (shape_of t i)) te (and_left (has_no_handle (shape_of t x)) (have_no_handle (members_of t tys)) free))
known_at t (x ∷ tys) (suc k) ty more te known free = known_at t tys k ty (omega (arith, more)) te (All-tail (Knows t) x tys known) (and_right (has_no_handle (shape_of t x)) (have_no_handle (members_of t tys)) free)
