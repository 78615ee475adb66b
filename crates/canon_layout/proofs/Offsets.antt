-- One member of a row is passed: where it begins and ends, and what is printed of it.
use Rattle.std.proofs.Common.{◌≡◌, ◌<◌, ◌^◌, ◌+◌, ◌++◌, ℕ, zero, suc, List, [], ◌∷◌, map, length, drop, drop-cons, slice_index_or, false, string_bytes, ap, sym, subst, ◌∙◌, arith, append_assoc}
use Rattle.std.proofs.lemmas.List.Elements.{All-tail}
use Rattle.std.specs.List.{All}
use Rattle.std.specs.Fmt.{decimal}
use Rattle.canon_abi.specs.Abi.{HasLayout}
use Rattle.canon_abi.specs.declared.abi.CanonicalAbiInfo.{CanonicalAbiInfo}
use Rattle.canon_model.specs.Layout.{align_to, begins, ends, members_end, size}
use Rattle.canon_model.specs.Shape.{Members, Name, ProductKind, Shape, member, product}
use Rattle.canon_model.proofs.Layouts.{members_end-le, members_end-le-size}
use Rattle.canon_types.proofs.Laid.{told_below}
use Rattle.canon_types.specs.Keeps.{fields_type}
use Rattle.canon_types.specs.declared.types.InterfaceType.{InterfaceType}
use Rattle.canon_types.specs.declared.types.RecordField.{RecordField}
use Rattle.canon_types.specs.Table.{Knows, TypeTable, fields_in, members_in, parts, shape_in}
use Rattle.canon_layout.specs.Lines.{offsets_text}

pub drop_next : {A : Type 0} → (xs : List A) (i : ℕ) (x : A) → i < length xs → x ≡ slice_index_or xs i x → drop i xs ≡ x ∷ drop (i + 1) xs
drop_next xs i x h is =
    let e : suc i ≡ i + 1 = omega arith in
    drop-cons xs i x h ∙ (ap (λ y. y ∷ drop (suc i) xs) (sym is) ∙ ap (λ n. x ∷ drop n xs) e)

pub layout_next_type : (known : List Shape) (types : List InterfaceType) (i : ℕ) (x : InterfaceType) → i < length types → x ≡ slice_index_or types i x
    → members_in known (drop i types) ≡ member [] (shape_in known x) (members_in known (drop (i + 1) types))
layout_next_type known types i x h is = ap (members_in known) (drop_next types i x h is)

pub next_field : (known : List Shape) (fields : List RecordField) (i : ℕ) (x : RecordField) → i < length fields → x ≡ slice_index_or fields i x
    → fields_in known (map (λ f. (string_bytes f.name, f.ty)) (drop i fields)) ≡ member (string_bytes x.name) (shape_in known x.ty) (fields_in known (map (λ f. (string_bytes f.name, f.ty)) (drop (i + 1) fields)))
next_field known fields i x h is = ap (λ (fs : List RecordField). fields_in known (map (λ f. (string_bytes f.name, f.ty)) fs)) (drop_next fields i x h is)

module _ (ms rest : Members) (name : Name) (s : Shape) (abi : CanonicalAbiInfo) (o : ℕ) (split : ms ≡ member name s rest) (layout : HasLayout abi s) where
  starts_so : align_to o abi.align32 ≡ begins false o s
  starts_so = ap (align_to o) (layout.align false)

  ends_so : align_to o abi.align32 + abi.size32 ≡ ends false o s
  ends_so = ap (λ n. n + abi.size32) starts_so ∙ ap (λ n. begins false o s + n) (layout.size false)

  ends_rest : members_end false o ms ≡ members_end false (ends false o s) rest
  unfolding size
  ends_rest = ap (members_end false o) split

  -- the member ends within all of them
  pub member_fits : (total : ℕ) → members_end false o ms ≡ total → total < 2 ^ 32 → align_to o abi.align32 + abi.size32 < 2 ^ 64
  member_fits total e below = omega (arith, ends_so, ends_rest, members_end-le false (ends false o s) rest)

  -- those after it end where all do
  pub rest_ends : (o' total : ℕ) → o' ≡ align_to o abi.align32 + abi.size32 → members_end false o ms ≡ total → members_end false o' rest ≡ total
  rest_ends o' total after e = ap (λ n. members_end false n rest) (after ∙ ends_so) ∙ (sym ends_rest ∙ e)

  pub rest_printed : (o' start : ℕ) (text text' whole : List ℕ) → start ≡ align_to o abi.align32 → o' ≡ align_to o abi.align32 + abi.size32
      → text' ≡ text ++ 32 ∷ decimal start → text ++ offsets_text o ms ≡ whole → text' ++ offsets_text o' rest ≡ whole
  rest_printed o' start text text' whole at after printed e =
      let one : offsets_text o ms ≡ 32 ∷ decimal start ++ offsets_text o' rest =
      ap (offsets_text o) split ∙ (ap (λ n. 32 ∷ decimal n ++ offsets_text (ends false o s) rest) (sym (at ∙ starts_so)) ∙ ap (λ n. 32 ∷ decimal start ++ offsets_text n rest) (sym (after ∙ ends_so))) in
      ap (λ t. t ++ offsets_text o' rest) printed ∙ (append_assoc text (32 ∷ decimal start) (offsets_text o' rest) ∙ (ap (λ t. text ++ t) (sym one) ∙ e))

-- a row of this size ends below 2^32
pub row_fits : (abi : CanonicalAbiInfo) (s : Shape) (k : ProductKind) (ms : Members) → HasLayout abi s → s ≡ product k ms → members_end false 0 ms < 2 ^ 32
row_fits abi s k ms layout e = omega (arith, told_below abi s layout, ap (size false) e, members_end-le-size false k ms)

-- what holds of the types of the fields holds of each field's
known_at : (t : TypeTable) (fields : List RecordField) (i : ℕ) (d : RecordField) → All (Knows t) (parts (fields_type fields)) → i < length fields → Knows t (slice_index_or fields i d).ty
known_at t [] i d known lt = absurd (omega arith)
known_at t (f ∷ fs) zero d known lt = known 0 f.ty (omega arith)
known_at t (f ∷ fs) (suc i) d known lt = known_at t fs i d (All-tail (Knows t) f.ty (parts (fields_type fs)) known) (omega arith)

pub layout_field_known : (t : TypeTable) (fields : List RecordField) (i : ℕ) (x : RecordField) → All (Knows t) (parts (fields_type fields)) → i < length fields → x ≡ slice_index_or fields i x → Knows t x.ty
layout_field_known t fields i x known lt is = subst (λ (f : RecordField). Knows t f.ty) (sym is) (known_at t fields i x known lt)
