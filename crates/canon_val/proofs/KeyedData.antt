-- What `==` sees of a value is what it sees of its data, so a copy is equal to its source.
use Rattle.std.proofs.Common.{◌≡◌, ◌∙◌, Err, List, None, Ok, Some, String, [], ◌∷◌, ap, ap₂, map, negsuc, pos, refl, string_bytes, subst, sym, ℤ}
use Rattle.std.specs.declared.alloc.Global.{Global}
use Rattle.canon_model.specs.Shape.{Name}
use Rattle.canon_val.specs.Equal as equal
use Rattle.canon_val.specs.Equal.{Data, Datas, IsEqual, all_keyed, compared, data_and, data_of, data_step, float_key, keyed, no_data, number_key, pair_row, row, value}
use Rattle.canon_val.specs.declared.val.Val.{Val}
use Rattle.canon_val.specs.declared.val.Val.TheFolds.{fold-roll-Val, ind-Val, map-Val}
use Rattle.canon_val.specs.declared.val.Val.TheOpen.{Val-F, Val-F as F}
use Rattle.canon_val.specs.declared.val.Val.TheShapes.{former-Val-Map-0-at-2, former-Val-Record-0-at-2}

-- a signed number is no float
signed8 : (z : ℤ) → number_key equal.s8 z ≡ z
signed8 (pos n) = refl
signed8 (negsuc n) = refl

signed16 : (z : ℤ) → number_key equal.s16 z ≡ z
signed16 (pos n) = refl
signed16 (negsuc n) = refl

signed32 : (z : ℤ) → number_key equal.s32 z ≡ z
signed32 (pos n) = refl
signed32 (negsuc n) = refl

signed64 : (z : ℤ) → number_key equal.s64 z ≡ z
signed64 (pos n) = refl
signed64 (negsuc n) = refl

-- one level of a value, of whose parts it is known
module _ {E : Type 0} (f : E → Val) (h : (e : E) → compared (f e) ≡ keyed (data_of (f e))) where
  rows : (es : List E) → row (map compared (map f es)) ≡ all_keyed (row (map data_of (map f es)))
  rows [] = refl
  rows (e ∷ es) = ap₂ (λ (d : Data) (ds : Datas). data_and d ds) (h e) (rows es)

  pair_rows : (ps : List (E × E)) → pair_row (map (former-Val-Map-0-at-2.map Val Data compared) (map (former-Val-Map-0-at-2.map E Val f) ps))
      ≡ all_keyed (pair_row (map (former-Val-Map-0-at-2.map Val Data data_of) (map (former-Val-Map-0-at-2.map E Val f) ps)))
  pair_rows [] = refl
  pair_rows (p ∷ ps) = ap₂ (λ (d : Data) (ds : Datas). data_and d ds) (h p.0) (ap₂ (λ (d : Data) (ds : Datas). data_and d ds) (h p.1) (pair_rows ps))

  names : (fs : List (String Global × E)) → map (λ g. string_bytes g.0) (map (former-Val-Record-0-at-2.map Val Data compared) (map (former-Val-Record-0-at-2.map E Val f) fs))
      ≡ map (λ g. string_bytes g.0) (map (former-Val-Record-0-at-2.map Val Data data_of) (map (former-Val-Record-0-at-2.map E Val f) fs))
  names [] = refl
  names (g ∷ fs) = ap (λ (ns : List Name). string_bytes g.0 ∷ ns) (names fs)

  field_rows : (fs : List (String Global × E)) → row (map (λ g. g.1) (map (former-Val-Record-0-at-2.map Val Data compared) (map (former-Val-Record-0-at-2.map E Val f) fs)))
      ≡ all_keyed (row (map (λ g. g.1) (map (former-Val-Record-0-at-2.map Val Data data_of) (map (former-Val-Record-0-at-2.map E Val f) fs))))
  field_rows [] = refl
  field_rows (g ∷ fs) = ap₂ (λ (d : Data) (ds : Datas). data_and d ds) (h g.1) (field_rows fs)

  level : (y : Val-F E) → data_step float_key (map-Val Val Data compared (map-Val E Val f y)) ≡ keyed (data_step (λ k n. pos n) (map-Val Val Data data_of (map-Val E Val f y)))
  level (F.Bool b) = refl
  level (F.S8 z) = ap (λ (w : ℤ). value equal.s8 w [] no_data) (sym (signed8 z))
  level (F.U8 n) = refl
  level (F.S16 z) = ap (λ (w : ℤ). value equal.s16 w [] no_data) (sym (signed16 z))
  level (F.U16 n) = refl
  level (F.S32 z) = ap (λ (w : ℤ). value equal.s32 w [] no_data) (sym (signed32 z))
  level (F.U32 n) = refl
  level (F.S64 z) = ap (λ (w : ℤ). value equal.s64 w [] no_data) (sym (signed64 z))
  level (F.U64 n) = refl
  level (F.Float32 n) = refl
  level (F.Float64 n) = refl
  level (F.Char n) = refl
  level (F.String s) = refl
  level (F.List xs) = ap (λ (ds : Datas). value equal.list (pos 0) [] ds) (rows xs.items)
  level (F.Map ps) = ap (λ (ds : Datas). value equal.pairs (pos 0) [] ds) (pair_rows ps.items)
  level (F.Record fs) = ap₂ (λ (ns : List Name) (ds : Datas). value equal.fields (pos 0) ns ds) (names fs.items) (field_rows fs.items)
  level (F.Tuple xs) = ap (λ (ds : Datas). value equal.tuple (pos 0) [] ds) (rows xs.items)
  level (F.Variant name None) = refl
  level (F.Variant name (Some b)) = ap (λ (d : Data). value equal.variant (pos 0) (string_bytes name ∷ []) (data_and d no_data)) (h b.value)
  level (F.Enum name) = refl
  level (F.Option None) = refl
  level (F.Option (Some b)) = ap (λ (d : Data). value equal.option (pos 0) [] (data_and d no_data)) (h b.value)
  level (F.Result (Ok None)) = refl
  level (F.Result (Ok (Some b))) = ap (λ (d : Data). value equal.result (pos 0) [] (data_and d no_data)) (h b.value)
  level (F.Result (Err None)) = refl
  level (F.Result (Err (Some b))) = ap (λ (d : Data). value equal.result (pos 1) [] (data_and d no_data)) (h b.value)
  level (F.Flags names) = refl
  level (F.Resource x) = refl
  level (F.FixedLengthList xs) = ap (λ (ds : Datas). value equal.fixed (pos 0) [] ds) (rows xs.items)

compared_keyed : (v : Val) → compared v ≡ keyed (data_of v)
compared_keyed = ind-Val (λ v. compared v ≡ keyed (data_of v)) (λ x y is.
    fold-roll-Val Data (data_step float_key) x
    ∙ (subst (λ z. data_step float_key (map-Val Val Data compared z) ≡ keyed (data_step (λ k n. pos n) (map-Val Val Data data_of z))) is (level (λ e. e.0) (λ e. e.1) y)
    ∙ ap keyed (sym (fold-roll-Val Data (data_step (λ k n. pos n)) x))))

pub copies_equal : (v w : Val) → data_of w ≡ data_of v → IsEqual v w
copies_equal v w e = compared_keyed v ∙ (ap keyed (sym e) ∙ sym (compared_keyed w))
