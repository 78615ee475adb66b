-- Equal values, by their parts.
use Rattle.std.proofs.Common.{◌≡◌, ◌&&◌, ◌∙◌, Bool, IsTrue, List, String, Vec, [], ◌∷◌, ap, ap₂, cond, false, inl, inr, length, map, nat_eq, negsuc, pos, refl, rules, string_bytes, suc, sym, true, ℕ}
use Rattle.std.specs.Prelude.{◌⊎◌}
use Rattle.std.specs.Cmp.Lexicographic.{pointwise}
use Rattle.std.specs.declared.alloc.Global.{Global}
use Rattle.canon_model.specs.Shape.{Name}
use Rattle.canon_val.specs.Equal as equal
use Rattle.canon_val.specs.Equal.{Data, Datas, DataKind, all_same, compared, compared_pairs, data_and, float_key, is_equal, is_nan, pair_row, row, same, value}
use Rattle.canon_val.specs.EqualLaws.{equal_decides}
use Rattle.canon_val.specs.Laws.{ValueEquality}
use Rattle.canon_val.proofs.HandleValues.{resources_told}
use Rattle.canon_val.proofs.KeyedData.{copies_equal}
use Rattle.canon_val.specs.Value.{names_in, values_in}
use Rattle.canon_val.specs.declared.val.Val.{Val, the_lemmas}
use Rattle.canon_val.specs.declared.val.Val.TheShapes.{former-Val-Map-0-at-2, former-Val-Record-0-at-2}
use Rattle.canon_val.specs.declared.val.Val.TheVariants as val

-- ---- maps and records as `==` sees them

pairs_seen : (ps : List (Val × Val)) → pair_row (map (former-Val-Map-0-at-2.map Val Data compared) ps) ≡ compared_pairs ps
pairs_seen [] = refl
pairs_seen (p ∷ ps) = ap (λ (ds : Datas). data_and (compared p.0) (data_and (compared p.1) ds)) (pairs_seen ps)

compared_map : (xs : Vec (Val × Val) Global) → compared (val.Map xs) ≡ value equal.pairs (pos 0) [] (compared_pairs xs.items)
compared_map xs = search (rules, the_lemmas, pairs_seen xs.items)

names_seen : (fs : List (String Global × Val)) → map (λ f. string_bytes f.0) (map (former-Val-Record-0-at-2.map Val Data compared) fs) ≡ names_in fs
names_seen [] = refl
names_seen (f ∷ fs) = ap (λ (ns : List Name). string_bytes f.0 ∷ ns) (names_seen fs)

fields_seen : (fs : List (String Global × Val)) → map (λ f. f.1) (map (former-Val-Record-0-at-2.map Val Data compared) fs) ≡ map compared (values_in fs)
fields_seen [] = refl
fields_seen (f ∷ fs) = ap (λ (ds : List Data). compared f.1 ∷ ds) (fields_seen fs)

compared_record : (fs : Vec (String Global × Val) Global) → compared (val.Record fs) ≡ value equal.fields (pos 0) (names_in fs.items) (row (map compared (values_in fs.items)))
compared_record fs = search (rules, the_lemmas, names_seen fs.items, fields_seen fs.items)

pub maps_equal : (a b : Val) (xs ys : Vec (Val × Val) Global) (us ws : List (Val × Val)) (r : Bool) → a ≡ val.Map xs → b ≡ val.Map ys → us ≡ xs.items → ws ≡ ys.items
    → r ≡ all_same (compared_pairs us) (compared_pairs ws) → r ≡ is_equal a b
maps_equal a b xs ys us ws r ea eb eu ew is =
    is ∙ (ap₂ (λ (ps qs : List (Val × Val)). all_same (compared_pairs ps) (compared_pairs qs)) eu ew ∙ sym (ap₂ same (ap compared ea ∙ compared_map xs) (ap compared eb ∙ compared_map ys)))

pub records_equal : (a b : Val) (xs ys : Vec (String Global × Val) Global) (us ws : List (String Global × Val)) (r : Bool) → a ≡ val.Record xs → b ≡ val.Record ys → us ≡ xs.items → ws ≡ ys.items
    → r ≡ (pointwise (pointwise nat_eq) (names_in us) (names_in ws) && all_same (row (map compared (values_in us))) (row (map compared (values_in ws)))) → r ≡ is_equal a b
records_equal a b xs ys us ws r ea eb eu ew is =
    is ∙ (ap₂ (λ (fs gs : List (String Global × Val)). pointwise (pointwise nat_eq) (names_in fs) (names_in gs) && all_same (row (map compared (values_in fs))) (row (map compared (values_in gs)))) eu ew
    ∙ sym (ap₂ same (ap compared ea ∙ compared_record xs) (ap compared eb ∙ compared_record ys)))

-- ---- rows of other lengths

second_false : (b c : Bool) → false ≡ c → false ≡ (b && c)
second_false true c e = e
second_false false c e = refl

pub rows_apart : (vs ws : List Val) → (length vs ≡ length ws → ⊥) → false ≡ all_same (row (map compared vs)) (row (map compared ws))
rows_apart [] [] n = absurd (n refl)
rows_apart [] (w ∷ ws) n = refl
rows_apart (v ∷ vs) [] n = refl
rows_apart (v ∷ vs) (w ∷ ws) n = second_false (same (compared v) (compared w)) _ (rows_apart vs ws (λ e. n (ap suc e)))

pub pairs_apart : (ps qs : List (Val × Val)) → (length ps ≡ length qs → ⊥) → false ≡ all_same (compared_pairs ps) (compared_pairs qs)
pairs_apart [] [] n = absurd (n refl)
pairs_apart [] (q ∷ qs) n = refl
pairs_apart (p ∷ ps) [] n = refl
pairs_apart (p ∷ ps) (q ∷ qs) n = second_false (same (compared p.0) (compared q.0)) _ (second_false (same (compared p.1) (compared q.1)) _ (pairs_apart ps qs (λ e. n (ap suc e))))

-- ---- the law

key_tells : (p q : Bool) (n m : ℕ) → cond p (negsuc 0) (pos n) ≡ cond q (negsuc 0) (pos m) → (n ≡ m) ⊎ (IsTrue p × IsTrue q)
key_tells true true n m e = inr (refl, refl)
key_tells true false n m e = cc
key_tells false true n m e = cc
key_tells false false n m e = let same_bits : n ≡ m = cc in inl same_bits

key_same : (k : DataKind) (n m : ℕ) → (n ≡ m) ⊎ (IsTrue (is_nan k n) × IsTrue (is_nan k m)) → float_key k n ≡ float_key k m
key_same k n m (inl e) = ap (float_key k) e
key_same k n m (inr (a, b)) = ap (λ (x : Bool). cond x (negsuc 0) (pos n)) a ∙ sym (ap (λ (x : Bool). cond x (negsuc 0) (pos m)) b)

pub value_equality : ValueEquality
value_equality = record {
  decides = λ v w. equal_decides v w;
  reflexive = λ v. refl;
  symmetric = λ v w e. sym e;
  transitive = λ v w x e f. e ∙ f;
  floats = λ k n m. (λ e. key_tells (is_nan k n) (is_nan k m) n m e, key_same k n m);
  copies = λ v w e. copies_equal v w e;
  resources = resources_told;
}
