-- Copies of values, by their parts.
use Rattle.std.proofs.Common.{◌≡◌, ◌∙◌, Err, List, None, Ok, Option, Result, Some, String, Vec, [], ◌∷◌, ap, ap₂, map, pos, refl, rules, string_bytes, sym}
use Rattle.std.specs.Prelude.{Box}
use Rattle.std.specs.declared.alloc.Global.{Global}
use Rattle.canon_model.specs.Shape.{Name}
use Rattle.canon_val.specs.Equal as equal
use Rattle.canon_val.specs.Equal.{Data, Datas, data_of, no_data, pair_data, pair_row, payload_data, row, value}
use Rattle.canon_val.specs.Value.{names_in, values_in}
use Rattle.canon_val.specs.declared.val.Val.{Val, the_lemmas}
use Rattle.canon_val.specs.declared.val.Val.TheShapes.{former-Val-Map-0-at-2, former-Val-Record-0-at-2}
use Rattle.canon_val.specs.declared.val.Val.TheVariants as val

data_pairs : (ps : List (Val × Val)) → map (former-Val-Map-0-at-2.map Val Data data_of) ps ≡ map pair_data ps
data_pairs [] = refl
data_pairs (p ∷ ps) = ap (λ (ds : List (Data × Data)). pair_data p ∷ ds) (data_pairs ps)

data_map : (xs : Vec (Val × Val) Global) → data_of (val.Map xs) ≡ value equal.pairs (pos 0) [] (pair_row (map pair_data xs.items))
data_map xs = search (rules, the_lemmas, data_pairs xs.items)

pub map_copied : (v : Val) (xs ys : Vec (Val × Val) Global) (ps : List (Val × Val)) → v ≡ val.Map ys → ps ≡ ys.items → map pair_data xs.items ≡ map pair_data ps → data_of (val.Map xs) ≡ data_of v
map_copied v xs ys ps ev ep e =
    data_map xs ∙ (ap (λ (ds : List (Data × Data)). value equal.pairs (pos 0) [] (pair_row ds)) (e ∙ ap (λ (qs : List (Val × Val)). map pair_data qs) ep) ∙ (sym (data_map ys) ∙ sym (ap data_of ev)))

data_names : (fs : List (String Global × Val)) → map (λ f. string_bytes f.0) (map (former-Val-Record-0-at-2.map Val Data data_of) fs) ≡ names_in fs
data_names [] = refl
data_names (f ∷ fs) = ap (λ (ns : List Name). string_bytes f.0 ∷ ns) (data_names fs)

data_values : (fs : List (String Global × Val)) → map (λ f. f.1) (map (former-Val-Record-0-at-2.map Val Data data_of) fs) ≡ map data_of (values_in fs)
data_values [] = refl
data_values (f ∷ fs) = ap (λ (ds : List Data). data_of f.1 ∷ ds) (data_values fs)

data_record : (fs : Vec (String Global × Val) Global) → data_of (val.Record fs) ≡ value equal.fields (pos 0) (names_in fs.items) (row (map data_of (values_in fs.items)))
data_record fs = search (rules, the_lemmas, data_names fs.items, data_values fs.items)

pub record_copied : (v : Val) (xs ys : Vec (String Global × Val) Global) (fs : List (String Global × Val)) → v ≡ val.Record ys → fs ≡ ys.items → names_in xs.items ≡ names_in fs → map data_of (values_in xs.items) ≡ map data_of (values_in fs)
    → data_of (val.Record xs) ≡ data_of v
record_copied v xs ys fs ev ef en ed =
    data_record xs ∙ (ap₂ (λ (ns : List Name) (ds : List Data). value equal.fields (pos 0) ns (row ds)) (en ∙ ap names_in ef) (ed ∙ ap (λ (gs : List (String Global × Val)). map data_of (values_in gs)) ef)
    ∙ (sym (data_record ys) ∙ sym (ap data_of ev)))

data_ok : (p : Option (Box Val Global)) → data_of (val.Result (Ok p)) ≡ value equal.result (pos 0) [] (payload_data p)
data_ok None = search (rules, the_lemmas)
data_ok (Some b) = search (rules, the_lemmas)

data_err : (p : Option (Box Val Global)) → data_of (val.Result (Err p)) ≡ value equal.result (pos 1) [] (payload_data p)
data_err None = search (rules, the_lemmas)
data_err (Some b) = search (rules, the_lemmas)

pub ok_copied : (v : Val) (r : Result (Option (Box Val Global)) (Option (Box Val Global))) (p q : Option (Box Val Global)) → v ≡ val.Result r → r ≡ Ok q → payload_data p ≡ payload_data q → data_of (val.Result (Ok p)) ≡ data_of v
ok_copied v r p q ev er e = data_ok p ∙ (ap (λ (ds : Datas). value equal.result (pos 0) [] ds) e ∙ (sym (data_ok q) ∙ sym (ap data_of (ev ∙ ap val.Result er))))

pub err_copied : (v : Val) (r : Result (Option (Box Val Global)) (Option (Box Val Global))) (p q : Option (Box Val Global)) → v ≡ val.Result r → r ≡ Err q → payload_data p ≡ payload_data q → data_of (val.Result (Err p)) ≡ data_of v
err_copied v r p q ev er e = data_err p ∙ (ap (λ (ds : Datas). value equal.result (pos 1) [] ds) e ∙ (sym (data_err q) ∙ sym (ap data_of (ev ∙ ap val.Result er))))

data_flags : (xs : Vec (String Global) Global) → data_of (val.Flags xs) ≡ value equal.flags (pos 0) (map (λ s. string_bytes s) xs.items) no_data
data_flags xs = search (rules, the_lemmas)

pub flags_copied : (v : Val) (xs ys : Vec (String Global) Global) (ns : List (String Global)) → v ≡ val.Flags ys → ns ≡ ys.items → map (λ s. string_bytes s) xs.items ≡ map (λ s. string_bytes s) ns → data_of (val.Flags xs) ≡ data_of v
flags_copied v xs ys ns ev en e =
    data_flags xs ∙ (ap (λ (ms : List Name). value equal.flags (pos 0) ms no_data) (e ∙ ap (λ (os : List (String Global)). map (λ s. string_bytes s) os) en) ∙ (sym (data_flags ys) ∙ sym (ap data_of ev)))
