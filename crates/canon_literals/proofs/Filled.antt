-- Values with other resources in the place of theirs, by their parts.
use Rattle.std.proofs.Common.{◌≡◌, ◌∙◌, Box, Err, List, Ok, Option, Result, String, Vec, [], ◌∷◌, ap, map, refl, string_bytes, sym}
use Rattle.std.specs.declared.alloc.Global.{Global}
use Rattle.canon_model.specs.Shape.{Name}
use Rattle.canon_resources.specs.Held.{Any}
use Rattle.canon_val.specs.declared.val.Val.{Val}
use Rattle.canon_val.specs.declared.val.Val.TheVariants as val
use Rattle.canon_literals.specs.Literals.{Fields, Literal, Literals, Pairs, Payload, all_replaced, error, field, fields, fields_of, fields_replaced, fields_view, fixed, flags, list, literal, literal_view, literals_of, literals_view, ok, pair, pairs, literal_pairs, pairs_replaced, pairs_view, payload_replaced, payload_view, replaced, tuple}
use Rattle.canon_literals.specs.Resources.{field_replaced, field_view, pair_replaced}
use Rattle.canon_literals.proofs.Views.{literal-Err, literal-FixedLengthList, literal-Flags, literal-List, literal-Map, literal-Ok, literal-Record, literal-Tuple}

module _ (f : Any → Any) where
  all_filled : (xs : List Literal) → literals_of (map (replaced f) xs) ≡ all_replaced f (literals_of xs)
  all_filled [] = refl
  all_filled (x ∷ xs) = ap (λ (ys : Literals). literal (replaced f x) ys) (all_filled xs)

  pairs_filled : (ps : List (Literal × Literal)) → literal_pairs (map (pair_replaced f) ps) ≡ pairs_replaced f (literal_pairs ps)
  pairs_filled [] = refl
  pairs_filled (p ∷ ps) = ap (λ (qs : Pairs). pair (replaced f p.0) (replaced f p.1) qs) (pairs_filled ps)

  fields_filled : (xs : List (Name × Literal)) → fields_of (map (field_replaced f) xs) ≡ fields_replaced f (fields_of xs)
  fields_filled [] = refl
  fields_filled (x ∷ xs) = ap (λ (ys : Fields). field x.0 (replaced f x.1) ys) (fields_filled xs)

  field_views : (xs : List (String Global × Val)) → map field_view xs ≡ fields_view xs
  field_views [] = refl
  field_views (x ∷ xs) = ap (λ (ys : List (Name × Literal)). field_view x ∷ ys) (field_views xs)

  module _ (v : Val) where
    -- a value of members in a row, by what it is made of
    in_row : (made : Vec Val Global → Val) (told : Literals → Literal) → ((xs : Vec Val Global) → literal_view (made xs) ≡ told (literals_of (literals_view xs.items))) → ((ys : Literals) → replaced f (told ys) ≡ told (all_replaced f ys))
        → (xs ys : Vec Val Global) (vs : List Val) → v ≡ made ys → vs ≡ ys.items → literals_view xs.items ≡ map (replaced f) (literals_view vs) → literal_view (made xs) ≡ replaced f (literal_view v)
    in_row made told views puts xs ys vs ev es e =
        views xs ∙ (ap (λ (ls : List Literal). told (literals_of ls)) (e ∙ ap (λ (ws : List Val). map (replaced f) (literals_view ws)) es)
        ∙ (ap told (all_filled (literals_view ys.items)) ∙ (sym (puts (literals_of (literals_view ys.items))) ∙ (ap (replaced f) (sym (views ys)) ∙ ap (λ (w : Val). replaced f (literal_view w)) (sym ev)))))

    pub literal_list_filled : (xs ys : Vec Val Global) (vs : List Val) → v ≡ val.List ys → vs ≡ ys.items → literals_view xs.items ≡ map (replaced f) (literals_view vs) → literal_view (val.List xs) ≡ replaced f (literal_view v)
    literal_list_filled = in_row val.List list literal-List (λ ys. refl)

    pub tuple_filled : (xs ys : Vec Val Global) (vs : List Val) → v ≡ val.Tuple ys → vs ≡ ys.items → literals_view xs.items ≡ map (replaced f) (literals_view vs) → literal_view (val.Tuple xs) ≡ replaced f (literal_view v)
    tuple_filled = in_row val.Tuple tuple literal-Tuple (λ ys. refl)

    pub fixed_filled : (xs ys : Vec Val Global) (vs : List Val) → v ≡ val.FixedLengthList ys → vs ≡ ys.items → literals_view xs.items ≡ map (replaced f) (literals_view vs)
        → literal_view (val.FixedLengthList xs) ≡ replaced f (literal_view v)
    fixed_filled = in_row val.FixedLengthList fixed literal-FixedLengthList (λ ys. refl)

    pub map_filled : (xs ys : Vec (Val × Val) Global) (vs : List (Val × Val)) → v ≡ val.Map ys → vs ≡ ys.items → pairs_view xs.items ≡ map (pair_replaced f) (pairs_view vs) → literal_view (val.Map xs) ≡ replaced f (literal_view v)
    map_filled xs ys vs ev es e =
        literal-Map xs ∙ (ap (λ (ps : List (Literal × Literal)). pairs (literal_pairs ps)) (e ∙ ap (λ (ws : List (Val × Val)). map (pair_replaced f) (pairs_view ws)) es)
        ∙ (ap pairs (pairs_filled (pairs_view ys.items)) ∙ (ap (replaced f) (sym (literal-Map ys)) ∙ ap (λ (w : Val). replaced f (literal_view w)) (sym ev))))

    pub record_filled : (xs ys : Vec (String Global × Val) Global) (vs : List (String Global × Val)) → v ≡ val.Record ys → vs ≡ ys.items → map field_view xs.items ≡ map (field_replaced f) (map field_view vs)
        → literal_view (val.Record xs) ≡ replaced f (literal_view v)
    record_filled xs ys vs ev es e =
        literal-Record xs ∙ (ap (λ (gs : List (Name × Literal)). fields (fields_of gs)) (sym (field_views xs.items) ∙ (e ∙ ap (λ (gs : List (Name × Literal)). map (field_replaced f) gs) (ap (map field_view) es ∙ field_views ys.items)))
        ∙ (ap fields (fields_filled (fields_view ys.items)) ∙ (ap (replaced f) (sym (literal-Record ys)) ∙ ap (λ (w : Val). replaced f (literal_view w)) (sym ev))))

    pub ok_filled : (r : Result (Option (Box Val Global)) (Option (Box Val Global))) (p q : Option (Box Val Global)) → v ≡ val.Result r → r ≡ Ok q
        → payload_view p ≡ payload_replaced f (payload_view q) → literal_view (val.Result (Ok p)) ≡ replaced f (literal_view v)
    ok_filled r p q ev er e = literal-Ok p ∙ (ap (λ (x : Payload). ok x) e ∙ (ap (replaced f) (sym (literal-Ok q)) ∙ ap (λ (w : Val). replaced f (literal_view w)) (sym (ev ∙ ap val.Result er))))

    pub err_filled : (r : Result (Option (Box Val Global)) (Option (Box Val Global))) (p q : Option (Box Val Global)) → v ≡ val.Result r → r ≡ Err q
        → payload_view p ≡ payload_replaced f (payload_view q) → literal_view (val.Result (Err p)) ≡ replaced f (literal_view v)
    err_filled r p q ev er e = literal-Err p ∙ (ap (λ (x : Payload). error x) e ∙ (ap (replaced f) (sym (literal-Err q)) ∙ ap (λ (w : Val). replaced f (literal_view w)) (sym (ev ∙ ap val.Result er))))

    pub flags_filled : (xs ys : Vec (String Global) Global) (ns : List (String Global)) → v ≡ val.Flags ys → ns ≡ ys.items → map (λ s. string_bytes s) xs.items ≡ map (λ s. string_bytes s) ns
        → literal_view (val.Flags xs) ≡ replaced f (literal_view v)
    flags_filled xs ys ns ev en e =
        literal-Flags xs ∙ (ap (λ (ms : List Name). flags ms) (e ∙ ap (λ (os : List (String Global)). map (λ s. string_bytes s) os) en) ∙ (ap (replaced f) (sym (literal-Flags ys)) ∙ ap (λ (w : Val). replaced f (literal_view w)) (sym ev)))
