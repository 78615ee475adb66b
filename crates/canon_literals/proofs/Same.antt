-- A value stays the same where each resource in it is replaced by itself.
use Rattle.std.proofs.Common.{◌≡◌, ◌∙◌, Err, List, Ok, Result, Vec, [], ◌∷◌, ap, ap₂, map, refl}
use Rattle.std.specs.Prelude.{IfOk}
use Rattle.std.specs.declared.alloc.Global.{Global}
use Rattle.canon_literals.specs.Literals.{Fields, Literal, Literals, Pairs, Payload, all_replaced, error, field, fields, fields_replaced, fixed, held, list, listed_resource, literal, literals_view, no_fields, no_literals, no_pairs, no_payload, ok, option, pair, pairs, pairs_replaced, payload_replaced, replaced, tuple, variant, with_payload}
use Rattle.canon_val.specs.declared.val.Val.{Val}

mutual
  same : (x : Literal) → replaced (listed_resource []) x ≡ x
  same (list xs) = ap list (all_same xs)
  same (tuple xs) = ap tuple (all_same xs)
  same (fixed xs) = ap fixed (all_same xs)
  same (pairs ps) = ap pairs (pairs_same ps)
  same (fields fs) = ap fields (fields_same fs)
  same (variant name p) = ap (variant name) (payload_same p)
  same (option p) = ap option (payload_same p)
  same (ok p) = ap ok (payload_same p)
  same (error p) = ap error (payload_same p)
  same (held x) = refl
  same x = refl

  all_same : (xs : Literals) → all_replaced (listed_resource []) xs ≡ xs
  all_same no_literals = refl
  all_same (literal x xs) = ap₂ literal (same x) (all_same xs)

  fields_same : (fs : Fields) → fields_replaced (listed_resource []) fs ≡ fs
  fields_same no_fields = refl
  fields_same (field name x fs) = ap₂ (field name) (same x) (fields_same fs)

  pairs_same : (ps : Pairs) → pairs_replaced (listed_resource []) ps ≡ ps
  pairs_same no_pairs = refl
  pairs_same (pair k v ps) = ap (λ x. pair x (replaced (listed_resource []) v) (pairs_replaced (listed_resource []) ps)) (same k) ∙ ap₂ (pair k) (same v) (pairs_same ps)

  payload_same : (p : Payload) → payload_replaced (listed_resource []) p ≡ p
  payload_same no_payload = refl
  payload_same (with_payload x) = ap with_payload (same x)

each_same : (xs : List Literal) → map (replaced (listed_resource [])) xs ≡ xs
each_same [] = refl
each_same (x ∷ xs) = ap₂ (λ (y : Literal) (ys : List Literal). y ∷ ys) (same x) (each_same xs)

pub copied : {E : Type 0} (r : Result (Vec Val Global) E) (xs : List Literal) → IfOk r (λ vs. literals_view vs.items ≡ map (replaced (listed_resource [])) xs) → IfOk r (λ vs. literals_view vs.items ≡ xs)
copied (Ok vs) xs h = h ∙ each_same xs
copied (Err e) xs h = tt
