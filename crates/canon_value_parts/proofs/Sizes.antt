-- No text of a value is too long, and no list or map too large, where this is so of its members.
use Rattle.std.proofs.Common.{◌≡◌, ◌≤◌, ◌<◌, ◌*◌, ◌^◌, ◌∙◌, ◌⊎◌, List, String, Vec, [], ◌∷◌, ap, arith, false, inl, inr, length, refl, string_bytes, subst, suc, sym, zero, ℕ, ⊎_elim}
use Rattle.std.specs.declared.alloc.Global.{Global}
use Rattle.canon_lowering.proofs.Pairing.{pair_shape}
use Rattle.canon_lowering.specs.Copies.{case_members, copies, pairs_of}
use Rattle.canon_model.specs.Layout.{size}
use Rattle.canon_model.specs.Shape.{Cases, Members, Name, ProductKind, Scalar, Shape, VariantKind, bare, fixed, flags, list, map_of, member, no_cases, no_members, of_items, of_pairs, payload, product, scalar, string, variant}
use Rattle.canon_model.specs.Text.{Encoding}
use Rattle.canon_value_parts.specs.Elements.{by_turns}
use Rattle.canon_string.specs.Limits.{IsTooLong}
use Rattle.canon_value_parts.specs.Fails.{AreSmall, CaseFails, Failure, Fails, FailsAt, IsSmall, MemberFails, NoneTooLarge, PairFails, SomeFails, overflow, too_long}
use Rattle.canon_val.specs.Value.{IsCase, IsFixedListValue, IsPairs, IsProduct, pair_places, places}
use Rattle.canon_val.specs.declared.val.Val.{Val}
use Rattle.canon_val.specs.declared.val.Val.TheVariants as val
use Rattle.canon_value_parts.proofs.Cases.{one_case}
use Rattle.canon_value_parts.proofs.Contents.{fixed_values, items_same, value_same_text}
use Rattle.canon_value_parts.proofs.MapsAndFlags.{one_pairs}
use Rattle.canon_value_parts.proofs.PairRows.{pairs_failed}
use Rattle.canon_value_parts.proofs.Values.{product_values}

-- what is too large among the second is so among the first
pub small_by : (enc : Encoding) (F G : Failure → ℕ → Type 0) → ((n k : ℕ) → G (too_long enc n) k → (j : ℕ) × F (too_long enc n) j) → ((n k : ℕ) → G (overflow n) k → (j : ℕ) × F (overflow n) j) → NoneTooLarge enc F → NoneTooLarge enc G
small_by enc F G by_texts by_lists h = record {
  texts = λ n k g. let (j, f) = by_texts n k g in h.texts n j f;
  lists = λ n k g. let (j, f) = by_lists n k g in h.lists n j f;
}

-- ---- values by themselves

pub scalar_small : (enc : Encoding) (c : Scalar) (v : Val) → IsSmall enc (scalar c) v
scalar_small enc c v = record { texts = λ n k f. f.1; lists = λ n k f. f.1 }

pub flags_small : (enc : Encoding) (names : List Name) (v : Val) → IsSmall enc (flags names) v
flags_small enc names v = record { texts = λ n k f. f.1; lists = λ n k f. f.1 }

pub text_small : (enc : Encoding) (s : String Global) → ((n : ℕ) → ¬ IsTooLong enc (string_bytes s) n) → IsSmall enc string (val.String s)
text_small enc s fits = record {
  texts = λ n k (first, (r, is, long)). fits n (subst (λ (x : String Global). IsTooLong enc (string_bytes x) n) (sym (value_same_text s r is)) long);
  lists = λ n k f. f.1;
}

-- ---- members

pub none_small : (enc : Encoding) → AreSmall enc no_members []
none_small enc = record { texts = λ n k f. f; lists = λ n k f. f }

pub member_small : (enc : Encoding) (name : Name) (s : Shape) (ms : Members) (v : Val) (vs : List Val) → IsSmall enc s v → AreSmall enc ms vs → AreSmall enc (member name s ms) (v ∷ vs)
member_small enc name s ms v vs h rest = record {
  texts = λ n k f. ⊎_elim (λ g. h.texts n k g) (λ (j, e, g). rest.texts n j g) f;
  lists = λ n k f. ⊎_elim (λ g. h.lists n k g) (λ (j, e, g). rest.lists n j g) f;
}

-- ---- a value from its members: what fails in it, and isn't itself at fault, is one of them

product_inner : (k : ProductKind) (ms : Members) (names : List Name) (vs : List Val) (v : Val) → IsProduct k names vs v → (how : Failure) (j : ℕ) → ¬ Fails how (product k ms) v
    → FailsAt how (product k ms) v j → (i : ℕ) × MemberFails how ms vs i
product_inner k ms names vs v p how j own (inl f) = absurd (own f.1)
product_inner k ms names vs v p how j own (inr (ns, ws, i, q, count, e, f)) = (i, subst (λ (xs : List Val). MemberFails how ms xs i) (product_values k ns names ws vs v q p) f)

pub product_small : (enc : Encoding) (k : ProductKind) (ms : Members) (names : List Name) (vs : List Val) (v : Val) → IsProduct k names vs v → AreSmall enc ms vs → IsSmall enc (product k ms) v
product_small enc k ms names vs v p h = small_by enc (λ how j. MemberFails how ms vs j) (λ how j. FailsAt how (product k ms) v j)
    (λ n j f. product_inner k ms names vs v p (too_long enc n) j (λ g. g) f) (λ n j f. product_inner k ms names vs v p (overflow n) j (λ g. g) f) h

items_failed : (how : Failure) (s : Shape) (vs : List Val) (k : ℕ) → SomeFails places (λ v i. FailsAt how s v i) vs k → MemberFails how (copies (length vs) s) vs k
items_failed how s [] k f = absurd f
items_failed how s (v ∷ vs) k (inl f) = inl f
items_failed how s (v ∷ vs) k (inr (j, e, f)) = inr (j, e, items_failed how s vs j f)

fixed_inner : (n : ℕ) (s : Shape) (vs : List Val) (v : Val) → length vs ≡ n → IsFixedListValue vs v → (how : Failure) (j : ℕ) → ¬ Fails how (fixed n s) v → FailsAt how (fixed n s) v j → (i : ℕ) × MemberFails how (copies n s) vs i
fixed_inner n s vs v count p how j own (inl f) = absurd (own f.1)
fixed_inner n s vs v count p how j own (inr (ws, i, q, enough, e, f)) =
    (i, subst (λ (m : ℕ). MemberFails how (copies m s) vs i) count (items_failed how s vs i (subst (λ (xs : List Val). SomeFails places (λ w x. FailsAt how s w x) xs i) (fixed_values ws vs v q p) f)))

pub fixed_small : (enc : Encoding) (n : ℕ) (s : Shape) (vs : List Val) (v : Val) → length vs ≡ n → IsFixedListValue vs v → AreSmall enc (copies n s) vs → IsSmall enc (fixed n s) v
fixed_small enc n s vs v count p h = small_by enc (λ how j. MemberFails how (copies n s) vs j) (λ how j. FailsAt how (fixed n s) v j)
    (λ m j f. fixed_inner n s vs v count p (too_long enc m) j (λ g. g) f) (λ m j f. fixed_inner n s vs v count p (overflow m) j (λ g. g) f) h

case_failed : (how : Failure) (cs : Cases) (d : ℕ) (vs : List Val) (k : ℕ) → CaseFails how cs d vs k → MemberFails how (case_members cs d) vs k
case_failed how no_cases d vs k f = absurd f
case_failed how (bare name cs) zero vs k f = absurd f
case_failed how (bare name cs) (suc d) vs k f = case_failed how cs d vs k f
case_failed how (payload name s cs) zero [] k f = absurd f
case_failed how (payload name s cs) zero (v ∷ vs) k f = inl f
case_failed how (payload name s cs) (suc d) vs k f = case_failed how cs d vs k f

case_inner : (k : VariantKind) (cs : Cases) (d : ℕ) (vs : List Val) (v : Val) → IsCase k cs d vs v → (how : Failure) (j : ℕ) → ¬ Fails how (variant k cs) v → FailsAt how (variant k cs) v j
    → (i : ℕ) × MemberFails how (case_members cs d) vs i
case_inner k cs d vs v p how j own (inl f) = absurd (own f.1)
case_inner k cs d vs v p how j own (inr (c, ws, i, q, e, f)) =
    let (ed, ew) = one_case k cs d c vs ws v p q in
    (i, case_failed how cs d vs i (subst (λ (x : ℕ). CaseFails how cs x vs i) ed (subst (λ (xs : List Val). CaseFails how cs c xs i) ew f)))

pub case_small : (enc : Encoding) (k : VariantKind) (cs : Cases) (d : ℕ) (vs : List Val) (v : Val) → IsCase k cs d vs v → AreSmall enc (case_members cs d) vs → IsSmall enc (variant k cs) v
case_small enc k cs d vs v p h = small_by enc (λ how j. MemberFails how (case_members cs d) vs j) (λ how j. FailsAt how (variant k cs) v j)
    (λ n j f. case_inner k cs d vs v p (too_long enc n) j (λ g. g) f) (λ n j f. case_inner k cs d vs v p (overflow n) j (λ g. g) f) h

-- ---- a list or a map

not_many : (n m b : ℕ) → m ≡ n → n < 2 ^ 32 → n * b < 2 ^ 32 → ¬ ((2 ^ 32 ≤ m) ⊎ (2 ^ 32 ≤ m * b))
not_many n m b e few fit (inl l) = omega (arith, e, few, l)
not_many n m b e few fit (inr l) = omega (arith, ap (λ (x : ℕ). x * b) e, fit, l)

pub items_inner : (s : Shape) (xs : Vec Val Global) (how : Failure) (j : ℕ) → ¬ Fails how (list of_items s) (val.List xs) → FailsAt how (list of_items s) (val.List xs) j → (i : ℕ) × MemberFails how (copies (length xs.items) s) xs.items i
items_inner s xs how j own (inl f) = absurd (own f.1)
items_inner s xs how j own (inr (ws, i, q, e, f)) = (i, items_failed how s xs.items i (subst (λ (vs : List Val). SomeFails places (λ w x. FailsAt how s w x) vs i) (items_same xs ws q) f))

pub items_fit : (s : Shape) (xs : Vec Val Global) (m : ℕ) → length xs.items < 2 ^ 32 → length xs.items * size false s < 2 ^ 32 → ¬ Fails (overflow m) (list of_items s) (val.List xs)
items_fit s xs m few fit (ws, q, e, many) = not_many (length xs.items) m (size false s) (e ∙ ap length (items_same xs ws q)) few fit many

one_map : (xs : Vec (Val × Val) Global) (ps : List (Val × Val)) → IsPairs ps (val.Map xs) → ps ≡ xs.items
one_map xs ps q = one_pairs xs.items ps (val.Map xs) (xs, refl, refl) q

pub pairs_inner : (s u : Shape) (xs : Vec (Val × Val) Global) (how : Failure) (j : ℕ) → ¬ Fails how (map_of s u) (val.Map xs) → FailsAt how (map_of s u) (val.Map xs) j
    → (i : ℕ) × MemberFails how (pairs_of (length xs.items) s u) (by_turns xs.items) i
pairs_inner s u xs how j own (inl f) = absurd (own f.1)
pairs_inner s u xs how j own (inr (ps, i, q, e, f)) = (i, pairs_failed how s u xs.items i (subst (λ (qs : List (Val × Val)). SomeFails pair_places (λ p x. PairFails how (pair_shape s u) p x) qs i) (one_map xs ps q) f))

pub pairs_fit : (part : Shape) (xs : Vec (Val × Val) Global) (m : ℕ) → length xs.items < 2 ^ 32 → length xs.items * size false part < 2 ^ 32 → ¬ Fails (overflow m) (list of_pairs part) (val.Map xs)
pairs_fit part xs m few fit (ps, q, e, many) = not_many (length xs.items) m (size false part) (e ∙ ap length (one_map xs ps q)) few fit many
