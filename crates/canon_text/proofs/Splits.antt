-- Two fronts of one source: one goes on from the other.
use Rattle.std.proofs.Common.{List, [], ap, append_assoc, arith, inl, inr, length, refl, subst, sym, true, ℕ, ⊎_elim, ◌++◌, ◌∙◌, ◌∷◌, ◌≡◌, ◌⊎◌}
use Rattle.std.proofs.lemmas.Bool.{and_from, and_parts}
use Rattle.std.proofs.lemmas.List.{append-nil, length-append}
use Rattle.std.proofs.lemmas.Str.{encode_same}
use Rattle.canon_model.proofs.Passes.{units-append}
use Rattle.canon_model.specs.Text.{Form, can_spell, in_latin1, in_utf16, in_utf8, units}
use Rattle.canon_text.specs.Faults.{IllFormed}
use Rattle.canon_text.proofs.Bytes.{latin1_parts, one_latin1}
use Rattle.canon_text.proofs.Pairs.{char_same, units-one}

-- the first character of a text that can be spelled
pub first_can : (form : Form) (c : ℕ) (cs : List ℕ) → can_spell form (c ∷ cs) ≡ true → (can_spell form (c ∷ []) ≡ true) × (can_spell form cs ≡ true)
first_can in_utf8 c cs h = let p = and_parts _ _ h in (and_from _ _ p.0 refl, p.1)
first_can in_utf16 c cs h = let p = and_parts _ _ h in (and_from _ _ p.0 refl, p.1)
first_can in_latin1 c cs h = let p = latin1_parts c cs h in (one_latin1 c p.0, p.1)

pub first_units : (form : Form) (c : ℕ) (cs rest : List ℕ) → units form (c ∷ cs) ++ rest ≡ units form (c ∷ []) ++ (units form cs ++ rest)
first_units form c cs rest = ap (λ l. l ++ rest) (units-append form (c ∷ []) cs) ∙ append_assoc (units form (c ∷ [])) (units form cs) rest

-- no character begins another
pub first_same : (form : Form) (c d : ℕ) (xs ys : List ℕ) → can_spell form (c ∷ []) ≡ true → can_spell form (d ∷ []) ≡ true → units form (c ∷ []) ++ xs ≡ units form (d ∷ []) ++ ys → (c ≡ d) × (xs ≡ ys)
first_same in_utf8 c d xs ys h g e = encode_same c d xs ys (ap (λ l. l ++ xs) (sym (append-nil _)) ∙ e ∙ ap (λ l. l ++ ys) (append-nil _))
first_same in_utf16 c d xs ys h g e = char_same c d xs ys (and_parts _ _ h).0 (and_parts _ _ g).0 (ap (λ l. l ++ xs) (sym (units-one c)) ∙ e ∙ ap (λ l. l ++ ys) (units-one d))
first_same in_latin1 c d xs ys h g e = (cc, cc)

-- the second front is the first and more
pub record GoesOn (form : Form) (cs ds xs ys : List ℕ) : Type 0 where
  pub more : List ℕ
  pub is : ds ≡ cs ++ more
  pub rest : xs ≡ units form more ++ ys
  pub can : can_spell form more ≡ true

pub units-nil : (form : Form) → units form [] ≡ []
units-nil in_utf8 = refl
units-nil in_utf16 = refl
units-nil in_latin1 = refl

pub nil_can : (form : Form) → can_spell form [] ≡ true
nil_can in_utf8 = refl
nil_can in_utf16 = refl
nil_can in_latin1 = refl

longer : (form : Form) (c : ℕ) (cs ds xs ys : List ℕ) → GoesOn form cs ds xs ys → GoesOn form (c ∷ cs) (c ∷ ds) xs ys
longer form c cs ds xs ys h = record { more = h.more; is = ap (λ l. c ∷ l) h.is; rest = h.rest; can = h.can }

pub fronts : (form : Form) (cs ds xs ys : List ℕ) → can_spell form cs ≡ true → can_spell form ds ≡ true → units form cs ++ xs ≡ units form ds ++ ys → GoesOn form cs ds xs ys ⊎ GoesOn form ds cs ys xs
fronts form [] ds xs ys h g e = inl (record { more = ds; is = refl; rest = ap (λ l. l ++ xs) (sym (units-nil form)) ∙ e; can = g })
fronts form (c ∷ cs) [] xs ys h g e = inr (record { more = c ∷ cs; is = refl; rest = ap (λ l. l ++ ys) (sym (units-nil form)) ∙ sym e; can = h })
fronts form (c ∷ cs) (d ∷ ds) xs ys h g e =
    let hs = first_can form c cs h in
    let gs = first_can form d ds g in
    let same = first_same form c d (units form cs ++ xs) (units form ds ++ ys) hs.0 gs.0 (sym (first_units form c cs xs) ∙ e ∙ first_units form d ds ys) in
    subst (λ k. GoesOn form (c ∷ cs) (k ∷ ds) xs ys ⊎ GoesOn form (k ∷ ds) (c ∷ cs) ys xs) same.0
    (⊎_elim (λ l. inl (longer form c cs ds xs ys l)) (λ r. inr (longer form c ds cs ys xs r)) (fronts form cs ds xs ys hs.1 gs.1 same.1))

-- what is ill-formed begins no text
pub ill_begins : (form : Form) (xs more ys : List ℕ) → IllFormed form xs → can_spell form more ≡ true → xs ≡ units form more ++ ys → more ≡ []
ill_begins form xs [] ys ill can e = refl
ill_begins form xs (c ∷ more) ys ill can e = absurd (ill.none c (record { more = units form more ++ ys; can = (first_can form c more can).0; is = e ∙ first_units form c more ys }))

pub ill_same : (form : Form) (cs ds xs ys : List ℕ) → can_spell form cs ≡ true → can_spell form ds ≡ true → units form cs ++ xs ≡ units form ds ++ ys → IllFormed form xs → IllFormed form ys → cs ≡ ds
ill_same form cs ds xs ys h g e ill jll = ⊎_elim
    (λ l. sym (l.is ∙ ap (λ m. cs ++ m) (ill_begins form xs l.more ys ill l.can l.rest) ∙ append-nil cs))
    (λ r. r.is ∙ ap (λ m. ds ++ m) (ill_begins form ys r.more xs jll r.can r.rest) ∙ append-nil ds)
    (fronts form cs ds xs ys h g e)

-- an ill-formed rest, and a front that leaves another
pub ill_front : (form : Form) (cs ds xs ys : List ℕ) → can_spell form cs ≡ true → can_spell form ds ≡ true → units form cs ++ xs ≡ units form ds ++ ys → IllFormed form xs → GoesOn form ds cs ys xs
ill_front form cs ds xs ys h g e ill = ⊎_elim
    (λ l.
    let none = ill_begins form xs l.more ys ill l.can l.rest in
    record {
      more = [];
      is = sym (l.is ∙ ap (λ m. cs ++ m) none ∙ append-nil cs) ∙ sym (append-nil ds);
      rest = sym (l.rest ∙ ap (λ m. units form m ++ ys) none ∙ ap (λ m. m ++ ys) (units-nil form))
          ∙ ap (λ m. m ++ xs) (sym (units-nil form));
      can = nil_can form;
    })
    (λ r. r)
    (fronts form cs ds xs ys h g e)

pub nothing_left : (form : Form) (more xs : List ℕ) → [] ≡ units form more ++ xs → xs ≡ []
nothing_left form more [] e = refl
nothing_left form more (x ∷ xs) e = let long = ap length e ∙ length-append (units form more) (x ∷ xs) in absurd (omega arith)
