-- How things are written as bytes, field by field, and how reading them stops.
use Rattle.std.specs.Prelude.{List, [], length, replicate, ℕ, ⊤, ◌++◌, ◌+◌, ◌<◌, ◌∷◌, ◌≡◌, ◌≢◌, ◌⊎◌}
use Rattle.canon_model.specs.Image.{IsField}

-- Which bytes a thing is written as; and at which place reading bytes stops: all fields before it are whole and spell something, and the
-- one there is cut off or spells nothing.
pub record Format (A : Type 0) : Type 1 where
  pub writes : A → List ℕ → Type 0
  pub stops : List ℕ → ℕ → Type 0

-- No way to write one begins another way, whatever follows; what was written doesn't stop reading; reading stops at one place; and a
-- thing is written in one way.
pub record IsFormat {A : Type 0} (F : Format A) : Type 0 where
  pub apart : (a b : A) (xs ys more rest : List ℕ) → F.writes a xs → F.writes b ys → xs ++ more ≡ ys ++ rest → (xs ≡ ys) × (more ≡ rest)
  pub whole : (a : A) (bs xs rest : List ℕ) (p : ℕ) → bs ≡ xs ++ rest → F.writes a xs → ¬ F.stops bs p
  pub once : (bs : List ℕ) (p q : ℕ) → F.stops bs p → F.stops bs q → p ≡ q
  pub one_way : (a : A) (xs ys : List ℕ) → F.writes a xs → F.writes a ys → xs ≡ ys

-- ---- fields

-- a good number in k bytes, the lowest first
abbrev pub number : ℕ → (ℕ → Type 0) → Format ℕ
number k Good = record {
  writes = λ n bs. Good n × IsField k n bs [];
  stops = λ bs p. (p ≡ 0) × ((length bs < k) ⊎ ((n : ℕ) × (rest : List ℕ) × IsField k n bs rest × ¬ Good n));
}

abbrev pub any_number : ℕ → Format ℕ
any_number k = number k (λ n. ⊤)

-- these very bytes
abbrev pub exactly : List ℕ → Format (Unit {0})
exactly xs = record {
  writes = λ u bs. bs ≡ xs;
  stops = λ bs p. (p ≡ 0) × ((rest : List ℕ) → bs ≢ xs ++ rest);
}

-- so many bytes in one field, which spell a thing
abbrev pub sized_field : {A : Type 0} → (A → List ℕ → Type 0) → ℕ → Format A
sized_field {A} Spell n = record {
  writes = λ a bs. (length bs ≡ n) × Spell a bs;
  stops = λ bs p. (p ≡ 0) × ((length bs < n) ⊎ ((xs : List ℕ) × (rest : List ℕ) × (bs ≡ xs ++ rest) × (length xs ≡ n) × ((a : A) → ¬ Spell a xs)));
}

-- nothing is written so
abbrev pub none : {A : Type 0} → Format A
none = record { writes = λ a bs. ⊥; stops = λ bs p. p ≡ 0 }

-- an empty list, in no bytes
abbrev pub empty_list : {A : Type 0} → Format (List A)
empty_list = record { writes = λ xs bs. (xs ≡ []) × (bs ≡ []); stops = λ bs p. ⊥ }

-- ---- one after another

module _ {A B : Type 0} where
  -- one behind the other
  abbrev pub also : Format A → Format B → Format (A × B)
  also F G = record {
    writes = λ x bs. (xs ys : List ℕ) × (bs ≡ xs ++ ys) × F.writes x.0 xs × G.writes x.1 ys;
    stops = λ bs p. F.stops bs p ⊎ ((a : A) × (xs rest : List ℕ) × (j : ℕ) × (bs ≡ xs ++ rest) × F.writes a xs × (p ≡ length xs + j) × G.stops rest j);
  }

  -- the same thing, in other words
  abbrev pub as_ : (A → B) → Format A → Format B
  as_ f F = record { writes = λ b bs. (a : A) × (b ≡ f a) × F.writes a bs; stops = F.stops }

-- a number, which says how the rest is written
abbrev pub then_ : {B : Type 0} → ℕ → (ℕ → Type 0) → (ℕ → Format B) → Format B
then_ k Good G = record {
  writes = λ b bs. (n : ℕ) × (rest : List ℕ) × Good n × IsField k n bs rest × (G n).writes b rest;
  stops = λ bs p. (number k Good).stops bs p ⊎ ((n : ℕ) × (rest : List ℕ) × (j : ℕ) × Good n × IsField k n bs rest × (p ≡ k + j) × (G n).stops rest j);
}

-- a thing, and others behind it
abbrev pub prepend : {A : Type 0} → A × List A → List A
prepend x = x.0 ∷ x.1

abbrev pub before : {A : Type 0} → Format A → Format (List A) → Format (List A)
before F G = as_ prepend (also F G)

-- for each of these one thing in its format, in a row
abbrev pub for_each : {I A : Type 0} → (I → Format A) → List I → Format (List A)
for_each F [] = empty_list
for_each F (i ∷ is) = before (F i) (for_each F is)

-- n of them in a row
abbrev pub so_many : ℕ → List (Unit {0})
so_many n = replicate n tt

abbrev pub in_a_row : {A : Type 0} → Format A → ℕ → Format (List A)
in_a_row F n = for_each (λ u. F) (so_many n)

-- their number in k bytes, and they
abbrev pub counted_row : {A : Type 0} → ℕ → Format A → Format (List A)
counted_row k F = then_ k (λ n. ⊤) (in_a_row F)
