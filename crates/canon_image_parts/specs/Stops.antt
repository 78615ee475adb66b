-- How reading an image stops: at the first field that is cut off, or that spells nothing. Places count bytes from 0.
use Rattle.std.specs.Prelude.{IsTrue, List, length, suc, take, zero, ℕ, ⊤, ◌+◌, ◌++◌, ◌<◌, ◌^◌, ◌≡◌, ◌≤◌, ◌⊎◌}
use Rattle.std.specs.Str.{all_scalars, encode_utf8_all}
use Rattle.canon_model.specs.Image.{Image, IsField}
use Rattle.canon_model.specs.Layout.{flags_size, scalar_size, tag_size}
use Rattle.canon_model.specs.Rep.{IsLeast, ScalarIs}
use Rattle.canon_model.specs.Shape.{Cases, Members, Scalar, Shape, bare, borrow, case_count, fixed, flags, list, member, no_cases, no_members, own, payload, product, scalar, string, variant}
use Rattle.canon_model.specs.Tree.{Tree}

-- Fewer bytes are left than the field has; or it is whole and spells nothing.
pub data Stop : Type 0 where
  truncated malformed : Stop

-- at a number of k bytes, which are to be good
abbrev pub NumberStops : ℕ → (ℕ → Type 0) → List ℕ → Stop → Type 0
NumberStops k Good bs truncated = length bs < k
NumberStops k Good bs malformed = (n : ℕ) × (rest : List ℕ) × IsField k n bs rest × ¬ Good n

-- at the n bytes of a text
abbrev pub TextStops : ℕ → List ℕ → Stop → Type 0
TextStops n bs truncated = length bs < n
TextStops n bs malformed = (n ≤ length bs) × ((cs : List ℕ) → IsTrue (all_scalars cs) → ¬ (take n bs ≡ encode_utf8_all cs))

-- at a number of k bytes, which has place 0; or after it, at place j of the rest
abbrev pub FirstStops : ℕ → (ℕ → Type 0) → (ℕ → List ℕ → ℕ → Stop → Type 0) → List ℕ → ℕ → Stop → Type 0
FirstStops k Good After bs p how = ((p ≡ 0) × NumberStops k Good bs how)
    ⊎ ((n : ℕ) × (rest : List ℕ) × (j : ℕ) × IsField k n bs rest × (p ≡ k + j) × After n rest j how)

-- at place p of n images in a row: those before are whole
abbrev pub RowStops : (Tree → List ℕ → Type 0) → (List ℕ → ℕ → Stop → Type 0) → ℕ → List ℕ → ℕ → Stop → Type 0
RowStops Whole Stops zero bs p how = ⊥
RowStops Whole Stops (suc n) bs p how = Stops bs p how
    ⊎ ((t : Tree) × (xs : List ℕ) × (rest : List ℕ) × (j : ℕ) × (bs ≡ xs ++ rest) × Whole t xs × (p ≡ length xs + j) × RowStops Whole Stops n rest j how)

-- the number is what a scalar is spelled as
abbrev pub IsSpelling : Scalar → ℕ → Type 0
IsSpelling k n = (t : Tree) × ScalarIs k n t × IsLeast k n

abbrev mutual
  -- all fields before place p are well formed, and reading stops at the field there
  pub StopsAt : Shape → List ℕ → ℕ → Stop → Type 0
  StopsAt (scalar k) bs p how = (p ≡ 0) × NumberStops (scalar_size k) (IsSpelling k) bs how
  StopsAt string bs p how = FirstStops 8 (λ n. ⊤) (λ n rest j h. (j ≡ 0) × TextStops n rest h) bs p how
  StopsAt (own r) bs p how = ⊥
  StopsAt (borrow r) bs p how = ⊥
  StopsAt (list k s) bs p how = FirstStops 8 (λ n. ⊤) (λ n rest j h. RowStops (λ t xs. Image s t xs) (λ xs i g. StopsAt s xs i g) n rest j h) bs p how
  StopsAt (fixed n s) bs p how = RowStops (λ t xs. Image s t xs) (λ xs i g. StopsAt s xs i g) n bs p how
  StopsAt (product k ms) bs p how = MembersStop ms bs p how
  StopsAt (variant k cs) bs p how = FirstStops (tag_size (case_count cs)) (λ d. d < case_count cs) (λ d rest j h. CaseStops cs d rest j h) bs p how
  StopsAt (flags names) bs p how = (p ≡ 0) × NumberStops (flags_size (length names)) (λ n. n < 2 ^ length names) bs how

  pub MembersStop : Members → List ℕ → ℕ → Stop → Type 0
  MembersStop no_members bs p how = ⊥
  MembersStop (member name s ms) bs p how = StopsAt s bs p how
      ⊎ ((t : Tree) × (xs : List ℕ) × (rest : List ℕ) × (j : ℕ) × (bs ≡ xs ++ rest) × Image s t xs × (p ≡ length xs + j) × MembersStop ms rest j how)

  -- in the payload of case i
  pub CaseStops : Cases → ℕ → List ℕ → ℕ → Stop → Type 0
  CaseStops no_cases i bs p how = ⊥
  CaseStops (bare name cs) zero bs p how = ⊥
  CaseStops (bare name cs) (suc i) bs p how = CaseStops cs i bs p how
  CaseStops (payload name s cs) zero bs p how = StopsAt s bs p how
  CaseStops (payload name s cs) (suc i) bs p how = CaseStops cs i bs p how

-- the first p bytes are an image, and more follow
abbrev pub IsFollowed : Shape → List ℕ → ℕ → Type 0
IsFollowed s bs p = (t : Tree) × (xs : List ℕ) × (rest : List ℕ) × (bs ≡ xs ++ rest) × Image s t xs × (p ≡ length xs) × (0 < length rest)
