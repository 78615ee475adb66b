-- The laws of a point: those of a tuple, over the laws of its coordinates.
use Rattle.std.specs.Prelude.{[], ◌∷◌, ◌≡◌, pos, refl, ℕ}
use Rattle.canon_lower_parts.specs.Given.{IsGiven, first_given, none_given, scalar_given, tuple_given}
use Rattle.canon_lower_parts.specs.Gives.{no_handles, product_gives}
use Rattle.canon_model.specs.Shape as shape
use Rattle.canon_model.specs.Tree.{Tree, number}
use Rattle.canon_types.specs.Instance.{Instance}
use Rattle.canon_types.specs.declared.types.InterfaceType.{InterfaceType}
use Rattle.canon_types.specs.declared.types.InterfaceType.TheVariants as ty
use Rattle.canon_typed.specs.Charges.{free, product_cost}
use Rattle.canon_typed.specs.Meaning.{FirstAnd, NoTrees, ProductMeans}
use Rattle.canon_typed.specs.Scalars.{scalar_of}
use Rattle.canon_typed.specs.Typed.{IsTyped, first_typed, none_typed, scalar_typed, tuple_typed}
use Rattle.canon_typed.specs.Types.{IsTupleOf}
use Rattle.canon_reading.specs.Apart.{IsApart, end_apart, more_apart, product_apart, tree_apart}
use Rattle.canon_lift.specs.Firsts.{first_and, first_in, no_more, rest_in}
use Rattle.canon_reading.specs.OfTrees.{IsFaulted, IsOfTrees, IsPriced, scalar_priced, scalar_told, tree_faulted}
use Rattle.canon_reading.specs.Reading.{AreTaken, Reading}
use Rattle.canon_reading.specs.Readings.{first_reading, none_reading, product_reading, scalar_reading}
use Rattle.canon_reading.specs.RowsOfTrees.{end_faulted, end_priced, end_told, more_faulted, more_priced, more_told, tuple_faulted, tuple_priced, tuple_told}
use Rattle.canon_reading.specs.Scopes.{IsKept, end_kept, more_kept, plain_kept, tuple_kept}
use Rattle.canon_reading.specs.Taken.{end_taken, more_taken, product_taken, scalar_taken}
use Rattle.canon_example_typed.specs.declared.point.Point.{Point}

-- ---- over any reading of a coordinate

module _ (Fit : Instance → InterfaceType → Type 0) (R : Reading ℕ) where
  kept_by : IsKept Fit R → IsKept (IsTupleOf (Fit ∷ Fit ∷ []))
      (product_reading (λ (p : Point). first_and p.x (first_and p.y no_more)) (first_reading first_in rest_in R (first_reading first_in rest_in R none_reading)))
  kept_by law = tuple_kept (λ p. first_and p.x (first_and p.y no_more)) (more_kept law (more_kept law end_kept))

  taken_by : AreTaken R → AreTaken
      (product_reading (λ (p : Point). first_and p.x (first_and p.y no_more)) (first_reading first_in rest_in R (first_reading first_in rest_in R none_reading)))
  taken_by law =
      product_taken (λ p. first_and p.x (first_and p.y no_more)) (first_reading first_in rest_in R (first_reading first_in rest_in R none_reading))
      (more_taken first_in rest_in R (first_reading first_in rest_in R none_reading) law (more_taken first_in rest_in R none_reading law end_taken))

  apart_by : IsApart R → IsApart
      (product_reading (λ (p : Point). first_and p.x (first_and p.y no_more)) (first_reading first_in rest_in R (first_reading first_in rest_in R none_reading)))
  apart_by law = product_apart (λ p. first_and p.x (first_and p.y no_more)) (more_apart law (more_apart law end_apart))

  faulted_by : IsFaulted Fit R → IsFaulted (IsTupleOf (Fit ∷ Fit ∷ []))
      (product_reading (λ (p : Point). first_and p.x (first_and p.y no_more)) (first_reading first_in rest_in R (first_reading first_in rest_in R none_reading)))
  faulted_by law = tuple_faulted (λ p. first_and p.x (first_and p.y no_more)) (more_faulted law (more_faulted law end_faulted))

  priced_by : (price : Tree → ℕ) → IsPriced Fit R price → IsPriced (IsTupleOf (Fit ∷ Fit ∷ []))
      (product_reading (λ (p : Point). first_and p.x (first_and p.y no_more)) (first_reading first_in rest_in R (first_reading first_in rest_in R none_reading)))
      (product_cost (price ∷ price ∷ []))
  priced_by price law = tuple_priced (λ p. first_and p.x (first_and p.y no_more)) (more_priced law (more_priced law end_priced))

  told_by : (Lifts : ℕ → Tree → Type 0) → IsOfTrees Fit R Lifts
      → IsOfTrees (IsTupleOf (Fit ∷ Fit ∷ []))
      (product_reading (λ (p : Point). first_and p.x (first_and p.y no_more)) (first_reading first_in rest_in R (first_reading first_in rest_in R none_reading)))
      (λ p. ProductMeans (FirstAnd (Lifts p.x) (FirstAnd (Lifts p.y) NoTrees)))
  told_by Lifts law = tuple_told (λ p. first_and p.x (first_and p.y no_more)) (more_told law (more_told law end_told))

typed_by : (Fit : Instance → InterfaceType → Type 0) (Means : ℕ → Tree → Type 0) → IsTyped Fit Means
    → IsTyped (IsTupleOf (Fit ∷ Fit ∷ [])) (λ (p : Point). ProductMeans (FirstAnd (Means p.x) (FirstAnd (Means p.y) NoTrees)))
typed_by Fit Means law = tuple_typed (Fit ∷ Fit ∷ []) (λ p. FirstAnd (Means p.x) (FirstAnd (Means p.y) NoTrees))
    (λ p. first_typed Fit (Fit ∷ []) (Means p.x) (FirstAnd (Means p.y) NoTrees) (law p.x) (first_typed Fit [] (Means p.y) NoTrees (law p.y) none_typed))

-- ---- the coordinates are numbers

abbrev IsNumberType : Instance → InterfaceType → Type 0
IsNumberType i t = t ≡ ty.U32

abbrev IsNumber : ℕ → Tree → Type 0
IsNumber n t = t ≡ number (pos n)

abbrev number_reading : Reading ℕ
number_reading = scalar_reading IsNumber

number_kept : IsKept IsNumberType number_reading
number_kept = plain_kept (λ w at s. refl)

number_faulted : IsFaulted IsNumberType number_reading
number_faulted = tree_faulted {Lifts = IsNumber}

number_given : IsGiven IsNumberType IsNumber no_handles
number_given = scalar_given shape.u32 _ (scalar_of ty.U32 shape.u32 (λ i. refl))

number_told : IsOfTrees IsNumberType number_reading IsNumber
number_told = scalar_told shape.u32 (scalar_of ty.U32 shape.u32 (λ i. refl))

abbrev pub IsPointType : Instance → InterfaceType → Type 0
IsPointType = IsTupleOf (IsNumberType ∷ IsNumberType ∷ [])

abbrev pub IsPoint : Point → Tree → Type 0
IsPoint p = ProductMeans (FirstAnd (IsNumber p.x) (FirstAnd (IsNumber p.y) NoTrees))

abbrev pub point_reading : Reading Point
point_reading = product_reading (λ p. first_and p.x (first_and p.y no_more)) (first_reading first_in rest_in number_reading (first_reading first_in rest_in number_reading none_reading))

pub point_typed : IsTyped IsPointType IsPoint
point_typed = typed_by IsNumberType IsNumber (scalar_typed ty.U32 IsNumber (λ i n u e. (n, e)))

pub point_kept : IsKept IsPointType point_reading
point_kept = kept_by IsNumberType number_reading number_kept

pub point_taken : AreTaken point_reading
point_taken = taken_by IsNumberType number_reading (scalar_taken IsNumber)

pub point_apart : IsApart point_reading
point_apart = apart_by IsNumberType number_reading (tree_apart {Lifts = IsNumber})

pub point_faulted : IsFaulted IsPointType point_reading
point_faulted = faulted_by IsNumberType number_reading number_faulted

pub point_priced : IsPriced IsPointType point_reading (product_cost (free ∷ free ∷ []))
point_priced = priced_by IsNumberType number_reading free (scalar_priced {Lifts = IsNumber} free refl)

pub point_told : IsOfTrees IsPointType point_reading IsPoint
point_told = told_by IsNumberType number_reading IsNumber number_told

pub point_given : IsGiven IsPointType IsPoint (λ i s p. product_gives ((λ u. no_handles i u p.x) ∷ (λ u. no_handles i u p.y) ∷ []) s)
point_given = tuple_given (IsNumberType ∷ IsNumberType ∷ []) _ (λ p. first_given (IsNumberType ∷ []) _ _ (number_given p.x) (first_given [] _ _ (number_given p.y) none_given))
