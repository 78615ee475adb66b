-- The law of equality of values. It is proved as the contract of a function in src/laws.rt.
use Rattle.std.specs.Prelude.{◌≡◌, ◌⊎◌, ◌↔◌, IsTrue, ℕ}
use Rattle.canon_resources.specs.Held.{Any}
use Rattle.canon_val.specs.Equal.{DataKind, IsEqual, data_of, float_key, is_equal, is_nan}
use Rattle.canon_val.specs.declared.val.Val.{Val}
use Rattle.canon_val.specs.declared.val.Val.TheVariants as val

-- `==` is true exactly of equal values, and that is an equivalence. Floats are equal where their bits are, or where both are
-- not a number. A copy, which has the data of its source, is equal to it. Resources are equal where they are the same: of one type,
-- with one handle.
pub record ValueEquality : Type 0 where
  pub decides : (v w : Val) → IsTrue (is_equal v w) ↔ IsEqual v w
  pub reflexive : (v : Val) → IsEqual v v
  pub symmetric : (v w : Val) → IsEqual v w → IsEqual w v
  pub transitive : (v w x : Val) → IsEqual v w → IsEqual w x → IsEqual v x
  pub floats : (k : DataKind) (n m : ℕ) → (float_key k n ≡ float_key k m) ↔ ((n ≡ m) ⊎ (IsTrue (is_nan k n) × IsTrue (is_nan k m)))
  pub copies : (v w : Val) → data_of w ≡ data_of v → IsEqual v w
  pub resources : (x y : Any) → IsEqual (val.Resource x) (val.Resource y) ↔ (x ≡ y)
