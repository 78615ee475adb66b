-- The signatures of typed calls, by what canon_typed, canon_lower and canon_lift say of their Rust types.
use Rattle.std.specs.Prelude.{Bool, Err, List, Ok, Option, Result, String, Vec, [], false, flat_map, map, pos, string_bytes, ℕ, ◌∷◌, ◌≡◌}
use Rattle.std.specs.declared.alloc.Global.{Global}
use Rattle.canon_model.specs.Shape.{Shape}
use Rattle.canon_model.specs.Tree.{Tree, number, truth}
use Rattle.canon_resources.specs.Parts.{Part}
use Rattle.canon_types.specs.Instance.{Instance}
use Rattle.canon_types.specs.declared.types.InterfaceType.{InterfaceType}
use Rattle.canon_types.specs.declared.types.InterfaceType.TheVariants as ty
use Rattle.canon_model.specs.Memory.{cap}
use Rattle.canon_typed.specs.Meaning.{FirstAnd, ListMeans, NoTrees, OptionMeans, ProductMeans, TextMeans}
use Rattle.canon_typed.specs.Types.{IsListOf, IsOptionOf, IsResultOf, IsTupleOf}
use Rattle.canon_lower_parts.specs.Gives.{item_shape, no_handles, option_gives, product_gives}
use Rattle.canon_lift.specs.Firsts.{first_and, first_in, no_more, rest_in}
use Rattle.canon_reading.specs.Reading.{Reading}
use Rattle.canon_reading.specs.Readings.{first_reading, list_reading, none_reading, product_reading, read_as, result_reading, scalar_reading, text_reading}
use Rattle.canon_literals.specs.Literals.{Literal, error, list, literals_of, ok, text, u32, with_payload}
use Rattle.canon_script.specs.Typed.{TypedValues, a_number, a_text, name_view, the_numbers, the_pairs}

-- a Rust tuple of one member
abbrev pub Alone : Type 0 → Type 0
Alone A = record { 0 : A }

-- Of a Rust type whose values are passed: which component types are its, the trees that lowering makes of a value, and what its handles do.
pub record Passing (P : Type 0) : Type 1 where
  pub fits : Instance → InterfaceType → Type 0
  pub walks : P → Tree → Type 0
  pub gives : Instance → Shape → P → List (List Part)

-- Of one whose values are returned: which component types are its, what is read as a value, and the literals of the values that it is
-- printed as.
pub record Returning (R : Type 0) : Type 1 where
  pub fits : Instance → InterfaceType → Type 0
  pub reading : Reading R
  pub literals : R → List Literal

-- Of both, with the values of a script that parameters are.
pub record Signature (P R : Type 0) : Type 1 where
  pub passing : Passing P
  pub returning : Returning R
  pub values : P → TypedValues

-- ---- what is passed

abbrev pub u32_passing : Passing ℕ
u32_passing = record { fits = λ i t. t ≡ ty.U32; walks = λ n t. t ≡ number (pos n); gives = no_handles }

abbrev pub u64_passing : Passing ℕ
u64_passing = record { fits = λ i t. t ≡ ty.U64; walks = λ n t. t ≡ number (pos n); gives = no_handles }

abbrev pub bool_passing : Passing Bool
bool_passing = record { fits = λ i t. t ≡ ty.Bool; walks = λ b t. t ≡ truth b; gives = no_handles }

abbrev pub text_passing : Passing (String Global)
text_passing = record { fits = λ i t. t ≡ ty.String; walks = TextMeans; gives = no_handles }

module _ {A : Type 0} (one : Passing A) where
  abbrev pub list_passing : Passing (Vec A Global)
  list_passing = record {
    fits = IsListOf one.fits;
    walks = λ v. ListMeans one.walks v.items;
    gives = λ i s v. flat_map (one.gives i (item_shape s)) v.items;
  }

  abbrev pub option_passing : Passing (Option A)
  option_passing = record { fits = IsOptionOf one.fits; walks = OptionMeans one.walks; gives = option_gives one.gives }

  abbrev pub alone_passing : Passing (Alone A)
  alone_passing = record {
    fits = IsTupleOf (one.fits ∷ []);
    walks = λ p. ProductMeans (FirstAnd (one.walks p.0) NoTrees);
    gives = λ i s p. product_gives ((λ u. one.gives i u p.0) ∷ []) s;
  }

  abbrev pub pair_passing : {B : Type 0} → Passing B → Passing (A × B)
  pair_passing two = record {
    fits = IsTupleOf (one.fits ∷ two.fits ∷ []);
    walks = λ p. ProductMeans (FirstAnd (one.walks p.0) (FirstAnd (two.walks p.1) NoTrees));
    gives = λ i s p. product_gives ((λ u. one.gives i u p.0) ∷ (λ u. two.gives i u p.1) ∷ []) s;
  }

-- ---- what is returned

abbrev pub u32_reading : Reading ℕ
u32_reading = scalar_reading (λ n t. t ≡ number (pos n))

abbrev pub string_reading : Reading (String Global)
string_reading = text_reading TextMeans

-- an item is charged as 4 bytes
abbrev pub numbers_reading : Reading (Vec ℕ Global)
numbers_reading = read_as (λ v. v.items) (list_reading (cap 4) u32_reading)

abbrev pub outcome_reading : Reading (Result ℕ (String Global))
outcome_reading = result_reading false u32_reading false string_reading

abbrev pub outcome_literal : Result ℕ (String Global) → Literal
outcome_literal (Ok n) = ok (with_payload (u32 n))
outcome_literal (Err s) = error (with_payload (text (string_bytes s)))

-- a tuple of one member, which is printed as this literal
abbrev pub alone_returning : {A : Type 0} → (Instance → InterfaceType → Type 0) → Reading A → (A → Literal) → Returning (Alone A)
alone_returning fits reading literal = record {
  fits = IsTupleOf (fits ∷ []);
  reading = product_reading (λ p. first_and p.0 no_more) (first_reading first_in rest_in reading none_reading);
  literals = λ p. literal p.0 ∷ [];
}

-- ---- the four signatures

abbrev pub number_signature : Signature (Alone ℕ) (Alone ℕ)
number_signature = record {
  passing = alone_passing u32_passing;
  returning = alone_returning (λ i t. t ≡ ty.U32) u32_reading u32;
  values = λ p. a_number p.0;
}

abbrev pub text_signature : Signature (Alone (String Global)) (Alone (String Global))
text_signature = record {
  passing = alone_passing text_passing;
  returning = alone_returning (λ i t. t ≡ ty.String) string_reading (λ s. text (string_bytes s));
  values = λ p. a_text (string_bytes p.0);
}

abbrev pub numbers_signature : Signature (Alone (Vec ℕ Global)) (Alone (Vec ℕ Global))
numbers_signature = record {
  passing = alone_passing (list_passing u32_passing);
  returning = alone_returning (IsListOf (λ i t. t ≡ ty.U32)) numbers_reading (λ v. list (literals_of (map u32 v.items)));
  values = λ p. the_numbers p.0.items;
}

abbrev pub pairs_signature : Signature (Vec (String Global × ℕ) Global × Option Bool) (Alone (Result ℕ (String Global)))
pairs_signature = record {
  passing = pair_passing (list_passing (pair_passing text_passing u64_passing)) (option_passing bool_passing);
  returning = alone_returning (IsResultOf false (λ i t. t ≡ ty.U32) false (λ i t. t ≡ ty.String)) outcome_reading outcome_literal;
  values = λ p. the_pairs (map name_view p.0.items) p.1;
}
