-- The parameters of a typed call: the values of one of four signatures, as literals and apart from how they are kept.
use Rattle.std.specs.Prelude.{ℕ, Bool, List, [], ◌∷◌, None, Option, Some, String, if◌then◌else◌, map, nat_eq, option_and_then, option_map, string_bytes, ◌≡◌}
use Rattle.std.specs.declared.alloc.Global.{Global}
use Rattle.canon_model.specs.Shape.{Name}
use Rattle.canon_literals.specs.Literals.{Literal, Literals, Payload, bool, list, literal, literals_of, no_literals, no_payload, option, text, tuple, u32, u64, with_payload}
use Rattle.canon_script.specs.declared.script.TypedParams.{TypedParams}
use Rattle.canon_script.specs.declared.script.TypedParams.TheVariants as params

-- a u32, the bytes of a text, a list of u32, or a list of pairs, each of a text and a u64, with an optional bool
pub data TypedValues : Type 0 where
  a_number : ℕ → TypedValues
  a_text : Name → TypedValues
  the_numbers : List ℕ → TypedValues
  the_pairs : List (Name × ℕ) → Option Bool → TypedValues

-- the number of their signature
abbrev pub signature_number : TypedValues → ℕ
signature_number (a_number n) = 1
signature_number (a_text s) = 2
signature_number (the_numbers ns) = 3
signature_number (the_pairs ps flag) = 4

-- ---- as literals

abbrev pub pair_literal : Name × ℕ → Literal
pair_literal p = tuple (literal (text p.0) (literal (u64 p.1) no_literals))

abbrev pub flag_payload : Option Bool → Payload
flag_payload None = no_payload
flag_payload (Some b) = with_payload (bool b)

abbrev pub typed_literals : TypedValues → List Literal
typed_literals (a_number n) = u32 n ∷ []
typed_literals (a_text s) = text s ∷ []
typed_literals (the_numbers ns) = list (literals_of (map u32 ns)) ∷ []
typed_literals (the_pairs ps flag) = list (literals_of (map pair_literal ps)) ∷ option (flag_payload flag) ∷ []

-- ---- from literals

abbrev pub literal_number : Literal → Option ℕ
literal_number (u32 n) = Some n
literal_number _ = None

abbrev pub long_in : Literal → Option ℕ
long_in (u64 n) = Some n
long_in _ = None

abbrev pub string_in : Literal → Option Name
string_in (text s) = Some s
string_in _ = None

abbrev pub truth_in : Literal → Option Bool
truth_in (bool b) = Some b
truth_in _ = None

abbrev pub flag_from : Payload → Option (Option Bool)
flag_from no_payload = Some None
flag_from (with_payload x) = option_map (λ b. Some b) (truth_in x)

abbrev pub flag_in : Literal → Option (Option Bool)
flag_in (option p) = flag_from p
flag_in _ = None

abbrev pub two_in : Literals → Option (Literal × Literal)
two_in (literal x (literal y no_literals)) = Some (x, y)
two_in _ = None

abbrev pub tuple_in : Literal → Option (Literal × Literal)
tuple_in (tuple xs) = two_in xs
tuple_in _ = None

-- a tuple of a text and a u64
abbrev pub string_and_long_in : Literal → Option (Name × ℕ)
string_and_long_in x = option_and_then (λ m. option_and_then (λ s. option_map (λ n. (s, n)) (long_in m.1)) (string_in m.0)) (tuple_in x)

abbrev pub each_literal : {A : Type 0} → (Literal → Option A) → Literals → Option (List A)
each_literal read no_literals = Some []
each_literal read (literal x xs) = option_and_then (λ y. option_map (λ ys. y ∷ ys) (each_literal read xs)) (read x)

-- the items of a list
abbrev pub list_in : Literal → Option Literals
list_in (list xs) = Some xs
list_in _ = None

abbrev pub list_items_in : {A : Type 0} → (Literal → Option A) → Literal → Option (List A)
list_items_in read x = option_and_then (each_literal read) (list_in x)

-- the only literal, and two of them
abbrev pub alone : {A : Type 0} → (Literal → Option A) → List Literal → Option A
alone read (x ∷ []) = read x
alone read _ = None

abbrev pub both_literals : {A B : Type 0} → (Literal → Option A) → (Literal → Option B) → List Literal → Option (A × B)
both_literals read read2 (x ∷ y ∷ []) = option_and_then (λ a. option_map (λ b. (a, b)) (read2 y)) (read x)
both_literals read read2 _ = None

-- the values of this signature that literals are
abbrev pub typed_values : ℕ → List Literal → Option TypedValues
typed_values signature xs =
    if nat_eq signature 1 then option_map a_number (alone literal_number xs)
    else (if nat_eq signature 2 then option_map a_text (alone string_in xs)
    else (if nat_eq signature 3 then option_map the_numbers (alone (list_items_in literal_number) xs)
    else (if nat_eq signature 4 then option_map (λ p. the_pairs p.0 p.1) (both_literals (list_items_in string_and_long_in) flag_in xs)
    else None)))

-- ---- how they are kept

abbrev pub name_view : String Global × ℕ → Name × ℕ
name_view p = (string_bytes p.0, p.1)

abbrev pub typed_view : TypedParams → TypedValues
typed_view (params.Number n) = a_number n
typed_view (params.Text s) = a_text (string_bytes s)
typed_view (params.Numbers ns) = the_numbers ns.items
typed_view (params.Pairs ps flag) = the_pairs (map name_view ps.items) flag

-- ---- laws

-- what was read has the signature, and its literals are these
pub record IsForm (signature : ℕ) (xs : List Literal) (v : TypedValues) : Type 0 where
  pub signature_is : signature_number v ≡ signature
  pub literals_are : typed_literals v ≡ xs

-- the literals of values are read as these values
abbrev pub AreReadBack : TypedValues → Type 0
AreReadBack v = typed_values (signature_number v) (typed_literals v) ≡ Some v
