-- A word that is a count is read as its number.
use Rattle.std.proofs.Common.{◌≡◌, ◌<◌, ◌^◌, ◌&&◌, ℕ, List, [], ◌∷◌, Result, Ok, arith, length, nat_le, true}
use Rattle.std.proofs.lemmas.Bool.{and_parts, leb-true}
use Rattle.std.proofs.lemmas.Str.Parse.{IsNumeralModel, digits_value_short, numerals_by_value, parse_gives, tells_all_ascii_digits}
use Rattle.std.specs.Str.{all_ascii_digits}
use Rattle.std.specs.Str.Parse.{ParsesUnsigned, digits_value}
use Rattle.canon_cli.specs.Gen.{is_count, starts_well}

numerals : IsNumeralModel (λ ds. all_ascii_digits ds ≡ true) (digits_value 10)
numerals = numerals_by_value (λ ds. all_ascii_digits ds ≡ true) tells_all_ascii_digits

pub count_parses : {E : Type 0} (word : List ℕ) (r : Result ℕ E) → ParsesUnsigned 32 10 word r → is_count word ≡ true → r ≡ Ok (digits_value 10 word)
count_parses [] r h t = absurd (cc)
count_parses (d ∷ ds) r h t =
    let word = d ∷ ds in
    let few = and_parts (starts_well word) (nat_le (length word) 5 && all_ascii_digits word) t in
    let digits = and_parts (nat_le (length word) 5) (all_ascii_digits word) few.1 in
    let short : digits_value 10 word < 10 ^ 5 = digits_value_short numerals word 5 digits.1 (leb-true (length word) 5 digits.0) in
    parse_gives numerals 32 word r h digits.1 (omega arith) (omega (arith, short))
