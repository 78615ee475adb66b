-- Values of a signature and their literals.
use Rattle.std.proofs.Common.{◌≡◌, ◌≢◌, ◌∙◌, ℕ, length, Bool, true, false, IsTrue, if◌then◌else◌, nat_eq, List, [], ◌∷◌, None, Option, Some, ap, ap₂, map, option_and_then, option_map, refl, subst, sym}
use Rattle.std.proofs.lemmas.Bool.{eqb-true}
use Rattle.std.proofs.lemmas.Option.{option_and_then_some, same_Some}
use Rattle.canon_model.specs.Shape.{Name}
use Rattle.canon_json.proofs.Found.{by_map}
use Rattle.canon_val.specs.declared.val.Val.{Val}
use Rattle.canon_literals.specs.Literals.{Literal, Literals, Payload, literals_view, bool, list, literal, literals_of, no_literals, no_payload, option, text, tuple, u32, u64, with_payload}
use Rattle.canon_script.specs.Typed.{IsForm, AreReadBack, TypedValues, a_number, a_text, alone, both_literals, each_literal, flag_from, flag_in, flag_payload, list_items_in, long_in, literal_number, string_and_long_in, pair_literal, signature_number, string_in, the_numbers, the_pairs, truth_in, tuple_in, two_in, typed_literals, typed_values}

-- a row of another length has no two members
pub script_two_of_none : (vs : List Val) → length vs ≢ 2 → two_in (literals_of (literals_view vs)) ≡ None
script_two_of_none [] h = refl
script_two_of_none (v ∷ []) h = refl
script_two_of_none (v ∷ w ∷ []) h = absurd (h refl)
script_two_of_none (v ∷ w ∷ x ∷ vs) h = refl

-- ---- what is read has these literals

-- a reader, and what it reads as a literal
abbrev Inverts : {A : Type 0} → (Literal → Option A) → (A → Literal) → Type 0
Inverts {A} read told = (x : Literal) (a : A) → read x ≡ Some a → told a ≡ x

number_inverts : Inverts literal_number u32
number_inverts (u32 n) a e = ap u32 (sym (same_Some n a e))
number_inverts _ a e = absurd (cc)

long_inverts : Inverts long_in u64
long_inverts (u64 n) a e = ap u64 (sym (same_Some n a e))
long_inverts _ a e = absurd (cc)

text_inverts : Inverts string_in text
text_inverts (text s) a e = ap text (sym (same_Some s a e))
text_inverts _ a e = absurd (cc)

truth_inverts : Inverts truth_in bool
truth_inverts (bool b) a e = ap bool (sym (same_Some b a e))
truth_inverts _ a e = absurd (cc)

flag_told : (p : Payload) (a : Option Bool) → flag_from p ≡ Some a → flag_payload a ≡ p
flag_told no_payload a e = ap flag_payload (sym (same_Some None a e))
flag_told (with_payload x) a e = by_map (λ b. Some b) (truth_in x) a e (λ b s is. ap flag_payload (sym is) ∙ ap with_payload (truth_inverts x b s))

flag_inverts : Inverts flag_in (λ flag. option (flag_payload flag))
flag_inverts (option p) a e = ap option (flag_told p a e)
flag_inverts _ a e = absurd (cc)

two_are : (xs : Literals) (p : Literal × Literal) → two_in xs ≡ Some p → literal p.0 (literal p.1 no_literals) ≡ xs
two_are no_literals p e = absurd (cc)
two_are (literal x no_literals) p e = absurd (cc)
two_are (literal x (literal y no_literals)) p e = ap (λ (q : Literal × Literal). literal q.0 (literal q.1 no_literals)) (sym (same_Some (x, y) p e))
two_are (literal x (literal y (literal z xs))) p e = absurd (cc)

tuple_inverts : Inverts tuple_in (λ p. tuple (literal p.0 (literal p.1 no_literals)))
tuple_inverts (tuple xs) p e = ap tuple (two_are xs p e)
tuple_inverts _ p e = absurd (cc)

pair_inverts : Inverts string_and_long_in pair_literal
pair_inverts x a e =
    option_and_then_some (λ m. option_and_then (λ s. option_map (λ n. (s, n)) (long_in m.1)) (string_in m.0)) (tuple_in x) a e (λ m s1 e1.
    option_and_then_some (λ s. option_map (λ n. (s, n)) (long_in m.1)) (string_in m.0) a e1 (λ s s2 e2.
    by_map (λ n. (s, n)) (long_in m.1) a e2 (λ n s3 is.
    ap pair_literal (sym is) ∙ (ap₂ (λ y z. tuple (literal y (literal z no_literals))) (text_inverts m.0 s s2) (long_inverts m.1 n s3) ∙ tuple_inverts x m s1))))

module _ {A : Type 0} (read : Literal → Option A) (told : A → Literal) (law : Inverts read told) where
  each_inverts : (xs : Literals) (ys : List A) → each_literal read xs ≡ Some ys → literals_of (map told ys) ≡ xs
  each_inverts no_literals ys e = ap (λ zs. literals_of (map told zs)) (sym (same_Some [] ys e))
  each_inverts (literal x xs) ys e =
      option_and_then_some (λ y. option_map (λ zs. y ∷ zs) (each_literal read xs)) (read x) ys e (λ y s1 e1.
      by_map (λ zs. y ∷ zs) (each_literal read xs) ys e1 (λ zs s2 is.
      ap (λ ws. literals_of (map told ws)) (sym is) ∙ ap₂ literal (law x y s1) (each_inverts xs zs s2)))

  items_inverts : Inverts (list_items_in read) (λ ys. list (literals_of (map told ys)))
  items_inverts (list xs) ys e = ap list (each_inverts xs ys e)
  items_inverts _ ys e = absurd (cc)

  alone_inverts : (xs : List Literal) (a : A) → alone read xs ≡ Some a → told a ∷ [] ≡ xs
  alone_inverts [] a e = absurd (cc)
  alone_inverts (x ∷ []) a e = ap (λ (y : Literal). y ∷ []) (law x a e)
  alone_inverts (x ∷ y ∷ xs) a e = absurd (cc)

module _ {A B : Type 0} (read : Literal → Option A) (told : A → Literal) (read2 : Literal → Option B) (told2 : B → Literal) (law : Inverts read told) (law2 : Inverts read2 told2) where
  both_inverts : (xs : List Literal) (p : A × B) → both_literals read read2 xs ≡ Some p → told p.0 ∷ told2 p.1 ∷ [] ≡ xs
  both_inverts [] p e = absurd (cc)
  both_inverts (x ∷ []) p e = absurd (cc)
  both_inverts (x ∷ y ∷ []) p e =
      option_and_then_some (λ a. option_map (λ b. (a, b)) (read2 y)) (read x) p e (λ a s1 e1.
      by_map (λ b. (a, b)) (read2 y) p e1 (λ b s2 is.
      ap (λ (q : A × B). told q.0 ∷ told2 q.1 ∷ []) (sym is) ∙ ap₂ (λ (u w : Literal). u ∷ w ∷ []) (law x a s1) (law2 y b s2)))
  both_inverts (x ∷ y ∷ z ∷ xs) p e = absurd (cc)

formed : (signature : ℕ) (xs : List Literal) (v w : TypedValues) → w ≡ v → signature_number w ≡ signature → typed_literals w ≡ xs → IsForm signature xs v
formed signature xs v w e s l = subst (IsForm signature xs) e (record { signature_is = s; literals_are = l })

either : {A P : Type 0} (b : Bool) (o q : Option A) (x : A) → (if b then o else q) ≡ Some x → (IsTrue b → o ≡ Some x → P) → (q ≡ Some x → P) → P
either true o q x e go other = go refl e
either false o q x e go other = other e

pub is_form : (signature : ℕ) (xs : List Literal) (v : TypedValues) → typed_values signature xs ≡ Some v → IsForm signature xs v
is_form signature xs v e =
    either (nat_eq signature 1) _ _ v e (λ one f. by_map a_number (alone literal_number xs) v f (λ n s is.
    formed signature xs v (a_number n) is (sym (eqb-true signature 1 one)) (alone_inverts literal_number u32 number_inverts xs n s))) (λ e.
    either (nat_eq signature 2) _ _ v e (λ one f. by_map a_text (alone string_in xs) v f (λ n s is.
    formed signature xs v (a_text n) is (sym (eqb-true signature 2 one)) (alone_inverts string_in text text_inverts xs n s))) (λ e.
    either (nat_eq signature 3) _ _ v e (λ one f. by_map the_numbers (alone (list_items_in literal_number) xs) v f (λ n s is.
    formed signature xs v (the_numbers n) is (sym (eqb-true signature 3 one)) (alone_inverts (list_items_in literal_number) (λ ys. list (literals_of (map u32 ys))) (items_inverts literal_number u32 number_inverts) xs n s))) (λ e.
    either (nat_eq signature 4) _ _ v e (λ one f. by_map (λ p. the_pairs p.0 p.1) (both_literals (list_items_in string_and_long_in) flag_in xs) v f (λ p s is.
    formed signature xs v (the_pairs p.0 p.1) is (sym (eqb-true signature 4 one))
    (both_inverts (list_items_in string_and_long_in) (λ ys. list (literals_of (map pair_literal ys))) flag_in (λ flag. option (flag_payload flag)) (items_inverts string_and_long_in pair_literal pair_inverts) flag_inverts xs p s)))
    (λ e. absurd (cc)))))

-- ---- literals are read

module _ {A : Type 0} (read : Literal → Option A) (told : A → Literal) (law : (a : A) → read (told a) ≡ Some a) where
  each_read : (ys : List A) → each_literal read (literals_of (map told ys)) ≡ Some ys
  each_read [] = refl
  each_read (y ∷ ys) =
      ap (option_and_then (λ z. option_map (λ zs. z ∷ zs) (each_literal read (literals_of (map told ys))))) (law y)
      ∙ ap (option_map (λ zs. y ∷ zs)) (each_read ys)

flag_read : (flag : Option Bool) → flag_from (flag_payload flag) ≡ Some flag
flag_read None = refl
flag_read (Some b) = refl

abbrev by_pairs : List (Name × ℕ) × Option Bool → TypedValues
by_pairs p = the_pairs p.0 p.1

pub is_read : (v : TypedValues) → AreReadBack v
is_read (a_number n) = refl
is_read (a_text s) = refl
is_read (the_numbers ns) = ap (option_map the_numbers) (each_read literal_number u32 (λ n. refl) ns)
is_read (the_pairs ps flag) =
    ap (λ o. option_map by_pairs (option_and_then (λ a. option_map (λ b. (a, b)) (flag_from (flag_payload flag))) o)) (each_read string_and_long_in pair_literal (λ p. refl) ps)
    ∙ ap (λ o. option_map by_pairs (option_map (λ b. (ps, b)) o)) (flag_read flag)
