-- The names of the flags that are set, and their text, one name more.
use Rattle.std.proofs.Common.{◌≡◌, ◌<◌, ◌+◌, ◌++◌, ◌∙◌, Bool, List, String, [], ◌∷◌, ap, append_assoc, arith, cond, false, filter, get_or, append-nil, length, map, refl, string_bytes, subst, sym, take, true, ℕ}
use Rattle.std.specs.List.{enumerate_from, join_with_byte}
use Rattle.std.proofs.lemmas.List.Elements.{filter-append}
use Rattle.std.proofs.lemmas.List.{length-map, length-take-le, map-append, take_more}
use Rattle.std.specs.Fmt.{HasWritten, HasWrittenStyled, IsDefaultSpec, IsPlainFormatter}
use Rattle.std.specs.declared.fmt.Formatter.{Formatter}
use Rattle.std.proofs.Output.{has_written_styled_append, has_written_styled_of_eq}
use Rattle.std.specs.declared.alloc.Global.{Global}
use Rattle.canon_model.specs.Shape.{Name}
use Rattle.canon_named.specs.FlagText.{is_set, set_names}

-- what stands before one name more
abbrev pub bar_after : List Name → List ℕ
bar_after [] = []
bar_after (x ∷ xs) = 124 ∷ []

pub joined_more : (xs : List Name) (x : Name) → join_with_byte 124 (xs ++ x ∷ []) ≡ join_with_byte 124 xs ++ (bar_after xs ++ x)
joined_more [] x = refl
joined_more (y ∷ []) x = refl
joined_more (y ∷ z ∷ ys) x = ap (λ v. y ++ (124 ∷ v)) (joined_more (z ∷ ys) x) ∙ sym (append_assoc y (124 ∷ join_with_byte 124 (z ∷ ys)) (124 ∷ x))

-- after one name more, a bar stands before the next
pub bar_after_more : (xs : List Name) (x : Name) → bar_after (xs ++ x ∷ []) ≡ 124 ∷ []
bar_after_more [] x = refl
bar_after_more (y ∷ ys) x = refl

enumerate_more : (n : ℕ) (xs : List Name) (x : Name) → enumerate_from n (xs ++ x ∷ []) ≡ enumerate_from n xs ++ (n + length xs, x) ∷ []
enumerate_more n [] x = ap (λ (m : ℕ). (m, x) ∷ []) (omega arith)
enumerate_more n (y ∷ ys) x = ap (λ l. (n, y) ∷ l) (enumerate_more (n + 1) ys x ∙ ap (λ (m : ℕ). enumerate_from (n + 1) ys ++ (m, x) ∷ []) (omega arith))

-- the name alone where its flag is set
abbrev one_if : Bool → Name → List Name
one_if true x = x ∷ []
one_if false x = []

chosen_one : (b : Bool) (words : List ℕ) (k : ℕ) (x : Name) → is_set words k ≡ b → map (λ (p : ℕ × Name). p.1) (filter (λ (p : ℕ × Name). is_set words p.0) ((k, x) ∷ [])) ≡ one_if b x
chosen_one b words k x e = subst (λ v. map (λ (p : ℕ × Name). p.1) (cond v ((k, x) ∷ []) []) ≡ one_if b x) (sym e) (elim b as (λ v. map (λ (p : ℕ × Name). p.1) (cond v ((k, x) ∷ []) []) ≡ one_if v x) [ true ↦ refl | false ↦ refl ])

set_more : (b : Bool) (words : List ℕ) (xs : List Name) (x : Name) → is_set words (length xs) ≡ b → set_names words (xs ++ x ∷ []) ≡ set_names words xs ++ one_if b x
set_more b words xs x e =
    ap (λ l. map (λ (p : ℕ × Name). p.1) (filter (λ (p : ℕ × Name). is_set words p.0) l)) (enumerate_more 0 xs x)
    ∙ ap (map (λ (p : ℕ × Name). p.1)) (filter-append (λ (p : ℕ × Name). is_set words p.0) (enumerate_from 0 xs) ((0 + length xs, x) ∷ []))
    ∙ map-append (λ (p : ℕ × Name). p.1) (filter (λ (p : ℕ × Name). is_set words p.0) (enumerate_from 0 xs)) _
    ∙ ap (λ l. set_names words xs ++ l) (chosen_one b words (0 + length xs) x (subst (λ m. is_set words m ≡ b) (omega arith) e))

-- the names up to k, and one more
abbrev pub named_before : List (String Global) → ℕ → List Name
named_before names k = map (λ n. string_bytes n) (take k names)

named_more : (names : List (String Global)) (k : ℕ) (d : String Global) → k < length names → named_before names (k + 1) ≡ named_before names k ++ string_bytes (get_or names k d) ∷ []
named_more names k d l = ap (map (λ n. string_bytes n)) (take_more names k d l) ∙ map-append (λ n. string_bytes n) (take k names) _

named_length : (names : List (String Global)) (k : ℕ) → k < length names → length (named_before names k) ≡ k
named_length names k l = length-map (take k names) (λ n. string_bytes n) ∙ length-take-le k names (omega arith)

chosen_more : (b : Bool) (words : List ℕ) (names : List (String Global)) (k : ℕ) (d : String Global) → k < length names → is_set words k ≡ b
    → set_names words (named_before names (k + 1)) ≡ set_names words (named_before names k) ++ one_if b (string_bytes (get_or names k d))
chosen_more b words names k d l e =
    ap (set_names words) (named_more names k d l)
    ∙ set_more b words (named_before names k) (string_bytes (get_or names k d)) (subst (λ m. is_set words m ≡ b) (sym (named_length names k l)) e)

-- a name whose flag is set
pub set_step : (words : List ℕ) (names : List (String Global)) (k : ℕ) (x : String Global) → k < length names → is_set words k ≡ true → x ≡ get_or names k x
    → set_names words (named_before names (k + 1)) ≡ set_names words (named_before names k) ++ string_bytes x ∷ []
set_step words names k x l e is = chosen_more true words names k x l e ∙ ap (λ (y : String Global). set_names words (named_before names k) ++ string_bytes y ∷ []) (sym is)

-- and one whose flag isn't
pub unset_step : (words : List ℕ) (names : List (String Global)) (k : ℕ) (x : String Global) → k < length names → is_set words k ≡ false → set_names words (named_before names (k + 1)) ≡ set_names words (named_before names k)
unset_step words names k x l e = chosen_more false words names k x l e ∙ append-nil _

module _ {W : Type 0} (took : W → List ℕ → W → Type 0) where
  -- the text so far, the bar and one name more
  pub name_written : (f g h i j : Formatter W) (xs all : List Name) (x : Name) (bar text : List ℕ) →
      bar ≡ bar_after xs → all ≡ xs ++ x ∷ [] → text ≡ x → j ≡ i
      → HasWrittenStyled took f (join_with_byte 124 xs) g → HasWrittenStyled took g bar h → HasWrittenStyled took h text i → HasWrittenStyled took f (join_with_byte 124 all) j
  name_written f g h i j xs all x bar text is more named after a b c =
      subst (λ k. HasWrittenStyled took f (join_with_byte 124 all) k) (sym after)
      (has_written_styled_of_eq took f (join_with_byte 124 xs ++ (bar ++ text)) (join_with_byte 124 all) i
      (ap (λ (y : List ℕ). join_with_byte 124 xs ++ (y ++ text)) is
      ∙ ap (λ (y : List ℕ). join_with_byte 124 xs ++ (bar_after xs ++ y)) named
      ∙ sym (joined_more xs x)
      ∙ ap (join_with_byte 124) (sym more))
      (has_written_styled_append took f (join_with_byte 124 xs) g (bar ++ text) i a (has_written_styled_append took g bar h text i b c)))

  -- the text so far alone
  pub none_written : (f g j : Formatter W) (xs all : List Name) → all ≡ xs → j ≡ g
      → HasWrittenStyled took f (join_with_byte 124 xs) g → HasWrittenStyled took f (join_with_byte 124 all) j
  none_written f g j xs all same after a =
      subst (λ k. HasWrittenStyled took f (join_with_byte 124 all) k) (sym after)
      (subst (λ names. HasWrittenStyled took f (join_with_byte 124 names) g) (sym same) a)

  -- the text between its parentheses
  pub text_written : (f g h i : Formatter W) (text : List ℕ) → HasWrittenStyled took f (40 ∷ []) g → HasWrittenStyled took g text h → HasWrittenStyled took h (41 ∷ []) i
      → HasWrittenStyled took f (40 ∷ (text ++ 41 ∷ [])) i
  text_written f g h i text a b c =
      has_written_styled_append took f (40 ∷ []) g (text ++ 41 ∷ []) i a (has_written_styled_append took g text h (41 ∷ []) i b c)

  -- of a plain formatter
  pub plain_written : (f g : Formatter W) (text : List ℕ) → IsPlainFormatter f → HasWrittenStyled took f text g → HasWritten took f text g
  plain_written f g text plain a = record {
    wrote = a.wrote;
    plain = record { bare = subst IsDefaultSpec (sym a.spec) plain.bare; flush = a.flush };
  }
