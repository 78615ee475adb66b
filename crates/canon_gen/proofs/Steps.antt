-- One more of what is drawn, and one less that is left.
use Rattle.std.proofs.Common.{◌≡◌, ◌∙◌, ◌++◌, ◌-◌, ◌+◌, ◌<◌, ℕ, suc, List, [], ◌∷◌, ap, append_assoc, arith, map, sym}
use Rattle.std.proofs.lemmas.List.{map-append}
use Rattle.std.specs.Prelude.{encode_utf8}
use Rattle.canon_val.specs.declared.val.Val.{Val}
use Rattle.canon_literals.specs.Literals.{Literal, literal_view, literals_view, text}
use Rattle.canon_gen.specs.Draws.{after_draws, after_text, after_texts, character, characters, drawn, next, text_drawn, texts}
use Rattle.canon_gen.specs.Records.{after_record, record_drawn, records}

less : (n i : ℕ) → i < n → n - i ≡ suc (n - (i + 1))
less n i h = omega (arith, h)

module _ (n i : ℕ) (lt : i < n) where
  abbrev gen_left : ℕ
  gen_left = n - (i + 1)

  -- a character was drawn and added to a text
  pub text_step : (x y c ch : ℕ) (done more whole : List ℕ) → c ≡ drawn 28 x → y ≡ next x → ch ≡ character c → more ≡ done ++ encode_utf8 ch
      → done ++ characters (n - i) x ≡ whole → more ++ characters (n - (i + 1)) y ≡ whole
  text_step x y c ch done more whole dc dy dch dm h =
      let front : encode_utf8 ch ≡ encode_utf8 (character (drawn 28 x)) = ap encode_utf8 (dch ∙ ap character dc) in
      let all : characters (n - i) x ≡ encode_utf8 ch ++ characters gen_left y =
      ap (λ k. characters k x) (less n i lt) ∙ (ap (λ e. e ++ characters gen_left (next x)) (sym front) ∙ ap (λ z. encode_utf8 ch ++ characters gen_left z) (sym dy)) in
      ap (λ t. t ++ characters gen_left y) dm ∙ (append_assoc done (encode_utf8 ch) (characters gen_left y) ∙ (ap (λ t. done ++ t) (sym all) ∙ h))

  pub gen_after_step : (x y last : ℕ) → y ≡ next x → after_draws (n - i) x ≡ last → after_draws (n - (i + 1)) y ≡ last
  gen_after_step x y last dy h = ap (after_draws gen_left) dy ∙ (sym (ap (λ k. after_draws k x) (less n i lt)) ∙ h)

  pub after_texts_step : (x y last : ℕ) → y ≡ after_text 8 x → after_texts (n - i) x ≡ last → after_texts (n - (i + 1)) y ≡ last
  after_texts_step x y last dy h = ap (after_texts gen_left) dy ∙ (sym (ap (λ k. after_texts k x) (less n i lt)) ∙ h)

  -- a value was added, which is the first of those that were left
  value_step : (v : Val) (done more : List Val) (front : Literal) (rest all whole : List Literal) → literal_view v ≡ front → more ≡ done ++ v ∷ [] → all ≡ front ∷ rest
      → literals_view done ++ all ≡ whole → literals_view more ++ rest ≡ whole
  value_step v done more front rest all whole dv dm da h =
      ap (λ vs. literals_view vs ++ rest) dm ∙ (ap (λ t. t ++ rest) (map-append literal_view done (v ∷ []))
      ∙ (append_assoc (literals_view done) (literal_view v ∷ []) rest ∙ (ap (λ l. literals_view done ++ l ∷ rest) dv ∙ (ap (λ t. literals_view done ++ t) (sym da) ∙ h))))

  pub tag_step : (x y : ℕ) (v : Val) (done more : List Val) (whole : List Literal) → literal_view v ≡ text (text_drawn 8 x) → y ≡ after_text 8 x → more ≡ done ++ v ∷ []
      → literals_view done ++ map text (texts (n - i) x) ≡ whole → literals_view more ++ map text (texts (n - (i + 1)) y) ≡ whole
  tag_step x y v done more whole dv dy dm h = value_step v done more (text (text_drawn 8 x)) (map text (texts gen_left y)) (map text (texts (n - i) x)) whole dv dm
      (ap (λ k. map text (texts k x)) (less n i lt) ∙ ap (λ z. text (text_drawn 8 x) ∷ map text (texts gen_left z)) (sym dy)) h

  pub record_step : (x y : ℕ) (v : Val) (done more : List Val) (whole : List Literal) → literal_view v ≡ record_drawn i x → y ≡ after_record x → more ≡ done ++ v ∷ []
      → literals_view done ++ records (n - i) i x ≡ whole → literals_view more ++ records (n - (i + 1)) (i + 1) y ≡ whole
  record_step x y v done more whole dv dy dm h = value_step v done more (record_drawn i x) (records gen_left (i + 1) y) (records (n - i) i x) whole dv dm
      (ap (λ k. records k i x) (less n i lt) ∙ ap (λ z. record_drawn i x ∷ records gen_left (i + 1) z) (sym dy)) h
