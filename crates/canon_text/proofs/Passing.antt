-- A pass into UTF-8 on its way.
use Rattle.std.proofs.Common.{All, Bool, IsTrue, List, [], ap, arith, drop, false, get_or, inl, inr, length, lt-ltb, nat_lt, refl, subst, sym, ℕ, ◌++◌, ◌+◌, ◌-◌, ◌<◌, ◌∙◌, ◌∷◌, ◌≡◌, ◌≤◌, ◌⊎◌}
use Rattle.std.proofs.lemmas.List.{append-nil, drop_all, drop_more, length-append}
use Rattle.std.proofs.lemmas.List.Elements.{All-nil, All-push}
use Rattle.std.proofs.lemmas.Bool.{cond-true, false≢true}
use Rattle.std.specs.Char.{encode_utf8}
use Rattle.std.specs.Str.{encode_utf8_all}
use Rattle.canon_model.specs.Pass.{EndsPass}
use Rattle.canon_model.specs.Text.{Form, in_latin1, units}
use Rattle.canon_text.specs.Answers.{PassFails, Passed}
use Rattle.canon_text.specs.declared.error.TextError.{TextError}
use Rattle.canon_text.specs.Faults.{Begins, IllFormed, error_form, error_place}
use Rattle.canon_text.specs.Writing.{over, placed}
use Rattle.canon_text.proofs.Reading.{IsFront, front-more, front-nil}
use Rattle.canon_text.proofs.Widths.{encode-push}
use Rattle.canon_text.proofs.Written.{length-over, over-more}

pub record IsMidway (form : Form) (first : Bool) (source old now : List ℕ) (read written : ℕ) (scalars : List ℕ) : Type 0 where
  pub front : IsFront form source read scalars
  pub count : written ≡ length (encode_utf8_all scalars)
  pub fits : written ≤ length old
  pub plain : IsTrue first → All (λ c. c < 128) scalars
  pub writes : now ≡ over old (encode_utf8_all scalars)

pub record Midway (form : Form) (first : Bool) (source old now : List ℕ) (read written : ℕ) : Type 0 where
  pub scalars : List ℕ
  pub so_far : IsMidway form first source old now read written scalars

pub midway-nil : (form : Form) (first : Bool) (source old : List ℕ) → Midway form first source old old 0 0
midway-nil form first source old = record { scalars = []; so_far = record { front = front-nil form source; count = refl; fits = omega arith; plain = λ _. All-nil (λ c. c < 128); writes = refl } }

pub midway-more : (form : Form) (first : Bool) (source old now new : List ℕ) (read read2 written written2 c : ℕ) → Midway form first source old now read written → Begins form c (drop read source)
    → ¬ ((length old - written < length (encode_utf8 c)) ⊎ (IsTrue first × (127 < c)))
    → read2 ≡ read + length (units form (c ∷ [])) → written2 ≡ written + length (encode_utf8 c) → new ≡ placed now written (encode_utf8 c) → Midway form first source old new read2 written2
midway-more form first source old now new read read2 written written2 c h b goes e k w =
    let cs = h.scalars in
    let fits : length (encode_utf8 c) ≤ length old - written = omega (arith, λ (l : length old - written < length (encode_utf8 c)). goes (inl l)) in
    record {
      scalars = cs ++ c ∷ [];
      so_far = record {
        front = front-more form source read read2 c cs h.so_far.front b e;
        count = k ∙ ap (λ n. n + length (encode_utf8 c)) h.so_far.count ∙ sym (length-append (encode_utf8_all cs) (encode_utf8 c)) ∙ ap length (encode-push cs c);
        fits = let before : written ≤ length old = h.so_far.fits in omega arith;
        plain = λ t. All-push (λ c. c < 128) cs c (h.so_far.plain t) (omega (arith, λ (l : 127 < c). goes (inr (t, l))));
        writes = over-more old now new (encode_utf8_all cs) (encode_utf8 c) written h.so_far.writes h.so_far.count w ∙ ap (λ l. over old l) (encode-push cs c);
      };
    }

passed : (form : Form) (first : Bool) (source old now : List ℕ) (read written : ℕ) (h : Midway form first source old now read written)
    → (drop read source ≡ []) ⊎ EndsPass form first (length old - written) (drop read source) → Passed form first source old now read written
passed form first source old now read written h stops = record {
  scalars = h.scalars;
  rest = drop read source;
  pass = record {
    can = h.so_far.front.can;
    reads = h.so_far.front.is;
    fits = let k : written ≡ length (encode_utf8_all h.scalars) = h.so_far.count in let f : written ≤ length old = h.so_far.fits in omega arith;
    plain = h.so_far.plain;
    stops = subst (λ n. (drop read source ≡ []) ⊎ EndsPass form first (length old - n) (drop read source)) h.so_far.count stops;
  };
  reads = h.so_far.front.place;
  count = h.so_far.count;
  writes = h.so_far.writes;
}

pub midway-end : (form : Form) (first : Bool) (source old now : List ℕ) (read written : ℕ) → Midway form first source old now read written → length source ≤ read → Passed form first source old now read written
midway-end form first source old now read written h e = passed form first source old now read written h (inl (drop_all read source e))

pub midway-stop : (form : Form) (first : Bool) (source old now : List ℕ) (read written c : ℕ) → Midway form first source old now read written →
    Begins form c (drop read source) → (length old - written < length (encode_utf8 c)) ⊎ (IsTrue first × (127 < c)) →
    Passed form first source old now read written
midway-stop form first source old now read written c h b cause = passed form first source old now read written h (inr (record { next = c; more = b.more; can = b.can; is = b.is; cause = cause }))

pub midway-fault : (form : Form) (first : Bool) (source old now : List ℕ) (read written : ℕ) (e : TextError) → Midway form first source old now read written → IllFormed form (drop read source)
    → error_form e ≡ form → error_place e ≡ read → PassFails form first source old now e
midway-fault form first source old now read written e h ill form_is place = record {
  scalars = h.scalars;
  rest = drop read source;
  front = record {
    can = h.so_far.front.can;
    reads = sym (append-nil (units form h.scalars));
    fits = let k : written ≡ length (encode_utf8_all h.scalars) = h.so_far.count in let f : written ≤ length old = h.so_far.fits in omega arith;
    plain = h.so_far.plain;
    stops = inl refl;
  };
  is = h.so_far.front.is;
  fault = ill;
  form_is = form_is;
  place = place ∙ h.so_far.front.place;
  writes = h.so_far.writes;
}

pub length-midway : (form : Form) (first : Bool) (source old now : List ℕ) (read written : ℕ) → Midway form first source old now read written → length now ≡ length old
length-midway form first source old now read written h =
    let before : written ≡ length (encode_utf8_all h.scalars) = h.so_far.count in
    let fits : written ≤ length old = h.so_far.fits in
    ap length h.so_far.writes ∙ length-over old (encode_utf8_all h.scalars) (omega arith)

-- a byte is a character of Latin-1
pub begins_byte : (xs : List ℕ) (n : ℕ) → n < length xs → get_or xs n 0 < 256 → Begins in_latin1 (get_or xs n 0) (drop n xs)
begins_byte xs n h small = record { more = drop (n + 1) xs; can = cond-true (nat_lt (get_or xs n 0) 256) _ _ (lt-ltb (get_or xs n 0) 256 small); is = drop_more xs n 0 h }

-- the test that ends a pass said no
pub goes_on : (b first : Bool) (n room written c : ℕ) → n ≡ room → b ≡ false → ((n - written < length (encode_utf8 c)) ⊎ (IsTrue first × (127 < c)) → IsTrue b) → (room - written < length (encode_utf8 c)) ⊎ (IsTrue first × (127 < c)) → ⊥
goes_on b first n room written c e says_no test cause = false≢true (sym says_no ∙ test (subst (λ l. (l - written < length (encode_utf8 c)) ⊎ (IsTrue first × (127 < c))) (sym e) cause))

-- the test that ends a pass said yes
pub stopped : (b first : Bool) (n room written c : ℕ) → n ≡ room → (n - written < length (encode_utf8 c)) ⊎ (IsTrue first × (127 < c)) → (room - written < length (encode_utf8 c)) ⊎ (IsTrue first × (127 < c))
stopped b first n room written c e cause = subst (λ l. (l - written < length (encode_utf8 c)) ⊎ (IsTrue first × (127 < c))) e cause
