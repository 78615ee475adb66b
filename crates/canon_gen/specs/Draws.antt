-- The numbers and texts that a number draws. A draw from x makes another number of x, which the next draw is from, and gives a
-- number below k.
use Rattle.std.specs.Prelude.{ℕ, suc, zero, ◌+◌, ◌*◌, ◌/◌, ◌%◌, ◌^◌, ◌==◌, List, [], ◌∷◌, ◌++◌, encode_utf8, if◌then◌else◌}
use Rattle.canon_model.specs.Shape.{Name}

-- the next number, after which draws go on
abbrev pub next : ℕ → ℕ
next x = (x * 1103515245 + 12345) % 2 ^ 31

-- what is drawn below k
abbrev pub drawn : ℕ → ℕ → ℕ
drawn k x = next x / 65536 % k

-- after so many draws
abbrev pub after_draws : ℕ → ℕ → ℕ
after_draws zero x = x
after_draws (suc n) x = after_draws n (next x)

-- ---- texts

-- 0 to 25 are a to z, 26 is é and 27 is 中
abbrev pub character : ℕ → ℕ
character c = if c == 26 then 0xE9 else (if c == 27 then 0x4E2D else 97 + c)

-- so many characters in UTF-8, each drawn below 28
abbrev pub characters : ℕ → ℕ → Name
characters zero x = []
characters (suc n) x = encode_utf8 (character (drawn 28 x)) ++ characters n (next x)

-- a text whose length is drawn below k, and then its characters
abbrev pub text_drawn : ℕ → ℕ → Name
text_drawn k x = characters (drawn k x) (next x)

abbrev pub after_text : ℕ → ℕ → ℕ
after_text k x = after_draws (drawn k x) (next x)

-- so many texts, each of a length below 8
abbrev pub texts : ℕ → ℕ → List Name
texts zero x = []
texts (suc n) x = text_drawn 8 x ∷ texts n (after_text 8 x)

abbrev pub after_texts : ℕ → ℕ → ℕ
after_texts zero x = x
after_texts (suc n) x = after_texts n (after_text 8 x)
