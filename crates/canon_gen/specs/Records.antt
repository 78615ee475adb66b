-- The records that a number draws.
use Rattle.std.specs.Prelude.{ℕ, suc, zero, ◌+◌, ◌==◌, List, [], ◌∷◌, codes, if◌then◌else◌, map}
use Rattle.canon_model.specs.Shape.{Name}
use Rattle.canon_literals.specs.Literals.{Literal, bool, field, fields, list, literals_of, no_fields, no_payload, option, text, u32, with_payload}
use Rattle.canon_gen.specs.Draws.{after_text, after_texts, drawn, next, text_drawn, texts}

-- the number of tags is drawn below 4, and then each
abbrev pub tags : ℕ → List Name
tags x = texts (drawn 4 x) (next x)

abbrev pub after_tags : ℕ → ℕ
after_tags x = after_texts (drawn 4 x) (next x)

-- none, some(false) or some(true)
abbrev pub switch : ℕ → Literal
switch n = if n == 0 then option no_payload else option (with_payload (bool (n == 2)))

abbrev pub record_with : ℕ → Name → List Name → Literal → Literal
record_with id name tags on = fields
    (field (codes "id") (u32 id)
    (field (codes "name") (text name)
    (field (codes "tags") (list (literals_of (map text tags)))
    (field (codes "on") on no_fields))))

-- a record of this id: its name is drawn, then its tags, then its switch
abbrev pub record_drawn : ℕ → ℕ → Literal
record_drawn id x =
    let y = after_text 16 x in
    record_with id (text_drawn 16 x) (tags y) (switch (drawn 3 (after_tags y)))

abbrev pub after_record : ℕ → ℕ
after_record x = next (after_tags (after_text 16 x))

-- so many records, whose ids go up from this one
abbrev pub records : ℕ → ℕ → ℕ → List Literal
records zero id x = []
records (suc n) id x = record_drawn id x ∷ records n (id + 1) (after_record x)

-- the list that n draws: n records, with the ids from 0 on
abbrev pub list_drawn : ℕ → Literal
list_drawn n = list (literals_of (records n 0 n))
