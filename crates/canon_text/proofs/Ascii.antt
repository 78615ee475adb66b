-- A run of ASCII is its own spelling in every form.
use Rattle.std.proofs.Common.{Bool, List, ap, append_assoc, arith, drop, drop-drop, length, refl, sym, true, ℕ, ◌++◌, ◌+◌, ◌<◌, ◌∙◌, ◌≡◌, ◌≤◌}
use Rattle.std.proofs.lemmas.List.{length-append, take-append-drop}
use Rattle.std.proofs.lemmas.List.Elements.{All-append, All-from_get_or}
use Rattle.std.proofs.lemmas.Str.{encodes-IsAscii}
use Rattle.std.specs.Str.{encode_utf8_all}
use Rattle.canon_model.proofs.Passes.{can_spell-append, encode_utf8_all-append, units-append}
use Rattle.canon_model.specs.Text.{Form, all_latin1, can_spell, in_latin1, in_utf16, in_utf8, units}
use Rattle.canon_text.specs.Runs.{AllBelow, Copies, run}
use Rattle.canon_text.specs.Writing.{over}
use Rattle.canon_text.proofs.Bytes.{latin1_from, latin1_scalars, latin1_units}
use Rattle.canon_text.proofs.Copied.{length-run}
use Rattle.canon_text.proofs.Narrowing.{Narrowing}
use Rattle.canon_text.proofs.Passing.{Midway}
use Rattle.canon_text.proofs.Reading.{IsFront}
use Rattle.canon_text.proofs.Written.{length-over, over-more}

narrower : (xs : List ℕ) → AllBelow 128 xs → all_latin1 xs ≡ true
narrower xs h = latin1_from xs (λ k. omega (arith, h k))

pub ascii_can : (form : Form) (xs : List ℕ) → AllBelow 128 xs → can_spell form xs ≡ true
ascii_can in_utf8 xs h = latin1_scalars xs (narrower xs h)
ascii_can in_utf16 xs h = latin1_scalars xs (narrower xs h)
ascii_can in_latin1 xs h = narrower xs h

pub ascii_units : (form : Form) (xs : List ℕ) → AllBelow 128 xs → units form xs ≡ xs
ascii_units in_utf8 xs h = encodes-IsAscii xs h
ascii_units in_utf16 xs h = latin1_units xs (narrower xs h)
ascii_units in_latin1 xs h = refl

-- a run that is its own spelling is read
pub front-run : (form : Form) (source : List ℕ) (at n : ℕ) (cs : List ℕ) → IsFront form source at cs → at + n ≤ length source → can_spell form (run source at n) ≡ true
    → units form (run source at n) ≡ run source at n → IsFront form source (at + n) (cs ++ run source at n)
front-run form source at n cs h room can same =
    let xs = run source at n in
    let long : length xs ≡ n = length-run source at n room in
    let all : units form (cs ++ xs) ≡ units form cs ++ xs = units-append form cs xs ∙ ap (λ l. units form cs ++ l) same in
    let rest : drop at source ≡ xs ++ drop (at + n) source = sym (take-append-drop n (drop at source)) ∙ ap (λ l. xs ++ l) (drop-drop n at source) in
    record {
      can = can_spell-append form cs xs h.can can;
      is = h.is ∙ ap (λ l. units form cs ++ l) rest ∙ sym (append_assoc (units form cs) xs (drop (at + n) source)) ∙ ap (λ l. l ++ drop (at + n) source) (sym all);
      place = let before : at ≡ length (units form cs) = h.place in omega (arith, ap length all, length-append (units form cs) xs);
    }

pub midway-run : (form : Form) (first : Bool) (source old now new : List ℕ) (read written n : ℕ) → Midway form first source old now read written → Copies 128 source now new read written n
    → Midway form first source old new (read + n) (written + n)
midway-run form first source old now new read written n h g =
    let cs = h.scalars in
    let xs = run source read n in
    let before : written ≡ length (encode_utf8_all cs) = h.so_far.count in
    let fits : written ≤ length old = h.so_far.fits in
    let same : encode_utf8_all (cs ++ xs) ≡ encode_utf8_all cs ++ xs = encode_utf8_all-append cs xs ∙ ap (λ l. encode_utf8_all cs ++ l) (encodes-IsAscii xs g.below) in
    let long : length now ≡ length old = ap length h.so_far.writes ∙ length-over old (encode_utf8_all cs) (omega arith) in
    record {
      scalars = cs ++ xs;
      so_far = record {
        front = front-run form source read n cs h.so_far.front g.inside (ascii_can form xs g.below) (ascii_units form xs g.below);
        count = omega (arith, ap length same, length-append (encode_utf8_all cs) xs, length-run source read n g.inside);
        fits = omega (arith, g.room);
        plain = λ t. All-append (λ c. c < 128) cs xs (h.so_far.plain t) (All-from_get_or (λ c. c < 128) xs 0 (λ i lt. g.below i));
        writes = over-more old now new (encode_utf8_all cs) xs written h.so_far.writes h.so_far.count g.writes ∙ ap (λ l. over old l) (sym same);
      };
    }

pub narrowing-run : (form : Form) (source old now new : List ℕ) (read written n : ℕ) → Narrowing form source old now read written →
    AllBelow 256 (run source read n) → can_spell form (run source read n) ≡ true → units form (run source read n) ≡ run source read n → (limit : ℕ) →
    Copies limit source now new read written n → Narrowing form source old new (read + n) (written + n)
narrowing-run form source old now new read written n h small can same limit g =
    let cs = h.scalars in
    let xs = run source read n in
    let before : written ≡ length cs = h.so_far.count in
    record {
      scalars = cs ++ xs;
      so_far = record {
        front = front-run form source read n cs h.so_far.front g.inside can same;
        latin1 = can_spell-append in_latin1 cs xs h.so_far.latin1 (latin1_from xs small);
        count = omega (arith, length-append cs xs, length-run source read n g.inside);
        writes = over-more old now new cs xs written h.so_far.writes h.so_far.count g.writes;
      };
    }

pub narrowing-ascii : (form : Form) (source old now new : List ℕ) (read written n : ℕ) → Narrowing form source old now read written → Copies 128 source now new read written n → Narrowing form source old new (read + n) (written + n)
narrowing-ascii form source old now new read written n h g =
    let xs = run source read n in
    narrowing-run form source old now new read written n h (λ k. omega (arith, g.below k)) (ascii_can form xs g.below) (ascii_units form xs g.below) 128 g

-- units up to 255 are their own characters
pub narrowing-units : (source old now new : List ℕ) (read written n : ℕ) → Narrowing in_utf16 source old now read written → Copies 256 source now new read written n → Narrowing in_utf16 source old new (read + n) (written + n)
narrowing-units source old now new read written n h g =
    let xs = run source read n in
    let small = latin1_from xs g.below in
    narrowing-run in_utf16 source old now new read written n h g.below (latin1_scalars xs small) (latin1_units xs small) 256 g

pub length-narrowing : (form : Form) (source old now : List ℕ) (read written : ℕ) → Narrowing form source old now read written → written ≤ length old → length now ≡ length old
length-narrowing form source old now read written h room =
    let before : written ≡ length h.scalars = h.so_far.count in
    ap length h.so_far.writes ∙ length-over old h.scalars (omega arith)
