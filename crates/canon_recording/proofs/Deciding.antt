-- What reading all bytes gives.
use Rattle.std.proofs.Common.{All, Err, List, Ok, Result, [], append-nil, ap, arith, drop, inl, inr, length, length-append, length-drop, refl, subst, suc, sym, true, zero, ℕ, ◌++◌, ◌<◌, ◌∙◌, ◌∷◌, ◌≡◌, ◌≤◌, ◌-◌, ◌^◌}
use Rattle.std.proofs.lemmas.List.Elements.{All-cons, All-nil}
use Rattle.canon_model.specs.Image.{IsField}
use Rattle.canon_context.specs.declared.component.Component.{Component}
use Rattle.canon_model.proofs.ImageFields.{append_parts, field_length, field_once}
use Rattle.canon_model.specs.Shape.{Shape}
use Rattle.canon_plan.specs.NoHandle.{HasNoHandle}
use Rattle.canon_image_parts.specs.Read.{IsOnlyReading}
use Rattle.canon_image_parts.specs.declared.error.ImageError.{ImageError}
use Rattle.canon_image_parts.specs.declared.error.ImageError.TheVariants as image
use Rattle.canon_recording_parts.specs.Events.{byte_list}
use Rattle.canon_recording.specs.Coded.{told_as}
use Rattle.canon_recording_parts.proofs.Reading.{block_bad, both_read, recording_named, named_stops, second_stops, stops_along}
use Rattle.canon_recording_parts.specs.Format.{Format, also, any_number, as_, exactly, for_each, so_many}
use Rattle.canon_recording_parts.specs.Read.{ReadsFormat}
use Rattle.canon_recording_parts.specs.declared.error.ReplayError.{ReplayError}
use Rattle.canon_recording_parts.specs.declared.error.ReplayError.TheVariants as error
use Rattle.canon_recording.specs.Coded.{IsReadWhole}
use Rattle.canon_recording.specs.Recordings.{Functions, RecordedCall, SpellsValue, a_call, letters, read_recording, recorded_call, recorded_calls, recording_format, value}
use Rattle.canon_recording.specs.declared.recording.Recorded.{Recorded}
use Rattle.canon_recording.proofs.Rows.{map_length}
use Rattle.canon_recording_parts.proofs.Formats.{row_count}

pub behind_letters : (G : Format (List RecordedCall)) (bs : List ℕ) (from mid to : ℕ) (result : Result (List RecordedCall) ReplayError) → ReadsFormat (exactly letters) bs from mid (Ok tt) → ReadsFormat G bs mid to result
    → ReadsFormat (as_ (λ (x : Unit {0} × List RecordedCall). x.1) (also (exactly letters) G)) bs from to result
behind_letters G bs from mid to (Ok calls) h g = recording_named (λ (x : Unit {0} × List RecordedCall). x.1) (also (exactly letters) G) bs from to (tt, calls) (both_read (exactly letters) G bs from mid to to tt calls h g)
behind_letters G bs from mid to (Err e) h g = named_stops (λ (x : Unit {0} × List RecordedCall). x.1) (also (exactly letters) G) bs from to to e (second_stops (exactly letters) G bs from mid to to tt e h g)

-- ---- the letters, as a number of 4 bytes

pub these_letters : (bs : List ℕ) (from to : ℕ) → ReadsFormat (any_number 4) bs from to (Ok 827477571) → ReadsFormat (exactly letters) bs from to (Ok tt)
these_letters bs from to (xs, s, (t, f)) = (xs, s, f.is)

pub no_letters : (bs : List ℕ) (from to at n : ℕ) → ¬ (n ≡ 827477571) → ReadsFormat (any_number 4) bs from to (Ok n) → ReadsFormat (exactly letters) bs from at (Err (error.BadRecording from))
no_letters bs from to at n differs (xs, s, (t, f)) = (0, omega arith, (refl, others))
  where
    field : IsField 4 827477571 letters []
    field = record { fits = omega arith; is = refl }

    others : (rest : List ℕ) → ¬ (drop from bs ≡ letters ++ rest)
    others rest e =
        let same : xs ≡ letters = (append_parts xs letters (drop to bs) rest (field_length 4 n xs [] f) (sym s.is ∙ e)).0 in
        differs (field_once 4 n 827477571 letters [] [] (subst (λ l. IsField 4 n l []) same f) field).0

pub cut_letters : (bs : List ℕ) (from to at : ℕ) (e : ReplayError) → ReadsFormat (any_number 4) bs from to (Err e) → ReadsFormat (exactly letters) bs from at (Err e)
cut_letters bs from to at e h = stops_along (any_number 4) (exactly letters) bs from from to at e (λ j p is s. (j, is, short j s)) h
  where
    short : (j : ℕ) → (any_number 4).stops (drop from bs) j → (exactly letters).stops (drop from bs) j
    short j (z, inl few) = (z, λ rest e. omega (arith, few, ap length e, length-append letters rest))
    short j (z, inr (n, rest, f, bad)) = absurd (bad tt)

-- ---- to the end

pub recorded_whole_read : (c : Component) (bs : List ℕ) (to : ℕ) (calls : List RecordedCall) → length bs ≤ to → ReadsFormat (read_recording c) bs 0 to (Ok calls) → IsReadWhole c bs (Ok calls)
recorded_whole_read c bs to calls end (xs, s, h) = subst (λ l. (read_recording c).writes calls l) (sym (s.is ∙ ap (λ l. xs ++ l) (none_past bs to end) ∙ append-nil xs)) h
  where
    none_past : (xs : List ℕ) (n : ℕ) → length xs ≤ n → drop n xs ≡ []
    none_past [] zero h = refl
    none_past [] (suc n) h = refl
    none_past (x ∷ xs) zero h = absurd (omega (arith, h))
    none_past (x ∷ xs) (suc n) h = none_past xs n (omega (arith, h))

pub more_follow : (c : Component) (bs : List ℕ) (to : ℕ) (calls : List RecordedCall) → to < length bs → ReadsFormat (read_recording c) bs 0 to (Ok calls) → IsReadWhole c bs (Err (error.BadRecording to))
more_follow c bs to calls more (xs, s, h) = inr (calls, xs, drop to bs, s.is, h, omega (arith, s.to_is), omega (arith, more, length-drop to bs))

pub recorded_stopped : (c : Component) (bs : List ℕ) (to : ℕ) (e : ReplayError) → ReadsFormat (read_recording c) bs 0 to (Err e) → IsReadWhole c bs (Err e)
recorded_stopped c bs to (error.BadRecording p) (j, is, s) =
    let same : j ≡ p = omega (arith, is) in
    inl (subst (λ i. (read_recording c).stops bs i) same s)
recorded_stopped c bs to error.OutOfMemory h = tt
recorded_stopped c bs to (error.NotARun k) h = absurd h
recorded_stopped c bs to error.TooLong h = absurd h

-- ---- what bytes of a recording tell

pub recorded_each_all : {J A : Type 0} (F : J → Format A) (P : A → Type 0) → ((i : J) (a : A) (xs : List ℕ) → (F i).writes a xs → P a) → (is : List J) (things : List A) (bs : List ℕ) → (for_each F is).writes things bs → All P things
recorded_each_all F P tells [] things bs (e, h) = subst (All P) (sym e) (All-nil P)
recorded_each_all F P tells (i ∷ is) things bs (x, e, (xs, ys, be, h, g)) = subst (All P) (sym e) (All-cons P x.0 x.1 (tells i x.0 xs h) (recorded_each_all F P tells is x.1 ys g))

module _ (exports imports : Functions) where
  call_known : (call : RecordedCall) (xs : List ℕ) → (a_call true exports imports).writes call xs → call.export < exports.count
  call_known call xs (n, rest, good, f, (x, e, h)) = subst (λ (i : ℕ). i < exports.count) (sym (ap (λ (r : RecordedCall). r.export) e)) good

  pub written_known : (calls : List RecordedCall) (bs : List ℕ) → (recording_format true exports imports).writes calls bs → All (λ (r : RecordedCall). r.export < exports.count) calls
  written_known calls bs (x, e, (xs, ys, be, h, (n, rest, t, f, g))) =
      subst (All (λ (r : RecordedCall). r.export < exports.count)) (sym e)
      (recorded_each_all (λ (u : Unit {0}). a_call true exports imports) (λ (r : RecordedCall). r.export < exports.count) (λ u call zs w. call_known call zs w) (so_many n) x.1 rest g)

  pub written_few : (calls : List Recorded) (bs : List ℕ) → (recording_format true exports imports).writes (recorded_calls calls) bs → length calls < 2 ^ 32
  written_few calls bs (x, e, (xs, ys, be, h, (n, rest, t, f, g))) =
      omega (arith, f.fits, map_length recorded_call calls, ap length e, row_count (a_call true exports imports) n x.1 rest g)

-- ---- an image that is none

pub bad_image : (s : Shape) (bs : List ℕ) (from to at : ℕ) (ys : List ℕ) (e : ImageError) → HasNoHandle s → IsOnlyReading s ys (Err e) → ReadsFormat byte_list bs from to (Ok ys)
    → ReadsFormat (value true s) bs from at (Err (told_as (to - length ys) e))
bad_image s bs from to at ys image.OutOfMemory free only h = tt
bad_image s bs from to at ys image.Resource free only h = block_bad (SpellsValue true s) bs from to at ys (λ v spelled. let (t, lifted, is) = spelled in only (Ok v) (free, (t, is, lifted))) h
bad_image s bs from to at ys (image.NotOfType f) free only h = block_bad (SpellsValue true s) bs from to at ys (λ v spelled. let (t, lifted, is) = spelled in only (Ok v) (free, (t, is, lifted))) h
bad_image s bs from to at ys (image.Truncated p) free only h = block_bad (SpellsValue true s) bs from to at ys (λ v spelled. let (t, lifted, is) = spelled in only (Ok v) (free, (t, is, lifted))) h
bad_image s bs from to at ys (image.Malformed p) free only h = block_bad (SpellsValue true s) bs from to at ys (λ v spelled. let (t, lifted, is) = spelled in only (Ok v) (free, (t, is, lifted))) h
bad_image s bs from to at ys (image.Trailing p) free only h = block_bad (SpellsValue true s) bs from to at ys (λ v spelled. let (t, lifted, is) = spelled in only (Ok v) (free, (t, is, lifted))) h
