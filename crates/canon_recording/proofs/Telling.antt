-- Bytes tell what was written: the same events, and calls of the same exports with the same events. So one answer of `decode` comes exactly where its cause stands.
use Rattle.std.proofs.Common.{Err, List, Ok, Result, [], append-nil, ap, ap₂, arith, length, map, refl, subst, suc, sym, true, zero, ℕ, ◌<◌, ◌∙◌, ◌∷◌, ◌≡◌, ◌⊎◌, inl, inr}
use Rattle.std.specs.Prelude.{⊤}
use Rattle.canon_memory.specs.declared.event.Event.{Event}
use Rattle.canon_context.specs.declared.component.Component.{Component}
use Rattle.canon_func.specs.Runs.{last_len}
use Rattle.canon_model.proofs.ImageFields.{field_once}
use Rattle.canon_recording_parts.proofs.Formats.{exactly_sound}
use Rattle.canon_recording_parts.proofs.Laws.{any_sound, event_sound, events_sound, pair_sound, words_sound}
use Rattle.canon_recording_parts.proofs.Formats.{number_sound}
use Rattle.canon_recording_parts.specs.Events.{an_event, ask_event, byte_list, post_event, raw, realloc_event, request, resume_event, return_event, start_event, tagged, two_numbers, word_list, words_and_memory}
use Rattle.canon_recording_parts.specs.Format.{Format, IsFormat, also, any_number, as_, counted_row, for_each, in_a_row, number, so_many, then_}
use Rattle.canon_recording_parts.specs.declared.error.ReplayError.{ReplayError}
use Rattle.canon_recording_parts.specs.declared.error.ReplayError.TheVariants as error
use Rattle.canon_recording.proofs.Sound.{call_sound, format_sound, passed_sound}
use Rattle.canon_recording.specs.Coded.{IsDecoded, IsRecordingFollowed, IsSameDecoding}
use Rattle.canon_recording.specs.Fits.{AreRuns, IsNoRunAt, IsRunFrom}
use Rattle.canon_recording.specs.Recordings.{Functions, RecordedCall, a_call, calls_in, exports_of, imports_of, letters, passed_values, read_recording, recording_format}
use Rattle.canon_recording.specs.declared.recording.Recording.{Recording}

-- ---- one thing has these bytes

abbrev Tells : {A B : Type 0} → (A → B) → Format A → Type 0
Tells {A} f F = (a b : A) (xs : List ℕ) → F.writes a xs → F.writes b xs → f a ≡ f b

number_tells : (k : ℕ) (Good : ℕ → Type 0) → Tells (λ (n : ℕ). n) (number k Good)
number_tells k Good a b xs h g = (field_once k a b xs [] [] h.1 g.1).0

raw_tells : (n : ℕ) → Tells (λ (xs : List ℕ). xs) (raw n)
raw_tells n a b xs h g = sym h.1 ∙ g.1

also_tells : {A B C D : Type 0} (f : A → C) (g : B → D) (F : Format A) (G : Format B) → IsFormat F → Tells f F → Tells g G → Tells {B = C × D} (λ (x : A × B). (f x.0, g x.1)) (also F G)
also_tells f g F G sound tf tg a b xs (x1, x2, xe, h, h2) (y1, y2, ye, k, k2) =
    let r = sound.apart a.0 b.0 x1 y1 x2 y2 h k (sym xe ∙ ye) in
    ap₂ (λ i j. (i, j)) (tf a.0 b.0 x1 h (subst (λ l. F.writes b.0 l) (sym r.0) k)) (tg a.1 b.1 x2 h2 (subst (λ l. G.writes b.1 l) (sym r.1) k2))

-- in other words, of which as much is told
as_tells : {A B C D : Type 0} (c : A → B) (f : A → C) (g : B → D) (F : Format A) → ((x y : A) → f x ≡ f y → g (c x) ≡ g (c y)) → Tells f F → Tells g (as_ c F)
as_tells c f g F so t a b xs (x, xe, h) (y, ye, k) = ap g xe ∙ (so x y (t x y xs h k) ∙ sym (ap g ye))

then_tells : {B D : Type 0} (k : ℕ) (Good : ℕ → Type 0) (G : ℕ → Format B) (g : B → D) → ((n : ℕ) → Good n → Tells g (G n)) → Tells g (then_ k Good G)
then_tells k Good G g t a b xs (n, rest, good, f, h) (m, end, good2, f2, h2) =
    let r = field_once k n m xs rest end f f2 in
    t n good a b rest h (subst (λ l. (G n).writes b l) (sym r.1) (subst (λ i. (G i).writes b end) (sym r.0) h2))

each_tells : {I A D : Type 0} (F : I → Format A) (g : A → D) → ((i : I) → IsFormat (F i)) → ((i : I) → Tells g (F i)) → (is : List I) → Tells (map g) (for_each F is)
each_tells F g sound t [] a b xs (ae, h) (be, k) = ap (map g) (ae ∙ sym be)
each_tells F g sound t (i ∷ is) a b xs (x, ae, (x1, x2, xe, h, h2)) (y, be, (y1, y2, ye, k, k2)) =
    let r = (sound i).apart x.0 y.0 x1 y1 x2 y2 h k (sym xe ∙ ye) in
    let first = t i x.0 y.0 x1 h (subst (λ l. (F i).writes y.0 l) (sym r.0) k) in
    let others = each_tells F g sound t is x.1 y.1 x2 h2 (subst (λ l. (for_each F is).writes y.1 l) (sym r.1) k2) in
    ap (map g) ae ∙ (ap₂ (λ v l. v ∷ l) first others ∙ sym (ap (map g) be))

counted_tells : {A D : Type 0} (F : Format A) (k : ℕ) (g : A → D) → IsFormat F → Tells g F → Tells (map g) (counted_row k F)
counted_tells F k g sound t = then_tells k (λ n. ⊤) (in_a_row F) (map g) (λ n good. each_tells (λ (u : Unit {0}). F) g (λ u. sound) (λ u. t) (so_many n))

-- ---- events

map_same : {A : Type 0} (xs : List A) → map (λ (x : A). x) xs ≡ xs
map_same [] = refl
map_same (x ∷ xs) = ap (λ l. x ∷ l) (map_same xs)

list_tells : {A : Type 0} (F : Format (List A)) → Tells (map (λ (x : A). x)) F → Tells (λ (xs : List A). xs) F
list_tells F t a b xs h k = sym (map_same a) ∙ (t a b xs h k ∙ map_same b)

words_tell : Tells (λ (xs : List ℕ). xs) word_list
words_tell = list_tells word_list (counted_tells (any_number 8) 4 (λ (n : ℕ). n) (any_sound 8) (number_tells 8 (λ n. ⊤)))

bytes_tell : Tells (λ (xs : List ℕ). xs) byte_list
bytes_tell = then_tells 8 (λ n. ⊤) raw (λ (xs : List ℕ). xs) (λ n good. raw_tells n)

both_tell : Tells (λ (x : List ℕ × List ℕ). x) words_and_memory
both_tell = also_tells (λ (xs : List ℕ). xs) (λ (xs : List ℕ). xs) word_list byte_list words_sound words_tell bytes_tell

same_tells : {A B : Type 0} (c : A → B) (F : Format A) → Tells (λ (a : A). a) F → Tells (λ (b : B). b) (as_ c F)
same_tells {A} {B} c F t = as_tells c (λ (a : A). a) (λ (b : B). b) F (λ x y e. ap c e) t

pair_tells : Tells (λ (x : ℕ × ℕ). x) two_numbers
pair_tells = also_tells (λ (n : ℕ). n) (λ (n : ℕ). n) (any_number 8) (any_number 8) (any_sound 8) (number_tells 8 (λ n. ⊤)) (number_tells 8 (λ n. ⊤))

module _ (imports : ℕ) where
  tagged_tells : (n : ℕ) → Tells (λ (e : Event). e) (tagged imports n)
  tagged_tells zero = same_tells start_event (also (any_number 4) words_and_memory) (also_tells (λ (n : ℕ). n) (λ (x : List ℕ × List ℕ). x) (any_number 4) words_and_memory (any_sound 4) (number_tells 4 (λ n. ⊤)) both_tell)
  tagged_tells (suc zero) = same_tells ask_event (also (number 4 (λ n. n < imports)) words_and_memory)
      (also_tells (λ (n : ℕ). n) (λ (x : List ℕ × List ℕ). x) (number 4 (λ n. n < imports)) words_and_memory (number_sound 4 (λ n. n < imports)) (number_tells 4 (λ n. n < imports)) both_tell)
  tagged_tells (suc (suc zero)) = same_tells resume_event words_and_memory both_tell
  tagged_tells (suc (suc (suc zero))) = same_tells return_event words_and_memory both_tell
  tagged_tells (suc (suc (suc (suc zero)))) = same_tells realloc_event request
      (also_tells (λ (x : ℕ × ℕ). x) (λ (x : ℕ × (ℕ × ℕ)). x) two_numbers (also (any_number 4) two_numbers) pair_sound pair_tells
      (also_tells (λ (n : ℕ). n) (λ (x : ℕ × ℕ). x) (any_number 4) two_numbers (any_sound 4) (number_tells 4 (λ n. ⊤)) pair_tells))
  tagged_tells (suc (suc (suc (suc (suc zero))))) = same_tells post_event (also (any_number 4) word_list) (also_tells (λ (n : ℕ). n) (λ (xs : List ℕ). xs) (any_number 4) word_list (any_sound 4) (number_tells 4 (λ n. ⊤)) words_tell)
  tagged_tells (suc (suc (suc (suc (suc (suc n)))))) = λ a b xs h k. absurd h

  events_tell : Tells (λ (es : List Event). es) (counted_row 4 (an_event imports))
  events_tell = list_tells (counted_row 4 (an_event imports)) (counted_tells (an_event imports) 4 (λ (e : Event). e) (event_sound imports) (then_tells 1 (λ n. n < 6) (tagged imports) (λ (e : Event). e) (λ n good. tagged_tells n)))

-- ---- calls

-- the export of a call and its events
abbrev run_of : RecordedCall → ℕ × List Event
run_of call = (call.export, call.events)

module _ (exports imports : Functions) where
  call_tells : Tells run_of (a_call true exports imports)
  call_tells a b xs (n, rest, good, f, (x, xe, (x1, x2, re, h, (e1, e2, ee, he, ha)))) (m, end, good2, f2, (y, ye, (y1, y2, te, k, (d1, d2, de, ke, ka)))) =
      let r = field_once 4 n m xs rest end f f2 in
      let k2 = subst (λ i. (passed_values true exports i).writes y.0 y1) (sym r.0) k in
      let p = (passed_sound true exports n).apart x.0 y.0 x1 y1 x2 y2 h k2 (sym re ∙ (r.1 ∙ te)) in
      let q = (events_sound imports.count 4).apart x.1.0 y.1.0 e1 d1 e2 d2 he ke (sym ee ∙ (p.1 ∙ de)) in
      let events = events_tell imports.count x.1.0 y.1.0 e1 he (subst (λ l. (counted_row 4 (an_event imports.count)).writes y.1.0 l) (sym q.0) ke) in
      ap run_of xe ∙ (ap₂ (λ i es. (i, es)) r.0 events ∙ sym (ap run_of ye))

  recording_tells : Tells (map run_of) (recording_format true exports imports)
  recording_tells a b xs (x, xe, (x1, x2, le, h, g)) (y, ye, (y1, y2, me, k, j)) =
      let p = (exactly_sound letters).apart x.0 y.0 x1 y1 x2 y2 h k (sym le ∙ me) in
      ap (map run_of) xe ∙ (counted_tells (a_call true exports imports) 4 run_of (call_sound true exports imports) call_tells x.1 y.1 x2 g (subst (λ l. (counted_row 4 (a_call true exports imports)).writes y.1 l) (sym p.1) j) ∙ sym (ap (map run_of) ye))

-- ---- runs

-- whether calls are runs is told by their exports and events
abbrev IsRunOf : Component → ℕ → ℕ × List Event → Type 0
IsRunOf c len x = IsRunFrom c len (record { export = x.0; params = []; results = []; events = x.1; served = [] })

run_same : (c : Component) (len : ℕ) (a b : RecordedCall) → run_of a ≡ run_of b → IsRunFrom c len a → IsRunFrom c len b
run_same c len a b e h = subst (IsRunOf c len) e h

no_run_in : (c : Component) (len : ℕ) (xs ys : List RecordedCall) (k : ℕ) → map run_of xs ≡ map run_of ys → AreRuns c len xs → ¬ IsNoRunAt c len ys k
no_run_in c len xs [] k e h g = g
no_run_in c len [] (y ∷ ys) k e h g = omega (arith, ap length e)
no_run_in c len (x ∷ xs) (y ∷ ys) zero e (run, h) g =
    let first : run_of x ≡ run_of y = cc in
    g (run_same c len x y first run)
no_run_in c len (x ∷ xs) (y ∷ ys) (suc k) e (run, h) (also_run, g) =
    let first : run_of x ≡ run_of y = cc in
    let others : map run_of xs ≡ map run_of ys = cc in
    no_run_in c (last_len len y.events) xs ys k others (subst (λ n. AreRuns c n xs) (ap (λ (z : ℕ × List Event). last_len len z.1) first) h) g

first_once : (c : Component) (len : ℕ) (xs ys : List RecordedCall) (k j : ℕ) → map run_of xs ≡ map run_of ys → IsNoRunAt c len xs k → IsNoRunAt c len ys j → k ≡ j
first_once c len [] ys k j e h g = absurd h
first_once c len (x ∷ xs) [] k j e h g = absurd g
first_once c len (x ∷ xs) (y ∷ ys) zero zero e h g = refl
first_once c len (x ∷ xs) (y ∷ ys) zero (suc j) e h (run, g) =
    let first : run_of y ≡ run_of x = cc in
    absurd (h (run_same c len y x first run))
first_once c len (x ∷ xs) (y ∷ ys) (suc k) zero e (run, h) g =
    let first : run_of x ≡ run_of y = cc in
    absurd (g (run_same c len x y first run))
first_once c len (x ∷ xs) (y ∷ ys) (suc k) (suc j) e (run, h) (also_run, g) =
    let first : run_of x ≡ run_of y = cc in
    let others : map run_of xs ≡ map run_of ys = cc in
    ap suc (first_once c (last_len len y.events) xs ys k j others (subst (λ n. IsNoRunAt c n xs k) (ap (λ (z : ℕ × List Event). last_len len z.1) first) h) g)

-- ---- answers

module _ (c : Component) (bs : List ℕ) where
  abbrev F : Format (List RecordedCall)
  F = read_recording c

  sound : IsFormat F
  sound = format_sound true (exports_of c) (imports_of c)

  tells : Tells (map run_of) F
  tells = recording_tells (exports_of c) (imports_of c)

  whole_or : (calls : List RecordedCall) (p : ℕ) → F.writes calls bs → ¬ (F.stops bs p ⊎ IsRecordingFollowed c bs p)
  whole_or calls p h (inl s) = sound.whole calls bs bs [] p (sym (append-nil bs)) h s
  whole_or calls p h (inr (others, xs, rest, e, g, pe, some)) =
      let r = sound.apart calls others bs xs [] rest h g (append-nil bs ∙ e) in
      omega (arith, some, ap length r.1)

  bad_once : (p q : ℕ) → (F.stops bs p ⊎ IsRecordingFollowed c bs p) → (F.stops bs q ⊎ IsRecordingFollowed c bs q) → p ≡ q
  bad_once p q (inl s) (inl t) = sound.once bs p q s t
  bad_once p q (inl s) (inr (calls, xs, rest, e, g, qe, some)) = absurd (sound.whole calls bs xs rest p e g s)
  bad_once p q (inr (calls, xs, rest, e, g, pe, some)) (inl t) = absurd (sound.whole calls bs xs rest q e g t)
  bad_once p q (inr (calls, xs, rest, e, g, pe, some)) (inr (others, ys, end, f, k, qe, more)) = pe ∙ (ap length (sound.apart calls others xs ys rest end g k (sym e ∙ f)).0 ∙ sym qe)

  pub same_decoding : (r q : Result Recording ReplayError) → IsDecoded c bs r → IsDecoded c bs q → IsSameDecoding r q
  same_decoding (Err error.OutOfMemory) q h g = tt
  same_decoding (Err error.TooLong) q h g = absurd h
  same_decoding (Ok r) (Err error.OutOfMemory) h g = tt
  same_decoding (Ok r) (Err error.TooLong) h g = absurd g
  same_decoding (Ok r) (Ok s) h g = tt
  same_decoding (Ok r) (Err (error.BadRecording p)) (h, runs) g = absurd (whole_or (calls_in r) p h g)
  same_decoding (Ok r) (Err (error.NotARun k)) (h, runs) (calls, g, none) = absurd (no_run_in c 0 (calls_in r) calls k (tells (calls_in r) calls bs h g) runs none)
  same_decoding (Err (error.BadRecording p)) (Err error.OutOfMemory) h g = tt
  same_decoding (Err (error.BadRecording p)) (Err error.TooLong) h g = absurd g
  same_decoding (Err (error.BadRecording p)) (Ok r) h (g, runs) = absurd (whole_or (calls_in r) p g h)
  same_decoding (Err (error.BadRecording p)) (Err (error.BadRecording q)) h g = ap (λ i. error.BadRecording i) (bad_once p q h g)
  same_decoding (Err (error.BadRecording p)) (Err (error.NotARun k)) h (calls, g, none) = absurd (whole_or calls p g h)
  same_decoding (Err (error.NotARun k)) (Err error.OutOfMemory) h g = tt
  same_decoding (Err (error.NotARun k)) (Err error.TooLong) h g = absurd g
  same_decoding (Err (error.NotARun k)) (Ok r) (calls, h, none) (g, runs) = absurd (no_run_in c 0 (calls_in r) calls k (tells (calls_in r) calls bs g h) runs none)
  same_decoding (Err (error.NotARun k)) (Err (error.BadRecording p)) (calls, h, none) g = absurd (whole_or calls p h g)
  same_decoding (Err (error.NotARun k)) (Err (error.NotARun j)) (calls, h, none) (others, g, none2) = ap (λ i. error.NotARun i) (first_once c 0 calls others k j (tells calls others bs h g) none none2)
